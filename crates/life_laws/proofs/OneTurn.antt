-- A side's turn keeps all that holds between turns.
use Rattle.std.proofs.Common.{◌≡◌, ℕ, Bool, true, List, [], ◌∷◌, ◌++◌, refl, sym, ap, subst, ◌∙◌}
use Rattle.std.specs.Prelude.{map}
use Rattle.std.specs.declared.option.Option.{Option}
use Rattle.order_meaning.specs.declared.Side.{Side}
use Rattle.order_meaning.specs.declared.Side.TheVariants.{Client, Venue}
use Rattle.order_meaning.specs.declared.names.Names.{Names}
use Rattle.pair_entries.specs.declared.entry.Entry.{Entry}
use Rattle.event_decisions.specs.Event.{Event, Frame, Tick}
use Rattle.event_decisions.specs.Decide.{Asked, Words}
use Rattle.wires.specs.Wire as wire
use Rattle.wires.specs.Wire.{Came, Connection, may_come}
use Rattle.life_laws.specs.Justified.{transcript_from}
use Rattle.life_laws.specs.Happens.{World, Added}
use Rattle.life_laws.specs.Standing.{Holds}
use Rattle.life_laws.specs.Turn.{on_side, with_up, up_after, LastRead, AreNew, events_of, Turn}
use Rattle.life_laws.proofs.Turns.{Queue, queue_after, holds-join, all-keep}
use Rattle.life_laws.proofs.Polls.{poll-keeps}

-- the bodies of a side wait for its own events alone
abbrev waits : (side at : Side) → List (List ℕ) → List (List ℕ)
waits Client Client bodies = bodies
waits Venue Venue bodies = bodies
waits side at bodies = []

none-wait : (side at : Side) → waits side at [] ≡ []
none-wait Client Client = refl
none-wait Venue Venue = refl
none-wait side at = refl

-- each event is that of the next body that waits, and behind them none waits
abbrev Empties : Side → List Event → List (List ℕ) → Type 0
Empties side events pending = Queue side events pending × (queue_after side events pending ≡ [])

frames-empty : (side at : Side) (bodies : List (List ℕ))
    → Empties side (map (Frame at) bodies ++ Tick at ∷ []) (waits side at bodies)
frames-empty Client Client (b ∷ bodies) =
    let more = frames-empty Client Client bodies in (((λ e. (bodies, refl)), more.0), more.1)
frames-empty Venue Venue (b ∷ bodies) =
    let more = frames-empty Venue Venue bodies in (((λ e. (bodies, refl)), more.0), more.1)
frames-empty side at (b ∷ bodies) =
    let more = frames-empty side at bodies in (((λ e. absurd (cc e)), more.0), more.1)
frames-empty Client Client [] = ((tt, tt), refl)
frames-empty Venue Venue [] = ((tt, tt), refl)
frames-empty side at [] = ((tt, tt), refl)

-- the events of a poll, as each side sees them
pub queue : (side at : Side) (came : Came) (read : List ℕ) (bodies : List (List ℕ))
    → AreNew at read came bodies
    → Empties side (events_of at came bodies ++ Tick at ∷ []) (waits side at bodies)
queue side at (wire.Bytes bytes) read bodies new = frames-empty side at bodies
queue side at wire.Nothing read bodies new =
    subst (Empties side (Tick at ∷ [])) (sym (ap (waits side at) new ∙ none-wait side at))
    ((tt, tt), refl)
queue side at came read bodies new =
    subst (Empties side (events_of at came bodies ++ Tick at ∷ []))
    (sym (ap (waits side at) new ∙ none-wait side at)) ((tt, (tt, tt)), refl)

module _ (answers : List Entry → (active : Bool) → Option Asked → Option Words → Type 0)
    (names : Names) (before : World) (cl vl : List Connection)
    (h : Holds answers names before cl vl [] []) where
  -- the client's wire was polled, and what came waits
  pub client-polled : (came : Came) (read : List ℕ) (bodies : List (List ℕ))
      → may_come before.client_up came ≡ true → (before.client_up ≡ true → LastRead cl read)
      → AreNew Client read came bodies
      → Holds answers names (with_up Client (up_after before.client_up came) before)
      (transcript_from cl (wire.Poll came ∷ [])) vl bodies []
  client-polled came read bodies may last new = record {
    lawful = h.lawful;
    sides = h.sides;
    numbers = h.numbers;
    counted = h.counted;
    in_order = h.in_order;
    client = poll-keeps names Client before.entries cl before.client_up came read bodies may last
        new h.client;
    venue = h.venue;
  }

  pub venue-polled : (came : Came) (read : List ℕ) (bodies : List (List ℕ))
      → may_come before.venue_up came ≡ true → (before.venue_up ≡ true → LastRead vl read)
      → AreNew Venue read came bodies
      → Holds answers names (with_up Venue (up_after before.venue_up came) before)
      cl (transcript_from vl (wire.Poll came ∷ [])) [] bodies
  venue-polled came read bodies may last new = record {
    lawful = h.lawful;
    sides = h.sides;
    numbers = h.numbers;
    counted = h.counted;
    in_order = h.in_order;
    client = h.client;
    venue = poll-keeps names Venue before.entries vl before.venue_up came read bodies may last new
        h.venue;
  }

  module _ (window now : ℕ) (read : List ℕ) (after : World) (added : Added) where
    pub client-keeps : (turn : Turn answers names window Client read before now added after)
        → may_come before.client_up turn.came ≡ true → (before.client_up ≡ true → LastRead cl read)
        → Holds answers names after (transcript_from cl added.client)
        (transcript_from vl added.venue) [] []
    client-keeps turn may last =
        let events = events_of Client turn.came turn.bodies ++ Tick Client ∷ [] in
        let own = queue Client Client turn.came read turn.bodies turn.new in
        let far = queue Venue Client turn.came read turn.bodies turn.new in
        let mid = with_up Client (up_after before.client_up turn.came) before in
        let polled = client-polled turn.came read turn.bodies may last turn.new in
        let now-cl = transcript_from cl (wire.Poll turn.came ∷ []) in
        let all = all-keep answers names window now events mid after turn.rest now-cl vl turn.bodies
        [] polled own.0 far.0 turn.events in
        holds-join answers names after cl vl (on_side Client (wire.Poll turn.came ∷ [])) turn.rest
        added [] [] turn.all
        (subst (λ l. Holds answers names after (transcript_from now-cl turn.rest.client)
        (transcript_from vl turn.rest.venue) l []) own.1
        (subst (λ l. Holds answers names after (transcript_from now-cl turn.rest.client)
        (transcript_from vl turn.rest.venue) (queue_after Client events turn.bodies) l) far.1 all))

    pub venue-keeps : (turn : Turn answers names window Venue read before now added after)
        → may_come before.venue_up turn.came ≡ true → (before.venue_up ≡ true → LastRead vl read)
        → Holds answers names after (transcript_from cl added.client)
        (transcript_from vl added.venue) [] []
    venue-keeps turn may last =
        let events = events_of Venue turn.came turn.bodies ++ Tick Venue ∷ [] in
        let own = queue Venue Venue turn.came read turn.bodies turn.new in
        let far = queue Client Venue turn.came read turn.bodies turn.new in
        let mid = with_up Venue (up_after before.venue_up turn.came) before in
        let polled = venue-polled turn.came read turn.bodies may last turn.new in
        let now-vl = transcript_from vl (wire.Poll turn.came ∷ []) in
        let all = all-keep answers names window now events mid after turn.rest cl now-vl []
        turn.bodies polled far.0 own.0 turn.events in
        holds-join answers names after cl vl (on_side Venue (wire.Poll turn.came ∷ [])) turn.rest
        added [] [] turn.all
        (subst (λ l. Holds answers names after (transcript_from cl turn.rest.client)
        (transcript_from now-vl turn.rest.venue) [] l) own.1
        (subst (λ l. Holds answers names after (transcript_from cl turn.rest.client)
        (transcript_from now-vl turn.rest.venue) l (queue_after Venue events turn.bodies)) far.1
        all))
