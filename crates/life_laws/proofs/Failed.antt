-- Where an event ended a life, what is left is justified.
use Rattle.std.proofs.Common.{◌≡◌, ◌⊎◌, ℕ, Bool, List, [], ◌∷◌, ◌++◌, sym, subst, inl, inr}
use Rattle.std.specs.declared.option.Option.{Option}
use Rattle.order_meaning.specs.declared.Side.{Side}
use Rattle.order_meaning.specs.declared.Side.TheVariants.{Client, Venue}
use Rattle.order_meaning.specs.declared.names.Names.{Names}
use Rattle.pair_entries.specs.declared.entry.Entry.{Entry}
use Rattle.event_decisions.specs.Event.{Event, Tick, End}
use Rattle.event_decisions.specs.Decide.{Asked, Words}
use Rattle.wires.specs.Wire as wire
use Rattle.wires.specs.Wire.{Connection}
use Rattle.life_laws.specs.Justified.{transcript_from, Leaves}
use Rattle.life_laws.specs.Happens.{World, Added, Fails}
use Rattle.life_laws.specs.Standing.{pending_after, IsNext, Holds}
use Rattle.life_laws.specs.Turn.{both, on_side, with_up, up_after, read_after, events_of, Reads}
use Rattle.life_laws.specs.Ends.{UpTo, TurnUpTo, RoundUpTo, LifeUpTo}
use Rattle.life_laws.proofs.Line.{links-both}
use Rattle.life_laws.proofs.World.{leaves, stops-leave}
use Rattle.life_laws.proofs.Turns.{Queue, queue_after, holds-join, all-keep}
use Rattle.life_laws.proofs.OneTurn.{queue, client-polled, venue-polled}
use Rattle.life_laws.proofs.Lives.{Between, client-last, venue-last, client-between, rounds-keep}

module _ (answers : List Entry → (active : Bool) → Option Asked → Option Words → Type 0)
    (names : Names) where
  -- what was added in two steps
  leaves-join : (entries : List Entry) (cl vl : List Connection) (a b added : Added)
      → added ≡ both a b
      → Leaves answers names entries (transcript_from (transcript_from cl a.client) b.client)
      (transcript_from (transcript_from vl a.venue) b.venue)
      → Leaves answers names entries (transcript_from cl added.client)
      (transcript_from vl added.venue)
  leaves-join entries cl vl a b added all h =
      subst (λ (x : Added). Leaves answers names entries (transcript_from cl x.client)
      (transcript_from vl x.venue)) (sym all)
      (subst (λ l. Leaves answers names entries l (transcript_from vl (a.venue ++ b.venue)))
      (sym (links-both cl a.client b.client))
      (subst (λ l. Leaves answers names entries
      (transcript_from (transcript_from cl a.client) b.client) l)
      (sym (links-both vl a.venue b.venue)) h))

  -- what holds as an event comes
  record Comes (mid : World) (event : Event) (cl vl : List Connection) : Type 0 where
    cp : List (List ℕ)
    vp : List (List ℕ)
    holds : Holds answers names mid cl vl cp vp
    client : IsNext Client event cp
    venue : IsNext Venue event vp

  comes-join : (mid : World) (event : Event) (cl vl : List Connection) (a b added : Added)
      → added ≡ both a b
      → Comes mid event (transcript_from (transcript_from cl a.client) b.client)
      (transcript_from (transcript_from vl a.venue) b.venue)
      → Comes mid event (transcript_from cl added.client) (transcript_from vl added.venue)
  comes-join mid event cl vl a b added all c = record {
    cp = c.cp;
    vp = c.vp;
    holds = holds-join answers names mid cl vl a b added c.cp c.vp all c.holds;
    client = c.client;
    venue = c.venue;
  }

  -- the first events of a queue, and the one behind them
  queue-at : (side : Side) (first : List Event) (event : Event) (rest : List Event)
      (pending : List (List ℕ)) → Queue side (first ++ event ∷ rest) pending
      → Queue side first pending × IsNext side event (queue_after side first pending)
  queue-at side [] event rest pending queue = (tt, queue.0)
  queue-at side (e ∷ first) event rest pending queue =
      let more = queue-at side first event rest (pending_after side e pending) queue.1 in
      ((queue.0, more.0), more.1)

  module _ (window now : ℕ) (mid : World) (event : Event) where
    events-come : (events : List Event) (before : World) (added : Added) (cl vl : List Connection)
        (cp vp : List (List ℕ)) → Holds answers names before cl vl cp vp
        → Queue Client events cp → Queue Venue events vp
        → UpTo answers names window before events now added mid event
        → Comes mid event (transcript_from cl added.client) (transcript_from vl added.venue)
    events-come events before added cl vl cp vp h cq vq up =
        let c = queue-at Client up.first event up.rest cp
        (subst (λ es. Queue Client es cp) up.split cq) in
        let v = queue-at Venue up.first event up.rest vp
        (subst (λ es. Queue Venue es vp) up.split vq) in
        record {
          cp = queue_after Client up.first cp;
          vp = queue_after Venue up.first vp;
          holds = all-keep answers names window now up.first before mid added cl vl cp vp h c.0 v.0
              up.happen;
          client = c.1;
          venue = v.1;
        }

    client-comes : (reads : Reads) (before : World) (added : Added) (cl vl : List Connection)
        → Between answers names window reads before cl vl
        → TurnUpTo answers names window Client reads.client before now added mid event
        → Comes mid event (transcript_from cl added.client) (transcript_from vl added.venue)
    client-comes reads before added cl vl b f =
        let polled = client-polled answers names before cl vl b.holds f.came reads.client f.bodies
        f.may (client-last answers names window reads before cl vl b) f.new in
        comes-join mid event cl vl (on_side Client (wire.Poll f.came ∷ [])) f.rest added f.all
        (events-come (events_of Client f.came f.bodies ++ Tick Client ∷ [])
        (with_up Client (up_after before.client_up f.came) before) f.rest
        (transcript_from cl (wire.Poll f.came ∷ [])) vl f.bodies [] polled
        (queue Client Client f.came reads.client f.bodies f.new).0
        (queue Venue Client f.came reads.client f.bodies f.new).0 f.events)

    venue-comes : (reads : Reads) (before : World) (added : Added) (cl vl : List Connection)
        → Between answers names window reads before cl vl
        → TurnUpTo answers names window Venue reads.venue before now added mid event
        → Comes mid event (transcript_from cl added.client) (transcript_from vl added.venue)
    venue-comes reads before added cl vl b f =
        let polled = venue-polled answers names before cl vl b.holds f.came reads.venue f.bodies
        f.may (venue-last answers names window reads before cl vl b) f.new in
        comes-join mid event cl vl (on_side Venue (wire.Poll f.came ∷ [])) f.rest added f.all
        (events-come (events_of Venue f.came f.bodies ++ Tick Venue ∷ [])
        (with_up Venue (up_after before.venue_up f.came) before) f.rest cl
        (transcript_from vl (wire.Poll f.came ∷ [])) [] f.bodies polled
        (queue Client Venue f.came reads.venue f.bodies f.new).0
        (queue Venue Venue f.came reads.venue f.bodies f.new).0 f.events)

    last-comes : (reads : Reads) (before : World) (added : Added) (cl vl : List Connection)
        → Between answers names window reads before cl vl
        → RoundUpTo answers names window reads before now added mid event
        ⊎ UpTo answers names window before (End Client ∷ End Venue ∷ []) now added mid event
        → Comes mid event (transcript_from cl added.client) (transcript_from vl added.venue)
    last-comes reads before added cl vl b (inl (inl f)) = client-comes reads before added cl vl b f
    last-comes reads before added cl vl b (inl (inr f)) =
        let first = client-between answers names window reads before f.between now f.first cl vl b
        f.client f.client_may in
        comes-join mid event cl vl f.first f.rest added f.all
        (venue-comes (record reads { client = read_after reads.client f.client.came }) f.between
        f.rest (transcript_from cl f.first.client) (transcript_from vl f.first.venue) first f.venue)
    last-comes reads before added cl vl b (inr f) =
        events-come (End Client ∷ End Venue ∷ []) before added cl vl [] [] b.holds (tt, (tt, tt))
        (tt, (tt, tt)) f

    life-comes : (reads : Reads) (before : World) (moments : List ℕ) (added : Added)
        (cl vl : List Connection) → Between answers names window reads before cl vl
        → LifeUpTo answers names window reads before moments now added mid event
        → Comes mid event (transcript_from cl added.client) (transcript_from vl added.venue)
    life-comes reads before moments added cl vl b f =
        let rounds = rounds-keep answers names window moments reads f.read before f.between f.first
        cl vl b f.rounds in
        comes-join mid event cl vl f.first f.rest added f.all
        (last-comes f.read f.between f.rest (transcript_from cl f.first.client)
        (transcript_from vl f.first.venue) rounds f.last)

    -- what stands of it
    event-fails : (part : Added) (entries : List Entry) (cl vl : List Connection)
        → Comes mid event cl vl → Fails answers names window mid event now part entries
        → Leaves answers names entries (transcript_from cl part.client)
        (transcript_from vl part.venue)
    event-fails part entries cl vl c (inl none) =
        subst (λ es. Leaves answers names es (transcript_from cl part.client)
        (transcript_from vl part.venue)) (sym none.0)
        (subst (λ (a : Added). Leaves answers names mid.entries (transcript_from cl a.client)
        (transcript_from vl a.venue)) (sym none.1)
        (leaves answers names mid cl vl c.cp c.vp c.holds))
    event-fails part entries cl vl c (inr stops) = stops-leave answers names window mid event now
        part cl vl c.cp c.vp c.holds c.client c.venue entries stops

    pub life-fails : (reads : Reads) (before : World) (moments : List ℕ) (first part added : Added)
        (entries : List Entry) (cl vl : List Connection)
        → Between answers names window reads before cl vl
        → LifeUpTo answers names window reads before moments now first mid event
        → Fails answers names window mid event now part entries → added ≡ both first part
        → Leaves answers names entries (transcript_from cl added.client)
        (transcript_from vl added.venue)
    life-fails reads before moments first part added entries cl vl b up fails all =
        leaves-join entries cl vl first part added all
        (event-fails part entries (transcript_from cl first.client)
        (transcript_from vl first.venue) (life-comes reads before moments first cl vl b up) fails)
