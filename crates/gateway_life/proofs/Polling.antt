-- A side's turn: its poll, what came, and its tick.
use Rattle.std.proofs.Common.{◌≡◌, true, List, ◌∷◌, ◌++◌, refl, sym, ◌∙◌, [], ℕ, ap, subst}
use Rattle.std.proofs.Common.{append_assoc, append-nil, Ok, Err, arith, length, take, ◌≤◌}
use Rattle.std.specs.Prelude.{map, min, is_some, Result, OnOk, IsErrAnd}
use Rattle.std.specs.declared.option.Option.{Option}
use Rattle.std.proofs.lemmas.List.{map-append, take_all}
use Rattle.wires.specs.Wire as wire
use Rattle.wires.specs.Wire.{Came, may_come}
use Rattle.order_meaning.specs.declared.Side.{Side}
use Rattle.frame_grammar.specs.Held.{Held, room}
use Rattle.frame_grammar.specs.Cut.{Piece}
use Rattle.frame_grammar.specs.Framer.{StandsFor}
use Rattle.kept_entries.specs.Days.{past_of}
use Rattle.pair_journal.specs.State.{JournalState}
use Rattle.drop_taps.specs.Shown.{TapState}
use Rattle.event_decisions.specs.Event.{Event, Frame, Tick}
use Rattle.life_laws.specs.Happens.{World, up_on}
use Rattle.life_laws.specs.Turn.{on_side, with_up, up_after, AreNew, events_of}
use Rattle.gateway_core.specs.State.{CoreState}
use Rattle.wire_sends.specs.Sent.{Agrees}
use Rattle.gateway_life.specs.declared.end.LifeEnd.{LifeEnd}
use Rattle.gateway_life.specs.Ready.{LeavesOf, Behind, world_of, IsReady}
use Rattle.gateway_life.specs.Stepped.{Records, Grew, AllStepped, Failed}
use Rattle.gateway_life.specs.Turned.{Arrived, TurnBroken, StandsWhole, IfBytes, record_on}
use Rattle.gateway_life.specs.Dealt.{around, Around, TurnOver, Dealt, Kept}
use Rattle.gateway_life.specs.State.{EngineState}
use Rattle.gateway_life.proofs.Turning.{grew_append}
use Rattle.gateway_life.proofs.Telling.{leaves_from}
use Rattle.gateway_life.proofs.Today.{behind_map}
use Rattle.gateway_life.proofs.Dealing.{kept_append, kept_same}

pub durable_on : {T E : Type 0} (r : Result T E) (A B C : Type 0) → (A → B) → OnOk r (B → C)
    → OnOk r (A → C)
durable_on (Ok value) A B C first later = λ a. later (first a)
durable_on (Err error) A B C first later = tt

pub when_ok : {T E : Type 0} (r : Result T E) (P : Type 0) → P → OnOk r P
when_ok (Ok value) P p = p
when_ok (Err error) P p = tt

pub ok_map : {T E : Type 0} (r : Result T E) (P Q : Type 0) → (P → Q) → OnOk r P → OnOk r Q
ok_map (Ok value) P Q to p = to p
ok_map (Err error) P Q to p = tt

-- ---- a side's turn

-- what was dealt with comes first among the events of all that came
part_tail : (side : Side) (read : List ℕ) (came : Came) (first more : List (List ℕ))
    → AreNew side read came (first ++ more)
    → (rest : List Event)
    × (events_of side came (first ++ more) ++ Tick side ∷ [] ≡ events_of side came first ++ rest)
part_tail side read (wire.Bytes bytes) first more new = (
  map (Frame side) more ++ Tick side ∷ [],
  ap (λ l. l ++ Tick side ∷ []) (map-append (Frame side) first more)
      ∙ append_assoc (map (Frame side) first) (map (Frame side) more) (Tick side ∷ []),
)
part_tail side read came first more new = (Tick side ∷ [], refl)

module _ {T : Type 0} (state : T → TapState) (taps0 taps1 : List T) (old polled : EngineState)
    (disk : Option (List ℕ)) (image : List ℕ → Type 0) (faults : ℕ) (r0 r1 : Records)
    (side : Side) (came : Came) (now : ℕ) (held : Held) (ready : IsReady old disk)
    (journal : polled.journal ≡ old.journal) (core : polled.core ≡ old.core)
    (world : world_of polled
    ≡ with_up side (up_after (up_on side (world_of old)) came) (world_of old))
    (grew : Grew r0 r1 (on_side side (wire.Poll came ∷ [])))
    (may : is_some (record_on side r0) ≡ true
    → may_come (up_on side (world_of old)) came ≡ true)
    (client : Agrees r1.client polled.client_up) (venue : Agrees r1.venue polled.venue_up) where
  abbrev began : Around
  began = around old disk image faults r0.client r0.venue

  abbrev between : Around
  between = around polled disk image faults r1.client r1.venue

  kept_over : {V : Type 0} (new : Around) (r : Result V LifeEnd)
      → Kept state taps0 taps1 between new r → Kept state taps0 taps1 began new r
  kept_over new r kept = kept_append state taps0 taps0 taps1 began between new (tt {0}) r
      (kept_same state taps0 old polled disk image faults r0 r1 (tt {0}) journal core ready client
      venue) kept

  same_past : past_of polled.journal.entries ≡ past_of old.journal.entries
  same_past = ap (λ (j : JournalState). past_of j.entries) journal

  -- one of these first events ended the life
  turn_ends : (end : LifeEnd) (new : Around) (first : List Event)
      → ((read : List ℕ) → IfBytes came (StandsWhole held read)
      → (bodies : List (List ℕ)) × (rest : List Event) × AreNew side read came bodies
      × (events_of side came bodies ++ Tick side ∷ [] ≡ first ++ rest))
      → LeavesOf disk image new.image polled.core.config.names
      (Behind (past_of polled.journal.entries) (Failed end polled.core.config
      (past_of polled.journal.entries) (world_of polled) first now r1 new.wires))
      → LeavesOf disk image new.image old.core.config.names (Behind (past_of old.journal.entries)
      (TurnBroken end side held old.core.config (past_of old.journal.entries) (world_of old) now r0
      new.wires))
  turn_ends end new first parts =
      let past = past_of old.journal.entries in
      let past' = past_of polled.journal.entries in
      let config = old.core.config in
      let config' = polled.core.config in
      let p = world_of polled in
      leaves_from disk disk image image new.image config.names config'.names
      (Behind past' (Failed end config' past' p first now r1 new.wires))
      (Behind past (TurnBroken end side held config past (world_of old) now r0 new.wires)) refl
      (λ one. one) (ap (λ (k : CoreState). k.config.names) core)
      (behind_map past past' (Failed end config' past' p first now r1 new.wires)
      (TurnBroken end side held config past (world_of old) now r0 new.wires) same_past
      (λ xs failed. record {
        came = came;
        may = may;
        between = r1;
        polled = grew;
        first = first;
        failed = subst (λ (x : World). Failed end config past x first now r1 new.wires xs) world
            (subst (λ (k : CoreState). Failed end k.config past p first now r1 new.wires xs) core
            (subst (λ l. Failed end config' l p first now r1 new.wires xs) same_past failed));
        new = parts;
      }))

  -- what came was dealt with, and then the tick
  pub turn_over : {V W : Type 0} (value : V) (new : Around) (next : Held)
      (bodies : List (List ℕ)) (r : Result W LifeEnd)
      → Arrived {V = V} side held next came bodies (Ok value)
      → Dealt state taps0 taps1 between new (events_of side came bodies ++ Tick side ∷ []) now r
      → TurnOver state taps0 taps1 began new side held next now r
  turn_over value new next bodies (Ok done) found dealt = record {
    kept = kept_over new (Ok done) dealt.kept;
    past = dealt.past ∙ same_past;
    turn = λ t.
        let events = events_of side came bodies ++ Tick side ∷ [] in
        let x = world_of new.engine in
        let all = subst (λ (p : World). AllStepped old.core.config p events now x r1 new.wires)
        world (subst (λ (k : CoreState).
        AllStepped k.config (world_of polled) events now x r1 new.wires) core (dealt.done t)) in
        record {
          came = came;
          may = may;
          bodies = bodies;
          rest = all.added;
          grew = grew_append r0 r1 new.wires (on_side side (wire.Poll came ∷ [])) all.added grew
              all.grew;
          events = all.happen;
          new = found.new;
          stands = found.stands;
        };
    ends = tt;
  }
  turn_over value new next bodies (Err end) found dealt = record {
    kept = kept_over new (Err end) dealt.kept;
    past = tt;
    turn = tt;
    ends = turn_ends end new (events_of side came bodies ++ Tick side ∷ []) (λ read whole. (
      bodies,
      [],
      found.new read whole,
      sym (append-nil (events_of side came bodies ++ Tick side ∷ [])),
    )) dealt.ends;
  }

  -- an event of what came ended the life
  pub turn_part : {V : Type 0} (r : Result V LifeEnd) (error : LifeEnd) (new : Around)
      (next : Held) (bodies : List (List ℕ)) → IsErrAnd r (λ e. e ≡ error)
      → Arrived {V = V} side held next came bodies (Err error)
      → Dealt {V = V} state taps0 taps1 between new (events_of side came bodies) now (Err error)
      → TurnOver state taps0 taps1 began new side held next now r
  turn_part (Ok done) error new next bodies is found dealt = absurd is
  turn_part {V = V} (Err end) error new next bodies is found dealt =
      subst (λ (e : LifeEnd). TurnOver {V = V} state taps0 taps1 began new side held next now
      (Err e)) (sym is) (record {
        kept = kept_over {V = V} new (Err error) dealt.kept;
        past = tt;
        turn = tt;
        ends = turn_ends error new (events_of side came bodies) (λ read whole.
            let more = found.first read whole in
            let tail = part_tail side read came bodies more.0 more.1 in
            (bodies ++ more.0, tail.0, more.1, tail.1)) dealt.ends;
      })

-- bytes that came are all fed
pub feed_all : (old new : Held) (piece : List ℕ) (n : ℕ) → n ≡ min (length piece) (room old)
    → length piece ≤ room old
    → ((stream : List ℕ) (answered : List Piece) → StandsFor old stream answered
    → StandsFor new (stream ++ take n piece) answered)
    → (stream : List ℕ) (answered : List Piece) → StandsFor old stream answered
    → StandsFor new (stream ++ piece) answered
feed_all old new piece n is fits feed stream answered stands =
    let all : take n piece ≡ piece = take_all n piece (omega (arith, is, fits)) in
    subst (λ (l : List ℕ). StandsFor new (stream ++ l) answered) all (feed stream answered stands)
