-- Turns and rounds of a day, from what each added to the records.
use Rattle.std.proofs.Common.{◌≡◌, ℕ, Bool, true, false, List, [], ◌∷◌, ◌++◌, refl, sym, ◌∙◌}
use Rattle.std.proofs.Common.{ap, subst, inl, inr, Some, None}
use Rattle.std.specs.Prelude.{is_some, if◌then◌else◌}
use Rattle.std.specs.declared.option.Option.{Option}
use Rattle.frame_grammar.specs.Held.{Held}
use Rattle.order_meaning.specs.declared.Side.{Side}
use Rattle.order_meaning.specs.declared.Side.TheVariants.{Client, Venue}
use Rattle.pair_entries.specs.declared.entry.Entry.{Entry}
use Rattle.kept_entries.specs.Days.{past_of}
use Rattle.event_decisions.specs.Event.{Event, Tick}
use Rattle.message_answers.specs.Answer.{Answers}
use Rattle.gateway_config.specs.declared.config.Config.{Config}
use Rattle.wires.specs.Told.{GrowsBy}
use Rattle.wires.specs.Wire as wire
use Rattle.wires.specs.Wire.{WireCall, Came, may_come}
use Rattle.life_laws.specs.Sends.{Sends, Acts}
use Rattle.life_laws.specs.Happens.{World, Added, nothing, up_on}
use Rattle.life_laws.specs.Turn.{both, on_side, with_up, up_after, read_after, events_of}
use Rattle.life_laws.specs.Turn.{Reads, counts, HappensIf, HappensOrNot, AllHappen, Turn, Round}
use Rattle.life_laws.specs.Turn.{Rounds}
use Rattle.life_laws.specs.Days.{NoneDue, due_in}
use Rattle.life_laws.specs.Ends.{TurnUpTo}
use Rattle.gateway_life.specs.declared.end.LifeEnd.{LifeEnd}
use Rattle.gateway_life.specs.State.{LifeState}
use Rattle.gateway_life.specs.Ready.{world_of}
use Rattle.gateway_life.specs.Stepped.{Records, Grew}
use Rattle.gateway_life.specs.Turned.{StandsWhole, IfBytes, UnlessOpened, Turned, TurnBroken}
use Rattle.gateway_life.specs.Turned.{record_on}
use Rattle.gateway_life.specs.Rounds.{AreTold, RoundDone, RoundBroken}
use Rattle.gateway_life.proofs.Turning.{grew_append, both_end, both_three}
use Rattle.gateway_life.proofs.Failing.{failed_up_to}

-- ---- a connection that stands has stood

sends_down : (pieces : List (List ℕ)) (calls : List WireCall) (after : Bool)
    → Sends false pieces calls after → after ≡ false
sends_down [] calls after sends = sends.1
sends_down (piece ∷ pieces) calls after sends = sends.1

hung_down : (hangs still after : Bool) → still ≡ false
    → after ≡ (if hangs then false else still) → after ≡ false
hung_down true still after down is = is
hung_down false still after down is = is ∙ down

stood : (up : Bool) (pieces : List (List ℕ)) (hangs : Bool) (calls : List WireCall)
    (after : Bool) → Acts up pieces hangs calls after → after ≡ true → up ≡ true
stood true pieces hangs calls after acts is = refl
stood false pieces hangs calls after acts is =
    let down = hung_down hangs acts.still after (sends_down pieces acts.sent acts.still acts.sends)
    acts.ends in
    absurd (cc (sym down ∙ is))

module _ (config : Config) where
  one_stood : (side : Side) (w x : World) (event : Event) (now : ℕ) (a : Added)
      → HappensOrNot Answers config.names config.window w event now a x
      → up_on side x ≡ true → up_on side w ≡ true
  one_stood side w x event now a one is = at (counts w event) one
    where
      on : (s : Side) (h : HappensIf Answers config.names config.window true w event now a x)
          → up_on s x ≡ true → up_on s w ≡ true
      on Client h up = stood _ _ _ _ _ h.client up
      on Venue h up = stood _ _ _ _ _ h.venue up

      at : (b : Bool) → HappensIf Answers config.names config.window b w event now a x
          → up_on side w ≡ true
      at true h = on side h is
      at false h = ap (up_on side) (sym h.1) ∙ is

  all_stood : (side : Side) (w x : World) (events : List Event) (now : ℕ) (a : Added)
      → AllHappen Answers config.names config.window w events now a x
      → up_on side x ≡ true → up_on side w ≡ true
  all_stood side w x [] now a all is = ap (up_on side) (sym all.1) ∙ is
  all_stood side w x (event ∷ events) now a all is =
      one_stood side w all.1 event now all.0 all.3
      (all_stood side all.1 x events now all.2 all.4 is)

-- ---- what may come

if_bytes : (came : Came) (up : Bool) (P : Type 0) → may_come up came ≡ true → (up ≡ true → P)
    → IfBytes came P
if_bytes (wire.Bytes []) up P may to = absurd (cc may)
if_bytes (wire.Bytes (byte ∷ bytes)) up P may to = to may
if_bytes came up P may to = tt

unless_opened : (came : Came) (up : Bool) (P : Type 0) → up_after up came ≡ true → (up ≡ true → P)
    → UnlessOpened came P
unless_opened wire.Nothing up P still to = to still
unless_opened wire.Opened up P still to = tt
unless_opened (wire.Bytes bytes) up P still to = to still
unless_opened came up P still to = absurd (cc still)

up_with : (side : Side) (b : Bool) (w : World) → up_on side (with_up side b w) ≡ b
up_with Client b w = refl
up_with Venue b w = refl

told_back : {A : Type 0} (old new : Option (List A)) (more : List A) → GrowsBy old new more
    → is_some new ≡ true → is_some old ≡ true
told_back None new more grows told = absurd (cc (sym (ap is_some grows) ∙ told))
told_back (Some old) new more grows told = refl

pub are_told_back : (r0 r1 : Records) (a : Added) → Grew r0 r1 a → AreTold r1 → AreTold r0
are_told_back r0 r1 a grew told = record {
  client = told_back r0.client r1.client a.client grew.client told.client;
  venue = told_back r0.venue r1.venue a.venue grew.venue told.venue;
}

-- ---- a side's turn

module _ (config : Config) where
  -- a turn, whole, for what was read on a connection that stands
  turn_of : (side : Side) (old next : Held) (w x : World) (now : ℕ) (r0 r1 : Records)
      (t : Turned side old next config w now x r0 r1) (read : List ℕ)
      → is_some (record_on side r0) ≡ true → (up_on side w ≡ true → StandsWhole old read)
      → Turn Answers config.names config.window side read w now
      (both (on_side side (wire.Poll t.came ∷ [])) t.rest) x
  turn_of side old next w x now r0 r1 t read told whole = record {
    came = t.came;
    bodies = t.bodies;
    new = t.new read (if_bytes t.came (up_on side w) (StandsWhole old read) (t.may told) whole);
    rest = t.rest;
    events = t.events;
    all = refl;
  }

  -- and its framer stands for what was read then
  turn_stood : (side : Side) (old next : Held) (w x : World) (now : ℕ) (r0 r1 : Records)
      (t : Turned side old next config w now x r0 r1) (read : List ℕ)
      → (up_on side w ≡ true → StandsWhole old read) → up_on side x ≡ true
      → StandsWhole next (read_after read t.came)
  turn_stood side old next w x now r0 r1 t read whole up =
      let polled = up_after (up_on side w) t.came in
      let still = sym (up_with side polled w)
      ∙ all_stood config side (with_up side polled w) x _ now t.rest t.events up in
      t.stands read (unless_opened t.came (up_on side w) (StandsWhole old read) still whole)

  other_client : (old next : Held) (w x : World) (now : ℕ) (r0 r1 : Records)
      (t : Turned Client old next config w now x r0 r1) → x.venue_up ≡ true → w.venue_up ≡ true
  other_client old next w x now r0 r1 t up =
      all_stood config Venue (with_up Client (up_after w.client_up t.came) w) x _ now t.rest
      t.events up

  other_venue : (old next : Held) (w x : World) (now : ℕ) (r0 r1 : Records)
      (t : Turned Venue old next config w now x r0 r1) → x.client_up ≡ true → w.client_up ≡ true
  other_venue old next w x now r0 r1 t up =
      all_stood config Client (with_up Venue (up_after w.venue_up t.came) w) x _ now t.rest
      t.events up

  -- ---- a round

  pub round_done : (old new : LifeState) (mid : World) (now : ℕ) (r0 r1 r2 : Records)
      → past_of new.engine.journal.entries ≡ past_of old.engine.journal.entries
      → Turned Client old.client new.client config (world_of old.engine) now mid r0 r1
      → Turned Venue old.venue new.venue config mid now (world_of new.engine) r1 r2
      → RoundDone config old new now r0 r2
  unfolding turn_of
  round_done old new mid now r0 r1 r2 same c v = record {
    past = same;
    added = both (both (on_side Client (wire.Poll c.came ∷ [])) c.rest)
        (both (on_side Venue (wire.Poll v.came ∷ [])) v.rest);
    grew = grew_append r0 r1 r2 _ _ c.grew v.grew;
    round = λ told reads whole.
        let told1 = are_told_back r1 r2 _ v.grew told in
        let told0 = are_told_back r0 r1 _ c.grew told1 in
        let reads' : Reads = record {
          client = read_after reads.client c.came;
          venue = read_after reads.venue v.came;
        } in
        let venue_whole : mid.venue_up ≡ true → StandsWhole old.venue reads.venue =
        λ up. whole.venue (other_client _ _ _ _ _ _ _ c up) in (
          reads',
          record {
            mid = mid;
            client_added = both (on_side Client (wire.Poll c.came ∷ [])) c.rest;
            venue_added = both (on_side Venue (wire.Poll v.came ∷ [])) v.rest;
            client = turn_of Client old.client new.client (world_of old.engine) mid now r0 r1 c
                reads.client told0.client whole.client;
            venue = turn_of Venue old.venue new.venue mid (world_of new.engine) now r1 r2 v
                reads.venue told1.venue venue_whole;
            all = refl;
            read = refl;
            client_may = c.may told0.client;
            venue_may = v.may told1.venue;
          },
          record {
            client = λ up. turn_stood Client old.client new.client (world_of old.engine) mid now
                r0 r1 c reads.client whole.client (other_venue _ _ _ _ _ _ _ v up);
            venue = λ up. turn_stood Venue old.venue new.venue mid (world_of new.engine) now r1 r2 v
                reads.venue venue_whole up;
          },
        );
  }

  -- a turn in which an event ended the life
  turn_up_to : (end : LifeEnd) (side : Side) (old : Held) (past : List Entry) (w : World) (now : ℕ)
      (r0 r1 : Records) (entries : List Entry)
      (t : TurnBroken end side old config past w now r0 r1 entries)
      (read : List ℕ) → is_some (record_on side r0) ≡ true
      → (up_on side w ≡ true → StandsWhole old read)
      → TurnUpTo Answers config.names config.window side read w now
      (both (on_side side (wire.Poll t.came ∷ [])) t.failed.all.added) t.failed.mid t.failed.last
  turn_up_to end side old past w now r0 r1 entries t read told whole =
      let found = t.new read
      (if_bytes t.came (up_on side w) (StandsWhole old read) (t.may told) whole) in
      record {
        came = t.came;
        may = t.may told;
        bodies = found.0;
        new = found.2;
        rest = t.failed.all.added;
        events = failed_up_to config end past (with_up side (up_after (up_on side w) t.came) w)
            (events_of side t.came found.0 ++ Tick side ∷ []) t.first found.1 now t.between r1
            entries found.3 t.failed;
        all = refl;
      }

  turn_grew : (end : LifeEnd) (side : Side) (old : Held) (past : List Entry) (w : World) (now : ℕ)
      (r0 r1 : Records) (entries : List Entry)
      (t : TurnBroken end side old config past w now r0 r1 entries)
      → Grew r0 t.failed.between
      (both (on_side side (wire.Poll t.came ∷ [])) t.failed.all.added)
  turn_grew end side old past w now r0 r1 entries t =
      grew_append r0 t.between t.failed.between (on_side side (wire.Poll t.came ∷ []))
      t.failed.all.added t.polled t.failed.all.grew

  -- both wires told their records when it began
  turn_told : (end : LifeEnd) (side : Side) (old : Held) (past : List Entry) (w : World) (now : ℕ)
      (r0 r1 : Records) (entries : List Entry)
      (t : TurnBroken end side old config past w now r0 r1 entries)
      → AreTold r1 → AreTold r0
  turn_told end side old past w now r0 r1 entries t told =
      are_told_back r0 t.failed.between _ (turn_grew end side old past w now r0 r1 entries t)
      (are_told_back t.failed.between r1 t.failed.broken.added t.failed.broken.grew told)

  pub round_client : (end : LifeEnd) (old : LifeState) (now : ℕ) (r0 r1 : Records)
      (entries : List Entry)
      → TurnBroken end Client old.client config (past_of old.engine.journal.entries)
      (world_of old.engine) now r0 r1 entries
      → RoundBroken end config old now r0 r1 entries
  round_client end old now r0 r1 entries t = record {
    added = both (on_side Client (wire.Poll t.came ∷ [])) t.failed.all.added;
    mid = t.failed.mid;
    event = t.failed.last;
    between = t.failed.between;
    grew = turn_grew end Client old.client (past_of old.engine.journal.entries)
        (world_of old.engine) now r0 r1 entries t;
    up_to = λ told reads whole.
        let past = past_of old.engine.journal.entries in
        let told0 = turn_told end Client old.client past (world_of old.engine) now r0 r1 entries t
        told in
        inl (turn_up_to end Client old.client past (world_of old.engine) now r0 r1 entries t
        reads.client told0.client whole.client);
    broken = t.failed.broken;
  }

  pub round_venue : (end : LifeEnd) (old : LifeState) (next : Held) (mid : World) (now : ℕ)
      (r0 r1 r2 : Records) (entries : List Entry)
      → Turned Client old.client next config (world_of old.engine) now mid r0 r1
      → TurnBroken end Venue old.venue config (past_of old.engine.journal.entries) mid now r1 r2
      entries
      → RoundBroken end config old now r0 r2 entries
  unfolding turn_of
  round_venue end old next mid now r0 r1 r2 entries c t =
      let past = past_of old.engine.journal.entries in
      let client_added = both (on_side Client (wire.Poll c.came ∷ [])) c.rest in
      let venue_added = both (on_side Venue (wire.Poll t.came ∷ [])) t.failed.all.added in
      record {
        added = both client_added venue_added;
        mid = t.failed.mid;
        event = t.failed.last;
        between = t.failed.between;
        grew = grew_append r0 r1 t.failed.between client_added venue_added c.grew
            (turn_grew end Venue old.venue past mid now r1 r2 entries t);
        up_to = λ told reads whole.
            let told1 = turn_told end Venue old.venue past mid now r1 r2 entries t told in
            let told0 = are_told_back r0 r1 client_added c.grew told1 in
            let venue_whole : mid.venue_up ≡ true → StandsWhole old.venue reads.venue =
            λ up. whole.venue (other_client _ _ _ _ _ _ _ c up) in
            inr (record {
              between = mid;
              first = client_added;
              rest = venue_added;
              client = turn_of Client old.client next (world_of old.engine) mid now r0 r1 c
                  reads.client told0.client whole.client;
              client_may = c.may told0.client;
              venue = turn_up_to end Venue old.venue past mid now r1 r2 entries t reads.venue
                  told1.venue venue_whole;
              all = refl;
            });
        broken = t.failed.broken;
      }

  -- ---- rounds one after another

  pub rounds_push : (moments : List ℕ) (now : ℕ) (reads mid_reads reads' : Reads) (w m x : World)
      (a b : Added) → Rounds Answers config.names config.window reads w moments a mid_reads m
      → Round Answers config.names config.window mid_reads m now b reads' x
      → Rounds Answers config.names config.window reads w (moments ++ now ∷ []) (both a b) reads' x
  rounds_push [] now reads mid_reads reads' w m x a b all one =
      let here : Round Answers config.names config.window reads w now b reads' x =
      subst (λ (r : Reads). Round Answers config.names config.window r w now b reads' x) all.1
      (subst (λ (y : World). Round Answers config.names config.window mid_reads y now b reads' x)
      all.2 one) in (
        b,
        x,
        reads',
        nothing,
        here,
        (refl, refl, refl),
        ap (λ (y : Added). both y b) all.0 ∙ both_end b,
      )
  rounds_push (moment ∷ moments) now reads mid_reads reads' w m x a b all one = (
    all.0,
    all.1,
    all.2,
    both all.3 b,
    all.4,
    rounds_push moments now all.2 mid_reads reads' all.1 m x all.3 b all.5 one,
    ap (λ (y : Added). both y b) all.6 ∙ both_three all.0 all.3 b,
  )

  -- no new day was due at any of them
  pub none_push : (minute began : Option ℕ) (moments : List ℕ) (now : ℕ)
      (reads mid_reads reads' : Reads) (w m x : World) (a b : Added)
      (all : Rounds Answers config.names config.window reads w moments a mid_reads m)
      (one : Round Answers config.names config.window mid_reads m now b reads' x)
      → NoneDue Answers config.names config.window minute began reads w moments a mid_reads m all
      → due_in minute began m.entries now ≡ false
      → NoneDue Answers config.names config.window minute began reads w (moments ++ now ∷ [])
      (both a b) reads' x (rounds_push moments now reads mid_reads reads' w m x a b all one)
  unfolding rounds_push
  none_push minute began [] now reads mid_reads reads' w m x a b all one none due =
      (ap (λ (y : World). due_in minute began y.entries now) (sym all.2) ∙ due, tt)
  none_push minute began (moment ∷ moments) now reads mid_reads reads' w m x a b
      (first, y, between, rest, round, more, is) one none due = (
        none.0,
        none_push minute began moments now between mid_reads reads' y m x rest b more one none.1
            due,
      )
