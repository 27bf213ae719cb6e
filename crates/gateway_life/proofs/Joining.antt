-- The parts of a life joined: its rounds and its end.
use Rattle.std.proofs.Common.{◌≡◌, ◌+◌, ◌≤◌, List, ◌∷◌, ◌++◌, length, sym, ◌∙◌, ap, true, [], ℕ}
use Rattle.std.proofs.Common.{subst, inr, arith, Ok, Err}
use Rattle.std.specs.Prelude.{Result, OnOk, IfErr, IsErrAnd, is_some}
use Rattle.std.specs.declared.option.Option.{Option}
use Rattle.std.specs.Option.{ForSome}
use Rattle.outside.specs.Disk.{HasOneImage}
use Rattle.wires.specs.Told.{GrowsBy}
use Rattle.wires.specs.Wire.{WireCall}
use Rattle.order_meaning.specs.declared.names.Names.{Names}
use Rattle.order_meaning.specs.declared.Side.TheVariants.{Client, Venue}
use Rattle.frame_grammar.specs.Held.{Held}
use Rattle.pair_entries.specs.declared.entry.Entry.{Entry}
use Rattle.kept_entries.specs.Days.{last_day, past_of}
use Rattle.kept_entries.specs.Entries.{DaysGoOn}
use Rattle.pair_journal.specs.Journal.{JournalOf, Born}
use Rattle.kept_entries.specs.Numbers.{first_numbers}
use Rattle.kept_entries.proofs.Dating.{past-last}
use Rattle.drop_taps.specs.Shown.{TapState}
use Rattle.life_laws.specs.Happens.{World}
use Rattle.gateway_config.specs.declared.config.Config.{Config}
use Rattle.wire_sends.proofs.Sendings.{grows_append}
use Rattle.gateway_life.specs.declared.end.LifeEnd.{LifeEnd}
use Rattle.gateway_life.specs.State.{LifeState}
use Rattle.gateway_life.specs.Ready.{Behind, LeavesOf, IfTold, world_of, Ready}
use Rattle.gateway_life.specs.Stepped.{Records, AllStepped, Failed}
use Rattle.gateway_life.specs.Turned.{Turned, TurnBroken, IsDrained}
use Rattle.gateway_life.specs.Life.{moment_of}
use Rattle.gateway_life.specs.Rounds.{InRound, DayDone, RoundOver, RoundFails, RoundsDone, LifeDone}
use Rattle.gateway_life.specs.Rounds.{LifeBroken, ends_of, on_engine, IsLive}
use Rattle.gateway_life.specs.Dealt.{Around, TurnOver, Kept}
use Rattle.gateway_life.proofs.Rounding.{round_done, round_client, round_venue}
use Rattle.gateway_life.proofs.Rounded.{life_done, ends_fail, life_fails}
use Rattle.gateway_life.proofs.Telling.{leaves_from, leaves_told}

-- how the end of both sides fails
abbrev pub FinishEndsWith : {T : Type 0} → Result T LifeEnd → Config → (past : List Entry) → World
    → (k0 k1 : Option (List ℕ)) → (told : Option (List ℕ)) → (i0 i1 : List ℕ → Type 0)
    → (r0 r1 : Records) → Type 0
FinishEndsWith r config past w k0 k1 told i0 i1 r0 r1 = IfErr r (λ end.
    (given : ℕ) × GrowsBy k0 k1 (given ∷ []) × LeavesOf told i0 i1 config.names
    (Behind past (Failed end config past w ends_of (moment_of given) r0 r1)))

-- how rounds end before their time
abbrev pub EndsWith : {T : Type 0} → Result T LifeEnd → Config → LifeState → (rounds : ℕ)
    → (k0 k1 : Option (List ℕ)) → (told : Option (List ℕ)) → (i0 i1 : List ℕ → Type 0)
    → (r0 r1 : Records) → Type 0
EndsWith r config old rounds k0 k1 told i0 i1 r0 r1 = IfErr r (λ end.
    (given : List ℕ) × (last : ℕ) × (length given ≤ rounds) × GrowsBy k0 k1 (given ++ last ∷ [])
    × LeavesOf told i0 i1 config.names (LifeBroken end config old rounds given last r0 r1))

pub rounds_end : {T : Type 0} (r : Result T LifeEnd) (error : LifeEnd) (config config' : Config)
    (old mid : LifeState) (given : List ℕ) (m left all : ℕ) (k0 k1 k2 t0 t1 : Option (List ℕ))
    (i0 i1 i2 : List ℕ → Type 0) (r0 r1 r2 : Records) → IsErrAnd r (λ e. e ≡ error)
    → config' ≡ config → length given + left ≡ all → GrowsBy k0 k1 given
    → IfTold t0 (RoundsDone config old mid given r0 r1)
    → DaysGoOn first_numbers mid.engine.journal.entries → is_some t1 ≡ is_some t0
    → (HasOneImage t0 i0 → HasOneImage t1 i1) → GrowsBy k1 k2 (m ∷ [])
    → LeavesOf t1 i1 i2 config'.names (RoundFails error config' mid (moment_of m) r1 r2)
    → EndsWith r config old all k0 k2 t0 i0 i2 r0 r2
rounds_end (Ok value) error config config' old mid given m left all k0 k1 k2 t0 t1 i0 i1 i2 r0 r1
    r2 is same count grows done sound told one more ends = tt
rounds_end (Err end) error config config' old mid given m left all k0 k1 k2 t0 t1 i0 i1 i2 r0 r1
    r2 is same count grows done sound told one more ends = (
      given,
      m,
      omega (arith, count),
      grows_append k0 k1 k2 given (m ∷ []) grows more,
      leaves_told t0 i0 i2 config.names (LifeBroken end config old all given m r0 r2) (λ t.
          leaves_from t0 t1 i0 i1 i2 config.names config'.names
          (RoundFails error config' mid (moment_of m) r1 r2)
          (LifeBroken end config old all given m r0 r2) told one
          (ap (λ (k : Config). k.names) same)
          (λ xs fails. subst (λ (e : LifeEnd). LifeBroken e config old all given m r0 r2 xs)
          (sym is) (life_fails config old mid given m r0 r1 (done t) sound error all r2 xs
          (subst (λ (k : Config). RoundFails error k mid (moment_of m) r1 r2 xs) same fails)))
          ends),
    )

-- the end, behind all rounds
pub end_done : {T : Type 0} (r : Result T LifeEnd) (config config' : Config)
    (old mid new : LifeState) (given : List ℕ) (all : ℕ) (k0 k1 k2 : Option (List ℕ))
    (r0 r1 r2 : Records) (t0 t1 t2 : Option (List ℕ)) (c v : Option (List WireCall))
    → config' ≡ config → length given ≡ all → GrowsBy k0 k1 given
    → IfTold t0 (RoundsDone config old mid given r0 r1)
    → DaysGoOn first_numbers mid.engine.journal.entries → is_some t1 ≡ is_some t0
    → OnOk r (past_of new.engine.journal.entries ≡ past_of mid.engine.journal.entries)
    → OnOk r (IsLive new t2 c v)
    → OnOk r ((m : ℕ) × GrowsBy k1 k2 (m ∷ []) × IfTold t1
    (AllStepped config' (world_of mid.engine) ends_of (moment_of m) (world_of new.engine) r1 r2))
    → OnOk r ((given : List ℕ) × (last : ℕ) × (length given ≡ all)
    × GrowsBy k0 k2 (given ++ last ∷ [])
    × IfTold t0 (LifeDone config old given last r0 r2 new.engine.journal.entries))
end_done (Err end) config config' old mid new given all k0 k1 k2 r0 r1 r2 t0 t1 t2 c v same count
    grows done sound told past live ends = tt
end_done (Ok value) config config' old mid new given all k0 k1 k2 r0 r1 r2 t0 t1 t2 c v same count
    grows done sound told past live ends = (
      given,
      ends.0,
      count,
      grows_append k0 k1 k2 given (ends.0 ∷ []) grows ends.1,
      λ t. life_done config old mid given ends.0 r0 r1 (done t) sound (world_of new.engine) r2
          new.engine.journal.entries
          (subst (λ (k : Config). AllStepped k (world_of mid.engine) ends_of (moment_of ends.0)
          (world_of new.engine) r1 r2) same (ends.2 (told ∙ t)))
          (sym (past-last new.engine.journal.entries live.ready.ready.sound)
          ∙ ap (λ l. l ++ last_day new.engine.journal.entries) past),
    )

pub end_ends : {T : Type 0} (r : Result T LifeEnd) (config config' : Config) (old mid : LifeState)
    (given : List ℕ) (all : ℕ) (k0 k1 k2 t0 t1 : Option (List ℕ)) (i0 i1 i2 : List ℕ → Type 0)
    (r0 r1 r2 : Records) → config' ≡ config → length given ≡ all → GrowsBy k0 k1 given
    → IfTold t0 (RoundsDone config old mid given r0 r1)
    → DaysGoOn first_numbers mid.engine.journal.entries → is_some t1 ≡ is_some t0
    → (HasOneImage t0 i0 → HasOneImage t1 i1)
    → FinishEndsWith r config' (past_of mid.engine.journal.entries) (world_of mid.engine) k1 k2 t1
    i1 i2 r1 r2
    → EndsWith r config old all k0 k2 t0 i0 i2 r0 r2
end_ends (Ok value) config config' old mid given all k0 k1 k2 t0 t1 i0 i1 i2 r0 r1 r2 same count
    grows done sound told one ends = tt
end_ends (Err end) config config' old mid given all k0 k1 k2 t0 t1 i0 i1 i2 r0 r1 r2 same count
    grows done sound told one ends =
    let past = past_of mid.engine.journal.entries in (
      given,
      ends.0,
      omega (arith, count),
      grows_append k0 k1 k2 given (ends.0 ∷ []) grows ends.1,
      leaves_told t0 i0 i2 config.names (LifeBroken end config old all given ends.0 r0 r2) (λ t.
          leaves_from t0 t1 i0 i1 i2 config.names config'.names (Behind past
          (Failed end config' past (world_of mid.engine) ends_of (moment_of ends.0) r1 r2))
          (LifeBroken end config old all given ends.0 r0 r2) told one
          (ap (λ (k : Config). k.names) same)
          (λ xs broken. ends_fail config old mid given ends.0 r0 r1 (done t) sound end all r2 xs
          (inr count)
          (subst (λ (k : Config). Behind past
          (Failed end k past (world_of mid.engine) ends_of (moment_of ends.0) r1 r2) xs)
          same broken)) ends.2),
    )

-- ---- by the moment that the clock gave

pub given_ok : {V E : Type 0} (r : Result V E) (now m : ℕ) (k0 k1 : Option (List ℕ))
    (P : ℕ → Type 0) → now ≡ moment_of m → GrowsBy k0 k1 (m ∷ []) → OnOk r (P now)
    → OnOk r ((given : ℕ) × GrowsBy k0 k1 (given ∷ []) × P (moment_of given))
given_ok (Err end) now m k0 k1 P at grows h = tt
given_ok (Ok value) now m k0 k1 P at grows h = (m, grows, subst P at h)

pub given_err : {V : Type 0} (r : Result V LifeEnd) (now m : ℕ) (k0 k1 : Option (List ℕ))
    (P : LifeEnd → ℕ → Type 0) → now ≡ moment_of m → GrowsBy k0 k1 (m ∷ [])
    → IfErr r (λ end. P end now)
    → IfErr r (λ end. (given : ℕ) × GrowsBy k0 k1 (given ∷ []) × P end (moment_of given))
given_err (Ok value) now m k0 k1 P at grows h = tt
given_err (Err end) now m k0 k1 P at grows h = (m, grows, subst (P end) at h)

-- ---- a round

module _ {T V : Type 0} (state : T → TapState) (taps0 taps1 taps2 : List T) (a b c : Around)
    (client venue : Held) (now : ℕ) (value : V) (kept : Kept state taps0 taps1 a b (Ok value))
    (day : IfTold a.disk
    (DayDone a.engine.core.config a.engine b.engine now a.wires b.wires)) where
  abbrev config : Config
  config = a.engine.core.config

  abbrev at_start : LifeState
  at_start = record { engine = a.engine; client = client; venue = venue }

  abbrev of_day : LifeState
  of_day = on_engine at_start b.engine

  -- an event of the client's turn ended the at_start
  pub client_ends : {W : Type 0} (next : Held) (end : LifeEnd)
      → TurnOver {V = W} state taps1 taps2 b c Client client next now (Err end)
      → LeavesOf a.disk a.image c.image config.names
      (RoundFails end config at_start now a.wires c.wires)
  client_ends next end turn =
      let past = past_of b.engine.journal.entries in
      let config' = b.engine.core.config in
      let w = world_of b.engine in
      leaves_told a.disk a.image c.image config.names
      (RoundFails end config at_start now a.wires c.wires) (λ t.
      leaves_from a.disk b.disk a.image b.image c.image config.names config'.names
      (Behind past (TurnBroken end Client client config' past w now b.wires c.wires))
      (RoundFails end config at_start now a.wires c.wires) kept.told kept.durable
      (ap (λ (k : Config). k.names) kept.config)
      (λ xs h. InRound b.engine b.wires kept.ready.ready.sound (day t) (
        h.0,
        h.1,
        round_client config end of_day now b.wires c.wires h.0 (subst (λ (k : Config).
            TurnBroken end Client client k past w now b.wires c.wires h.0) kept.config h.2),
      )) turn.ends)

  -- the client's turn is over
  module _ {W : Type 0} (over : W) (taps3 : List T) (d : Around) (next next' : Held)
      (turn : TurnOver state taps1 taps2 b c Client client next now (Ok over)) where
    turned : is_some a.disk ≡ true
        → Turned Client client next config (world_of b.engine) now (world_of c.engine) b.wires
        c.wires
    turned t = subst (λ (k : Config). Turned Client client next k (world_of b.engine) now
        (world_of c.engine) b.wires c.wires) kept.config (turn.turn (kept.told ∙ t))

    pub round_ok : {X : Type 0} (r : Result X LifeEnd)
        → TurnOver state taps2 taps3 c d Venue venue next' now r
        → OnOk r (IfTold a.disk (RoundOver config at_start
        (record { engine = d.engine; client = next; venue = next' }) now a.wires d.wires))
    round_ok (Err end) last = tt
    round_ok (Ok done) last = λ t. record {
      mid = b.engine;
      between = b.wires;
      sound = kept.ready.ready.sound;
      day = day t;
      done = round_done config of_day
          (record { engine = d.engine; client = next; venue = next' }) (world_of c.engine) now
          b.wires c.wires d.wires (last.past ∙ turn.past) (turned t)
          (subst (λ (k : Config). Turned Venue venue next' k (world_of c.engine) now
          (world_of d.engine) c.wires d.wires) (turn.kept.config ∙ kept.config)
          (last.turn (turn.kept.told ∙ kept.told ∙ t)));
    }

    pub venue_ends : {X : Type 0} (r : Result X LifeEnd)
        → TurnOver state taps2 taps3 c d Venue venue next' now r
        → IfErr r (λ end. LeavesOf a.disk a.image d.image config.names
        (RoundFails end config at_start now a.wires d.wires))
    venue_ends (Ok done) last = tt
    venue_ends (Err end) last =
        let past = past_of c.engine.journal.entries in
        let config' = c.engine.core.config in
        let w = world_of c.engine in
        leaves_told a.disk a.image d.image config.names
        (RoundFails end config at_start now a.wires d.wires) (λ t.
        leaves_from a.disk c.disk a.image c.image d.image config.names config'.names
        (Behind past (TurnBroken end Venue venue config' past w now c.wires d.wires))
        (RoundFails end config at_start now a.wires d.wires) (turn.kept.told ∙ kept.told)
        (λ one. turn.kept.durable (kept.durable one))
        (ap (λ (k : Config). k.names) (turn.kept.config ∙ kept.config))
        (λ xs h. InRound b.engine b.wires kept.ready.ready.sound (day t) (
          h.0,
          h.1 ∙ ap (λ l. l ++ h.0) turn.past,
          round_venue config end of_day next w now b.wires c.wires d.wires h.0 (turned t)
              (subst (λ (k : Config). TurnBroken end Venue venue k
              (past_of b.engine.journal.entries) w now c.wires d.wires h.0)
              (turn.kept.config ∙ kept.config)
              (subst (λ l. TurnBroken end Venue venue config' l w now c.wires d.wires h.0)
              turn.past h.2)),
        )) last.ends)

pub live_over : {V : Type 0} (r : Result V LifeEnd) (life : LifeState) (told : Option (List ℕ))
    (c v : Option (List WireCall)) → OnOk r (Ready life.engine told c v)
    → IsDrained Client life.client → OnOk r (IsDrained Venue life.venue)
    → OnOk r (IsLive life told c v)
live_over (Err end) life told c v ready client venue = tt
live_over (Ok value) life told c v ready client venue =
    record { ready = ready; client = client; venue = venue }

-- what stands on the disk behind it
pub stands_kept : {T V : Type 0} (state : T → TapState) (olds news : List T) (a z : Around)
    (r : Result V LifeEnd) → Kept state olds news a z r
    → OnOk r (ForSome z.disk (λ b. JournalOf b
    (Born a.engine.core.config.names z.engine.journal.entries)))
stands_kept state olds news a z (Err end) kept = tt
stands_kept state olds news a z (Ok value) kept =
    subst (λ (n : Names). ForSome z.disk (λ b. JournalOf b (Born n z.engine.journal.entries)))
    (kept.ready.ready.names ∙ ap (λ (k : Config). k.names) kept.config) kept.ready.ready.stands
