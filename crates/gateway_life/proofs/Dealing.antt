-- What parts of a life keep and deal with, one after another.
use Rattle.std.proofs.Common.{refl, ◌≡◌, ◌∙◌, ◌∷◌, ◌++◌, Some, Ok, Err, ap, subst, None, sym, []}
use Rattle.std.proofs.Common.{List, ℕ}
use Rattle.std.proofs.lemmas.List.{map-append}
use Rattle.std.specs.Prelude.{map, IsErrAnd, Result}
use Rattle.std.specs.declared.option.Option.{Option}
use Rattle.outside.specs.Disk.{HasOneImage}
use Rattle.wires.specs.Wire.{Came, Nothing}
use Rattle.order_meaning.specs.declared.Side.{Side}
use Rattle.gate_log.specs.Log.{OnlyRead}
use Rattle.pair_journal.specs.declared.error.JournalError.TheVariants as errors
use Rattle.pair_journal.specs.declared.error.JournalError.{JournalError}
use Rattle.kept_entries.specs.Days.{past_of}
use Rattle.pair_journal.specs.Calls.{HasDiskCause}
use Rattle.pair_journal.specs.State.{JournalState}
use Rattle.drop_taps.specs.Shown.{TapState}
use Rattle.event_decisions.specs.Event.{Event, Frame, Tick}
use Rattle.life_laws.specs.Turn.{events_of}
use Rattle.gateway_config.specs.declared.config.Config.{Config}
use Rattle.gateway_core.specs.State.{CoreState}
use Rattle.wire_sends.specs.Sent.{Agrees}
use Rattle.gateway_life.specs.declared.end.LifeEnd.TheVariants as ends
use Rattle.gateway_life.specs.Ready.{Ready, world_of, Behind, IsReady}
use Rattle.gateway_life.specs.Stepped.{Stepped, AllStepped, Failed, Records, HasCauseOf}
use Rattle.gateway_life.specs.Dealt.{around, Around, Dealt, Kept}
use Rattle.gateway_life.specs.State.{EngineState}
use Rattle.gateway_life.specs.Ended.{end_of}
use Rattle.gateway_life.specs.Watched.{WereCommitted}
use Rattle.gateway_life.specs.declared.end.LifeEnd.{LifeEnd}
use Rattle.gateway_life.proofs.NewDay.{ready_same}
use Rattle.gateway_life.proofs.Telling.{leaves_map, leaves_from, leaves_told}
use Rattle.gateway_life.proofs.Turning.{all_append, all_one, failed_behind, all_none, failed_before}
use Rattle.gateway_life.proofs.Watching.{watched_none, watched_append}
use Rattle.gateway_life.proofs.Today.{behind_map}

module _ {T : Type 0} (state : T → TapState) where
  -- nothing was done but on a wire
  pub kept_same : {V : Type 0} (taps : List T) (old new : EngineState) (disk : Option (List ℕ))
      (image : List ℕ → Type 0) (faults : ℕ) (r0 r1 : Records) (value : V)
      → new.journal ≡ old.journal → new.core ≡ old.core → IsReady old disk
      → Agrees r1.client new.client_up → Agrees r1.venue new.venue_up
      → Kept state taps taps (around old disk image faults r0.client r0.venue)
      (around new disk image faults r1.client r1.venue) (Ok value)
  kept_same taps old new disk image faults r0 r1 value journal core ready client venue = record {
    config = ap (λ (k : CoreState). k.config) core;
    ready = record {
      ready = ready_same old new disk journal core ready;
      client = client;
      venue = venue;
    };
    durable = λ one. one;
    taps = watched_none state taps old.journal.entries new.journal.entries
        (ap (λ (j : JournalState). j.entries) journal);
    left = tt;
    only = tt;
    journal_cause = tt;
    told = refl;
    cause = refl;
  }

  pub kept_none : {V : Type 0} (taps : List T) (a : Around) (value : V)
      → Ready a.engine a.disk a.wires.client a.wires.venue → Kept state taps taps a a (Ok value)
  kept_none taps a value ready = kept_same taps a.engine a.engine a.disk a.image a.faults a.wires
      a.wires value refl refl ready.ready ready.client ready.venue

  pub kept_append : {V W : Type 0} (taps0 taps1 taps2 : List T) (a b c : Around) (value : V)
      (r : Result W LifeEnd) → Kept state taps0 taps1 a b (Ok value)
      → Kept state taps1 taps2 b c r → Kept state taps0 taps2 a c r
  kept_append taps0 taps1 taps2 a b c value (Ok done) one two = record {
    config = two.config ∙ one.config;
    ready = two.ready;
    durable = λ h. two.durable (one.durable h);
    taps = watched_append state taps0 taps1 taps2 a.engine.journal.entries
        b.engine.journal.entries c.engine.journal.entries one.taps two.taps;
    left = tt;
    only = tt;
    journal_cause = tt;
    told = two.told ∙ one.told;
    cause = two.cause ∙ one.cause;
  }
  kept_append {W = W} taps0 taps1 taps2 a b c value (Err end) one two = record {
    config = two.config ∙ one.config;
    ready = tt;
    durable = tt;
    taps = watched_append state taps0 taps1 taps2 a.engine.journal.entries
        b.engine.journal.entries c.engine.journal.entries one.taps two.taps;
    left = leaves_from a.disk b.disk a.image b.image c.image a.engine.core.config.names
        b.engine.core.config.names (WereCommitted end c.engine.journal.entries)
        (WereCommitted end c.engine.journal.entries) one.told one.durable
        (ap (λ (k : Config). k.names) one.config) (λ xs h. h) two.left;
    only = record {
      not_done = two.only.not_done;
      of_event = λ t. two.only.of_event (one.told ∙ t);
    };
    journal_cause = two.journal_cause;
    told = two.told ∙ one.told;
    cause = subst (λ n. HasCauseOf {T = W} n c.faults (Err end)) one.cause two.cause;
  }

  -- an error that `?` handed on
  pub kept_err : {V : Type 0} (r : Result V LifeEnd) (error : LifeEnd) (taps0 taps1 : List T)
      (a b : Around) → IsErrAnd r (λ e. e ≡ error)
      → Kept {V = V} state taps0 taps1 a b (Err error) → Kept state taps0 taps1 a b r
  kept_err (Ok value) error taps0 taps1 a b is kept = absurd is
  kept_err {V = V} (Err end) error taps0 taps1 a b is kept =
      subst (λ (e : LifeEnd). Kept {V = V} state taps0 taps1 a b (Err e)) (sym is) kept

  -- ---- events

  pub dealt_none : {V : Type 0} (taps : List T) (a : Around) (now : ℕ) (value : V)
      → Ready a.engine a.disk a.wires.client a.wires.venue
      → Dealt state taps taps a a [] now (Ok value)
  dealt_none taps a now value ready = record {
    kept = kept_none taps a value ready;
    past = refl;
    done = λ t. all_none a.engine.core.config (world_of a.engine) now a.wires;
    ends = tt;
  }

  -- a tick at which nothing is done
  pub dealt_quiet : {V : Type 0} (taps : List T) (a : Around) (side : Side) (now : ℕ) (value : V)
      → Ready a.engine a.disk a.wires.client a.wires.venue
      → Stepped a.engine.core.config (world_of a.engine) (Tick side) now (world_of a.engine)
      a.wires a.wires
      → Dealt state taps taps a a (Tick side ∷ []) now (Ok value)
  dealt_quiet taps a side now value ready step = record {
    kept = kept_none taps a value ready;
    past = refl;
    done = λ t. all_one a.engine.core.config (world_of a.engine) (world_of a.engine) (Tick side)
        now a.wires a.wires refl step;
    ends = tt;
  }

  -- behind a poll that found nothing
  pub dealt_nothing : {V : Type 0} (taps0 taps1 : List T) (a b : Around) (side : Side)
      (came : Came) (now : ℕ) (r : Result V LifeEnd) → came ≡ Nothing
      → Dealt state taps0 taps1 a b (Tick side ∷ []) now r
      → Dealt state taps0 taps1 a b (events_of side came [] ++ Tick side ∷ []) now r
  dealt_nothing taps0 taps1 a b side came now r is dealt =
      subst (λ (k : Came). Dealt state taps0 taps1 a b (events_of side k [] ++ Tick side ∷ []) now
      r) (sym is) dealt

  pub dealt_append : {V W : Type 0} (taps0 taps1 taps2 : List T) (a b c : Around)
      (events more : List Event) (now : ℕ) (value : V) (r : Result W LifeEnd)
      → Dealt state taps0 taps1 a b events now (Ok value)
      → Dealt state taps1 taps2 b c more now r
      → Dealt state taps0 taps2 a c (events ++ more) now r
  dealt_append taps0 taps1 taps2 a b c events more now value (Ok done) one two = record {
    kept = kept_append taps0 taps1 taps2 a b c value (Ok done) one.kept two.kept;
    past = two.past ∙ one.past;
    done = λ t. all_append a.engine.core.config (world_of a.engine) (world_of b.engine)
        (world_of c.engine) events more now a.wires b.wires c.wires (one.done t)
        (subst (λ (k : Config). AllStepped k (world_of b.engine) more now (world_of c.engine)
        b.wires c.wires) one.kept.config (two.done (one.kept.told ∙ t)));
    ends = tt;
  }
  dealt_append taps0 taps1 taps2 a b c events more now value (Err end) one two =
      let config = a.engine.core.config in
      let config' = b.engine.core.config in
      let past = past_of a.engine.journal.entries in
      let past' = past_of b.engine.journal.entries in
      let w = world_of a.engine in
      let m = world_of b.engine in
      record {
        kept = kept_append taps0 taps1 taps2 a b c value (Err end) one.kept two.kept;
        past = tt;
        done = tt;
        ends = leaves_told a.disk a.image c.image config.names
            (Behind past (Failed end config past w (events ++ more) now a.wires c.wires)) (λ t.
            leaves_from a.disk b.disk a.image b.image c.image config.names config'.names
            (Behind past' (Failed end config' past' m more now b.wires c.wires))
            (Behind past (Failed end config past w (events ++ more) now a.wires c.wires))
            one.kept.told one.kept.durable (ap (λ (k : Config). k.names) one.kept.config)
            (behind_map past past' (Failed end config' past' m more now b.wires c.wires)
            (Failed end config past w (events ++ more) now a.wires c.wires) one.past
            (λ xs failed. failed_behind config end past w m events more now a.wires b.wires c.wires
            xs (one.done t)
            (subst (λ (k : Config). Failed end k past m more now b.wires c.wires xs) one.kept.config
            (subst (λ l. Failed end config' l m more now b.wires c.wires xs) one.past failed))))
            two.ends);
      }

  -- a frame more
  pub dealt_frame : {V W : Type 0} (side : Side) (bodies : List (List ℕ)) (body : List ℕ)
      (taps0 taps1 taps2 : List T) (a b c : Around) (now : ℕ) (value : V) (r : Result W LifeEnd)
      → Dealt state taps0 taps1 a b (map (Frame side) bodies) now (Ok value)
      → Dealt state taps1 taps2 b c (Frame side body ∷ []) now r
      → Dealt state taps0 taps2 a c (map (Frame side) (bodies ++ body ∷ [])) now r
  dealt_frame side bodies body taps0 taps1 taps2 a b c now value r one two =
      subst (λ es. Dealt state taps0 taps2 a c es now r)
      (sym (map-append (Frame side) bodies (body ∷ [])))
      (dealt_append taps0 taps1 taps2 a b c (map (Frame side) bodies) (Frame side body ∷ []) now
      value r one two)

  -- the events of what came
  pub dealt_as : {V : Type 0} (side : Side) (came came' : Came) (bodies : List (List ℕ))
      (taps0 taps1 : List T) (a b : Around) (now : ℕ) (r : Result V LifeEnd) → came ≡ came'
      → Dealt state taps0 taps1 a b (events_of side came' bodies) now r
      → Dealt state taps0 taps1 a b (events_of side came bodies) now r
  dealt_as side came came' bodies taps0 taps1 a b now r same dealt =
      subst (λ (c : Came). Dealt state taps0 taps1 a b (events_of side c bodies) now r) (sym same)
      dealt

  -- an error that `?` handed on, so that others did not come about
  pub dealt_err : {V : Type 0} (r : Result V LifeEnd) (error : LifeEnd) (taps0 taps1 : List T)
      (a b : Around) (events more : List Event) (now : ℕ) → IsErrAnd r (λ e. e ≡ error)
      → Dealt {V = V} state taps0 taps1 a b events now (Err error)
      → Dealt state taps0 taps1 a b (events ++ more) now r
  dealt_err (Ok value) error taps0 taps1 a b events more now is dealt = absurd is
  dealt_err {V = V} (Err end) error taps0 taps1 a b events more now is dealt =
      let config = a.engine.core.config in
      let past = past_of a.engine.journal.entries in
      let w = world_of a.engine in
      subst (λ (e : LifeEnd). Dealt {V = V} state taps0 taps1 a b (events ++ more) now (Err e))
      (sym is) (record {
        kept = dealt.kept;
        past = tt;
        done = tt;
        ends = leaves_map a.disk a.image b.image config.names
            (Behind past (Failed error config past w events now a.wires b.wires))
            (Behind past (Failed error config past w (events ++ more) now a.wires b.wires))
            (behind_map past past (Failed error config past w events now a.wires b.wires)
            (Failed error config past w (events ++ more) now a.wires b.wires) refl (λ xs.
            failed_before config error past w events more now a.wires b.wires xs)) dealt.ends;
      })

-- ---- of answers of the parts of an event

pub cause_err : (V W : Type 0) (before now : ℕ) (end : LifeEnd)
    → HasCauseOf {T = V} before now (Err end) → HasCauseOf {T = W} before now (Err end)
cause_err V W before now ends.DiskFault h = h
cause_err V W before now end h = h

pub cause_of_disk : (V W : Type 0) (before now : ℕ) (error : JournalError)
    → HasDiskCause {T = V} before now (Err error)
    → HasCauseOf {T = W} before now (Err (end_of error))
cause_of_disk V W before now errors.DiskFault h = h
cause_of_disk V W before now error h = h

pub one_read : (t0 t1 : Option (List ℕ)) (i0 i1 : List ℕ → Type 0) → OnlyRead t0 t1 i0 i1
    → HasOneImage t0 i0 → HasOneImage t1 i1
one_read t0 t1 i0 i1 read one =
    subst (λ (t : Option (List ℕ)). HasOneImage t i1) (sym read.same) (at t0 one)
  where
    at : (t : Option (List ℕ)) → HasOneImage t i0 → HasOneImage t i1
    at None h = tt
    at (Some b) h = λ c here. h c (read.images c here)
