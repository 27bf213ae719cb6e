-- How a life begins.
use Rattle.std.proofs.Common.{◌≡◌, ◌⊎◌, ℕ, false, List, [], refl, sym, subst, Some, None}
use Rattle.std.proofs.Common.{inl, inr}
use Rattle.std.proofs.Common.{Ok, Err}
use Rattle.std.specs.Prelude.{Result, IfSome, IfErr, IsErrAnd}
use Rattle.std.specs.declared.option.Option.{Option}
use Rattle.std.specs.Option.{ForSome}
use Rattle.order_meaning.specs.declared.names.Names.{Names}
use Rattle.pair_entries.specs.declared.entry.Entry.{Entry}
use Rattle.pair_journal.specs.declared.error.JournalError.{JournalError}
use Rattle.pair_journal.specs.declared.error.JournalError.TheVariants as errors
use Rattle.pair_journal.specs.Calls.{Loads, BornOrNot}
use Rattle.kept_entries.specs.Days.{last_day}
use Rattle.kept_entries.proofs.Dating.{last_numbers}
use Rattle.kept_entries.specs.Entries.{DaysGoOn}
use Rattle.pair_journal.specs.Journal.{JournalOf, Unborn, Born}
use Rattle.kept_entries.specs.Numbers.{first_numbers}
use Rattle.pair_journal.specs.State.{JournalState}
use Rattle.gateway_config.specs.declared.config.Config.{Config}
use Rattle.gateway_core.specs.State.{CoreState, loaded}
use Rattle.gateway_life.specs.declared.end.LifeEnd.{LifeEnd}
use Rattle.gateway_life.specs.Ended.{end_of}
use Rattle.gateway_life.specs.Ready.{IsReady}
use Rattle.gateway_life.specs.Life.{IfRefused, IsForeign}
use Rattle.gateway_life.specs.Rounds.{Begins}

pub begins_ok : {T : Type 0} (entries : T → List Entry) (names : Names) (told : Option (List ℕ))
    (now : Option (List ℕ)) (journal : JournalState) (made : T) → entries made ≡ journal.entries
    → IfSome told (λ b. Loads names b (Ok journal) now)
    → IfSome told (λ b. Begins entries names b (Ok made))
begins_ok entries names None now journal made same h = tt
begins_ok entries names (Some b) now journal made same h =
    subst (λ l. JournalOf b (Born names l) ⊎ (JournalOf b Unborn × (l ≡ []))) (sym same) h.1

pub begins_err : {T : Type 0} (entries : T → List Entry) (names : Names) (told : Option (List ℕ))
    (now : Option (List ℕ)) (r : Result T LifeEnd) (error : JournalError)
    → IsErrAnd r (λ e. e ≡ end_of error) → IfSome told (λ b. Loads names b (Err error) now)
    → IfSome told (λ b. Begins entries names b r)
begins_err entries names None now r error is h = tt
begins_err entries names (Some b) now (Ok made) error is h = absurd is
begins_err {T = T} entries names (Some b) now (Err end) error is h =
    subst (λ (e : LifeEnd). Begins entries names b (Err e)) (sym is) (at error h)
  where
    at : (e : JournalError) → Loads names b (Err e) now
        → Begins {T = T} entries names b (Err (end_of e))
    at (errors.Refused place) loads = loads.0
    at (errors.NamesDiffer kept given) loads = (loads.0, loads.1, loads.2, loads.3)
    at errors.Full loads = absurd loads
    at error loads = tt

-- a disk that was left alone, or was only read behind
pub born_same : (told : Option (List ℕ)) (image : List ℕ → Type 0) (names : Names)
    → BornOrNot told image image names
born_same None image names = tt
born_same (Some b) image names = λ only c left. (
  λ unborn. inl (subst (λ (d : List ℕ). JournalOf d Unborn) (sym (only c left)) unborn),
  λ kept entries born.
      subst (λ (d : List ℕ). JournalOf d (Born kept entries)) (sym (only c left)) born,
)

-- a core that was loaded
pub ready_loaded : (journal : JournalState) (core : CoreState) (config : Config)
    (told told' : Option (List ℕ)) → journal.names ≡ config.names → journal.broken ≡ false
    → DaysGoOn first_numbers journal.entries → core ≡ loaded config (last_day journal.entries)
    → ForSome told (λ b. JournalOf b (Born journal.names journal.entries)) → told' ≡ told
    → IsReady (record { journal = journal; core = core; client_up = false; venue_up = false }) told'
ready_loaded journal core config told told' names whole sound is stands same =
    subst (λ (k : CoreState). IsReady (record {
      journal = journal;
      core = k;
      client_up = false;
      venue_up = false;
    }) told') (sym is) (record {
      names = names;
      whole = whole;
      sound = sound;
      chains = refl;
      sides = record { client = refl; venue = refl };
      numbers = last_numbers journal.entries sound;
      stands = subst (λ t. ForSome t (λ b. JournalOf b (Born journal.names journal.entries)))
          (sym same) stands;
    })

-- ---- of a disk that was refused, and of one that was not unborn

pub refused_of : {T : Type 0} (R : Type 0) (r : Result T LifeEnd) (end : LifeEnd)
    → IsErrAnd r (λ e. e ≡ end) → IfRefused end R → IfErr r (λ e. IfRefused e R)
refused_of R (Ok value) end is refused = tt
refused_of R (Err e) end is refused =
    subst (λ (x : LifeEnd). IfRefused x R) (sym is) refused

-- a disk that is no journal of these names is not unborn, so it was only read
pub read_foreign : (R : Type 0) (names : Names) (told : Option (List ℕ))
    → IfSome told (λ b. JournalOf b Unborn ⊎ R) → IfSome told (λ b. IsForeign names b → R)
read_foreign R names None h = tt
read_foreign R names (Some b) (inl unborn) = λ foreign. absurd (foreign [] (inr (unborn, refl)))
read_foreign R names (Some b) (inr read) = λ foreign. read
