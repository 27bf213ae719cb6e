-- What two walks say of a migration.
use Rattle.std.proofs.Common.{◌≡◌, ◌≢◌, inl, inr, ℕ, ◌+◌, ◌-◌, ◌*◌, ◌<◌, ◌≤◌, List, [], refl, sym}
use Rattle.std.proofs.Common.{◌∙◌, ap, subst, arith, Some, None, IfSome, Result, Ok, Err, IsErrAnd}
use Rattle.std.specs.Prelude.{⊤}
use Rattle.std.specs.Option.{ForSome}
use Rattle.std.specs.declared.option.Option.{Option}
use Rattle.std.proofs.KnownBytes.{Appends-nil}
use Rattle.outside.specs.declared.disk.TheConstants.{MAX_DISK}
use Rattle.order_meaning.specs.declared.names.Names.{Names}
use Rattle.gate_log.specs.Log as log
use Rattle.gate_log.specs.State.{LogState}
use Rattle.gate_log.specs.declared.error.LogError.{LogError}
use Rattle.gate_log.specs.declared.error.LogError.TheVariants as log_errors
use Rattle.gate_log.specs.Records.{IsRefused, Stands}
use Rattle.gate_log.proofs.Told.{if_some, at_some}
use Rattle.pair_entries.specs.declared.entry.Entry.{Entry}
use Rattle.pair_journal.specs.Journal.{Born, Refused}
use Rattle.journal_migrate.specs.declared.migrating.MigrateError.{MigrateError}
use Rattle.journal_migrate.specs.declared.migrating.MigrateError.TheVariants as errors
use Rattle.journal_migrate.specs.Format1.{JournalOf1}
use Rattle.journal_migrate.specs.Migrating.{image_of, Migrates, FailsBy}
use Rattle.journal_migrate.specs.Walk.{Walks, migrate_error}
use Rattle.journal_migrate.proofs.OneReading.{born_refused}
use Rattle.journal_migrate.proofs.Twins.{twin, too_long}

-- an error that a call handed on
pub answered : (result : Result ⊤ MigrateError) (error : MigrateError)
    (told old new : Option (List ℕ)) → IsErrAnd result (λ e. e ≡ error)
    → IfSome told (λ b. Migrates {T = ⊤} b (Err error) old new)
    → IfSome told (λ b. Migrates b result old new)
answered (Ok value) error told old new is migrates = absurd is
answered (Err e) error told old new is migrates =
    subst (λ (x : MigrateError). IfSome told (λ b. Migrates {T = ⊤} b (Err x) old new)) (sym is)
    migrates

-- where nothing can be told to fail, nothing fails
pub no_output : (e : MigrateError) → FailsBy {T = ⊤} errors.OutputFault 0 0 (Err e)
    → e ≢ errors.OutputFault
no_output e fails is = omega (arith, fails.failed (ap Err is))

-- the log that was found
pub found_log : (told here : Option (List ℕ)) (found : Option LogState) (state : LogState)
    → here ≡ told → found ≡ Some state → IfSome told (λ b. log.Looks b (Ok found))
    → ForSome here (log.StandsOver state)
found_log told here found state same is looks b e =
    at_some told (λ x. log.Looks x (Ok (Some state))) b (sym same ∙ e)
    (subst (λ (f : Option LogState). IfSome told (λ x. log.Looks x (Ok f))) is looks)

-- what a look at the log refuses, or could not read
pub refused : (told old : Option (List ℕ)) (e : LogError)
    → IfSome told (λ b. log.Looks b (Err e))
    → IfSome told (λ b. Migrates {T = ⊤} b (Err (migrate_error e)) old old)
refused told old (log_errors.Foreign at) looks = if_some told _ (λ b e.
    (inl (at_some told (λ x. IsRefused x at) b e looks), Appends-nil old))
refused told old log_errors.Full looks =
    if_some told _ (λ b e. absurd (at_some told (λ x. ⊥) b e looks))
refused told old log_errors.DiskFault looks = if_some told _ (λ b e. inl (Appends-nil old))
refused told old log_errors.NoMemory looks = if_some told _ (λ b e. inl (Appends-nil old))

-- no journal yet
pub unborn : (value : ⊤) (told old : Option (List ℕ))
    → IfSome told (λ b. Stands b []) → IfSome told (λ b. Migrates {T = ⊤} b (Ok value) old old)
unborn value told old stands = if_some told _ (λ b e.
    inl (at_some told (λ x. Stands x []) b e stands, Appends-nil old))

-- a walk that puts nothing gave up; where nothing is put no output fails
pub not_read : (told old : Option (List ℕ)) (e : MigrateError)
    → e ≢ errors.OutputFault → IfSome told (λ b. Walks {T = ⊤} b (Err e) None None)
    → IfSome told (λ b. Migrates {T = ⊤} b (Err e) old old)
not_read told old (errors.Refused at) other walks = if_some told _ (λ b e.
    (at_some told (λ x. JournalOf1 x (Refused at)) b e walks, Appends-nil old))
not_read told old errors.Full other walks =
    if_some told _ (λ b e. absurd (at_some told (λ x. ⊥) b e walks))
not_read told old errors.OutputFault other walks = absurd (other refl)
not_read told old errors.DiskFault other walks = if_some told _ (λ b e. inl (Appends-nil old))
not_read told old errors.NoMemory other walks = if_some told _ (λ b e. inl (Appends-nil old))

module _ (told : Option (List ℕ)) (state : LogState)
    (stands : ForSome told (log.StandsOver state)) (value : ⊤)
    (read : IfSome told (λ b. Walks {T = ⊤} b (Ok value) None None)) where
  read_at : (b : List ℕ) → told ≡ Some b
      → (names : Names) × (entries : List Entry) × JournalOf1 b (Born names entries)
  read_at b e =
      let x = at_some told (λ x. Walks {T = ⊤} x (Ok value) None None) b e read in (x.0, x.1, x.2)

  pub full : (old : Option (List ℕ)) → MAX_DISK ≤ state.end + 4 * (state.count - 1)
      → IfSome told (λ b. Migrates {T = ⊤} b (Err errors.Full) old old)
  full old long = if_some told _ (λ b e.
      let one = read_at b e in
      (too_long b state (stands b e) one.0 one.1 one.2 long, Appends-nil old))

  pub put : (old new : Option (List ℕ)) (result : Result ⊤ MigrateError)
      → state.end + 4 * (state.count - 1) < MAX_DISK
      → IfSome told (λ b. Walks b result old new) → IfSome told (λ b. Migrates b result old new)
  put old new result short walks = if_some told _ (λ b e.
      by b e result (at_some told (λ x. Walks x result old new) b e walks))
    where
      by : (b : List ℕ) → told ≡ Some b → (r : Result ⊤ MigrateError) → Walks b r old new
          → Migrates b r old new
      by b e (Ok value) (names, entries, born, all) = inr
          (image_of names entries, twin b state (stands b e) names entries born short, all)
      by b e (Err (errors.Refused at)) is =
          let one = read_at b e in absurd (born_refused b one.0 one.1 at one.2 is)
      by b e (Err errors.Full) is = absurd is
      by b e (Err errors.OutputFault) is =
          let one = read_at b e in (
            image_of one.0 one.1,
            twin b state (stands b e) one.0 one.1 one.2 short,
            is one.0 one.1 one.2,
          )
      by b e (Err errors.DiskFault) is =
          let one = read_at b e in inr (
            image_of one.0 one.1,
            twin b state (stands b e) one.0 one.1 one.2 short,
            is one.0 one.1 one.2,
          )
      by b e (Err errors.NoMemory) is =
          let one = read_at b e in inr (
            image_of one.0 one.1,
            twin b state (stands b e) one.0 one.1 one.2 short,
            is one.0 one.1 one.2,
          )
