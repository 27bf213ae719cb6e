-- What is read at a place, over a disk that may tell its bytes.
use Rattle.std.proofs.Common.{◌≡◌, ℕ, ◌≤◌, List, length, sym, ap, subst, arith}
use Rattle.std.proofs.Common.{IfSome, Result, Ok, Err, IsErrAnd}
use Rattle.std.specs.Prelude.{⊤}
use Rattle.std.specs.Option.{ForSome}
use Rattle.std.specs.declared.option.Option.{Option}
use Rattle.gate_log.specs.Records.{blocks, Stands}
use Rattle.gate_log.specs.Log.{IsAt, StandsOver, ReadsPayload}
use Rattle.gate_log.specs.State.{LogState}
use Rattle.gate_log.proofs.Blocks.{Stands-unique}
use Rattle.gate_log.proofs.Told.{if_some, at_some}
use Rattle.pair_journal.proofs.Reading.{at_within}
use Rattle.journal_migrate.specs.declared.migrating.MigrateError.{MigrateError}
use Rattle.journal_migrate.specs.declared.migrating.MigrateError.TheVariants as errors
use Rattle.journal_migrate.specs.Walk.{ReadsRecord, Unread}

-- each payload that stands at a place is so
abbrev pub AtPlace : Option (List ℕ) → ℕ → (List ℕ → Type 0) → Type 0
AtPlace told place P = IfSome told (λ b. (ps : List (List ℕ)) (p : List ℕ)
    → Stands b ps → IsAt ps place p → P p)

-- what holds of the bytes that were read holds of the payload there
pub read_so : (told : Option (List ℕ)) (place : ℕ) (read : List ℕ) (P : List ℕ → Type 0)
    → ReadsPayload told place read → P read → AtPlace told place P
read_so told place read P reads holds = if_some told _ (λ b e ps p stands there.
    subst P (at_some told (λ x. (qs : List (List ℕ)) (q : List ℕ) → Stands x qs
    → IsAt qs place q → read ≡ q) b e reads ps p stands there) holds)

-- nothing stands behind the last record
pub beyond : (told : Option (List ℕ)) (log : LogState) (place : ℕ) (P : List ℕ → Type 0)
    → ForSome told (StandsOver log) → log.end ≤ place → AtPlace told place P
beyond told log place P stands past = if_some told _ (λ b e ps p here there.
    let over = stands b e in
    absurd (omega (
      arith,
      past,
      over.1.end,
      ap (λ (l : List (List ℕ)). length (blocks l))
          (Stands-unique b over.0 ps over.1.stands here),
      at_within ps place p there,
    )))

-- a read gave up, though a payload may stand there
pub unread : (told : Option (List ℕ)) (place : ℕ) (e : MigrateError)
    (result : Result ⊤ MigrateError) (One None : List ℕ → Type 0) → IsErrAnd result (λ x. x ≡ e)
    → Unread told place e → AtPlace told place (λ p. ReadsRecord (One p) (None p) place result)
unread told place e (Ok value) One None is un = absurd is
unread told place e (Err x) One None is un = by x e is un
  where
    by : (x e : MigrateError) → x ≡ e → Unread told place e
        → AtPlace told place (λ p. ReadsRecord {T = ⊤} (One p) (None p) place (Err x))
    by x (errors.Refused at) is un = if_some told _ (λ b here ps p stands there.
        absurd (at_some told (λ y. (qs : List (List ℕ)) (q : List ℕ) → Stands y qs
        → IsAt qs place q → ⊥) b here un ps p stands there))
    by x errors.DiskFault is un = if_some told _ (λ b here ps p stands there.
        subst (λ (y : MigrateError). ReadsRecord {T = ⊤} (One p) (None p) place (Err y)) (sym is)
        tt)
    by x errors.Full is un = absurd un
    by x errors.OutputFault is un = absurd un
    by x errors.NoMemory is un = absurd un
