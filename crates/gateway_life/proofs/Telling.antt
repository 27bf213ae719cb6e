-- What holds where a disk tells its bytes.
use Rattle.std.proofs.Common.{◌≡◌, true, List, refl, sym, ◌∙◌, subst, Some, None, Ok, Err, ℕ}
use Rattle.std.specs.Prelude.{Result, OnErr, IfErr, IfSome, IsErrAnd, is_some}
use Rattle.std.specs.declared.option.Option.{Option}
use Rattle.std.specs.Option.{ForSome}
use Rattle.outside.specs.Disk.{HasOneImage}
use Rattle.order_meaning.specs.declared.names.Names.{Names}
use Rattle.pair_entries.specs.declared.entry.Entry.{Entry}
use Rattle.pair_journal.specs.declared.error.JournalError.{JournalError}
use Rattle.pair_journal.specs.declared.error.JournalError.TheVariants as errors
use Rattle.pair_journal.specs.Calls.{RefusedUntold}
use Rattle.pair_journal.specs.Journal.{JournalOf, Born}
use Rattle.event_decisions.specs.Event.{Event}
use Rattle.life_laws.specs.Happens.{World}
use Rattle.gateway_config.specs.declared.config.Config.{Config}
use Rattle.gateway_life.specs.declared.end.LifeEnd.{LifeEnd}
use Rattle.gateway_life.specs.declared.end.LifeEnd.TheVariants as ends
use Rattle.gateway_life.specs.Ended.{end_of}
use Rattle.gateway_life.specs.Fails.{IsWhy}
use Rattle.gateway_life.specs.Life.{IfRefused}
use Rattle.gateway_life.specs.Ready.{IfTold, LeavesOf}
use Rattle.gateway_life.specs.Stepped.{IsNotDone, EndsEvent}

-- of an error that `?` handed on
pub err_is : {T : Type 0} (r : Result T LifeEnd) (error : LifeEnd) (P : LifeEnd → Type 0)
    → IsErrAnd r (λ e. e ≡ error) → P error → IfErr r P
err_is (Ok value) error P is p = tt
err_is (Err end) error P is p = subst P (sym is) p

pub some_told : (told : Option (List ℕ)) (P : Type 0) → ForSome told (λ b. P) → IfTold told P
some_told None P h t = absurd (cc t)
some_told (Some b) P h t = h b refl

pub on_err_told : {T E : Type 0} (r : Result T E) (told : Option (List ℕ)) (P : Type 0)
    → IfTold told P → OnErr r (IfTold told P)
on_err_told (Ok value) told P h = tt
on_err_told (Err error) told P h = h

pub leaves_told : (told : Option (List ℕ)) (i0 i1 : List ℕ → Type 0) (names : Names)
    (P : List Entry → Type 0) → (is_some told ≡ true → LeavesOf told i0 i1 names P)
    → LeavesOf told i0 i1 names P
leaves_told None i0 i1 names P h = tt
leaves_told (Some b) i0 i1 names P h = h refl

pub if_told : (told : Option (List ℕ)) (Q : List ℕ → Type 0)
    → (is_some told ≡ true → IfSome told Q) → IfSome told Q
if_told None Q h = tt
if_told (Some b) Q h = h refl

-- what is left is said of the disk as it was before
pub leaves_from : (t0 t1 : Option (List ℕ)) (i0 i1 i2 : List ℕ → Type 0) (names names' : Names)
    (P Q : List Entry → Type 0) → is_some t1 ≡ is_some t0 → (HasOneImage t0 i0 → HasOneImage t1 i1)
    → names' ≡ names → ((xs : List Entry) → P xs → Q xs) → LeavesOf t1 i1 i2 names' P
    → LeavesOf t0 i0 i2 names Q
leaves_from None t1 i0 i1 i2 names names' P Q told one same to h = tt
leaves_from (Some b) None i0 i1 i2 names names' P Q told one same to h = absurd (cc told)
leaves_from (Some b) (Some c) i0 i1 i2 names names' P Q told one same to h = λ only bytes left.
    let found = h (one only) bytes left in
    (found.0, subst (λ n. JournalOf bytes (Born n found.0)) same found.1, to found.0 found.2)

pub leaves_map : (told : Option (List ℕ)) (i0 i1 : List ℕ → Type 0) (names : Names)
    (P Q : List Entry → Type 0) → ((xs : List Entry) → P xs → Q xs) → LeavesOf told i0 i1 names P
    → LeavesOf told i0 i1 names Q
leaves_map told i0 i1 names P Q =
    leaves_from told told i0 i0 i1 names names P Q refl (λ one. one) refl

-- ---- how an event ends a life

no_bytes : (told : Option (List ℕ)) → is_some told ≡ true → told ≡ None → ⊥
no_bytes None t none = cc t
no_bytes (Some b) t none = cc none

-- a read that failed over such a disk
pub only_fault : (told : Option (List ℕ)) (error : JournalError) → is_some told ≡ true
    → RefusedUntold {T = Unit {0}} told (Err error) → (error ≡ errors.NoMemory → ⊥)
    → error ≡ errors.DiskFault
only_fault told errors.DiskFault t only memory = refl
only_fault told (errors.Refused place) t only memory = absurd (no_bytes told t only)
only_fault told (errors.NamesDiffer kept given) t only memory = absurd only
only_fault told errors.Full t only memory = absurd only
only_fault told errors.NoMemory t only memory = absurd (memory refl)

-- by a read, over any disk
pub act_event : (told : Option (List ℕ)) (error : JournalError)
    → RefusedUntold {T = Unit {0}} told (Err error) → EndsEvent told (end_of error)
act_event told (errors.Refused place) only =
    record { not_done = tt; of_event = λ t. absurd (no_bytes told t only) }
act_event told errors.DiskFault only = record { not_done = tt; of_event = λ t. tt }
act_event told errors.NoMemory only = record { not_done = tt; of_event = λ t. tt }
act_event told error only = absurd only

-- by what was decided
pub made_event : (told : Option (List ℕ)) (end : LifeEnd) (config : Config) (past : List Entry)
    (before : World) (event : Event) (now : ℕ) → IsWhy end config past before event now
    → EndsEvent told end
made_event told ends.Done config past before event now why = absurd why
made_event told (ends.JournalRefused place) config past before event now why = absurd why
made_event told (ends.NamesDiffer kept given) config past before event now why = absurd why
made_event told end config past before event now why =
    record { not_done = tt; of_event = λ t. tt }

-- the same of a disk that tells as much
pub same_event : (t0 t1 : Option (List ℕ)) (end : LifeEnd) → is_some t1 ≡ is_some t0
    → EndsEvent t1 end → EndsEvent t0 end
same_event t0 t1 end same h =
    record { not_done = h.not_done; of_event = λ t. h.of_event (same ∙ t) }

-- ---- of a whole life

pub idle_done : (told : Option (List ℕ)) → IfSome told (λ b. Unit {0})
idle_done None = tt
idle_done (Some b) = tt

pub refused_told : (told : Option (List ℕ)) (end : LifeEnd) (P Q : Type 0)
    → (IfRefused end P → IfRefused end Q) → IfTold told (IfRefused end P)
    → IfSome told (λ b. IfRefused end Q)
refused_told None end P Q f h = tt
refused_told (Some b) end P Q f h = f (h refl)

pub told_err : {T : Type 0} (r : Result T LifeEnd) (told : Option (List ℕ)) (P : LifeEnd → Type 0)
    → IfErr r P → IfErr r (λ end. IfTold told (P end))
told_err (Ok value) told P h = tt
told_err (Err end) told P h = λ t. h

pub ended_event : {T : Type 0} (r : Result T LifeEnd) (told : Option (List ℕ))
    → IfErr r (EndsEvent told) → IfErr r IsNotDone
ended_event (Ok value) told h = tt
ended_event (Err end) told h = h.not_done
