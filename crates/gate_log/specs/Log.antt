-- Own: what contracts see of a log, and what its calls answer.
use Rattle.std.specs.Prelude.{◌≡◌, ◌⊎◌, ℕ, ◌+◌, ◌-◌, ◌≤◌, ◌<◌, List, [], ◌∷◌, ◌++◌, length}
use Rattle.std.specs.Prelude.{true, Some, None, IfSome, Result, Ok, Err}
use Rattle.std.specs.declared.option.Option.{Option}
use Rattle.outside.specs.declared.disk.TheConstants.{MAX_DISK}
use Rattle.outside.specs.Causes.{Rose}
use Rattle.outside.specs.Disk.{Only, AreAmong, HasOneImage}
use Rattle.gate_log.specs.declared.error.LogError.{LogError}
use Rattle.gate_log.specs.declared.error.LogError.TheVariants as errors
use Rattle.gate_log.specs.Records.{blocks, Stands, IsUnborn, IsRefused}
use Rattle.gate_log.specs.State.{LogState}

-- what a call that only reads leaves of a disk
pub record OnlyRead (told_old told_new : Option (List ℕ)) (before after : List ℕ → Type 0) : Type 0
  where
    pub same : told_new ≡ told_old
    pub images : AreAmong after before
    pub kept : AreAmong before after

-- the same of a disk before and after a call, given what it tells and its images
abbrev pub OnlyReads : {S : Type 0}
    → (S → Option (List ℕ)) → (S → List ℕ → Type 0) → S → S → Type 0
OnlyReads bytes image old new = OnlyRead (bytes old) (bytes new) (image old) (image new)

-- a disk fault comes only where the count of faults rose, and else the count stands still
abbrev pub HasFaultCause : {T : Type 0} → ℕ → ℕ → Result T LogError → Type 0
HasFaultCause before now (Err errors.DiskFault) = (before ≤ now) × Rose before now
HasFaultCause before now answer = now ≡ before

-- THE BYTES OF A DISK STAND FOR THESE PAYLOADS, of which a log keeps the number and the end.
pub record IsOver (log : LogState) (bytes : List ℕ) (payloads : List (List ℕ)) : Type 0 where
  pub stands : Stands bytes payloads
  pub number : log.count ≡ length payloads
  pub end : log.end ≡ length (blocks payloads)

abbrev pub StandsOver : LogState → List ℕ → Type 0
StandsOver log bytes = (payloads : List (List ℕ)) × IsOver log bytes payloads

-- What a look at these bytes answers: a log exactly where they stand for records, none exactly
-- where they are unborn, a refusal exactly where they are refused at that place.
abbrev pub Looks : List ℕ → Result (Option LogState) LogError → Type 0
Looks bytes (Ok None) = Stands bytes []
Looks bytes (Ok (Some log)) = StandsOver log bytes
Looks bytes (Err (errors.Foreign at)) = IsRefused bytes at
Looks bytes (Err errors.Full) = ⊥
Looks bytes (Err other) = Unit {0}

-- What a load of these bytes answers, and what the disk tells then. An unborn log gets its birth
-- record.
abbrev pub Loads : List ℕ → List ℕ → Result LogState LogError → Option (List ℕ) → Type 0
Loads birth bytes (Ok log) told = (payloads : List (List ℕ))
    × (Stands bytes payloads ⊎ (Stands bytes [] × (payloads ≡ birth ∷ [])))
    × IfSome told (λ after. IsOver log after payloads)
Loads birth bytes (Err (errors.Foreign at)) told = IsRefused bytes at × (told ≡ Some bytes)
Loads birth bytes (Err errors.Full) told = ⊥
Loads birth bytes (Err other) told = Unit {0}

-- where the one image of a disk stands for a list, each image after a load stands for it, or the
-- list was empty and has its birth record
abbrev pub BornOrNot : Option (List ℕ) → (List ℕ → Type 0) → (List ℕ → Type 0) → List ℕ → Type 0
BornOrNot told before after birth = IfSome told (λ bytes. Only bytes before →
    (payloads : List (List ℕ)) → Stands bytes payloads → (image : List ℕ) → after image →
    Stands image payloads ⊎ ((payloads ≡ []) × Stands image (birth ∷ [])))

-- the record of this payload, with the gate behind it, ends within a disk
abbrev pub HasRoom : List (List ℕ) → List ℕ → Type 0
HasRoom payloads payload = length (blocks payloads) + 5 + length payload < MAX_DISK

-- What an append answers: the place of the record, which is now the last; `Full` exactly where it
-- has no room, and then nothing changed; or a disk fault, after which the log is broken.
abbrev pub Appends : List ℕ → LogState → LogState → Result ℕ LogError → Type 0
Appends payload old new (Ok place) =
    (place ≡ old.end) × (old.end + 5 + length payload < MAX_DISK)
    × (new ≡ record old {
      end = old.end + 5 + length payload;
      count = old.count + 1;
      spare = old.spare - 1;
    })
Appends payload old new (Err errors.DiskFault) =
    (old.end + 5 + length payload < MAX_DISK) × (new ≡ record old { broken = true })
Appends payload old new (Err errors.Full) =
    (MAX_DISK ≤ old.end + 5 + length payload) × (new ≡ old)
Appends payload old new (Err other) = ⊥

-- a payload of the list, and its place
pub record IsAt (payloads : List (List ℕ)) (at : ℕ) (payload : List ℕ) : Type 0 where
  pub before : List (List ℕ)
  pub after : List (List ℕ)
  pub split : payloads ≡ before ++ payload ∷ after
  pub place : at ≡ length (blocks before)

-- what was read at this place, where the disk tells its bytes and a payload of their list stands
-- there
abbrev pub ReadsPayload : Option (List ℕ) → ℕ → List ℕ → Type 0
ReadsPayload told at read = IfSome told (λ bytes. (payloads : List (List ℕ)) (payload : List ℕ)
    → Stands bytes payloads → IsAt payloads at payload → read ≡ payload)

-- where the disk tells its bytes, no payload of their list stands at this place
abbrev pub HasNoPayload : Option (List ℕ) → ℕ → Type 0
HasNoPayload told at = IfSome told (λ bytes. (payloads : List (List ℕ)) (payload : List ℕ)
    → Stands bytes payloads → IsAt payloads at payload → ⊥)

-- where the one image of a disk is unborn, each image then is
abbrev pub StaysUnborn : Option (List ℕ) → (List ℕ → Type 0) → (List ℕ → Type 0) → Type 0
StaysUnborn told before after = IfSome told (λ bytes. Only bytes before → AreAmong after IsUnborn)

-- a disk that had one image has one again
abbrev pub KeepsOneImage : Option (List ℕ)
    → Option (List ℕ) → (List ℕ → Type 0) → (List ℕ → Type 0) → Type 0
KeepsOneImage told_old told_new before after =
    HasOneImage told_old before → HasOneImage told_new after
