-- Own: what the bytes of a journal stand for; docs/DEFINITIONS.md, "Disk and journal".
use Rattle.std.specs.Prelude.{◌≡◌, ◌⊎◌, ℕ, List, [], ◌∷◌, ◌++◌, length}
use Rattle.order_meaning.specs.declared.names.Names.{Names}
use Rattle.gate_log.specs.Records.{blocks, Stands, IsRefused}
use Rattle.pair_entries.specs.declared.entry.Entry.{Entry}
use Rattle.pair_entries.specs.Payload.{IsEntry}
use Rattle.pair_entries.specs.Birth.{birth_bytes, AreNames}
use Rattle.kept_entries.specs.Numbers.{GoesOn, first_numbers, numbers_before, numbers_after}
use Rattle.kept_entries.specs.Entries.{DaysGoOn}
use Rattle.kept_entries.specs.Days.{dated, payload_behind}

-- these payloads are those of a journal of these names and entries
pub record Spells (payloads : List (List ℕ)) (names : Names) (entries : List Entry) : Type 0 where
  pub written : payloads ≡ birth_bytes names ∷ dated 0 entries
  pub named : AreNames names
  pub sound : DaysGoOn first_numbers entries

-- a payload that is not of the right form behind the earlier ones, which are
abbrev pub IsMisspelt : List (List ℕ) → List ℕ → Type 0
IsMisspelt [] payload = (names : Names) → AreNames names → payload ≡ birth_bytes names → ⊥
IsMisspelt (birth ∷ before) payload = (names : Names) (entries : List Entry) (entry : Entry) →
    birth ∷ before ≡ birth_bytes names ∷ dated 0 entries
    → DaysGoOn first_numbers entries → IsEntry entry
    → GoesOn (numbers_before (numbers_after first_numbers entries) entry) entry
    → payload ≡ payload_behind entries entry → ⊥

-- the first payload that is not of the right form stands at this place
pub record Misspells (payloads : List (List ℕ)) (at : ℕ) : Type 0 where
  pub before : List (List ℕ)
  pub payload : List ℕ
  pub after : List (List ℕ)
  pub split : payloads ≡ before ++ payload ∷ after
  pub place : at ≡ length (blocks before)
  pub sound : (before ≡ [])
      ⊎ ((names : Names) × (entries : List Entry) × Spells before names entries)
  pub none : IsMisspelt before payload

-- what the bytes of a disk stand for
pub data Reading : Type 0 where
  Unborn : Reading
  Born : (names : Names) (entries : List Entry) → Reading
  Refused : (at : ℕ) → Reading

-- the bytes of a disk, and what they stand for
abbrev pub JournalOf : List ℕ → Reading → Type 0
JournalOf image Unborn = Stands image []
JournalOf image (Born names entries) =
    (payloads : List (List ℕ)) × Stands image payloads × Spells payloads names entries
JournalOf image (Refused at) = IsRefused image at ⊎
    ((payloads : List (List ℕ)) × Stands image payloads × Misspells payloads at)
