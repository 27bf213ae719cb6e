-- Inside: what one walk over a disk finds.
use Rattle.std.specs.Prelude.{◌≡◌, ◌⊎◌, ◌≤◌, ◌<◌, ◌+◌, ◌^◌, ℕ, List, [], ◌∷◌, ◌++◌, length, Bool}
use Rattle.std.specs.Prelude.{true, ⊤, ◌==◌, ◌&&◌, nat_le, if◌then◌else◌}
use Rattle.std.specs.Int.{w32, to_be_bytes}
use Rattle.outside.specs.declared.disk.TheConstants.{MAX_DISK}
use Rattle.gate_log.specs.Records.{blocks, IsShut, IsUnborn, IsRefused, Stands}
use Rattle.gate_log.specs.declared.TheConstants.{BIRTH_LEN, MAX_PAYLOAD, UNBORN_LEN}
use Rattle.gate_log.specs.declared.head.Head.{Head}
use Rattle.gate_log.specs.declared.head.Head.TheVariants as heads
use Rattle.gate_log.specs.declared.scan.Step.{Step}
use Rattle.gate_log.specs.declared.scan.Step.TheVariants as steps
use Rattle.gate_log.specs.declared.scan.Found.{Found}
use Rattle.gate_log.specs.declared.scan.Found.TheVariants as found

-- what these bytes, from a gate on, begin with
abbrev pub IsHead : List ℕ → Head → Type 0
IsHead bytes heads.Shut = IsShut bytes
IsHead bytes (heads.Open len) =
    (len < 2 ^ 32) × (rest : List ℕ) × (bytes ≡ 1 ∷ (to_be_bytes w32 len ++ rest))
IsHead bytes heads.Cut =
    (behind : List ℕ) × (length behind < 4) × ((bytes ≡ []) ⊎ (bytes ≡ 1 ∷ behind))

-- whether a payload behind a gate at this place may have this length
abbrev pub fits_at : ℕ → ℕ → Bool
fits_at at len = if at == 0 then len == BIRTH_LEN else nat_le 1 len && nat_le len MAX_PAYLOAD

-- a payload of this length and the next gate fit behind a gate at this place, into so many bytes
abbrev pub GoesOn : (at len size : ℕ) → Type 0
GoesOn at len size = (fits_at at len ≡ true) × (at + 5 + len < size) × (at + 5 + len < MAX_DISK)

-- what a walk does at a gate where this stands, of so many bytes
abbrev pub IsStep : Head → (at size : ℕ) → Step → Type 0
IsStep head at size steps.End = head ≡ heads.Shut
IsStep head at size (steps.On len) = (head ≡ heads.Open len) × GoesOn at len size
IsStep head at size steps.Break = (head ≡ heads.Cut)
    ⊎ ((len : ℕ) × (head ≡ heads.Open len) × (GoesOn at len size → ⊥))

-- so many records, and the closing gate at this place
pub record HasRecords (image : List ℕ) (count at : ℕ) : Type 0 where
  pub payloads : List (List ℕ)
  pub stands : Stands image payloads
  pub number : count ≡ length payloads
  pub end : at ≡ length (blocks payloads)

abbrev pub IsFound : List ℕ → Found → Type 0
IsFound image found.Unborn = IsUnborn image
IsFound image (found.Records count end) = HasRecords image count end
IsFound image (found.Refused at) = IsRefused image at

-- what a walk found that came to a closed gate
abbrev pub found_at : (count end size : ℕ) → Found
found_at count end size = if nat_le 1 count then found.Records count end
    else (if nat_le size UNBORN_LEN then found.Unborn else found.Refused 0)

-- what was found lies within a disk, whatever that tells
abbrev pub IsWithin : Found → Type 0
IsWithin (found.Records count end) = (1 ≤ count) × (count ≤ end) × (end < MAX_DISK)
IsWithin other = ⊤
