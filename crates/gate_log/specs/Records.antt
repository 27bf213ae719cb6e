-- Own: what the bytes of a log stand for; docs/DEFINITIONS.md, "Disk and journal".
use Rattle.std.specs.Prelude.{◌≡◌, ◌≢◌, ℕ, ◌+◌, ◌<◌, ◌≤◌, ◌⊎◌, List, [], ◌∷◌, ◌++◌, length}
use Rattle.std.specs.Int.{w32, to_be_bytes}
use Rattle.outside.specs.declared.disk.TheConstants.{MAX_DISK}
use Rattle.gate_log.specs.declared.TheConstants.{BIRTH_LEN, MAX_PAYLOAD}

-- what is written behind a closed gate: length, payload, and the next gate, closed
abbrev pub record_of : List ℕ → List ℕ
record_of payload = to_be_bytes w32 (length payload) ++ payload ++ 0 ∷ []

-- these payloads, each behind an open gate and its length
abbrev pub blocks : List (List ℕ) → List ℕ
blocks [] = []
blocks (payload ∷ payloads) = 1 ∷ to_be_bytes w32 (length payload) ++ payload ++ blocks payloads

-- the length that a payload may have
abbrev pub IsSized : List ℕ → Type 0
IsSized payload = (1 ≤ length payload) × (length payload ≤ MAX_PAYLOAD)

-- the length of the payload behind these: the first has that of a birth record
abbrev pub Fits : List (List ℕ) → List ℕ → Type 0
Fits [] payload = length payload ≡ BIRTH_LEN
Fits (birth ∷ payloads) payload = IsSized payload

abbrev pub AllSized : List (List ℕ) → Type 0
AllSized [] = Unit {0}
AllSized (payload ∷ payloads) = IsSized payload × AllSized payloads

abbrev pub AllFit : List (List ℕ) → Type 0
AllFit [] = Unit {0}
AllFit (birth ∷ payloads) = (length birth ≡ BIRTH_LEN) × AllSized payloads

-- The image has these payloads behind open gates, and then a gate that is not open, which stands
-- before the limit. What follows is not looked at.
pub record IsLog (image : List ℕ) (payloads : List (List ℕ)) : Type 0 where
  pub gate : ℕ
  pub after : List ℕ
  pub split : image ≡ blocks payloads ++ gate ∷ after
  pub shut : gate ≢ 1
  pub fit : AllFit payloads
  pub within : length (blocks payloads) < MAX_DISK

-- it begins with a gate that is not open
abbrev pub IsShut : List ℕ → Type 0
IsShut image = (gate : ℕ) × (after : List ℕ) × (image ≡ gate ∷ after) × (gate ≢ 1)

-- at most one byte; or a birth record may be half written behind its closed gate
abbrev pub IsUnborn : List ℕ → Type 0
IsUnborn image = (length image ≤ 1) ⊎ ((length image ≤ 161) × IsShut image)

-- The image stands for this list of payloads, of which an unborn one has none.
abbrev pub Stands : List ℕ → List (List ℕ) → Type 0
Stands image [] = IsUnborn image
Stands image (birth ∷ payloads) = IsLog image (birth ∷ payloads)

-- behind an open gate at this place stand a length, so many bytes, and a next gate before the limit
pub record HoldsRecord (before : List (List ℕ)) (behind payload : List ℕ) : Type 0 where
  pub next : ℕ
  pub after : List ℕ
  pub split : behind ≡ to_be_bytes w32 (length payload) ++ payload ++ next ∷ after
  pub fits : Fits before payload
  pub within : length (blocks before) + 5 + length payload < MAX_DISK

-- The image has records, and then at this place, before the limit, an open gate behind which none
-- stands.
pub record BreaksAt (image : List ℕ) (at : ℕ) : Type 0 where
  pub before : List (List ℕ)
  pub behind : List ℕ
  pub split : image ≡ blocks before ++ 1 ∷ behind
  pub place : at ≡ length (blocks before)
  pub within : at < MAX_DISK
  pub fit : AllFit before
  pub none : (payload : List ℕ) → HoldsRecord before behind payload → ⊥

-- The image is refused at this place: it is not unborn, and either an open gate there has no
-- record, or its first gate is closed.
abbrev pub IsRefused : List ℕ → ℕ → Type 0
IsRefused image at = ((1 < length image) × BreaksAt image at) ⊎
    ((161 < length image) × (at ≡ 0) × IsShut image)
