-- Own: bytes of a disk that were read at once, and the payload that was found among them.
use Rattle.std.specs.Prelude.{◌≡◌, ◌+◌, ◌-◌, ◌≤◌, ℕ, List, ◌∷◌, ◌++◌, length, take, drop, min, IfSome}
use Rattle.std.specs.Int.{w32, to_be_bytes}
use Rattle.std.specs.Vec.{vec_capacity}
use Rattle.std.specs.declared.option.Option.{Option}
use Rattle.gate_log.specs.declared.TheConstants.{MAX_PAYLOAD}
use Rattle.gate_log.specs.declared.chunk.TheConstants.{CHUNK_LEN}
use Rattle.gate_log.specs.declared.chunk.Chunk.TheInside.{Inside}

pub record Part : Type 0 where
  -- the place of the first byte
  pub place : ℕ
  pub bytes : List ℕ
  -- the payload that was found last
  pub payload : List ℕ

abbrev pub part_of : Inside → Part
part_of chunk = record {
  place = chunk.place;
  bytes = chunk.bytes.items;
  payload = take chunk.len (drop chunk.from chunk.bytes.items);
}

-- there is room for them, and the payload is one of a record
pub record IsWhole (chunk : Inside) : Type 0 where
  pub room : CHUNK_LEN ≤ vec_capacity chunk.bytes
  pub within : chunk.from + chunk.len ≤ length chunk.bytes.items
  pub sized : chunk.len ≤ MAX_PAYLOAD

-- these bytes stand from a place on
abbrev pub StandsAt : List ℕ → ℕ → List ℕ → Type 0
StandsAt bytes at part = part ≡ take (length part) (drop at bytes)

-- these are the bytes from a place on, as many as there are and at most so many
abbrev pub IsFront : (at most : ℕ) → List ℕ → List ℕ → Type 0
IsFront at most part bytes = (length part ≡ min most (length bytes - at)) × StandsAt bytes at part

-- where the disk tells its bytes, these are among them
abbrev pub IsOf : Option (List ℕ) → Part → Type 0
IsOf told part = IfSome told (λ bytes. StandsAt bytes part.place part.bytes)

-- these are among the bytes of any disk: there are none
abbrev pub IsOfAny : Part → Type 0
IsOfAny part = (told : Option (List ℕ)) → IsOf told part

-- these begin with the record of a payload, behind an open gate
abbrev pub BeginsWith : List ℕ → List ℕ → Type 0
BeginsWith bytes payload = (length payload ≤ MAX_PAYLOAD)
    × (rest : List ℕ) × (bytes ≡ 1 ∷ to_be_bytes w32 (length payload) ++ payload ++ rest)
