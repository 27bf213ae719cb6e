-- Inside: the two steps of a commit, the record behind its closed gate and then the gate.
use Rattle.std.specs.Prelude.{◌≡◌, ◌≢◌, ℕ, ◌+◌, ◌≤◌, ◌<◌, List, ◌∷◌, ◌++◌, length, Some, IfSome}
use Rattle.std.specs.declared.option.Option.{Option}
use Rattle.std.specs.Option.{ForSome}
use Rattle.outside.specs.declared.disk.TheConstants.{MAX_DISK}
use Rattle.outside.specs.Disk.{Only, AreAmong, Torn, Follows}
use Rattle.gate_log.specs.Records.{blocks, record_of, IsLog, Stands, Fits, AllFit}

-- A log's closing gate stands at this place, and this payload may be its next.
pub record EndsAt (end : ℕ) (payload image : List ℕ) : Type 0 where
  pub payloads : List (List ℕ)
  pub log : IsLog image payloads
  pub stands : Stands image payloads
  pub fits : Fits payloads payload
  pub place : end ≡ length (blocks payloads)

-- A log's closing gate stands at this place, and the record of this payload behind it.
pub record StagedAt (end : ℕ) (payload image : List ℕ) : Type 0 where
  pub payloads : List (List ℕ)
  pub gate : ℕ
  pub after : List ℕ
  pub split : image ≡ blocks payloads ++ gate ∷ (record_of payload ++ after)
  pub shut : gate ≢ 1
  pub fit : AllFit payloads
  pub stands : Stands image payloads
  pub fits : Fits payloads payload
  pub place : end ≡ length (blocks payloads)

-- the same of the bytes of a disk, where it tells them
pub record Ends (told : Option (List ℕ)) (end : ℕ) (payload : List ℕ) : Type 0 where
  pub each : ForSome told (EndsAt end payload)
  pub reaches : ForSome told (λ bytes. end + 1 ≤ length bytes)

pub record Staged (told : Option (List ℕ)) (end : ℕ) (payload : List ℕ) : Type 0 where
  pub each : ForSome told (StagedAt end payload)
  pub reaches : ForSome told (λ bytes. end ≤ length bytes)
  pub room : end + 5 + length payload < MAX_DISK

-- each new image is an old one after a write of n bytes that a crash cuts short
pub record IsTorn (at n : ℕ) (before after : List ℕ → Type 0) : Type 0 where
  pub each : Follows (Torn at n) before after

-- where the one image of a disk stands for a list, each image afterwards stands for it
pub record KeepsImages (told : Option (List ℕ)) (before after : List ℕ → Type 0) : Type 0 where
  pub each : IfSome told (λ bytes. Only bytes before →
      (payloads : List (List ℕ)) → Stands bytes payloads →
      AreAmong after (λ image. Stands image payloads))

-- the disk tells its bytes as before, and they stand for the same list
pub record KeepsBytes (old new : Option (List ℕ)) : Type 0 where
  pub each : (bytes : List ℕ) → old ≡ Some bytes → (next : List ℕ) × (new ≡ Some next) ×
      ((payloads : List (List ℕ)) → Stands bytes payloads → Stands next payloads)
