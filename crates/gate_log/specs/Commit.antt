-- Own: what a commit does to the images of a disk.
use Rattle.std.specs.Prelude.{ℕ, ◌⊎◌, List, [], ◌∷◌, ◌++◌, IfSome}
use Rattle.std.specs.declared.option.Option.{Option}
use Rattle.outside.specs.Disk.{Only}
use Rattle.gate_log.specs.Records.{Stands}

-- the list, or the list with one payload more
abbrev pub WithOrWithout : List (List ℕ) → List ℕ → List ℕ → Type 0
WithOrWithout payloads payload image =
    Stands image payloads ⊎ Stands image (payloads ++ payload ∷ [])

-- Where the one image of a disk stands for a list, each image afterwards stands for it, with the
-- payload or without.
pub record CommitsOrNot (told : Option (List ℕ))
    (before after : List ℕ → Type 0) (payload : List ℕ) : Type 0 where
  pub each : IfSome told (λ bytes. Only bytes before →
      (payloads : List (List ℕ)) → Stands bytes payloads →
      (image : List ℕ) → after image → WithOrWithout payloads payload image)

-- the disk's bytes stand for the list with the payload
pub record Commits (old new : Option (List ℕ)) (payload : List ℕ) : Type 0 where
  pub added : IfSome old (λ bytes. (payloads : List (List ℕ)) → Stands bytes payloads →
      IfSome new (λ after. Stands after (payloads ++ payload ∷ [])))
