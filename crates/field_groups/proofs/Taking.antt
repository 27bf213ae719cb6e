-- The fields that were taken from the front of a body.
use Rattle.std.proofs.Common.{◌≡◌, ℕ, ◌≤◌, List, [], ◌∷◌, ◌++◌, length, Option, Some, None}
use Rattle.std.proofs.Common.{refl}
use Rattle.std.specs.List.{last_or}
use Rattle.field_groups.specs.Field.{Field, IsField, AreFields, body_of}
use Rattle.field_groups.specs.Fields.{max_fields}

-- these fields were taken from the front of a body, and this is left of it
pub record Taken (body : List ℕ) (fields : List Field) (left : List ℕ) : Type 0 where
  pub good : AreFields None fields
  pub at_most : length fields ≤ max_fields
  pub written : body ≡ body_of fields ++ left

-- one more field
pub one_more : (before : Option Field) (fs : List Field) (f : Field)
    → AreFields before fs → IsField (last_or before fs) f → AreFields before (fs ++ f ∷ [])
one_more before [] f are is = (is, tt)
one_more before (g ∷ fs) f are is = (are.0, one_more (Some g) fs f are.1 is)

-- the field that stands last is the one that was added
pub last_pushed : (before : Option Field) (fs : List Field) (f : Field)
    → last_or before (fs ++ f ∷ []) ≡ Some f
last_pushed before [] f = refl
last_pushed before (g ∷ fs) f = last_pushed (Some g) fs f
