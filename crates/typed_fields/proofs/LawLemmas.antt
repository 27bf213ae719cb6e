-- What follows from the laws of a type.
use Rattle.std.proofs.Common.{◌≡◌, ℕ, List, Result, Ok, ap, sym, ◌∙◌}
use Rattle.typed_fields.specs.declared.fault.FieldFault.{FieldFault}
use Rattle.typed_fields.specs.Laws.{ReadsBack, AreApart, IsPlain, IsStable}

-- spellings that are read back are apart
pub apart : {A : Type 0} (read : List ℕ → Result A FieldFault) (Is : A → Type 0) (text : A → List ℕ)
    → ReadsBack read Is text → AreApart Is text
apart read Is text back x y h k e =
    let same : Ok x ≡ Ok y = sym (back x h) ∙ (ap read e ∙ back y k) in cc

-- where no byte is needless, the spelling of what bytes are read as is those bytes
pub stable : {A : Type 0} (read : List ℕ → Result A FieldFault) (text : A → List ℕ)
    → IsPlain read text (λ bytes. bytes) → IsStable read text
stable read text plain bytes x e = ap read (plain bytes x e) ∙ e

-- and where what is read is within the bound, it is read back
pub stable_in_bound : {A : Type 0} (read : List ℕ → Result A FieldFault)
    (Is : A → Type 0) (text : A → List ℕ) → ReadsBack read Is text
    → ((bytes : List ℕ) (x : A) → read bytes ≡ Ok x → Is x) → IsStable read text
stable_in_bound read Is text back bound bytes x e = back x (bound bytes x e)
