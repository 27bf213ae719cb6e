-- Inside: the laws of readings and spellings, over any type of value.
use Rattle.std.specs.Prelude.{◌≡◌, ℕ, List, Result, Ok}
use Rattle.typed_fields.specs.declared.fault.FieldFault.{FieldFault}

-- what is written is read as the same value, where the value is one that can be read
abbrev pub ReadsBack : {A : Type 0}
    → (List ℕ → Result A FieldFault) → (A → Type 0) → (A → List ℕ) → Type 0
ReadsBack {A} read Is text = (x : A) → Is x → read (text x) ≡ Ok x

-- two values never share their canonical spelling
abbrev pub AreApart : {A : Type 0} → (A → Type 0) → (A → List ℕ) → Type 0
AreApart {A} Is text = (x y : A) → Is x → Is y → text x ≡ text y → x ≡ y

-- the canonical spelling of what bytes are read as is those bytes without the needless ones: so
-- bytes with no needless one are the canonical spelling of what they are read as, and no value has
-- two of them
abbrev pub IsPlain : {A : Type 0}
    → (List ℕ → Result A FieldFault) → (A → List ℕ) → (List ℕ → List ℕ) → Type 0
IsPlain {A} read text plain = (bytes : List ℕ) (x : A) → read bytes ≡ Ok x → text x ≡ plain bytes

-- the canonical spelling of what bytes are read as is read as the same
abbrev pub IsStable : {A : Type 0} → (List ℕ → Result A FieldFault) → (A → List ℕ) → Type 0
IsStable {A} read text = (bytes : List ℕ) (x : A) → read bytes ≡ Ok x → read (text x) ≡ Ok x
