-- OrdType, TimeInForce and OrderCapacity as FIX 5.0 SP2 says them.
use Rattle.std.proofs.Common.{◌≡◌, ℕ, List, [], ◌∷◌, Bool, true, false, Some, None, refl, sym, ap}
use Rattle.std.proofs.Common.{subst, ◌∙◌, codes, length, arith, Option}
use Rattle.std.specs.Prelude.{IsSome, IfSome, not, ◌||◌, ◌==◌, Ok}
use Rattle.std.specs.List.{list_any}
use Rattle.std.proofs.lemmas.Bool.Decides.{nat_tests}
use Rattle.field_groups.specs.Field.{Field, is_soh}
use Rattle.value_kinds.specs.ValueKind.{Code, spelling, listed_word, is_code, OneByte}
use Rattle.message_tables.specs.Tables.{Spells, Required, Lenient, Said, is_one_of, is_listed}
use Rattle.message_tables.specs.Tables.{value_at, code_of, ◌>>=◌}
use Rattle.row_values.specs.Kinds.{Value, Byte, TimeBeside, judge, verdict_of, counted, is_at_close}
use Rattle.row_values.specs.Kinds.{row}
use Rattle.sound_laws.specs.Sound.{IsSaid}
use Rattle.sound_laws.proofs.Each.{◌&◌, one_of}
use Rattle.sound_laws.proofs.RowsSaid.{is_code_of, lenient_said, listed_clear, code_said}
use Rattle.request_rules.specs.Rules.{type_up, time_up, is_unlisted}

-- ---- OrdType

module _ (fields50 : List Field) where
  abbrev IsType : Said → Type 0
  IsType said =
      IsSaid judge fields50 (row Required 40 (Code (codes "1234"))) said

  type_of : (code : ℕ) → is_one_of (codes "12345B") code ≡ true
      → IsType (type_up (Some (code ∷ [])))
  type_of code h =
      let says : (c : ℕ) → is_one_of (codes "1234") c ≡ true
      → list_any is_soh (codes "1234") ≡ false → IsType (Some (c ∷ [])) =
      λ c there none. code_said fields50 40 (codes "1234") c none there in
      one_of (λ c. IsType (type_up (Some (c ∷ [])))) (codes "12345B")
      (says 49 refl refl & says 50 refl refl & says 51 refl refl & says 52 refl refl
      & says 49 refl refl & says 50 refl refl & tt) code h

  pub type_said : (fields42 : List Field) (ord_type : Said) → IsSome ord_type
      → IfSome ord_type (λ t. judge fields42 (Value (Code (codes "12345B"))) t ≡ Spells t)
      → IsType (type_up ord_type)
  type_said fields42 None there h = absurd cc
  type_said fields42 (Some text) there h =
      let t = is_code_of fields42 (codes "12345B") text h in
      let P : List ℕ → Type 0 = λ x. IsType (type_up (Some x)) in
      subst P (sym t.is) (type_of t.code t.listed)

  -- ---- TimeInForce

  abbrev IsTime : Said → Type 0
  IsTime said =
      IsSaid judge fields50 (record { tag = 59; kind = TimeBeside 40; need = Lenient }) said

  pub time_counts : (code : ℕ) → is_one_of (codes "01234567") code ≡ true
      → (not (is_at_close (code ∷ [])) || is_listed (codes "12") (value_at 40 fields50)) ≡ true
      → judge fields50 (TimeBeside 40) (code ∷ []) ≡ Spells (code ∷ [])
  unfolding judge spelling
  time_counts code listed beside =
      ap (λ (b : Bool). counted b
      (verdict_of (Ok (listed_word (is_code (codes "01234567") (code ∷ [])) (code ∷ []))))) beside
      ∙ ap (λ (b : Bool). verdict_of (Ok (listed_word b (code ∷ [])))) listed

  at_close : (ord_type : ℕ) → value_at 40 fields50 ≡ Some (ord_type ∷ [])
      → is_one_of (codes "12") ord_type ≡ true → IsTime (Some (codes "7"))
  at_close ord_type at listed =
      lenient_said fields50 59 (TimeBeside 40) (Some (codes "7"))
      (time_counts 55 refl (ap (is_listed (codes "12")) at ∙ listed)) refl

  -- a time of FIX 4.2 is not at the close
  pub is_other : (code : ℕ) → is_one_of (codes "0123456") code ≡ true → (code == 55) ≡ false
  is_other code h = one_of (λ c. (c == 55) ≡ false) (codes "0123456")
      (refl & refl & refl & refl & refl & refl & refl & tt) code h

  other_counts : (code : ℕ) → is_one_of (codes "0123456") code ≡ true
      → judge fields50 (TimeBeside 40) (code ∷ []) ≡ Spells (code ∷ [])
  unfolding judge spelling
  other_counts code h =
      one_of (λ c. judge fields50 (TimeBeside 40) (c ∷ []) ≡ Spells (c ∷ [])) (codes "0123456")
      (refl & refl & refl & refl & refl & refl & refl & tt) code h

  other_time : (fields42 : List Field) (time : Said)
      → IfSome time (λ t. judge fields42 (Value (Code (codes "0123456"))) t ≡ Spells t)
      → IsTime time
  other_time fields42 None h = lenient_said fields50 59 (TimeBeside 40) None tt tt
  other_time fields42 (Some text) h =
      let t = is_code_of fields42 (codes "0123456") text h in
      let P : List ℕ → Type 0 = λ x. IsTime (Some x) in
      subst P (sym t.is)
      (lenient_said fields50 59 (TimeBeside 40) (Some (t.code ∷ [])) (other_counts t.code t.listed)
      (listed_clear (codes "0123456") t.code refl t.listed))

  module _ (fields42 : List Field) (time : Said)
      (timely : IfSome time (λ t. judge fields42 (Value (Code (codes "0123456"))) t ≡ Spells t))
    where
      time_of : (code : ℕ) → is_one_of (codes "12345B") code ≡ true
          → value_at 40 fields50 ≡ type_up (Some (code ∷ []))
          → IsTime (time_up (Some (code ∷ [])) time)
      time_of code h =
          let P : ℕ → Type 0 = λ c. value_at 40 fields50 ≡ type_up (Some (c ∷ []))
          → IsTime (time_up (Some (c ∷ [])) time) in
          let other = other_time fields42 time timely in
          one_of P (codes "12345B") ((λ at. other) & (λ at. other) & (λ at. other) & (λ at. other)
          & (λ at. at_close 49 at refl) & (λ at. at_close 50 at refl) & tt) code h

      pub time_said : (ord_type : Said) → IsSome ord_type
          → IfSome ord_type (λ t. judge fields42 (Value (Code (codes "12345B"))) t ≡ Spells t)
          → value_at 40 fields50 ≡ type_up ord_type → IsTime (time_up ord_type time)
      time_said None there h at = absurd cc
      time_said (Some text) there h at =
          let t = is_code_of fields42 (codes "12345B") text h in
          let P : List ℕ → Type 0 = λ x. value_at 40 fields50 ≡ type_up (Some x)
          → IsTime (time_up (Some x) time) in
          subst P (sym t.is) (time_of t.code t.listed) at

-- ---- OrderCapacity

-- what is spelled as one byte is a code
pub one_byte : (fields : List Field) (text : List ℕ)
    → judge fields (Value OneByte) text ≡ Spells text → (code : ℕ) × (text ≡ code ∷ [])
unfolding judge spelling
one_byte fields [] h = absurd cc
one_byte fields (code ∷ []) h = (code, refl)
one_byte fields (a ∷ b ∷ text) h =
    let long : (length (a ∷ b ∷ text) == 1) ≡ false = grind (arith, nat_tests) in
    absurd (let no = rw long at h in cc)

-- a code that is not unlisted
pub listed_is : (listed : List ℕ) (code : Option ℕ) → is_unlisted listed code ≡ false
    → IfSome code (λ c. is_one_of listed c ≡ true)
listed_is listed None h = tt
listed_is listed (Some code) h = elim (is_one_of listed code) as (λ b. not b ≡ false → b ≡ true)
    [ true ↦ λ h. refl | false ↦ λ h. absurd (cc h) ] h

-- whether each code that is said is listed
abbrev pub are_listed : List ℕ → Said → Bool
are_listed listed None = true
are_listed listed (Some text) = is_code listed text

pub code_listed : (fields : List Field) (listed : List ℕ) (said : Said)
    → IfSome said (λ text. judge fields (Value OneByte) text ≡ Spells text)
    → is_unlisted listed (said >>= code_of) ≡ false → are_listed listed said ≡ true
code_listed fields listed None h k = refl
code_listed fields listed (Some text) h k =
    let t = one_byte fields text h in
    let P : List ℕ → Type 0 = λ x. is_unlisted listed (code_of x) ≡ false
    → are_listed listed (Some x) ≡ true in
    subst P (sym t.1) (listed_is listed (Some t.0)) k

pub listed_said : (fields50 : List Field) (to : ℕ) (listed : List ℕ) (said : Said)
    → list_any is_soh listed ≡ false → are_listed listed said ≡ true
    → IsSaid judge fields50 (record { tag = to; kind = Byte listed; need = Lenient }) said
unfolding judge spelling
listed_said fields50 to listed None clear h = lenient_said fields50 to (Byte listed) None tt tt
listed_said fields50 to listed (Some (code ∷ [])) clear h =
    lenient_said fields50 to (Byte listed) (Some (code ∷ []))
    (ap (λ (b : Bool). counted b (Spells (code ∷ []))) h) (listed_clear listed code clear h)
listed_said fields50 to listed other clear h = absurd cc
