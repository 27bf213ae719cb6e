-- What says a row: a canonical spelling without SOH, by the need of the row.
use Rattle.std.proofs.Common.{◌≡◌, ℕ, List, [], ◌∷◌, Option, Some, None, Bool, true, false, refl}
use Rattle.std.proofs.Common.{ap, subst, option_map, ◌∙◌}
use Rattle.std.specs.Prelude.{IsSome, IfSome, ◌||◌, ◌==◌, Ok, if◌then◌else◌}
use Rattle.std.specs.List.{AllByRecursion, list_any, list_all}
use Rattle.std.proofs.lemmas.Bool.{eqb-true}
use Rattle.field_groups.specs.Field.{Field, is_soh}
use Rattle.message_tables.specs.Tables.{Verdict, Spells, Required, Optional, Lenient, Said, ◌>>=◌}
use Rattle.message_tables.specs.Tables.{Outside, Wrong, Condition, When, Row, Item, One, Party}
use Rattle.message_tables.specs.Tables.{Lines, Message, Tag, is_needed, is_one_of, said_at, says}
use Rattle.message_tables.specs.Tables.{text_of}
use Rattle.value_kinds.specs.ValueKind.{ValueKind, Code, listed_word, spelling, code_text}
use Rattle.row_values.specs.Kinds.{Kind, Value, judge, verdict_of}
use Rattle.sound_laws.specs.Sound.{IsClear, IsSaid, IsItem}
use Rattle.sound_laws.proofs.Each.{all_true, each_at, none_is, one_of}

pub text_again : (j : List ℕ → Verdict) (said : Said)
    → IfSome said (λ text. j text ≡ Spells text) → said >>= (λ bytes. text_of (j bytes)) ≡ said
text_again j None h = refl
text_again j (Some text) h = ap text_of h

-- what holds of each spelling of a value holds of what it says
pub by_value : (P : List ℕ → Type 0) (j : List ℕ → Verdict) (value : Said)
    → ((bytes text : List ℕ) → value ≡ Some bytes → j bytes ≡ Spells text → P text)
    → IfSome (value >>= (λ bytes. text_of (j bytes))) P
by_value P j None h = tt
by_value P j (Some bytes) h =
    elim (j bytes) as (λ v. j bytes ≡ v → IfSome (text_of v) P)
    [ Spells text ↦ λ e. h bytes text refl e | Outside ↦ λ e. tt | Wrong reason ↦ λ e. tt ] refl

module _ (fields : List Field) where
  abbrev Spelled : Kind → Said → Type 0
  Spelled kind said = IfSome said (λ text. judge fields kind text ≡ Spells text)

  -- a row that is not fixed
  pub free_said : (row : Row Kind) (said : Said) → (is_needed row.need fields ≡ true → IsSome said)
      → says row.need (judge fields row.kind) said ≡ said >>= (λ bytes. text_of (judge fields
      row.kind bytes)) → Spelled row.kind said → IfSome said IsClear → IsSaid judge fields row said
  free_said row said there free h c = record {
    needed = there;
    spelled = h;
    again = free ∙ text_again (judge fields row.kind) said h;
    clear = c;
  }

  pub optional_said : (tag : ℕ) (kind : Kind) (said : Said) → Spelled kind said
      → IfSome said IsClear
      → IsSaid judge fields (record { tag = tag; kind = kind; need = Optional }) said
  optional_said tag kind said = free_said _ said (λ e. absurd cc) refl

  pub lenient_said : (tag : ℕ) (kind : Kind) (said : Said) → Spelled kind said → IfSome said IsClear
      → IsSaid judge fields (record { tag = tag; kind = kind; need = Lenient }) said
  lenient_said tag kind said = free_said _ said (λ e. absurd cc) refl

  pub required_said : (tag : ℕ) (kind : Kind) (said : Said) → IsSome said → Spelled kind said
      → IfSome said IsClear
      → IsSaid judge fields (record { tag = tag; kind = kind; need = Required }) said
  required_said tag kind said there = free_said _ said (λ e. there) refl

  pub needed_said : (condition : Condition) (tag : ℕ) (kind : Kind) (said : Said)
      → (is_needed (When condition) fields ≡ true → IsSome said) → Spelled kind said
      → IfSome said IsClear
      → IsSaid judge fields (record { tag = tag; kind = kind; need = When condition }) said
  needed_said condition tag kind said there = free_said _ said there refl

-- the values of a kind are the same beside any fields
pub same_value : (fields42 fields50 : List Field) (kind : ValueKind) (said : Said) →
    IfSome said (λ text. judge fields42 (Value kind) text ≡ Spells text)
    → IfSome said (λ text. judge fields50 (Value kind) text ≡ Spells text)
unfolding judge
same_value fields42 fields50 kind None h = tt
same_value fields42 fields50 kind (Some text) h = h

-- ---- the row of a tag

abbrev pub row_of_tag : ℕ → List (Item Kind) → Option (Row Kind)
row_of_tag tag [] = None
row_of_tag tag (One row ∷ items) = if row.tag == tag then Some row else row_of_tag tag items
row_of_tag tag (Party role ∷ items) = row_of_tag tag items
row_of_tag tag (Lines group ∷ items) = row_of_tag tag items

-- a row that is found has its tag, and what holds of each item holds of it
pub row_found : (P : Item Kind → Type 0) (tag : ℕ) (items : List (Item Kind)) (row : Row Kind)
    → row_of_tag tag items ≡ Some row → AllByRecursion P items → (row.tag ≡ tag) × P (One row)
row_found P tag [] row e each = absurd cc
row_found P tag (One first ∷ items) row e each =
    elim (first.tag == tag) as (λ b. (first.tag == tag) ≡ b
    → (if b then Some first else row_of_tag tag items) ≡ Some row
    → (row.tag ≡ tag) × P (One row)) [
      | true ↦ λ same e.
          let is : first ≡ row = cc in
          subst (λ (r : Row Kind). (r.tag ≡ tag) × P (One r)) is
          (eqb-true first.tag tag same, each.0)
      | false ↦ λ same e. row_found P tag items row e each.1
    ] refl e
row_found P tag (item ∷ items) row e each = row_found P tag items row e each.1

-- what a message says at the row of a tag
pub row_said : (fields : List Field) (m : Message) (items : List (Item Kind)) (tag : ℕ)
    (row : Row Kind) → row_of_tag tag items ≡ Some row
    → AllByRecursion (IsItem judge fields m) items
    → IsSaid judge fields row (said_at m.cells (Tag row.tag))
row_said fields m items tag row e said = (row_found (IsItem judge fields m) tag items row e said).1

pub tag_is : (tag : ℕ) (items : List (Item Kind)) (row : Row Kind)
    → row_of_tag tag items ≡ Some row → row.tag ≡ tag
tag_is tag items row e = (row_found (λ item. Unit {0}) tag items row e
    (each_at (λ item. Unit {0}) items (λ i item at. tt))).0

-- ---- codes

-- what is among some is among more
pub among : (fewer more : List ℕ) (x : ℕ) → list_all (is_one_of more) fewer ≡ true
    → is_one_of fewer x ≡ true → is_one_of more x ≡ true
among fewer more x all there =
    one_of (λ y. is_one_of more y ≡ true) fewer (all_true (is_one_of more) fewer all) x there

-- a listed code is not SOH
pub listed_clear : (listed : List ℕ) (code : ℕ)
    → list_any is_soh listed ≡ false → is_one_of listed code ≡ true → IsClear (code ∷ [])
listed_clear listed code none h = ap (λ (b : Bool). b || false)
    (one_of (λ c. (c == 1) ≡ false) listed (none_is 1 listed none) code h)

-- a listed code
pub record IsCodeOf (listed_codes : List ℕ) (text : List ℕ) : Type 0 where
  pub code : ℕ
  pub is : text ≡ code ∷ []
  pub listed : is_one_of listed_codes code ≡ true

word_by : (good : Bool) (text : List ℕ)
    → verdict_of (Ok (listed_word good text)) ≡ Spells text → good ≡ true
word_by true text h = refl
word_by false text h = absurd cc

pub is_code_of : (fields : List Field) (listed text : List ℕ)
    → judge fields (Value (Code listed)) text ≡ Spells text → IsCodeOf listed text
unfolding judge spelling
is_code_of fields listed [] h = absurd cc
is_code_of fields listed (code ∷ []) h =
    record { code = code; is = refl; listed = word_by (is_one_of listed code) (code ∷ []) h }
is_code_of fields listed (a ∷ b ∷ text) h = absurd (let k = word_by false (a ∷ b ∷ text) h in cc)

pub code_spelled : (fields : List Field) (listed : List ℕ) (code : ℕ) → is_one_of listed code ≡ true
    → judge fields (Value (Code listed)) (code_text code) ≡ Spells (code_text code)
unfolding judge spelling
code_spelled fields listed code h = ap (λ (b : Bool). verdict_of (Ok (listed_word b (code ∷ [])))) h

-- a row of a code
pub code_said : (fields : List Field) (tag : ℕ) (listed : List ℕ) (code : ℕ)
    → list_any is_soh listed ≡ false → is_one_of listed code ≡ true
    → IsSaid judge fields (record { tag = tag; kind = Value (Code listed); need = Required })
    (Some (code_text code))
code_said fields tag listed code none h =
    required_said fields tag (Value (Code listed)) (Some (code_text code)) refl
    (code_spelled fields listed code h) (listed_clear listed code none h)

pub codes_said : (fields : List Field) (tag : ℕ) (listed : List ℕ) (code : Option ℕ)
    → list_any is_soh listed ≡ false → IfSome code (λ c. is_one_of listed c ≡ true)
    → IsSaid judge fields (record { tag = tag; kind = Value (Code listed); need = Optional })
    (option_map code_text code)
codes_said fields tag listed None none h = optional_said fields tag (Value (Code listed)) None tt tt
codes_said fields tag listed (Some code) none h =
    optional_said fields tag (Value (Code listed)) (Some (code_text code))
    (code_spelled fields listed code h) (listed_clear listed code none h)
