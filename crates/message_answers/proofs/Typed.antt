-- A body that begins with its type, and the type that is read of it.
use Rattle.std.proofs.Common.{◌≡◌, ◌++◌, ◌+◌, ℕ, Bool, true, false, not, ◌==◌, ◌||◌, List, []}
use Rattle.std.proofs.Common.{◌∷◌, codes, cond, drop, take, take_while, Option, Some, None, refl}
use Rattle.std.proofs.Common.{sym, ap, subst, ◌∙◌}
use Rattle.std.proofs.lemmas.Bool.{eqb-true}
use Rattle.std.proofs.lemmas.List.Sums.{take_while-cons}
use Rattle.std.proofs.lemmas.Slice.Eq.{bytes_eq-Decides}
use Rattle.field_groups.specs.declared.fault.SplitFault.{SplitFault}
use Rattle.field_groups.specs.declared.fault.SplitFault.TheVariants.{NoEnd}
use Rattle.field_groups.specs.Field.{is_soh}
use Rattle.field_groups.specs.Fields.{has_soh, has_tag, is_tag_good}
use Rattle.kept_entries.specs.Given.{has_letter}
use Rattle.event_decisions.specs.Body.{Reading, reading_of, read_from, first_value, type_of, behind}
use Rattle.event_decisions.specs.Body.{fault_unless, front_fault, front_field, front_length}

-- the bytes before SOH
abbrev front_of : List ℕ → List ℕ
front_of bytes = take_while (λ byte. not (is_soh byte)) bytes

front_cons : (byte : ℕ) (bytes : List ℕ)
    → front_of (byte ∷ bytes) ≡ cond (not (byte == 1)) (byte ∷ front_of bytes) []
front_cons byte bytes = take_while-cons (λ b. not (is_soh b)) byte bytes

-- what is read of a body that begins with `35=`, by the fault of its first field
abbrev read_next : Option SplitFault → List ℕ → Reading
read_next (Some fault) rest = record { fields = []; fault = Some fault }
read_next None rest =
    let field = front_field None (51 ∷ 53 ∷ 61 ∷ rest) in
    let taken = front_length (51 ∷ 53 ∷ 61 ∷ rest) field in
    behind field (read_from 255 (0 + taken) (Some field) (drop taken (51 ∷ 53 ∷ 61 ∷ rest)))

same_next : (rest : List ℕ) (o : Option SplitFault)
    → elim o [
      | Some fault ↦ record { fields = []; fault = Some fault }
      | None ↦
          let field = front_field None (51 ∷ 53 ∷ 61 ∷ rest) in
          let taken = front_length (51 ∷ 53 ∷ 61 ∷ rest) field in
          behind field (read_from 255 (0 + taken) (Some field) (drop taken (51 ∷ 53 ∷ 61 ∷ rest)))
    ] ≡ read_next o rest
same_next rest None = refl
same_next rest (Some fault) = refl

reads_next : (rest : List ℕ) → reading_of (51 ∷ 53 ∷ 61 ∷ rest)
    ≡ read_next (front_fault 0 None (51 ∷ 53 ∷ 61 ∷ rest)) rest
unfolding reading_of
reads_next rest = same_next rest (front_fault 0 None (51 ∷ 53 ∷ 61 ∷ rest))

-- the type is all up to SOH
abbrev type_next : Option SplitFault → List ℕ → List ℕ
type_next (Some fault) rest = []
type_next None rest = front_of rest

next_type : (rest : List ℕ) (o : Option SplitFault)
    → first_value (read_next o rest).fields ≡ type_next o rest
next_type rest None = refl
next_type rest (Some fault) = refl

fault_is : (rest : List ℕ)
    → front_fault 0 None (51 ∷ 53 ∷ 61 ∷ rest) ≡ fault_unless (has_soh rest) (NoEnd 0)
unfolding has_tag is_tag_good
fault_is rest = refl

type_by : (rest : List ℕ) (ends : Bool) → has_soh rest ≡ ends
    → type_of (51 ∷ 53 ∷ 61 ∷ rest) ≡ type_next (fault_unless ends (NoEnd 0)) rest
type_by rest ends is =
    ap (λ (r : Reading). first_value r.fields) (reads_next rest)
    ∙ next_type rest (front_fault 0 None (51 ∷ 53 ∷ 61 ∷ rest))
    ∙ ap (λ (o : Option SplitFault). type_next o rest) (fault_is rest)
    ∙ ap (λ (b : Bool). type_next (fault_unless b (NoEnd 0)) rest) is

-- SOH, and one byte before it
no_more : (rest : List ℕ) → has_soh rest ≡ true → front_of rest ≡ [] → take 1 rest ≡ 1 ∷ []
no_more [] soh is = absurd cc
no_more (c ∷ cs) soh is = by (c == 1) refl
  where
    by : (t : Bool) → (c == 1) ≡ t → take 1 (c ∷ cs) ≡ 1 ∷ []
    by true same = ap (λ (x : ℕ). x ∷ []) (eqb-true c 1 same)
    by false same =
        let cut : c ∷ front_of cs ≡ [] =
        ap (λ (t : Bool). cond (not t) (c ∷ front_of cs) []) (sym same) ∙ sym (front_cons c cs) ∙ is
        in absurd cc

one_byte : (letter : ℕ) (rest : List ℕ) → has_soh rest ≡ true → front_of rest ≡ letter ∷ []
    → take 2 rest ≡ letter ∷ 1 ∷ []
one_byte letter [] soh is = absurd cc
one_byte letter (b ∷ rest) soh is = by (b == 1) refl
  where
    by : (t : Bool) → (b == 1) ≡ t → take 2 (b ∷ rest) ≡ letter ∷ 1 ∷ []
    by true same =
        let cut : [] ≡ letter ∷ [] =
        ap (λ (t : Bool). cond (not t) (b ∷ front_of rest) []) (sym same)
        ∙ sym (front_cons b rest) ∙ is
        in absurd cc
    by false same =
        let cut : b ∷ front_of rest ≡ letter ∷ [] =
        ap (λ (t : Bool). cond (not t) (b ∷ front_of rest) []) (sym same)
        ∙ sym (front_cons b rest) ∙ is in
        let head : b ≡ letter = cc in
        let none : front_of rest ≡ [] = cc in
        let more : has_soh rest ≡ true =
        subst (λ (t : Bool). (t || has_soh rest) ≡ true) same soh in
        let second = no_more rest more none in
        λ i. head i ∷ second i

typed_rest : (letter : ℕ) (rest : List ℕ) → type_of (51 ∷ 53 ∷ 61 ∷ rest) ≡ letter ∷ []
    → has_letter letter (51 ∷ 53 ∷ 61 ∷ rest) ≡ true
typed_rest letter rest is = by (has_soh rest) refl
  where
    by : (t : Bool) → has_soh rest ≡ t → has_letter letter (51 ∷ 53 ∷ 61 ∷ rest) ≡ true
    by true soh =
        let front : front_of rest ≡ letter ∷ [] = sym (type_by rest true soh) ∙ is in
        (bytes_eq-Decides (take 5 (51 ∷ 53 ∷ 61 ∷ rest)) (codes "35=" ++ letter ∷ 1 ∷ [])).1
        (ap (λ (bytes : List ℕ). 51 ∷ 53 ∷ 61 ∷ bytes) (one_byte letter rest soh front))
    by false soh = let wrong : [] ≡ letter ∷ [] = sym (type_by rest false soh) ∙ is in absurd cc

-- A body that begins with `35=` and whose type is one letter begins with that letter's field.
pub typed : (letter : ℕ) (body : List ℕ) → take 3 body ≡ codes "35=" → type_of body ≡ letter ∷ []
    → has_letter letter body ≡ true
typed letter (a ∷ b ∷ c ∷ rest) begins is =
    let same : (a ∷ b ∷ c ∷ rest) ≡ 51 ∷ 53 ∷ 61 ∷ rest =
    ap (λ (front : List ℕ). front ++ rest) begins in
    subst (λ (body : List ℕ). has_letter letter body ≡ true) (sym same)
    (typed_rest letter rest (ap type_of (sym same) ∙ is))
typed letter body begins is = absurd cc

-- And the other way round, for a letter that is no SOH.
type_of_front : (letter : ℕ) (more : List ℕ) → (letter == 1) ≡ false
    → type_of (51 ∷ 53 ∷ 61 ∷ letter ∷ 1 ∷ more) ≡ letter ∷ []
type_of_front letter more other =
    type_by (letter ∷ 1 ∷ more) true (ap (λ (t : Bool). t || true) other)
    ∙ front_cons letter (1 ∷ more)
    ∙ ap (λ (t : Bool). cond (not t) (letter ∷ front_of (1 ∷ more)) []) other
    ∙ ap (λ (bytes : List ℕ). letter ∷ bytes) (front_cons 1 more)

pub type_is : (letter : ℕ) (body : List ℕ) → (letter == 1) ≡ false → has_letter letter body ≡ true
    → type_of body ≡ letter ∷ []
type_is letter body other has = by body
    ((bytes_eq-Decides (take 5 body) (codes "35=" ++ letter ∷ 1 ∷ [])).0 has)
  where
    by : (bytes : List ℕ) → take 5 bytes ≡ codes "35=" ++ letter ∷ 1 ∷ []
        → type_of bytes ≡ letter ∷ []
    by (a ∷ b ∷ c ∷ d ∷ e ∷ more) is =
        ap (λ (front : List ℕ). type_of (front ++ more)) is ∙ type_of_front letter more other
    by bytes is = absurd (cc is)
