-- What stands at the front of the bytes of a field and more.
use Rattle.std.proofs.Common.{◌≡◌, ℕ, ◌+◌, ◌^◌, ◌<◌, ◌≤◌, Bool, true, false, Option, Some, None}
use Rattle.std.proofs.Common.{unwrap_or, if◌then◌else◌, eq-eqb, List, [], ◌∷◌, ◌++◌, length, get_or}
use Rattle.std.proofs.Common.{take, drop, sym, ap, ◌∙◌, arith, append_assoc, length-append}
use Rattle.std.specs.Prelude.{not, nat_lt, nat_le, ◌&&◌, ◌==◌}
use Rattle.std.specs.List.{list_any, position_or_len}
use Rattle.std.specs.Char.{is_ascii_digit}
use Rattle.std.specs.Fmt.{decimal}
use Rattle.std.specs.Int.{IsInRange}
use Rattle.std.specs.Str.Parse.{digits_value}
use Rattle.std.proofs.lemmas.Bool.{false_from_ne_true, false≢true, eqb-true, not-true}
use Rattle.std.proofs.lemmas.Bool.Decides.{nat_tests}
use Rattle.std.proofs.lemmas.Fmt.{digits_decimal, digits_value-decimal, first_decimal}
use Rattle.std.proofs.lemmas.Fmt.{length-decimal-le, decimal_nonempty}
use Rattle.std.proofs.lemmas.List.{get_or_append_left}
use Rattle.std.proofs.lemmas.List.Folds.{list_any_at}
use Rattle.std.proofs.lemmas.List.Sums.{prefix_len_is, position_or_len_is}
use Rattle.std.proofs.Math.Seq.{get_or-append_seam, take-append_seam, drop-append-add}
use Rattle.field_groups.specs.Field.{Field, IsField, field_bytes, is_soh, is_data}
use Rattle.field_groups.specs.Field.{said_length, says}
use Rattle.field_groups.specs.Fields.{digit_count, front_tag, has_tag, is_tag_good, after_tag}
use Rattle.field_groups.specs.Fields.{has_soh, has_soh_after}
use Rattle.field_groups.proofs.Reading.{AllInRange, own}

passes : (c : ℕ) → IsInRange 48 57 c → is_ascii_digit c ≡ true
passes c h = grind (arith, nat_tests)

-- the bytes of a field and more, its tag and `=` apart
pub field_apart : (f : Field) (more : List ℕ)
    → field_bytes f ++ more ≡ decimal f.0 ++ 61 ∷ (f.1 ++ 1 ∷ more)
unfolding field_bytes
field_apart f more = append_assoc (decimal f.0 ++ 61 ∷ f.1) (1 ∷ []) more
    ∙ append_assoc (decimal f.0) (61 ∷ f.1) (1 ∷ more)

-- the bounds of the tag of a field
record HasTag (f : Field) : Type 0 where
  positive : 1 ≤ f.0
  nine_digits : f.0 ≤ 999_999_999

tag_of : {before : Option Field} {f : Field} → IsField before f → HasTag f
tag_of is = record { positive = is.positive; nine_digits = is.nine_digits }

small : (f : Field) → HasTag f → f.0 < 2 ^ 64
small f is = omega (arith, is.nine_digits)

count_apart : (f : Field) (more : List ℕ)
    → HasTag f → digit_count (decimal f.0 ++ 61 ∷ more) ≡ length (decimal f.0)
count_apart f more is =
    let digits : AllInRange (decimal f.0) = digits_decimal own f.0 (small f is) in
    prefix_len_is is_ascii_digit (decimal f.0 ++ 61 ∷ more) (length (decimal f.0)) 0
    (omega (arith, length-append (decimal f.0) (61 ∷ more)))
    (λ k lt. rw (get_or_append_left (decimal f.0) (61 ∷ more) 0 k lt)
    (passes (get_or (decimal f.0) k 0) (digits k lt)))
    (λ _. ap is_ascii_digit (get_or-append_seam (decimal f.0) 61 more 0))

-- the first SOH after a value with none
soh_apart : (value more : List ℕ)
    → list_any is_soh value ≡ false → position_or_len is_soh (value ++ 1 ∷ more) ≡ length value
soh_apart value more none =
    position_or_len_is is_soh (value ++ 1 ∷ more) (length value) 0
    (omega (arith, length-append value (1 ∷ more)))
    (λ k lt. rw (get_or_append_left value (1 ∷ more) 0 k lt)
    (false_from_ne_true _ (λ yes. false≢true (sym none ∙ list_any_at is_soh value k 0 lt yes))))
    (λ _. ap is_soh (get_or-append_seam value 1 more 0))

-- how many bytes the value at the front of these has
abbrev pub value_len : Option Field → ℕ → List ℕ → ℕ
value_len before tag bytes =
    if is_data before tag then unwrap_or (said_length before) 0 else position_or_len is_soh bytes

-- the field at the front, and what is left after it
abbrev pub front_field : Option Field → List ℕ → Field × List ℕ
front_field before bytes =
    let len = value_len before (front_tag bytes) (after_tag bytes) in
    ((front_tag bytes, take len (after_tag bytes)), drop (len + 1) (after_tag bytes))

after_apart : (f : Field) (more : List ℕ) → HasTag f → after_tag (decimal f.0 ++ 61 ∷ more) ≡ more
after_apart f more is =
    ap (λ (n : ℕ). drop (n + 1) (decimal f.0 ++ 61 ∷ more)) (count_apart f more is)
    ∙ drop-append-add (decimal f.0) (61 ∷ more) 1

tag_apart : (f : Field) (more : List ℕ) → HasTag f → front_tag (decimal f.0 ++ 61 ∷ more) ≡ f.0
tag_apart f more is =
    ap (λ (n : ℕ). digits_value 10 (take n (decimal f.0 ++ 61 ∷ more))) (count_apart f more is)
    ∙ ap (λ (ds : List ℕ). digits_value 10 ds) (take-append_seam (decimal f.0) (61 ∷ more))
    ∙ digits_value-decimal own f.0 (small f is)

-- where a value stands as the field before and its bytes have it, and SOH behind it, its length is
-- that value's
by_data : (raw : Bool) (said : Option ℕ) (value more : List ℕ)
    → (if raw then says said (length value) else not (list_any is_soh value)) ≡ true →
    (if raw then unwrap_or said 0 else position_or_len is_soh (value ++ 1 ∷ more)) ≡ length value
by_data true None value more is = absurd (false≢true is)
by_data true (Some said) value more is = eqb-true said (length value) is
by_data false said value more is = soh_apart value more (not-true _ is)

len_apart : (before : Option Field) (f : Field) (more : List ℕ)
    → IsField before f → value_len before f.0 (f.1 ++ 1 ∷ more) ≡ length f.1
len_apart before f more is = by_data (is_data before f.0) (said_length before) f.1 more is.value

-- the bytes of a field are read as that field
pub front_field-bytes : (before : Option Field) (f : Field) (more : List ℕ)
    → IsField before f → front_field before (field_bytes f ++ more) ≡ (f, more)
front_field-bytes before f more is =
    let after : after_tag (field_bytes f ++ more) ≡ f.1 ++ 1 ∷ more =
    ap (λ (bs : List ℕ). after_tag bs) (field_apart f more)
    ∙ after_apart f (f.1 ++ 1 ∷ more) (tag_of is) in
    let tag : front_tag (field_bytes f ++ more) ≡ f.0 = ap (λ (bs : List ℕ). front_tag bs)
    (field_apart f more) ∙ tag_apart f (f.1 ++ 1 ∷ more) (tag_of is) in
    let len : value_len before
    (front_tag (field_bytes f ++ more)) (after_tag (field_bytes f ++ more)) ≡ length f.1 =
    (λ i. value_len before (tag i) (after i)) ∙ len_apart before f more is in
    let value : take (value_len before (front_tag (field_bytes f ++ more))
    (after_tag (field_bytes f ++ more))) (after_tag (field_bytes f ++ more)) ≡ f.1 =
    (λ i. take (len i) (after i)) ∙ take-append_seam f.1 (1 ∷ more) in
    let left : drop (value_len before (front_tag (field_bytes f ++ more))
    (after_tag (field_bytes f ++ more)) + 1) (after_tag (field_bytes f ++ more)) ≡ more =
    (λ i. drop (len i + 1) (after i)) ∙ drop-append-add f.1 (1 ∷ more) 1 in
    λ i. ((tag i, value i), left i)

-- two fields that begin the same bytes are one
pub same_front : (before : Option Field) (f g : Field) (more rest : List ℕ) → IsField before f
    → IsField before g → field_bytes f ++ more ≡ field_bytes g ++ rest → (f ≡ g) × (more ≡ rest)
same_front before f g more rest is also same =
    let pair : (f, more) ≡ (g, rest) = sym (front_field-bytes before f more is)
    ∙ ap (λ (bs : List ℕ). front_field before bs) same ∙ front_field-bytes before g rest also in
    (ap (λ (p : Field × List ℕ). p.0) pair, ap (λ (p : Field × List ℕ). p.1) pair)

tag_test : (n next : ℕ) → 0 < n → next ≡ 61 → (nat_lt 0 n && (next == 61)) ≡ true
tag_test n next some is = grind (arith, nat_tests)

good_test : (n first : ℕ) → n ≤ 9 → 48 < first → (not (first == 48) && nat_le n 9) ≡ true
good_test n first nine above = grind (arith, nat_tests)

has_tag-apart : (f : Field) (more : List ℕ) → HasTag f → has_tag (field_bytes f ++ more) ≡ true
unfolding has_tag
has_tag-apart f more is =
    let tail = f.1 ++ 1 ∷ more in
    let count = count_apart f tail is in
    rw (field_apart f more, count)
    (tag_test (length (decimal f.0)) (get_or (decimal f.0 ++ 61 ∷ tail) (length (decimal f.0)) 0)
    (decimal_nonempty f.0 (small f is)) (get_or-append_seam (decimal f.0) 61 tail 0))

is_tag_good-apart : (f : Field) (more : List ℕ)
    → HasTag f → is_tag_good (field_bytes f ++ more) ≡ true
unfolding is_tag_good
is_tag_good-apart f more is =
    let tail = f.1 ++ 1 ∷ more in
    let count = count_apart f tail is in
    let first : get_or (decimal f.0 ++ 61 ∷ tail) 0 0 ≡ get_or (decimal f.0) 0 0 =
    get_or_append_left (decimal f.0) (61 ∷ tail) 0 0 (decimal_nonempty f.0 (small f is)) in
    rw (field_apart f more, count)
    (good_test (length (decimal f.0)) (get_or (decimal f.0 ++ 61 ∷ tail) 0 0)
    (length-decimal-le 9 f.0 (omega arith) (omega (arith, is.nine_digits)) (small f is))
    (omega (arith, first, first_decimal f.0 is.positive (small f is))))

pub has_tag-bytes : (before : Option Field) (f : Field) (more : List ℕ)
    → IsField before f → has_tag (field_bytes f ++ more) ≡ true
has_tag-bytes before f more is = has_tag-apart f more (tag_of is)

pub is_tag_good-bytes : (before : Option Field) (f : Field) (more : List ℕ)
    → IsField before f → is_tag_good (field_bytes f ++ more) ≡ true
is_tag_good-bytes before f more is = is_tag_good-apart f more (tag_of is)

-- SOH stands behind a field
pub has_soh-bytes : (before : Option Field) (f : Field) (more : List ℕ)
    → IsField before f → has_soh (after_tag (field_bytes f ++ more)) ≡ true
has_soh-bytes before f more is =
    let after : after_tag (field_bytes f ++ more) ≡ f.1 ++ 1 ∷ more =
    ap (λ (bs : List ℕ). after_tag bs) (field_apart f more)
    ∙ after_apart f (f.1 ++ 1 ∷ more) (tag_of is) in
    rw after (list_any_at is_soh (f.1 ++ 1 ∷ more) (length f.1) 0
    (omega (arith, length-append f.1 (1 ∷ more))) (ap is_soh (get_or-append_seam f.1 1 more 0)))

said_apart : (raw : Bool) (said : Option ℕ) (value more : List ℕ)
    → raw ≡ true → (if raw then says said (length value) else not (list_any is_soh value)) ≡ true
    → has_soh_after said (value ++ 1 ∷ more) ≡ true
said_apart false said value more given is = absurd (false≢true given)
said_apart true None value more given is = absurd (false≢true is)
said_apart true (Some said) value more given is =
    rw (eqb-true said (length value) is) (eq-eqb _ _ (get_or-append_seam value 1 more 0))

-- SOH stands where the length field before a field of raw bytes says
pub has_soh_after-bytes : (before : Option Field) (f : Field) (more : List ℕ)
    → IsField before f → is_data before (front_tag (field_bytes f ++ more)) ≡ true
    → has_soh_after (said_length before) (after_tag (field_bytes f ++ more)) ≡ true
has_soh_after-bytes before f more is given =
    let after : after_tag (field_bytes f ++ more) ≡ f.1 ++ 1 ∷ more =
    ap (λ (bs : List ℕ). after_tag bs) (field_apart f more)
    ∙ after_apart f (f.1 ++ 1 ∷ more) (tag_of is) in
    let tag : front_tag (field_bytes f ++ more) ≡ f.0 = ap (λ (bs : List ℕ). front_tag bs)
    (field_apart f more) ∙ tag_apart f (f.1 ++ 1 ∷ more) (tag_of is) in
    rw after (said_apart (is_data before f.0)
    (said_length before) f.1 more (sym (ap (λ (t : ℕ). is_data before t) tag) ∙ given) is.value)
