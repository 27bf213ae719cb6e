-- The field at the front, read from its bytes.
use Rattle.std.proofs.Common.{◌≡◌, ◌≢◌, ℕ, suc, ◌+◌, ◌-◌, ◌^◌, ◌<◌, ◌≤◌, Bool, true, false, List}
use Rattle.std.proofs.Common.{◌∷◌, ◌++◌, length, get_or, take, drop, refl, sym, ap, ◌∙◌, arith}
use Rattle.std.proofs.Common.{⊎_elim}
use Rattle.std.specs.List.{list_all}
use Rattle.field_groups.proofs.Digits.{count_is, count_least}
use Rattle.std.proofs.Math.Seq.{drop-cons}
use Rattle.std.proofs.lemmas.Bool.{cases_lt, eqb-true}
use Rattle.std.specs.Prelude.{not, nat_lt, nat_le, ◌&&◌, ◌==◌}
use Rattle.std.specs.Char.{is_ascii_digit}
use Rattle.std.specs.Fmt.{decimal}
use Rattle.std.specs.Int.{IsInRange}
use Rattle.std.specs.Str.Parse.{digits_value}
use Rattle.std.proofs.lemmas.Bool.Decides.{nat_tests}
use Rattle.std.proofs.lemmas.Fmt.{decimal-digits_value, decimal_digit}
use Rattle.std.proofs.lemmas.List.{take-append-drop, get_or-take, get_or_past, take_all}
use Rattle.std.proofs.lemmas.List.{length-drop}
use Rattle.std.proofs.lemmas.List.Folds.{length-prefix_len}
use Rattle.std.proofs.lemmas.List.Sums.{prefix_len_passes}
use Rattle.std.proofs.lemmas.Str.Parse.{IsNumeralModel, numerals_by_value, tells_by_index}
use Rattle.std.proofs.lemmas.Str.Parse.{digits_value_short}
use Rattle.field_groups.specs.Fields.{digit_count, has_tag, is_tag_good, after_tag, front_tag}

-- the bounds of a digit
range : (c : ℕ) → is_ascii_digit c ≡ true → IsInRange 48 57 c
range c h = grind (arith, nat_tests)

-- each byte is a digit
abbrev pub AllInRange : List ℕ → Type 0
AllInRange ds = (i : ℕ) → i < length ds → IsInRange 48 57 (get_or ds i 0)

pub own : IsNumeralModel AllInRange (digits_value 10)
own = numerals_by_value AllInRange tells_by_index

-- the digits at the front
abbrev pub front_digits : List ℕ → List ℕ
front_digits bytes = take (digit_count bytes) bytes

front_digits-range : (bytes : List ℕ) → AllInRange (front_digits bytes)
front_digits-range bytes i lt =
    let below : i < digit_count bytes = omega (arith, length-prefix_len is_ascii_digit bytes) in
    rw (get_or-take (digit_count bytes) bytes i 0 below)
    (range (get_or bytes i 0) (prefix_len_passes is_ascii_digit bytes i 0 below))

-- what the tests of a tag say
record Tag (bytes : List ℕ) : Type 0 where
  some : 0 < digit_count bytes
  equals : get_or bytes (digit_count bytes) 0 ≡ 61
  no_zero : get_or bytes 0 0 ≢ 48
  nine : digit_count bytes ≤ 9

tests : (n first next : ℕ) → (nat_lt 0 n && (next == 61)) ≡ true
    → (not (first == 48) && nat_le n 9) ≡ true → (0 < n) × (next ≡ 61) × (first ≢ 48) × (n ≤ 9)
tests n first next tag good = (
  grind (arith, nat_tests),
  grind (arith, nat_tests),
  grind (arith, nat_tests),
  grind (arith, nat_tests),
)

tag_facts : (bytes : List ℕ) → has_tag bytes ≡ true → is_tag_good bytes ≡ true → Tag bytes
unfolding has_tag is_tag_good
tag_facts bytes tag good =
    let facts = tests
    (digit_count bytes) (get_or bytes 0 0) (get_or bytes (digit_count bytes) 0) tag good in
    record { some = facts.0; equals = facts.1; no_zero = facts.2; nine = facts.3 }

-- bytes are cut where a byte that is not 0 stands
pub cut_at : (bytes : List ℕ) (n byte : ℕ) → 0 < byte → get_or bytes n 0 ≡ byte
    → (n < length bytes) × (bytes ≡ take n bytes ++ byte ∷ drop (n + 1) bytes)
cut_at bytes n byte some is =
    let within : n < length bytes = ⊎_elim (λ lt. lt)
    (λ le. absurd (omega (arith, get_or_past bytes n 0 le))) (cases_lt n (length bytes)) in
    let next : suc n ≡ n + 1 = omega arith in (
      within,
      sym (take-append-drop n bytes)
          ∙ ap (λ (bs : List ℕ). take n bytes ++ bs) (drop-cons bytes n 0 within
          ∙ ap (λ (b : ℕ). b ∷ drop (suc n) bytes) is ∙ ap (λ (i : ℕ). byte ∷ drop i bytes) next),
    )

front_tag-decimal : (bytes : List ℕ) → Tag bytes → decimal (front_tag bytes) ≡ front_digits bytes
front_tag-decimal bytes tag =
    let len : length (front_digits bytes) ≡ digit_count bytes =
    length-prefix_len is_ascii_digit bytes in
    let below : front_tag bytes < 10 ^ 9 = digits_value_short
    own (front_digits bytes) 9 (front_digits-range bytes) (omega (arith, len, tag.nine)) in
    let first : get_or (front_digits bytes) 0 0 ≡ get_or bytes 0 0 =
    get_or-take (digit_count bytes) bytes 0 0 tag.some in
    decimal-digits_value own (front_digits bytes) (front_digits-range bytes) (omega (
      arith,
      len,
      tag.some,
    )) (λ zero. absurd (tag.no_zero (sym first ∙ zero))) (omega (arith, below))

pub tag_range : (bytes : List ℕ) → has_tag bytes ≡ true
    → is_tag_good bytes ≡ true → (1 ≤ front_tag bytes) × (front_tag bytes ≤ 999999999)
tag_range bytes has good =
    let tag = tag_facts bytes has good in
    let len : length (front_digits bytes) ≡ digit_count bytes =
    length-prefix_len is_ascii_digit bytes in
    let below : front_tag bytes < 10 ^ 9 = digits_value_short
    own (front_digits bytes) 9 (front_digits-range bytes) (omega (arith, len, tag.nine)) in
    let first : get_or (front_digits bytes) 0 0 ≡ get_or bytes 0 0 =
    get_or-take (digit_count bytes) bytes 0 0 tag.some in
    let no_zero : front_tag bytes ≢ 0 =
    λ zero. tag.no_zero (sym first ∙ ap (λ (ds : List ℕ). get_or ds 0 0)
    (sym (front_tag-decimal bytes tag) ∙ ap decimal zero ∙ decimal_digit 0 (omega arith))) in
    (omega (arith, no_zero), omega (arith, below))

pub tag_written : (bytes : List ℕ) → has_tag bytes ≡ true
    → is_tag_good bytes ≡ true → bytes ≡ decimal (front_tag bytes) ++ 61 ∷ after_tag bytes
tag_written bytes has good =
    let tag = tag_facts bytes has good in
    (cut_at bytes (digit_count bytes) 61 (omega arith) tag.equals).1
    ∙ ap (λ (ds : List ℕ). ds ++ 61 ∷ after_tag bytes) (sym (front_tag-decimal bytes tag))

-- ---- the tests of a tag, where so many digits were read from the front

next_is : (bytes : List ℕ) (n : ℕ) → list_all is_ascii_digit (take n bytes) ≡ true
    → n ≤ length bytes → get_or bytes n 0 ≡ 61 → digit_count bytes ≡ n
next_is bytes n digits le next = count_is bytes n digits le (ap is_ascii_digit next)

good_tests : (n first next : ℕ) → n ≢ 0 → n ≤ 9 → first ≢ 48 → next ≡ 61
    → ((nat_lt 0 n && (next == 61)) ≡ true) × ((not (first == 48) && nat_le n 9) ≡ true)
good_tests n first next some few first_is next_is =
    (grind (arith, nat_tests), grind (arith, nat_tests))

pub tag_tests : (bytes : List ℕ) (n : ℕ) → list_all is_ascii_digit (take n bytes) ≡ true
    → n ≤ length bytes → n ≤ 9 → n ≢ 0 → get_or bytes 0 0 ≢ 48 → get_or bytes n 0 ≡ 61
    → (has_tag bytes ≡ true) × (is_tag_good bytes ≡ true)
unfolding has_tag is_tag_good
tag_tests bytes n digits le few some first next =
    let count = next_is bytes n digits le next in
    rw count (good_tests n (get_or bytes 0 0) (get_or bytes n 0) some few first next)

not_zero : (first : ℕ) → 49 ≤ first → first ≢ 48
not_zero first lead = λ zero. absurd (omega (arith, lead, zero))

-- two digits, and `=` behind them
pub two_tests : (bytes : List ℕ) → list_all is_ascii_digit (take 2 bytes) ≡ true
    → 2 ≤ length bytes → 49 ≤ get_or bytes 0 0 → get_or bytes 2 0 ≡ 61
    → (has_tag bytes ≡ true) × (is_tag_good bytes ≡ true)
two_tests bytes digits le first next =
    tag_tests bytes 2 digits le (omega arith) (omega arith) (not_zero (get_or bytes 0 0) first) next

-- the same of three digits
pub three_tests : (bytes : List ℕ) → list_all is_ascii_digit (take 3 bytes) ≡ true
    → 3 ≤ length bytes → 49 ≤ get_or bytes 0 0 → get_or bytes 3 0 ≡ 61
    → (has_tag bytes ≡ true) × (is_tag_good bytes ≡ true)
three_tests bytes digits le first next =
    tag_tests bytes 3 digits le (omega arith) (omega arith) (not_zero (get_or bytes 0 0) first) next

and_false : (b : Bool) → (b && false) ≡ false
and_false true = refl
and_false false = refl

-- no digit stands at the front
pub no_tag : (bytes : List ℕ) → 0 ≡ digit_count bytes → (has_tag bytes && is_tag_good bytes) ≡ false
unfolding has_tag
no_tag bytes none = rw (← none) refl

-- a zero stands at the front
pub zero_first : (bytes : List ℕ) → get_or bytes 0 0 ≡ 48
    → (has_tag bytes && is_tag_good bytes) ≡ false
unfolding is_tag_good
zero_first bytes zero = rw zero (and_false (has_tag bytes))

pub equals : (next : ℕ) → (next == 61) ≡ true → next ≡ 61
equals next e = eqb-true next 61 e

failed : (n next : ℕ) (good : Bool) → (next == 61) ≡ false
    → ((nat_lt 0 n && (next == 61)) && good) ≡ false
failed n next good other = grind (arith, nat_tests)

too_many : (n first : ℕ) (has : Bool) → 9 < n → (has && (not (first == 48) && nat_le n 9)) ≡ false
too_many n first has many = grind (arith, nat_tests)

-- another byte stands behind the first nine digits, or behind fewer
pub other_next : (bytes : List ℕ) (n : ℕ) → list_all is_ascii_digit (take n bytes) ≡ true
    → n ≤ length bytes → n ≤ 9 → (n < 9 → n ≡ digit_count bytes)
    → (get_or bytes n 0 == 61) ≡ false → (has_tag bytes && is_tag_good bytes) ≡ false
unfolding has_tag is_tag_good
other_next bytes n digits le few all other =
    ⊎_elim (λ lt. too_many (digit_count bytes) (get_or bytes 0 0)
    (nat_lt 0 (digit_count bytes) && (get_or bytes (digit_count bytes) 0 == 61))
    (⊎_elim (λ less. absurd (omega (arith, lt, all less))) (λ nine. omega (arith, lt, nine))
    (cases_lt n 9)))
    (λ ge. let same : digit_count bytes ≡ n = omega (arith, ge, count_least bytes n digits le) in
    rw same (failed n (get_or bytes n 0) _ other))
    (cases_lt n (digit_count bytes))

pub digit_count_is : (bytes : List ℕ) (n : ℕ) → list_all is_ascii_digit (take n bytes) ≡ true
    → n ≤ length bytes → get_or bytes n 0 ≡ 61 → n ≡ digit_count bytes
digit_count_is bytes n digits le next = sym (next_is bytes n digits le next)

-- what the slice after the tag and its `=` holds
pub rest_is : (bytes : List ℕ) (n : ℕ)
    → n ≡ digit_count bytes → take (length bytes - (n + 1)) (drop (n + 1) bytes) ≡ after_tag bytes
rest_is bytes n is =
    take_all (length bytes - (n + 1)) (drop (n + 1) bytes)
    (omega (arith, length-drop (n + 1) bytes)) ∙ ap (λ (i : ℕ). drop (i + 1) bytes) is
