-- Digits and the numbers that they spell.
use Rattle.std.proofs.Common.{if◌then◌else◌, inl, inr, ◌≡◌, ◌==◌, ◌&&◌, slice_range, ℕ, zero, suc}
use Rattle.std.proofs.Common.{◌+◌, ◌-◌, ◌*◌, ◌/◌, ◌%◌, ◌^◌, ◌<◌, ◌≤◌, Bool, true, false, List, []}
use Rattle.std.proofs.Common.{◌∷◌, ◌++◌, length, get_or, take, drop, refl, sym, ap, ◌∙◌, arith}
use Rattle.std.proofs.Common.{rules, nat_le}
use Rattle.std.specs.Char.{is_ascii_digit, is_ascii_alphabetic}
use Rattle.std.specs.List.{list_all}
use Rattle.std.proofs.lemmas.List.{take-take, drop-take, take_more, drop_more, at_drop_more}
use Rattle.std.proofs.lemmas.List.{drop_all, length-take, length-drop}
use Rattle.std.proofs.lemmas.List.Elements.{All-take, All-drop}
use Rattle.std.proofs.lemmas.List.Sums.{AllPass-from_list_all, list_all-from_AllPass}
use Rattle.std.specs.Str.Parse.{digits_value_after}
use Rattle.std.specs.Char.{digit_value}
use Rattle.std.proofs.lemmas.Int.Digits.{digits_value_more}
use Rattle.std.proofs.lemmas.Str.{digit_value_digit}
use Rattle.std.proofs.lemmas.Str.Parse.{IsNumeralModel, numerals_by_value, digit_at}
use Rattle.std.proofs.lemmas.Str.Parse.{digits_value_short}
use Rattle.std.proofs.lemmas.Bool.{cases_lt}
use Rattle.std.proofs.lemmas.Bool.Decides.{nat_tests}
use Rattle.std.proofs.Math.Nat.{div-one, pow-suc}
use Rattle.std.proofs.lemmas.List.Folds.{list_all-append}
use Rattle.typed_fields.specs.Digits.{has_mark, have_marks, has_pattern, is_point}
use Rattle.typed_fields.specs.Digits.{are_digits, number_of}
use Rattle.typed_fields.specs.Digits.{zero_padded, without_leading_zeros, before_others}
use Rattle.typed_fields.specs.Digits.{without_trailing_zeros}

-- our words for texts of digits and their numbers are those of std's lemmas
pub numerals : IsNumeralModel (λ ds. are_digits ds ≡ true) number_of
unfolding are_digits number_of
numerals = numerals_by_value _ (search rules)

-- one more digit
pub number_of_more : (ds : List ℕ) (i : ℕ) → i < length ds → 48 ≤ get_or ds i 0 → get_or ds i 0 ≤ 57
    → number_of (take (i + 1) ds) ≡ 10 * number_of (take i ds) + (get_or ds i 0 - 48)
unfolding number_of
number_of_more ds i h low high =
    omega (arith, digits_value_more 10 ds i h, digit_value_digit (get_or ds i 0) (low, high))

pub are_digits-take : (i : ℕ) (ds : List ℕ) → are_digits ds ≡ true → are_digits (take i ds) ≡ true
unfolding are_digits
are_digits-take i ds h = list_all-from_AllPass
    _ _ (All-take (λ c. is_ascii_digit c ≡ true) i ds (AllPass-from_list_all _ ds h))

-- a digit of some, and the number before it, where they are at most 18
pub digits_so_far : (ds : List ℕ) (i : ℕ) → are_digits ds ≡ true → length ds ≤ 18 → i < length ds
    → (number_of (take i ds) < 10 ^ 17) × (48 ≤ get_or ds i 0) × (get_or ds i 0 ≤ 57)
digits_so_far ds i h short within =
    let digit = digit_at ds i (numerals.to ds h) within in (
      digits_value_short numerals (take i ds)
          17 (are_digits-take i ds h) (omega (arith, length-take {A = ℕ})),
      digit.0,
      digit.1,
    )

-- the zeros in front
pub leading_zero : (ds : List ℕ) (i : ℕ) → i < length ds → get_or ds i 0 ≡ 48
    → without_leading_zeros (drop (i + 1) ds) ≡ without_leading_zeros (drop i ds)
unfolding without_leading_zeros
leading_zero ds i within zero_there = sym (at_drop_more without_leading_zeros ds i 0 within
    ∙ ap (λ c. without_leading_zeros (c ∷ drop (i + 1) ds)) zero_there)

leading_other_first : (c : ℕ) (ds : List ℕ) → (c ≡ 48 → ⊥) → without_leading_zeros (c ∷ ds) ≡ c ∷ ds
unfolding without_leading_zeros
leading_other_first c ds other = grind (arith, nat_tests)

pub leading_other : (ds : List ℕ) (i : ℕ)
    → i < length ds → (get_or ds i 0 ≡ 48 → ⊥) → without_leading_zeros (drop i ds) ≡ drop i ds
leading_other ds i within other = rw (drop_more ds i 0 within) (leading_other_first _ _ other)

pub leading_none : (ds : List ℕ) (i : ℕ)
    → length ds ≤ i → without_leading_zeros (drop i ds) ≡ drop i ds
unfolding without_leading_zeros
leading_none ds i past = rw (drop_all i ds past)

-- the zeros behind
trailing_push : (ds : List ℕ) → without_trailing_zeros (ds ++ (48 ∷ [])) ≡ without_trailing_zeros ds
unfolding without_trailing_zeros
trailing_push [] = refl
trailing_push (d ∷ ds) = ap (before_others d) (trailing_push ds)

pub trailing_zero : (ds : List ℕ) (i n : ℕ) → i < length ds → n ≡ i + 1
    → get_or ds i 0 ≡ 48 → without_trailing_zeros (take i ds) ≡ without_trailing_zeros (take n ds)
trailing_zero ds i n within e zero_there =
    rw (e, take_more ds i 0 within, zero_there) (sym (trailing_push (take i ds)))

pub trailing_none : (ds : List ℕ) (n : ℕ) → n ≡ 0 → without_trailing_zeros (take n ds) ≡ take n ds
unfolding without_trailing_zeros
trailing_none ds n e = rw e

trailing_keeps : (c d : ℕ) (ds ys : List ℕ) → ys ≡ ds ++ (d ∷ []) → before_others c ys ≡ c ∷ ys
trailing_keeps c d [] ys e = rw e
trailing_keeps c d (x ∷ xs) ys e = rw e

trailing_other_last : (ds : List ℕ) (c : ℕ)
    → (c ≡ 48 → ⊥) → without_trailing_zeros (ds ++ (c ∷ [])) ≡ ds ++ (c ∷ [])
unfolding without_trailing_zeros
trailing_other_last [] c other = grind (arith, nat_tests)
trailing_other_last (d ∷ ds) c other =
    let e = trailing_other_last ds c other in rw e (trailing_keeps d c ds (ds ++ (c ∷ [])) refl)

pub trailing_other : (ds : List ℕ) (i n : ℕ) → i < length ds
    → n ≡ i + 1 → (get_or ds i 0 ≡ 48 → ⊥) → without_trailing_zeros (take n ds) ≡ take n ds
trailing_other ds i n within e other =
    rw (e, take_more ds i 0 within) (trailing_other_last _ _ other)

pub both_true : (a b : Bool) → (a && b) ≡ true → (a ≡ true) × (b ≡ true)
both_true true b h = (refl, h)
both_true false b h = absurd cc

-- bytes that have a pattern: as many as the marks, and each has its mark
pattern_parts : (ms bs : List ℕ)
    → has_pattern ms bs ≡ true → (length ms ≡ length bs) × (have_marks ms bs ≡ true)
unfolding has_pattern
pattern_parts ms bs h =
    let parts = both_true (length ms == length bs) (have_marks ms bs) h
    in (grind (arith, nat_tests), parts.1)

pub length-has_pattern : (ms bs : List ℕ) → has_pattern ms bs ≡ true → length bs ≡ length ms
length-has_pattern ms bs h = sym (pattern_parts ms bs h).0

have_marks-nil : (ms : List ℕ) → have_marks ms [] ≡ true
have_marks-nil [] = refl
have_marks-nil (m ∷ ms) = refl

have_marks-drop : (i : ℕ) (ms bs : List ℕ)
    → have_marks ms bs ≡ true → have_marks (drop i ms) (drop i bs) ≡ true
have_marks-drop zero ms bs h = h
have_marks-drop (suc i) [] [] h = refl
have_marks-drop (suc i) [] (b ∷ bs) h = refl
have_marks-drop (suc i) (m ∷ ms) [] h = have_marks-nil (drop i ms)
have_marks-drop (suc i) (m ∷ ms) (b ∷ bs) h =
    have_marks-drop i ms bs (both_true (has_mark m b) (have_marks ms bs) h).1

have_marks-take : (i : ℕ) (ms bs : List ℕ)
    → have_marks ms bs ≡ true → have_marks (take i ms) (take i bs) ≡ true
have_marks-take zero ms bs h = refl
have_marks-take (suc i) [] [] h = refl
have_marks-take (suc i) [] (b ∷ bs) h = refl
have_marks-take (suc i) (m ∷ ms) [] h = refl
have_marks-take (suc i) (m ∷ ms) (b ∷ bs) h =
    let parts = both_true (has_mark m b) (have_marks ms bs) h in
    let rest = have_marks-take i ms bs parts.1 in
    rw (parts.0, rest)

letter_mark : (m b : ℕ)
    → is_ascii_alphabetic m ≡ true → has_mark m b ≡ true → is_ascii_digit b ≡ true
letter_mark m b letter h = let e = rw letter at h in e

letters_have_digits : (ms bs : List ℕ) → length ms ≡ length bs
    → list_all is_ascii_alphabetic ms ≡ true → have_marks ms bs ≡ true → are_digits bs ≡ true
unfolding are_digits
letters_have_digits [] [] e letters h = refl
letters_have_digits [] (b ∷ bs) e letters h = absurd (omega arith)
letters_have_digits (m ∷ ms) [] e letters h = absurd (omega arith)
letters_have_digits (m ∷ ms) (b ∷ bs) e letters h =
    let marks = both_true (has_mark m b) (have_marks ms bs) h in
    let first = both_true (is_ascii_alphabetic m) (list_all is_ascii_alphabetic ms) letters in
    let rest = letters_have_digits ms bs (omega arith) first.1 marks.1 in
    rw (letter_mark m b first.0 marks.0, rest)

letters_are_digits : (ms bs : List ℕ) → length bs ≡ length ms
    → list_all is_ascii_alphabetic ms ≡ true → have_marks ms bs ≡ are_digits bs
unfolding are_digits
letters_are_digits [] [] e letters = refl
letters_are_digits [] (b ∷ bs) e letters = absurd (omega arith)
letters_are_digits (m ∷ ms) [] e letters = absurd (omega arith)
letters_are_digits (m ∷ ms) (b ∷ bs) e letters =
    let first = both_true (is_ascii_alphabetic m) (list_all is_ascii_alphabetic ms) letters in
    let rest = letters_are_digits ms bs (omega arith) first.1 in
    let here : has_mark m b ≡ is_ascii_digit b = rw first.0 refl in
    rw (here, rest) refl

-- a pattern of a point and letters
pub point_is : (ms bs : List ℕ) → is_point ms ≡ true → length bs ≡ length ms
    → (get_or bs 0 0 == 46 && are_digits (drop 1 bs)) ≡ has_pattern ms bs
unfolding has_pattern
point_is [] bs point e = absurd cc
point_is (m ∷ ms) [] point e = absurd (omega arith)
point_is (m ∷ ms) (b ∷ bs) point e =
    let parts = both_true (m == 46) (list_all is_ascii_alphabetic ms) point in
    let mark : m ≡ 46 = grind (arith, nat_tests, parts.0) in
    let long : (length (m ∷ ms) == length (b ∷ bs)) ≡ true = grind (arith, nat_tests, e) in
    let here : has_mark m b ≡ (b == 46) = rw mark refl in
    rw (long, here, letters_are_digits ms bs (omega arith) parts.1) refl

-- the marks of a part of the bytes
pub have_marks-slice : (ms bs : List ℕ) (i j : ℕ)
    → has_pattern ms bs ≡ true → have_marks (slice_range ms i j) (slice_range bs i j) ≡ true
have_marks-slice ms bs i j h = have_marks-take
    (j - i) (drop i ms) (drop i bs) (have_marks-drop i ms bs (pattern_parts ms bs h).1)

-- where the pattern has letters, bytes that have it have digits
pub digits_of_pattern : (ms bs : List ℕ) (i j : ℕ) → has_pattern ms bs ≡ true → list_all
    is_ascii_alphabetic (slice_range ms i j) ≡ true → are_digits (slice_range bs i j) ≡ true
digits_of_pattern ms bs i j h letters =
    let parts = pattern_parts ms bs h in
    letters_have_digits (slice_range ms i j)
    (slice_range bs i j) (simp (length-take, length-drop) (rw parts.0)) letters
    (have_marks-slice ms bs i j h)

-- a number is below the power of ten of its digits
pub number_of-lt : (ds : List ℕ) (k : ℕ)
    → are_digits ds ≡ true → length ds ≤ k → number_of ds < 10 ^ k
number_of-lt ds k h short = digits_value_short numerals ds k h short

-- the last digits of a number, at the widths of dates and times
pub zero_padded_two : (n : ℕ) → zero_padded 2 n ≡ (48 + n / 10 % 10) ∷ (48 + n % 10) ∷ []
unfolding zero_padded
zero_padded_two n = rw (div-one n)

pub zero_padded_three : (n : ℕ)
    → zero_padded 3 n ≡ (48 + n / 100 % 10) ∷ (48 + n / 10 % 10) ∷ (48 + n % 10) ∷ []
unfolding zero_padded
zero_padded_three n = rw (div-one n)

pub zero_padded_four : (n : ℕ) → zero_padded 4 n
    ≡ (48 + n / 1000 % 10) ∷ (48 + n / 100 % 10) ∷ (48 + n / 10 % 10) ∷ (48 + n % 10) ∷ []
unfolding zero_padded
zero_padded_four n = rw (div-one n)

pub zero_padded_eight : (n : ℕ) → zero_padded 8 n ≡ (48 + n / 10000000 % 10)
    ∷ (48 + n / 1000000 % 10) ∷ (48 + n / 100000 % 10) ∷ (48 + n / 10000 % 10)
    ∷ (48 + n / 1000 % 10) ∷ (48 + n / 100 % 10) ∷ (48 + n / 10 % 10) ∷ (48 + n % 10) ∷ []
unfolding zero_padded
zero_padded_eight n = rw (div-one n)

-- eight digits are four and four
pub eight_of_four : (n : ℕ) → (48 + n / 10000 % 10000 / 1000 % 10)
    ∷ (48 + n / 10000 % 10000 / 100 % 10) ∷ (48 + n / 10000 % 10000 / 10 % 10)
    ∷ (48 + n / 10000 % 10000 % 10) ∷ (48 + n % 10000 / 1000 % 10) ∷ (48 + n % 10000 / 100 % 10)
    ∷ (48 + n % 10000 / 10 % 10) ∷ (48 + n % 10000 % 10) ∷ [] ≡ zero_padded 8 n
eight_of_four n =
    let a : n / 10000 % 10000 / 1000 % 10 ≡ n / 10000000 % 10 = omega arith in
    let b : n / 10000 % 10000 / 100 % 10 ≡ n / 1000000 % 10 = omega arith in
    let c : n / 10000 % 10000 / 10 % 10 ≡ n / 100000 % 10 = omega arith in
    let d : n / 10000 % 10000 % 10 ≡ n / 10000 % 10 = omega arith in
    let e : n % 10000 / 1000 % 10 ≡ n / 1000 % 10 = omega arith in
    let f : n % 10000 / 100 % 10 ≡ n / 100 % 10 = omega arith in
    let g : n % 10000 / 10 % 10 ≡ n / 10 % 10 = omega arith in
    let h : n % 10000 % 10 ≡ n % 10 = omega arith in
    rw (a, b, c, d, e, f, g, h) (sym (zero_padded_eight n))

-- a part as the end of a front
slice_range_is : (bs : List ℕ) (i j : ℕ) → i ≤ j → slice_range bs i j ≡ drop i (take j bs)
slice_range_is bs i j ordered =
    let whole : i + (j - i) ≡ j = omega arith in
    sym (drop-take i (j - i) bs) ∙ ap (λ k. drop i (take k bs)) whole

slice_range_none : (bs : List ℕ) (i j : ℕ) → j < i → slice_range bs i j ≡ []
slice_range_none bs i j past = let none : j - i ≡ 0 = omega arith in rw none

-- a part of the first bytes
pub slice_range-take : (bs : List ℕ) (n i j : ℕ)
    → j ≤ n → slice_range (take n bs) i j ≡ slice_range bs i j
slice_range-take bs n i j within =
    elim (cases_lt j i) [
      | inl past ↦ slice_range_none (take n bs) i j past ∙ sym (slice_range_none bs i j past)
      | inr ordered ↦
          slice_range_is (take n bs) i j ordered
          ∙ (ap (drop i) (take-take j n bs within) ∙ sym (slice_range_is bs i j ordered))
    ]

-- a part of digits
pub are_digits-part : (bs : List ℕ) (n i j : ℕ)
    → are_digits (take n bs) ≡ true → j ≤ n → are_digits (slice_range bs i j) ≡ true
unfolding are_digits
are_digits-part bs n i j h within =
    let whole = AllPass-from_list_all is_ascii_digit (take n bs) h in
    let part = All-take (λ c. is_ascii_digit c ≡ true) (j - i)
    (drop i (take n bs)) (All-drop (λ c. is_ascii_digit c ≡ true) i (take n bs) whole) in
    rw (slice_range-take bs n i j within)
    at (list_all-from_AllPass is_ascii_digit (slice_range (take n bs) i j) part)

-- a date digit by digit
pub date_text_joined : (year month day : List ℕ) (y m d : ℕ)
    → year ≡ zero_padded 4 y → month ≡ zero_padded 2 m → day ≡ zero_padded 2 d
    → get_or year 0 0 ∷ get_or year 1 0
    ∷ get_or year 2 0 ∷ get_or year 3 0 ∷ get_or month 0 0 ∷ get_or month 1 0 ∷ get_or day 0 0
    ∷ get_or day 1 0 ∷ [] ≡ zero_padded 4 y ++ zero_padded 2 m ++ zero_padded 2 d
date_text_joined year month day y m d e f g =
    rw (e, f, g, zero_padded_four y, zero_padded_two m, zero_padded_two d)

-- the first of the marks and the first of the bytes
pub has_pattern-take : (i : ℕ) (ms bs : List ℕ)
    → has_pattern ms bs ≡ true → has_pattern (take i ms) (take i bs) ≡ true
unfolding has_pattern
has_pattern-take i ms bs h =
    let parts = pattern_parts ms bs h in
    let same : length (take i ms) ≡ length (take i bs) = simp length-take (rw parts.0) in
    let test : (length (take i ms) == length (take i bs)) ≡ true = grind (arith, nat_tests) in
    rw (test, have_marks-take i ms bs parts.1)

-- digits joined
shifted : (n c p q r x y : ℕ)
    → x ≡ (n * 10 + c) * p + r → y ≡ (0 * 10 + c) * p + r → q ≡ p * 10 → x ≡ n * q + y
shifted n c p q r x y e f g = rw g (omega arith)

value_after-is : (n : ℕ) (ds : List ℕ)
    → digits_value_after 10 n ds ≡ n * 10 ^ length ds + digits_value_after 10 0 ds
value_after-is n [] = omega arith
value_after-is n (d ∷ ds) =
    shifted n (digit_value d) (10 ^ length ds) (10 ^ length (d ∷ ds)) (digits_value_after 10 0 ds)
    (digits_value_after 10 n (d ∷ ds)) (digits_value_after 10 0 (d ∷ ds))
    (value_after-is (n * 10 + digit_value d) ds)
    (value_after-is (0 * 10 + digit_value d) ds) (pow-suc 10 (length ds))

pub number_of-append : (xs ys : List ℕ)
    → number_of (xs ++ ys) ≡ number_of xs * 10 ^ length ys + number_of ys
unfolding number_of
number_of-append xs ys = value_after-append 0 xs ys ∙ value_after-is (digits_value_after 10 0 xs) ys
  where
    value_after-append : (n : ℕ) (xs ys : List ℕ)
        → digits_value_after 10 n (xs ++ ys) ≡ digits_value_after 10 (digits_value_after 10 n xs) ys
    value_after-append n [] ys = refl
    value_after-append n (x ∷ xs) ys = value_after-append (n * 10 + digit_value x) xs ys

pub are_digits-append : (xs ys : List ℕ)
    → are_digits xs ≡ true → are_digits ys ≡ true → are_digits (xs ++ ys) ≡ true
unfolding are_digits
are_digits-append xs ys h k = list_all-append is_ascii_digit xs ys
    ∙ (let e : (list_all is_ascii_digit xs && list_all is_ascii_digit ys) ≡ true = rw (h, k) in e)

-- one more digit at the front, of at most fifteen
pub record FrontMore (bytes : List ℕ) (i : ℕ) : Type 0 where
  pub digits : are_digits (take (i + 1) bytes) ≡ true
  pub number : number_of (take (i + 1) bytes)
      ≡ 10 * number_of (take i bytes) + (get_or bytes i 0 - 48)
  pub small : number_of (take i bytes) < 10 ^ 14
  pub most : get_or bytes i 0 ≤ 57

pub front_more : (bytes : List ℕ) (i : ℕ) → i < length bytes → i < 15
    → are_digits (take i bytes) ≡ true → is_ascii_digit (get_or bytes i 0) ≡ true
    → FrontMore bytes i
unfolding are_digits
front_more bytes i within few so_far digit =
    let d = get_or bytes i 0 in
    let bounds = both_true (nat_le 48 d) (nat_le d 57) digit in
    let low : 48 ≤ d = grind (arith, nat_tests, bounds.0) in
    let high : d ≤ 57 = grind (arith, nat_tests, bounds.1) in
    let one : list_all is_ascii_digit (d ∷ []) ≡ true = rw digit refl in
    record {
      digits = rw (take_more bytes i 0 within)
          (are_digits-append (take i bytes) (d ∷ []) so_far one);
      number = number_of_more bytes i within low high;
      small = number_of-lt (take i bytes) 14 so_far (simp length-take (omega (arith, few)));
      most = high;
    }

pub are_digits-leading : (ds : List ℕ)
    → are_digits ds ≡ true → are_digits (without_leading_zeros ds) ≡ true
unfolding are_digits without_leading_zeros
are_digits-leading [] h = h
are_digits-leading (d ∷ ds) h =
    go (d == 48)
    (are_digits-leading ds (both_true (is_ascii_digit d) (list_all is_ascii_digit ds) h).1)
  where
    go : (b : Bool) → list_all is_ascii_digit (without_leading_zeros ds) ≡ true
        → list_all is_ascii_digit (if b then without_leading_zeros ds else (d ∷ ds)) ≡ true
    go true rest = rest
    go false rest = h

pub are_digits-trailing : (ds : List ℕ)
    → are_digits ds ≡ true → are_digits (without_trailing_zeros ds) ≡ true
unfolding are_digits without_trailing_zeros
are_digits-trailing [] h = h
are_digits-trailing (d ∷ ds) h =
    let parts = both_true (is_ascii_digit d) (list_all is_ascii_digit ds) h in
    before d (without_trailing_zeros ds) parts.0 (are_digits-trailing ds parts.1)
  where
    before : (c : ℕ) (ys : List ℕ) → is_ascii_digit c ≡ true
        → list_all is_ascii_digit ys ≡ true → list_all is_ascii_digit (before_others c ys) ≡ true
    before c [] p q = go (c == 48)
      where
        go : (b : Bool) → list_all is_ascii_digit (if b then [] else (c ∷ [])) ≡ true
        go true = refl
        go false = rw p
    before c (y ∷ ys) p q = rw (p, q)

pub are_digits-drop : (i : ℕ) (ds : List ℕ) → are_digits ds ≡ true → are_digits (drop i ds) ≡ true
unfolding are_digits
are_digits-drop i ds h = list_all-from_AllPass
    _ _ (All-drop (λ c. is_ascii_digit c ≡ true) i ds (AllPass-from_list_all _ ds h))
