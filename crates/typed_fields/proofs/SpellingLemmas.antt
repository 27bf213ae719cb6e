-- The digits of a number, and the parts of bytes that have a pattern.
use Rattle.std.proofs.Common.{◌≡◌, ◌==◌, if◌then◌else◌, ℕ, zero, suc, ◌+◌, ◌-◌, ◌*◌, ◌/◌, ◌%◌, ◌^◌}
use Rattle.std.proofs.Common.{◌<◌, ◌≤◌, nat_le, Bool, true, false, List, [], ◌∷◌, ◌++◌, length}
use Rattle.std.proofs.Common.{drop, slice_range, Ok, Err, refl, sym, ap, ◌∙◌, arith}
use Rattle.std.specs.Char.{is_ascii_digit, is_ascii_alphabetic}
use Rattle.std.specs.List.{list_all}
use Rattle.std.proofs.lemmas.Bool.Decides.{nat_tests}
use Rattle.std.proofs.lemmas.List.{take-append-drop, drop-drop, length-take, length-drop}
use Rattle.std.proofs.lemmas.Str.{digit_value_digit}
use Rattle.std.proofs.lemmas.Nat.{div-mul-add, div-add-mod', div_below, mod_below}
use Rattle.std.proofs.Math.Nat.{pow-suc, add-mul-div_right}
use Rattle.typed_fields.specs.Digits.{has_mark, have_marks, has_pattern, are_digits, number_of}
use Rattle.typed_fields.specs.Digits.{zero_padded}
use Rattle.typed_fields.specs.Reading.{judged}
use Rattle.typed_fields.specs.declared.fault.FieldFault.{FieldFault}
use Rattle.typed_fields.proofs.DigitsLemmas.{both_true, number_of-append, number_of-lt}
use Rattle.typed_fields.proofs.DigitsLemmas.{digits_of_pattern, length-has_pattern}
use Rattle.typed_fields.proofs.DigitsLemmas.{have_marks-slice}

-- what is known of bytes that are read as a value
pub record IsJudged {A : Type 0} (bytes : List ℕ) (is_form is_bound : Bool) (read x : A) : Type 0
  where
    pub some : (length bytes == 0) ≡ false
    pub form : is_form ≡ true
    pub bound : is_bound ≡ true
    pub value : read ≡ x

pub judged_ok : {A : Type 0} (bytes : List ℕ) (form bound : Bool) (value x : A)
    → judged bytes form bound value ≡ Ok x → IsJudged bytes form bound value x
judged_ok bytes form bound value x e = go (length bytes == 0) form bound refl refl refl e
  where
    go : (none f b : Bool)
        → (length bytes == 0) ≡ none → form ≡ f → bound ≡ b → (if none then Err FieldFault.Empty
        else (if f then (if b then Ok value else Err FieldFault.Range) else Err FieldFault.Form))
        ≡ Ok x → IsJudged bytes form bound value x
    go true f b p q r e = absurd cc
    go false true true p q r e = record { some = p; form = q; bound = r; value = cc }
    go false true false p q r e = absurd cc
    go false false b p q r e = absurd cc

pub judged_good : {A : Type 0} (bytes : List ℕ) (form bound : Bool) (value : A)
    → (length bytes == 0) ≡ false
    → form ≡ true → bound ≡ true → judged bytes form bound value ≡ Ok value
judged_good bytes form bound value some good within = rw (some, good, within)

pub digit_bounds : (d : ℕ) → is_ascii_digit d ≡ true → (48 ≤ d) × (d ≤ 57)
digit_bounds d h =
    let parts = both_true (nat_le 48 d) (nat_le d 57) h
    in (grind (arith, nat_tests), grind (arith, nat_tests))

-- the number of a digit before others
number_of_none : number_of [] ≡ 0
unfolding number_of
number_of_none = refl

pub number_of_one : (d : ℕ) → 48 ≤ d → d ≤ 57 → number_of (d ∷ []) ≡ d - 48
unfolding number_of
number_of_one d low high = omega (arith, digit_value_digit d (low, high))

pub number_of_first : (d : ℕ) (ds : List ℕ)
    → 48 ≤ d → d ≤ 57 → number_of (d ∷ ds) ≡ (d - 48) * 10 ^ length ds + number_of ds
number_of_first d ds low high = number_of-append (d ∷ []) ds
    ∙ ap (λ n. n * 10 ^ length ds + number_of ds) (number_of_one d low high)

pub power_some : (w : ℕ) → 0 < 10 ^ w
power_some zero = omega arith
power_some (suc w) = omega (arith, pow-suc 10 w, power_some w)

-- the last digits of a number depend on no more
tenfold : (a b p q : ℕ) → q ≡ p * 10 → a * q + b ≡ a * 10 * p + b
tenfold a b p q e = rw e (omega arith)

digit_more : (a b p : ℕ) → 0 < p → (a * 10 * p + b) / p % 10 ≡ b / p % 10
digit_more a b p some =
    let e : (b + a * 10 * p) / p ≡ b / p + a * 10 = add-mul-div_right b (a * 10) some in
    let turned : a * 10 * p + b ≡ b + a * 10 * p = omega arith in
    rw (turned, e) (omega arith)

pub zero_padded-more : (w a b : ℕ) → zero_padded w (a * 10 ^ w + b) ≡ zero_padded w b
unfolding zero_padded
zero_padded-more zero a b = refl
zero_padded-more (suc w) a b =
    let same : a * 10 ^ suc w + b ≡ a * 10 * 10 ^ w + b =
    tenfold a b (10 ^ w) (10 ^ suc w) (pow-suc 10 w) in
    let rest = zero_padded-more w (a * 10) b in
    let first : (a * 10 * 10 ^ w + b) / 10 ^ w % 10 ≡ b / 10 ^ w % 10 =
    digit_more a b (10 ^ w) (power_some w) in
    rw (same, rest, first)

-- digits are those of their number
digit_back : (d p m : ℕ) → 48 ≤ d → d ≤ 57 → m < p → 48 + ((d - 48) * p + m) / p % 10 ≡ d
digit_back d p m low high below = rw (div-mul-add (d - 48) p m below) (omega arith)

pub zero_padded-number_of : (ds : List ℕ)
    → are_digits ds ≡ true → zero_padded (length ds) (number_of ds) ≡ ds
unfolding zero_padded are_digits
zero_padded-number_of [] h = refl
zero_padded-number_of (d ∷ ds) h =
    let parts = both_true (is_ascii_digit d) (list_all is_ascii_digit ds) h in
    let bounds = digit_bounds d parts.0 in
    let below = number_of-lt ds (length ds) parts.1 (omega arith) in
    let rest =
    zero_padded-more (length ds) (d - 48) (number_of ds) ∙ zero_padded-number_of ds parts.1 in
    let first = digit_back d (10 ^ length ds) (number_of ds) bounds.0 bounds.1 below in
    rw (number_of_first d ds bounds.0 bounds.1, rest, first)

-- the numbers of the last two, three and four digits
last_one : (n : ℕ) → number_of ((48 + n % 10) ∷ []) ≡ n % 10
last_one n = number_of_one (48 + n % 10) (omega arith) (omega arith) ∙ omega arith

last_more : (n : ℕ) (ds : List ℕ)
    → number_of ((48 + n % 10) ∷ ds) ≡ n % 10 * 10 ^ length ds + number_of ds
last_more n ds =
    let digit : 48 + n % 10 - 48 ≡ n % 10 = omega arith in
    number_of_first (48 + n % 10) ds (omega arith) (omega arith)
    ∙ ap (λ k. k * 10 ^ length ds + number_of ds) digit

pub two_back : (n : ℕ) → n < 100 → number_of ((48 + n / 10 % 10) ∷ (48 + n % 10) ∷ []) ≡ n
two_back n h = last_more (n / 10) ((48 + n % 10) ∷ []) ∙ (rw (last_one n) (omega arith))

pub four_back : (n : ℕ) → n < 10000 → number_of
    ((48 + n / 1000 % 10) ∷ (48 + n / 100 % 10) ∷ (48 + n / 10 % 10) ∷ (48 + n % 10) ∷ []) ≡ n
four_back n h =
    last_more (n / 1000) ((48 + n / 100 % 10) ∷ (48 + n / 10 % 10) ∷ (48 + n % 10) ∷ [])
    ∙ (rw (
      last_more (n / 100) ((48 + n / 10 % 10) ∷ (48 + n % 10) ∷ []),
      last_more (n / 10) ((48 + n % 10) ∷ []),
      last_one n,
    ) (omega arith))

-- a last digit is a digit
pub is_digit-last : (n : ℕ) → is_ascii_digit (48 + n % 10) ≡ true
is_digit-last n = grind (arith, nat_tests)

-- the last digits of a number: as many digits as are asked for
pub length-zero_padded : (w n : ℕ) → length (zero_padded w n) ≡ w
unfolding zero_padded
length-zero_padded zero n = refl
length-zero_padded (suc w) n = ap suc (length-zero_padded w n)

pub are_digits-zero_padded : (w n : ℕ) → are_digits (zero_padded w n) ≡ true
unfolding zero_padded are_digits
are_digits-zero_padded zero n = refl
are_digits-zero_padded (suc w) n = let first =
    is_digit-last (n / 10 ^ w) in let rest = are_digits-zero_padded w n in rw (first, rest)

-- and they spell the number where it has no more
pub number_of-zero_padded : (w n : ℕ) → n < 10 ^ w → number_of (zero_padded w n) ≡ n
unfolding zero_padded
number_of-zero_padded zero n h = number_of_none ∙ omega arith
number_of-zero_padded (suc w) n h =
    let p = 10 ^ w in
    let whole : n / p * p + n % p ≡ n = div-add-mod' n p in
    let high : n / p < 10 = div_below n p 10 (power_some w) (omega (arith, h, pow-suc 10 w)) in
    let low : n % p < p = mod_below n p (power_some w) in
    let rest : number_of (zero_padded w n) ≡ n % p =
    ap (λ k. number_of (zero_padded w k)) (sym whole)
    ∙ (ap number_of (zero_padded-more w (n / p) (n % p)) ∙ number_of-zero_padded w (n % p) low)
    in
    let long = length-zero_padded w n in
    number_of_first (48 + n / p % 10) (zero_padded w n) (omega arith) (omega arith)
    ∙ (rw (long, rest) (added (n / p) p (n % p) high ∙ whole))
  where
    added : (q p r : ℕ) → q < 10 → (48 + q % 10 - 48) * p + r ≡ q * p + r
    added q p r h = let e : 48 + q % 10 - 48 ≡ q = omega arith in rw e

-- the parts of bytes, joined again
pub slice_then : (bs : List ℕ) (i j : ℕ) → i ≤ j → drop i bs ≡ slice_range bs i j ++ drop j bs
slice_then bs i j ordered =
    let e : i + (j - i) ≡ j = omega arith in
    sym (rw (drop-drop (j - i) i bs, e) at (take-append-drop (j - i) (drop i bs)))

one_mark : (m : ℕ) (xs : List ℕ)
    → length xs ≡ 1 → is_ascii_alphabetic m ≡ false → have_marks (m ∷ []) xs ≡ true → xs ≡ m ∷ []
one_mark m [] e other h = absurd (omega arith)
one_mark m (b ∷ []) e other h =
    let test : (b == m) ≡ true = rw other at (both_true (has_mark m b) true h).0 in
    let same : b ≡ m = grind (arith, nat_tests) in
    rw same
one_mark m (b ∷ c ∷ xs) e other h = absurd (omega arith)

-- where the pattern has one other mark than a letter, bytes that have it have that mark
pub mark_of_pattern : (ms bs : List ℕ) (i m : ℕ)
    → has_pattern ms bs ≡ true → i < length ms → slice_range ms i (i + 1) ≡ m ∷ []
    → is_ascii_alphabetic m ≡ false → slice_range bs i (i + 1) ≡ m ∷ []
mark_of_pattern ms bs i m h within mark other =
    let long : length (slice_range bs i (i + 1)) ≡ 1 =
    simp (length-take, length-drop) (omega (arith, length-has_pattern ms bs h)) in
    one_mark
    m (slice_range bs i (i + 1)) long other (rw mark at (have_marks-slice ms bs i (i + 1) h))

-- a part of the bytes as the digits of its number
pub part_back : (ms bs : List ℕ) (i j : ℕ) → has_pattern ms bs ≡ true
    → j ≤ length ms → i ≤ j → list_all is_ascii_alphabetic (slice_range ms i j) ≡ true
    → zero_padded (j - i) (number_of (slice_range bs i j)) ≡ slice_range bs i j
part_back ms bs i j h within ordered letters =
    let digits = digits_of_pattern ms bs i j h letters in
    let long : length (slice_range bs i j) ≡ j - i =
    simp (length-take, length-drop) (omega (arith, length-has_pattern ms bs h)) in
    rw long at (zero_padded-number_of (slice_range bs i j) digits)
