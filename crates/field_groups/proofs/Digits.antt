-- Digits and the numbers that they write.
use Rattle.std.proofs.Common.{◌≡◌, ℕ, ◌+◌, ◌-◌, ◌*◌, ◌^◌, ◌<◌, ◌≤◌, true, false, List, length}
use Rattle.std.proofs.Common.{get_or, take, refl, sym, ◌∙◌, arith, rules, ⊎_elim}
use Rattle.std.specs.Char.{is_ascii_digit}
use Rattle.std.specs.Int.{IsInRange}
use Rattle.std.specs.List.{list_all, prefix_len}
use Rattle.std.specs.Str.Parse.{digits_value}
use Rattle.std.proofs.lemmas.Bool.{cases_lt, false≢true}
use Rattle.std.proofs.lemmas.Bool.Decides.{nat_tests}
use Rattle.std.proofs.lemmas.List.{length-take, get_or-take, get_or_past}
use Rattle.std.proofs.lemmas.List.Elements.{All-take, All-get_or}
use Rattle.std.proofs.lemmas.List.Folds.{list_all_more}
use Rattle.std.proofs.lemmas.List.Sums.{AllPass-from_list_all, list_all-from_AllPass, prefix_len_is}
use Rattle.std.proofs.lemmas.List.Sums.{prefix_len_stops}
use Rattle.std.proofs.lemmas.Int.Digits.{digits_value_more}
use Rattle.std.proofs.lemmas.Str.{digit_value_digit}
use Rattle.std.proofs.lemmas.Str.Parse.{IsNumeralModel, numerals_by_value, digit_at}
use Rattle.std.proofs.lemmas.Str.Parse.{digits_value_short}

pub numerals : IsNumeralModel (λ ds. list_all is_ascii_digit ds ≡ true) (digits_value 10)
numerals = numerals_by_value _ (search rules)

front : (i : ℕ) (ds : List ℕ)
    → list_all is_ascii_digit ds ≡ true → list_all is_ascii_digit (take i ds) ≡ true
front i ds h = list_all-from_AllPass
    _ _ (All-take (λ c. is_ascii_digit c ≡ true) i ds (AllPass-from_list_all _ ds h))

-- a digit of at most 18, and the number before it
pub record SoFar (ds : List ℕ) (i : ℕ) : Type 0 where
  pub number : digits_value 10 (take i ds) < 10 ^ 17
  pub least : 48 ≤ get_or ds i 0
  pub most : get_or ds i 0 ≤ 57
  pub more : digits_value 10 (take (i + 1) ds)
      ≡ 10 * digits_value 10 (take i ds) + (get_or ds i 0 - 48)

pub so_far : (ds : List ℕ) (i : ℕ)
    → list_all is_ascii_digit ds ≡ true → length ds ≤ 18 → i < length ds → SoFar ds i
so_far ds i h few within =
    let digit = digit_at ds i (numerals.to ds h) within in
    record {
      number = digits_value_short
          numerals (take i ds) 17 (front i ds h) (omega (arith, length-take {A = ℕ}));
      least = digit.0;
      most = digit.1;
      more =
          omega (arith, digits_value_more 10 ds i within, digit_value_digit (get_or ds i 0) digit);
    }

pub short : (ds : List ℕ) → list_all is_ascii_digit ds ≡ true → digits_value 10 ds < 10 ^ length ds
short ds h = digits_value_short numerals ds (length ds) h (omega arith)

-- one more digit at the front, of at most nine
pub record More (ds : List ℕ) (i : ℕ) : Type 0 where
  pub within : i < length ds
  pub number : digits_value 10 (take i ds) < 10 ^ 8
  pub least : 48 ≤ get_or ds i 0
  pub most : get_or ds i 0 ≤ 57
  pub more : digits_value 10 (take (i + 1) ds)
      ≡ 10 * digits_value 10 (take i ds) + (get_or ds i 0 - 48)
  pub digits : list_all is_ascii_digit (take (i + 1) ds) ≡ true

no_digit : is_ascii_digit 0 ≡ true → ⊥
no_digit h = grind (arith, nat_tests)

bounds : (c : ℕ) → is_ascii_digit c ≡ true → IsInRange 48 57 c
bounds c h = grind (arith, nat_tests)

pub one_more : (ds : List ℕ) (i : ℕ) → list_all is_ascii_digit (take i ds) ≡ true → i < 9
    → is_ascii_digit (get_or ds i 0) ≡ true → More ds i
one_more ds i h few digit =
    let within : i < length ds = ⊎_elim (λ lt. lt)
    (λ le. absurd (no_digit (rw (get_or_past ds i 0 le) at digit))) (cases_lt i (length ds)) in
    let range = bounds (get_or ds i 0) digit in
    record {
      within = within;
      number = digits_value_short numerals (take i ds) 8 h (omega (arith, length-take {A = ℕ}));
      least = range.0;
      most = range.1;
      more =
          omega (arith, digits_value_more 10 ds i within, digit_value_digit (get_or ds i 0) range);
      digits = list_all_more is_ascii_digit ds i 0 within ∙ rw (h, digit) refl;
    }

-- a digit among those at the front
front_digit : (ds : List ℕ) (n k : ℕ) → list_all is_ascii_digit (take n ds) ≡ true
    → n ≤ length ds → k < n → is_ascii_digit (get_or ds k 0) ≡ true
front_digit ds n k h le lt =
    rw (get_or-take n ds k 0 lt) at (All-get_or (λ (c : ℕ). is_ascii_digit c ≡ true)
    (take n ds) k 0 (omega (arith, length-take n ds))
    (AllPass-from_list_all is_ascii_digit (take n ds) h))

-- digits, and behind them none
pub count_is : (ds : List ℕ) (n : ℕ) → list_all is_ascii_digit (take n ds) ≡ true → n ≤ length ds
    → is_ascii_digit (get_or ds n 0) ≡ false → prefix_len is_ascii_digit ds ≡ n
count_is ds n h le none =
    prefix_len_is is_ascii_digit ds n 0 le (λ k lt. front_digit ds n k h le lt) (λ _. none)

-- digits, and more behind them or none
pub count_least : (ds : List ℕ) (n : ℕ) → list_all is_ascii_digit (take n ds) ≡ true
    → n ≤ length ds → n ≤ prefix_len is_ascii_digit ds
count_least ds n h le =
    ⊎_elim (λ lt. absurd (false≢true
    (sym (prefix_len_stops is_ascii_digit ds 0 (omega (arith, le, lt)))
    ∙ front_digit ds n (prefix_len is_ascii_digit ds) h le lt)))
    (λ ge. ge) (cases_lt (prefix_len is_ascii_digit ds) n)
