-- The laws of numbers, flags and months.
use Rattle.std.proofs.Common.{◌≡◌, ◌==◌, ◌||◌, if◌then◌else◌, ℕ, ◌+◌, ◌/◌, ◌%◌, ◌^◌, ◌<◌, ◌≤◌}
use Rattle.std.proofs.Common.{nat_le, Bool, true, false, List, [], ◌∷◌, ◌++◌, length, get_or, drop}
use Rattle.std.proofs.Common.{slice_range, slice_index, codes, Ok, refl, sym, ap, ◌∙◌, arith}
use Rattle.std.specs.Fmt.{decimal}
use Rattle.std.specs.Char.{is_ascii_digit}
use Rattle.std.proofs.lemmas.List.{drop_all, append-nil}
use Rattle.std.specs.Int.{is_in_range}
use Rattle.std.proofs.lemmas.Bool.Decides.{nat_tests}
use Rattle.std.proofs.lemmas.Fmt.{digits_decimal, digits_value-decimal, decimal-digits_value}
use Rattle.std.proofs.lemmas.Fmt.{length-decimal-le, decimal_nonempty}
use Rattle.typed_fields.specs.declared.number.Number.{Number}
use Rattle.typed_fields.specs.declared.flag.Flag.{Flag}
use Rattle.typed_fields.specs.declared.month_year.MonthYear.{MonthYear}
use Rattle.typed_fields.specs.Digits.{has_pattern, are_digits, number_of, without_leading_zeros}
use Rattle.typed_fields.specs.Digits.{or_zero}
use Rattle.typed_fields.specs.Number.{is_number_form, read_number, number_text, plain_number}
use Rattle.typed_fields.specs.Number.{IsNumber}
use Rattle.typed_fields.specs.Flag.{is_flag_form, read_flag, flag_text}
use Rattle.typed_fields.specs.MonthYear.{year_in, month_in, read_month_year, month_year_text}
use Rattle.typed_fields.specs.MonthYear.{IsMonthYear}
use Rattle.typed_fields.specs.Laws.{ReadsBack, IsPlain}
use Rattle.typed_fields.proofs.DigitsLemmas.{both_true, numerals, are_digits-leading}
use Rattle.typed_fields.proofs.DigitsLemmas.{zero_padded_two, zero_padded_four, length-has_pattern}
use Rattle.typed_fields.proofs.SpellingLemmas.{judged_ok, judged_good, number_of_first, two_back}
use Rattle.typed_fields.proofs.SpellingLemmas.{four_back, is_digit-last, slice_then, part_back}

-- the zeros in front of a number do not count
pub number_of-leading : (ds : List ℕ) → number_of (without_leading_zeros ds) ≡ number_of ds
unfolding without_leading_zeros
number_of-leading [] = refl
number_of-leading (d ∷ ds) = go (d == 48) refl (number_of-leading ds)
  where
    go : (b : Bool) → (d == 48) ≡ b → number_of (without_leading_zeros ds) ≡ number_of ds
        → number_of (if b then without_leading_zeros ds else (d ∷ ds)) ≡ number_of (d ∷ ds)
    go true e rest =
        let is_zero : d ≡ 48 = grind (arith, nat_tests) in
        rest ∙ sym (number_of_first d ds (omega arith) (omega arith) ∙ rw is_zero (omega arith))
    go false e rest = refl

number_of-or_zero : (ds : List ℕ) → number_of (or_zero ds) ≡ number_of ds
unfolding number_of
number_of-or_zero [] = refl
number_of-or_zero (d ∷ ds) = refl

first-leading : (ds : List ℕ) → get_or (without_leading_zeros ds) 0 0 ≡ 48 → ⊥
unfolding without_leading_zeros
first-leading [] h = absurd (omega arith)
first-leading (d ∷ ds) h = go (d == 48) refl (first-leading ds) h
  where
    go : (b : Bool) → (d == 48) ≡ b → (get_or (without_leading_zeros ds) 0 0 ≡ 48 → ⊥)
        → get_or (if b then without_leading_zeros ds else (d ∷ ds)) 0 0 ≡ 48 → ⊥
    go true e rest h = rest h
    go false e rest h = absurd (grind (arith, nat_tests))

pub are_digits-or_zero : (ds : List ℕ) → are_digits ds ≡ true → are_digits (or_zero ds) ≡ true
unfolding are_digits
are_digits-or_zero [] h = refl
are_digits-or_zero (d ∷ ds) h = h

pub or_zero_some : (ds : List ℕ) → 0 < length (or_zero ds)
or_zero_some [] = omega arith
or_zero_some (d ∷ ds) = omega arith

first-or_zero : (ds : List ℕ)
    → (get_or ds 0 0 ≡ 48 → ⊥) → get_or (or_zero ds) 0 0 ≡ 48 → length (or_zero ds) ≡ 1
first-or_zero [] other h = refl
first-or_zero (d ∷ ds) other h = absurd (other h)

-- the number of digits is printed without its needless zeros
pub decimal-number_of : (ds : List ℕ) → are_digits ds ≡ true
    → number_of ds < 2 ^ 64 → decimal (number_of ds) ≡ or_zero (without_leading_zeros ds)
decimal-number_of ds h small =
    let kept = without_leading_zeros ds in
    let same : number_of (or_zero kept) ≡ number_of ds =
    number_of-or_zero kept ∙ number_of-leading ds in
    ap decimal (sym same)
    ∙ decimal-digits_value numerals
    (or_zero kept) (are_digits-or_zero kept (are_digits-leading ds h)) (or_zero_some kept)
    (first-or_zero kept (first-leading ds)) (rw same small)

pub number_reads_back : ReadsBack read_number IsNumber number_text
number_reads_back n h =
    let v = decimal n.value in
    let wide : n.value < 2 ^ 64 = omega arith in
    let number : number_of v ≡ n.value = digits_value-decimal numerals n.value wide in
    let digits : are_digits v ≡ true = digits_decimal numerals n.value wide in
    let short : nat_le (length v) 10 ≡ true =
    grind (arith, nat_tests, length-decimal-le 10 n.value (omega arith) (omega arith) wide) in
    let some : (length v == 0) ≡ false = grind (arith, nat_tests, decimal_nonempty n.value wide) in
    let form : is_number_form v ≡ true = rw (digits, short) in
    let bound : nat_le (number_of v) 1_000_000_000 ≡ true = rw number (grind (arith, nat_tests)) in
    let same : ◌≡◌ {A = Number} (record { value = number_of v }) n =
    ap (λ k. record { value = k }) number in
    judged_good v _ _ _ some form bound ∙ ap Ok same

pub number_is_plain : IsPlain read_number number_text plain_number
number_is_plain v n e =
    let j = judged_ok v (is_number_form v)
    (nat_le (number_of v) 1_000_000_000) (record { value = number_of v }) n e in
    let small : number_of v ≤ 1_000_000_000 = let b = j.bound in grind (arith, nat_tests) in
    ap number_text (sym j.value) ∙ decimal-number_of
    v (both_true (are_digits v) (nat_le (length v) 10) j.form).0 (omega arith)

pub number_in_bound : (v : List ℕ) (n : Number) → read_number v ≡ Ok n → IsNumber n
number_in_bound v n e =
    let j = judged_ok v (is_number_form v)
    (nat_le (number_of v) 1_000_000_000) (record { value = number_of v }) n e in
    let small : number_of v ≤ 1_000_000_000 = let b = j.bound in grind (arith, nat_tests) in
    let same : number_of v ≡ n.value = ap (λ (n : Number). n.value) j.value in
    omega (arith, small, same)

pub flag_reads_back : (f : Flag) → read_flag (flag_text f) ≡ Ok f
flag_reads_back f = go f.yes
  where
    go : (b : Bool) → read_flag (flag_text (record { yes = b })) ≡ Ok (record { yes = b })
    go true = refl
    go false = refl

one_byte : (v : List ℕ) (c : ℕ) → (length v == 1) ≡ true → slice_index v 0 ≡ c → c ∷ [] ≡ v
one_byte [] c h e = absurd cc
one_byte (b ∷ []) c h e = rw e
one_byte (b ∷ d ∷ v) c h e = absurd (grind (arith, nat_tests))

by_length : (v : List ℕ) → is_flag_form v ≡ true
    → (b : Bool) → (slice_index v 0 == 89) ≡ b → flag_text (record { yes = b }) ≡ v
by_length v h true t =
    let parts = both_true (length v == 1) (slice_index v 0 == 89 || slice_index v 0 == 78) h in
    one_byte v 89 parts.0 (grind (arith, nat_tests))
by_length v h false t =
    let parts = both_true (length v == 1) (slice_index v 0 == 89 || slice_index v 0 == 78) h in
    let other : (slice_index v 0 == 78) ≡ true = rw t at parts.1 in
    one_byte v 78 parts.0 (grind (arith, nat_tests))

pub flag_is_plain : IsPlain read_flag flag_text (λ v. v)
flag_is_plain v f e =
    let j = judged_ok v (is_flag_form v) true (record { yes = slice_index v 0 == 89 }) f e in
    sym (ap flag_text j.value) ∙ by_length v j.form (slice_index v 0 == 89) refl

-- six digits have the form of a month
six_digits : (a b c d e f : ℕ) → is_ascii_digit a ≡ true → is_ascii_digit b ≡ true → is_ascii_digit
    c ≡ true → is_ascii_digit d ≡ true → is_ascii_digit e ≡ true → is_ascii_digit f ≡ true
    → has_pattern (codes "YYYYMM") (a ∷ b ∷ c ∷ d ∷ e ∷ f ∷ []) ≡ true
unfolding has_pattern
six_digits a b c d e f p q r s t u = rw (p, q, r, s, t, u)

pub month_year_reads_back : ReadsBack read_month_year IsMonthYear month_year_text
month_year_reads_back m h =
    let y = m.year in
    let n = m.month in
    let v = (48 + y / 1000 % 10) ∷ (48 + y / 100 % 10)
    ∷ (48 + y / 10 % 10) ∷ (48 + y % 10) ∷ (48 + n / 10 % 10) ∷ (48 + n % 10) ∷ [] in
    let year : year_in v ≡ y = four_back y h.0 in
    let month : month_in v ≡ n = two_back n (omega arith) in
    let form : has_pattern (codes "YYYYMM") v ≡ true =
    six_digits _ _ _ _ _ _ (is_digit-last (y / 1000)) (is_digit-last (y / 100))
    (is_digit-last (y / 10)) (is_digit-last y) (is_digit-last (n / 10)) (is_digit-last n) in
    let bound : is_in_range 1 12 (month_in v) ≡ true = rw month (grind (arith, nat_tests)) in
    let same : ◌≡◌ {A = MonthYear} (record { year = year_in v; month = month_in v }) m =
    rw (year, month) in
    let text : month_year_text m ≡ v = rw (zero_padded_four y, zero_padded_two n) in
    rw text (judged_good v _ _ _ refl form bound ∙ ap Ok same)

pub month_year_is_plain : IsPlain read_month_year month_year_text (λ v. v)
month_year_is_plain v m e =
    let j = judged_ok v (has_pattern (codes "YYYYMM") v)
    (is_in_range 1 12 (month_in v)) (record { year = year_in v; month = month_in v }) m e in
    let marks = codes "YYYYMM" in
    let year = part_back marks v 0 4 j.form (omega arith) (omega arith) refl in
    let month = part_back marks v 4 6 j.form (omega arith) (omega arith) refl in
    let end : drop 6 v ≡ [] = drop_all 6 v (omega (arith, length-has_pattern marks v j.form)) in
    let whole : v ≡ slice_range v 0 4 ++ (slice_range v 4 6 ++ []) =
    slice_then v 0 4 (omega arith) ∙ ap (λ xs. slice_range v 0 4 ++ xs)
    (slice_then v 4 6 (omega arith) ∙ ap (λ xs. slice_range v 4 6 ++ xs) end) in
    ap month_year_text (sym j.value) ∙ (rw (year, month)
    (sym (whole ∙ ap (λ xs. slice_range v 0 4 ++ xs) (append-nil (slice_range v 4 6)))))
