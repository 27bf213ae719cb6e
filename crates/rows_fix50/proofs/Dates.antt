-- The parts of a date, YYYYMMDD, and a month without a date.
use Rattle.std.specs.Prelude.{◌≡◌, ℕ, suc, Bool, true, false, List, [], ◌∷◌, ◌++◌, refl, IsSome}
use Rattle.std.specs.Prelude.{Option, Some, None, Ok, Err, length, take, drop, ◌==◌, if◌then◌else◌}
use Rattle.std.specs.Prelude.{codes, ◌+◌, ◌/◌, ◌%◌, ◌≤◌, IfSome}
use Rattle.std.proofs.Common.{sym, ap, ◌∙◌, arith}
use Rattle.std.proofs.lemmas.Bool.{eqb-true}
use Rattle.std.proofs.lemmas.Bool.Decides.{nat_tests}
use Rattle.std.specs.Int.{is_in_range}
use Rattle.std.specs.Option.{option_map}
use Rattle.std.specs.Char.{is_ascii_digit}
use Rattle.typed_fields.specs.declared.fault.FieldFault.TheVariants.{Empty, Form, Range}
use Rattle.typed_fields.specs.declared.month_year.MonthYear.{MonthYear as Month}
use Rattle.typed_fields.specs.Reading.{judged}
use Rattle.typed_fields.specs.Digits.{has_pattern, have_marks, number_of, zero_padded}
use Rattle.typed_fields.specs.Day.{read_day, spells_date}
use Rattle.typed_fields.specs.MonthYear.{month_year_text}
use Rattle.value_kinds.specs.ValueKind.{two_digit_text, spelt, text_of as spelled_text, Day}
use Rattle.value_kinds.specs.ValueKind.{MonthYear, DayOfMonth, Spelling, spelling, spelled}
use Rattle.field_groups.specs.Field.{Field}
use Rattle.message_tables.specs.Tables.{Said, ◌>>=◌, text_of, value_at}
use Rattle.row_values.specs.Kinds.{Value, MonthBeside, filled, if_spelled, judge, month_beside}
use Rattle.row_values.specs.Kinds.{verdict_of, said}
use Rattle.rows_fix50.specs.Maturity.{IsDate}
use Rattle.typed_fields.proofs.DigitsLemmas.{both_true as both}

-- what is read has its form and its bound
is_read : {A : Type 0} (b : ℕ) (bs : List ℕ) (form bound : Bool) (v : A)
    → IsSome (spelled_text (spelt (λ _. b ∷ bs) (judged (b ∷ bs) form bound v)))
    → (form ≡ true) × (bound ≡ true)
is_read b bs form bound v = here (length (b ∷ bs) == 0) form bound
  where
    here : (empty form bound : Bool)
        → IsSome (spelled_text (spelt (λ _. b ∷ bs)
        (if empty then Err Empty
        else (if form then (if bound then Ok v else Err Range) else Err Form))))
        → (form ≡ true) × (bound ≡ true)
    here true form bound h = absurd cc
    here false true true h = (refl, refl)
    here false true false h = absurd cc
    here false false bound h = absurd cc

-- what has its form and its bound is read
reads : {A : Type 0} (b : ℕ) (bs : List ℕ) (form bound : Bool) (v : A) → form ≡ true → bound ≡ true
    → spelled_text (spelt (λ _. b ∷ bs) (judged (b ∷ bs) form bound v)) ≡ Some (b ∷ bs)
reads b bs form bound v f g = rw (f, g, not_empty (length bs)) refl
  where
    not_empty : (n : ℕ) → (suc n == 0) ≡ false
    not_empty n = grind (arith, nat_tests)

length_is : (date : List ℕ) → has_pattern (codes "YYYYMMDD") date ≡ true → length date ≡ 8
unfolding has_pattern
length_is date h =
    sym (eqb-true 8 (length date)
    (both (8 == length date) (have_marks (codes "YYYYMMDD") date) h).0)

-- a day that is spelled well has the parts of a date
of_eight : (date : List ℕ) → has_pattern (codes "YYYYMMDD") date ≡ true
    → spells_date date ≡ true → IsDate date
unfolding has_pattern spelled spelling
of_eight (y1 ∷ y2 ∷ y3 ∷ y4 ∷ m1 ∷ m2 ∷ d1 ∷ d2 ∷ []) pattern bound =
    let p1 = both (is_ascii_digit y1) _ pattern in let p2 = both (is_ascii_digit y2) _ p1.1 in
    let p3 = both (is_ascii_digit y3) _ p2.1 in let p4 = both (is_ascii_digit y4) _ p3.1 in
    let p5 = both (is_ascii_digit m1) _ p4.1 in let p6 = both (is_ascii_digit m2) _ p5.1 in
    let p7 = both (is_ascii_digit d1) _ p6.1 in let p8 = both (is_ascii_digit d2) _ p7.1 in
    let six : has_pattern (codes "YYYYMM") (y1 ∷ y2 ∷ y3 ∷ y4 ∷ m1 ∷ m2 ∷ []) ≡ true =
    rw (p1.0, p2.0, p3.0, p4.0, p5.0, p6.0) refl in
    let range = (both (is_in_range 1 12 (number_of (m1 ∷ m2 ∷ []))) _ bound).0 in
    record {
      eight = refl;
      itself = reads y1 (y2 ∷ y3 ∷ y4 ∷ m1 ∷ m2 ∷ d1 ∷ d2 ∷ []) _ _ _ pattern bound;
      month = reads y1 (y2 ∷ y3 ∷ y4 ∷ m1 ∷ m2 ∷ []) _ _ _ six range;
      day = rw (p7.0, p8.0) refl;
      whole = refl;
    }
of_eight date pattern bound = absurd (omega (arith, length_is date pattern))

pub is_date : (date text : List ℕ) → spelled Day date ≡ Some text → IsDate date
unfolding spelled spelling
is_date [] text h = absurd cc
is_date (b ∷ bs) text h =
    let there : IsSome (spelled_text (spelt (λ _. b ∷ bs) (read_day (b ∷ bs)))) = rw h refl in
    let r = is_read b bs _ _ _ there in of_eight (b ∷ bs) r.0 r.1

two : (day : ℕ) → day ≤ 99 → zero_padded 2 day ≡ two_digit_text day
unfolding zero_padded
two day le =
    let tens : 48 + day / 10 % 10 ≡ 48 + day / 10 = omega (arith, le) in
    let ones : 48 + day / 1 % 10 ≡ 48 + day % 10 = omega (arith, le) in
    λ i. tens i ∷ ones i ∷ []

-- a month and a day that spell the parts of a date spell the date
pub date_again : (date : List ℕ) (month : Month) (day : Option ℕ) → IsDate date
    → Some (month_year_text month) ≡ spelled MonthYear (take 6 date)
    → option_map two_digit_text day ≡ spelled DayOfMonth (drop 6 date) → IfSome day (λ d. d ≤ 99)
    → option_map (λ d. month_year_text month ++ zero_padded 2 d) day ≡ Some date
date_again date month None is m d le =
    let no : None ≡ Some (drop 6 date) = d ∙ is.day in absurd cc
date_again date month (Some n) is m d le =
    let month_is : month_year_text month ≡ take 6 date = cc in
    let day_is : two_digit_text n ≡ drop 6 date = cc in
    ap Some ((λ i. month_is i ++ (two n le ∙ day_is) i) ∙ is.whole)

-- ---- a month without a date

by_spelling : (s : Spelling) → text_of (verdict_of s) ≡ text_of (if_spelled s)
by_spelling (Ok (Some text)) = refl
by_spelling (Ok None) = refl
by_spelling (Err fault) = refl

pub month_alone : (fields : List Field) → None ≡ said fields 541 (Value Day)
    → said fields 200 (Value MonthYear) ≡ said fields 200 (MonthBeside 541)
unfolding judge spelling
month_alone fields h = here (said fields 541 (Value Day)) (value_at 200 fields) h
  where
    here : (date : Said) (o : Option (List ℕ)) → None ≡ date
        → (o >>= (λ v. text_of (verdict_of (spelling MonthYear v))))
        ≡ (o >>= (λ v. text_of (filled v (month_beside date v))))
    here None None e = refl
    here None (Some []) e = refl
    here None (Some (b ∷ bs)) e = by_spelling (spelling MonthYear (b ∷ bs))
    here (Some date) o e = absurd cc
