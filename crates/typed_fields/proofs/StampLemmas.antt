-- Moments: the forms of bytes, and the fractions that they spell.
use Rattle.std.proofs.Common.{◌≡◌, ◌==◌, ℕ, ◌+◌, ◌^◌, ◌<◌, ◌≤◌, Bool, true, false, List, []}
use Rattle.std.proofs.Common.{◌∷◌, ◌++◌, length, take, drop, codes, slice_range, refl, sym, ap}
use Rattle.std.proofs.Common.{◌∙◌, arith}
use Rattle.std.specs.Prelude.{◌&&◌, ◌||◌, Some, None, if◌then◌else◌}
use Rattle.std.specs.Char.{is_ascii_alphabetic}
use Rattle.std.specs.List.{list_all}
use Rattle.std.proofs.lemmas.Bool.Decides.{nat_tests}
use Rattle.std.proofs.lemmas.List.{append-nil, drop_all, length-take, length-drop, length-append}
use Rattle.typed_fields.specs.declared.stamp.Fraction.{Fraction}
use Rattle.typed_fields.specs.declared.stamp.Fraction.TheVariants.{Whole, Three, Six, Nine}
use Rattle.typed_fields.specs.Digits.{number_of, are_digits, has_mark, have_marks, has_pattern}
use Rattle.typed_fields.specs.Digits.{zero_padded}
use Rattle.typed_fields.specs.Stamp.{fraction_of, fraction_text, is_fine_form, is_stamp_form}
use Rattle.typed_fields.specs.Stamp.{number_in, width}
use Rattle.typed_fields.proofs.DigitsLemmas.{digits_of_pattern, length-has_pattern, number_of-lt}
use Rattle.typed_fields.proofs.SpellingLemmas.{mark_of_pattern, slice_then, zero_padded-number_of}

-- marks in two parts
apart : (ms ns bs : List ℕ) → length ms ≤ length bs → have_marks (ms ++ ns) bs
    ≡ (have_marks ms (take (length ms) bs) && have_marks ns (drop (length ms) bs))
apart [] ns bs le = refl
apart (m ∷ ms) ns [] le = absurd (omega (arith, le))
apart (m ∷ ms) ns (b ∷ bs) le = by (has_mark m b) (apart ms ns bs (omega (arith, le)))
  where
    by : (one : Bool) → have_marks (ms ++ ns) bs
        ≡ (have_marks ms (take (length ms) bs) && have_marks ns (drop (length ms) bs))
        → (one && have_marks (ms ++ ns) bs)
        ≡ ((one && have_marks ms (take (length ms) bs)) && have_marks ns (drop (length ms) bs))
    by true e = e
    by false e = refl

-- a pattern in two parts
pub pattern_apart : (ms ns bs : List ℕ) → length bs ≡ length ms + length ns
    → (has_pattern ms (take (length ms) bs) && has_pattern ns (drop (length ms) bs))
    ≡ has_pattern (ms ++ ns) bs
unfolding has_pattern
pattern_apart ms ns bs e =
    let front : (length ms == length (take (length ms) bs)) ≡ true =
    grind (arith, nat_tests, length-take (length ms) bs) in
    let back : (length ns == length (drop (length ms) bs)) ≡ true =
    grind (arith, nat_tests, length-drop (length ms) bs) in
    let all : (length (ms ++ ns) == length bs) ≡ true =
    grind (arith, nat_tests, length-append ms ns) in
    rw (front, back, all) (sym (apart ms ns bs (omega (arith, e))))

pub no_pattern : (ms bs : List ℕ) → (length bs ≡ length ms → ⊥) → has_pattern ms bs ≡ false
unfolding has_pattern
no_pattern ms bs other =
    let all : (length ms == length bs) ≡ false = grind (arith, nat_tests) in rw all refl

-- ---- the forms

or_one : (a b : Bool) → a ≡ true → (a || b) ≡ true
or_one true b h = refl
or_one false b h = absurd cc

or_two : (a b : Bool) → b ≡ true → (a || b) ≡ true
or_two true b h = refl
or_two false b h = h

-- each of the forms is a fine one
abbrev has : List ℕ → List ℕ → Bool
has more v = has_pattern (codes "YYYYMMDD-HH:MM:SS" ++ more) v

pub fine_whole : (v : List ℕ) → has_pattern (codes "YYYYMMDD-HH:MM:SS") v ≡ true
    → is_fine_form v ≡ true
fine_whole v e = or_one (is_stamp_form v) (has (codes ".ssssss") v || has (codes ".sssssssss") v)
    (or_one (has [] v) (has (codes ".sss") v) e)

pub fine_three : (v : List ℕ) → has_pattern (codes "YYYYMMDD-HH:MM:SS.sss") v ≡ true
    → is_fine_form v ≡ true
fine_three v e = or_one (is_stamp_form v) (has (codes ".ssssss") v || has (codes ".sssssssss") v)
    (or_two (has [] v) (has (codes ".sss") v) e)

pub fine_six : (v : List ℕ) → has_pattern (codes "YYYYMMDD-HH:MM:SS.ssssss") v ≡ true
    → is_fine_form v ≡ true
fine_six v e = or_two (is_stamp_form v) (has (codes ".ssssss") v || has (codes ".sssssssss") v)
    (or_one (has (codes ".ssssss") v) (has (codes ".sssssssss") v) e)

pub fine_nine : (v : List ℕ) → has_pattern (codes "YYYYMMDD-HH:MM:SS.sssssssss") v ≡ true
    → is_fine_form v ≡ true
fine_nine v e = or_two (is_stamp_form v) (has (codes ".ssssss") v || has (codes ".sssssssss") v)
    (or_two (has (codes ".ssssss") v) (has (codes ".sssssssss") v) e)

-- what is read of the fraction of one of the forms
pub fraction_is : (v : List ℕ) (fraction : Fraction) → is_fine_form v ≡ true
    → fraction ≡ fraction_of (drop 18 v)
    → Some fraction ≡ (if is_fine_form v then Some (fraction_of (drop 18 v)) else None)
fraction_is v fraction form same = rw form (ap Some same)

pub no_fraction : (v : List ℕ) → has_pattern (codes "YYYYMMDD-HH:MM:SS") v ≡ false
    → has_pattern (codes "YYYYMMDD-HH:MM:SS.sss") v ≡ false
    → has_pattern (codes "YYYYMMDD-HH:MM:SS.ssssss") v ≡ false
    → has_pattern (codes "YYYYMMDD-HH:MM:SS.sssssssss") v ≡ false
    → None ≡ (if is_fine_form v then Some (fraction_of (drop 18 v)) else None)
no_fraction v a b c d = rw (a, b, c, d) refl

pub form_of : (v : List ℕ) (fraction : Fraction)
    → (if is_fine_form v then Some (fraction_of (drop 18 v)) else None) ≡ Some fraction
    → is_fine_form v ≡ true
form_of v fraction e = by (is_fine_form v) e
  where
    by : (b : Bool) → (if b then Some (fraction_of (drop 18 v)) else None) ≡ Some fraction
        → b ≡ true
    by true e = refl
    by false e = absurd cc

pub whole_is : (v : List ℕ) → has_pattern (codes "YYYYMMDD-HH:MM:SS") v ≡ true
    → Whole ≡ fraction_of (drop 18 v)
whole_is v form =
    let none : drop 18 v ≡ [] =
    drop_all 18 v (omega (arith, length-has_pattern (codes "YYYYMMDD-HH:MM:SS") v form)) in
    rw none refl

pub three_is : (ds : List ℕ) (n : ℕ) → length ds ≡ 3 → n ≡ number_of ds → Three n ≡ fraction_of ds
three_is ds n e same = rw e (ap Three same)

pub six_is : (ds : List ℕ) (n : ℕ) → length ds ≡ 6 → n ≡ number_of ds → Six n ≡ fraction_of ds
six_is ds n e same = rw e (ap Six same)

pub nine_is : (ds : List ℕ) (n : ℕ) → length ds ≡ 9 → n ≡ number_of ds → Nine n ≡ fraction_of ds
nine_is ds n e same = rw e (ap Nine same)

-- so many digits behind a point
pub record IsBehind (v : List ℕ) (w : ℕ) : Type 0 where
  pub point : drop 17 v ≡ 46 ∷ drop 18 v
  pub digits : are_digits (drop 18 v) ≡ true
  pub long : length (drop 18 v) ≡ w

behind : (ms v : List ℕ) (n : ℕ) → has_pattern ms v ≡ true → length ms ≡ 18 + n
    → slice_range ms 17 18 ≡ 46 ∷ []
    → list_all is_ascii_alphabetic (slice_range ms 18 (18 + n)) ≡ true → IsBehind v n
behind ms v n form long mark letters =
    let all : length v ≡ 18 + n = length-has_pattern ms v form ∙ long in
    let end : drop (18 + n) v ≡ [] = drop_all (18 + n) v (omega (arith, all)) in
    let point = mark_of_pattern ms v 17 46 form (omega (arith, long)) mark refl in
    let digits : slice_range v 18 (18 + n) ≡ drop 18 v =
    sym (slice_then v 18 (18 + n) (omega arith) ∙ ap (λ xs. slice_range v 18 (18 + n) ++ xs) end
    ∙ append-nil (slice_range v 18 (18 + n))) in
    record {
      point = slice_then v 17 18 (omega arith) ∙ ap (λ xs. xs ++ drop 18 v) point;
      digits = ap are_digits (sym digits) ∙ digits_of_pattern ms v 18 (18 + n) form letters;
      long = length-drop 18 v ∙ omega (arith, all);
    }

pub behind_three : (v : List ℕ) → has_pattern (codes "YYYYMMDD-HH:MM:SS.sss") v ≡ true
    → IsBehind v 3
behind_three v form = behind (codes "YYYYMMDD-HH:MM:SS.sss") v 3 form refl refl refl

pub behind_six : (v : List ℕ) → has_pattern (codes "YYYYMMDD-HH:MM:SS.ssssss") v ≡ true
    → IsBehind v 6
behind_six v form = behind (codes "YYYYMMDD-HH:MM:SS.ssssss") v 6 form refl refl refl

pub behind_nine : (v : List ℕ) → has_pattern (codes "YYYYMMDD-HH:MM:SS.sssssssss") v ≡ true
    → IsBehind v 9
behind_nine v form = behind (codes "YYYYMMDD-HH:MM:SS.sssssssss") v 9 form refl refl refl

padded : (ds : List ℕ) (w : ℕ) → are_digits ds ≡ true → length ds ≡ w
    → 46 ∷ zero_padded w (number_of ds) ≡ 46 ∷ ds
padded ds w digits long =
    let same = zero_padded-number_of ds digits in
    ap (λ (n : ℕ). 46 ∷ zero_padded n (number_of ds)) (sym long)
    ∙ ap (λ (xs : List ℕ). 46 ∷ xs) same

-- what bytes of one of the forms are: whole seconds and a fraction
pub record Formed (v : List ℕ) : Type 0 where
  pub more : List ℕ
  pub form : has_pattern (codes "YYYYMMDD-HH:MM:SS" ++ more) v ≡ true
  pub text : fraction_text (fraction_of (drop 18 v)) ≡ drop 17 v
  pub small : number_in (fraction_of (drop 18 v)) < 10 ^ width (fraction_of (drop 18 v))

formed_whole : (v : List ℕ) → has_pattern (codes "YYYYMMDD-HH:MM:SS") v ≡ true → Formed v
formed_whole v form =
    let long = length-has_pattern (codes "YYYYMMDD-HH:MM:SS") v form in
    let none : drop 18 v ≡ [] = drop_all 18 v (omega (arith, long)) in
    let end : drop 17 v ≡ [] = drop_all 17 v (omega (arith, long)) in
    record { more = []; form = form; text = rw (none, end) refl; small = rw none (omega arith) }

formed_three : (v : List ℕ) → has_pattern (codes "YYYYMMDD-HH:MM:SS.sss") v ≡ true → Formed v
formed_three v form =
    let b = behind_three v form in
    record {
      more = codes ".sss";
      form = form;
      text = rw b.long (padded (drop 18 v) 3 b.digits b.long) ∙ sym b.point;
      small = rw b.long (number_of-lt (drop 18 v) 3 b.digits (omega (arith, b.long)));
    }

formed_six : (v : List ℕ) → has_pattern (codes "YYYYMMDD-HH:MM:SS.ssssss") v ≡ true → Formed v
formed_six v form =
    let b = behind_six v form in
    record {
      more = codes ".ssssss";
      form = form;
      text = rw b.long (padded (drop 18 v) 6 b.digits b.long) ∙ sym b.point;
      small = rw b.long (number_of-lt (drop 18 v) 6 b.digits (omega (arith, b.long)));
    }

formed_nine : (v : List ℕ) → has_pattern (codes "YYYYMMDD-HH:MM:SS.sssssssss") v ≡ true → Formed v
formed_nine v form =
    let b = behind_nine v form in
    record {
      more = codes ".sssssssss";
      form = form;
      text = rw b.long (padded (drop 18 v) 9 b.digits b.long) ∙ sym b.point;
      small = rw b.long (number_of-lt (drop 18 v) 9 b.digits (omega (arith, b.long)));
    }

either : {X : Type 0} (a b : Bool) → (a ≡ true → X) → (b ≡ true → X) → (a || b) ≡ true → X
either true b one two h = one refl
either false b one two h = two h

pub formed : (v : List ℕ) → is_fine_form v ≡ true → Formed v
formed v form = either (is_stamp_form v) _
    (either (has_pattern (codes "YYYYMMDD-HH:MM:SS") v) _ (formed_whole v) (formed_three v))
    (either (has_pattern (codes "YYYYMMDD-HH:MM:SS.ssssss") v) _ (formed_six v) (formed_nine v))
    form

-- short bytes have no more than three digits
pub short_form : (v : List ℕ) → length v ≤ 21 → is_fine_form v ≡ is_stamp_form v
short_form v short =
    let six = no_pattern (codes "YYYYMMDD-HH:MM:SS.ssssss") v (λ e. absurd (omega (arith, e))) in
    let nine =
    no_pattern (codes "YYYYMMDD-HH:MM:SS.sssssssss") v (λ e. absurd (omega (arith, e))) in
    rw (six, nine) (or_none (is_stamp_form v))
  where
    or_none : (b : Bool) → (b || (false || false)) ≡ b
    or_none true = refl
    or_none false = refl

-- long bytes have more
pub long_form : (v : List ℕ) → 21 < length v → is_stamp_form v ≡ false
long_form v long =
    let whole = no_pattern (codes "YYYYMMDD-HH:MM:SS") v (λ e. absurd (omega (arith, e))) in
    let three = no_pattern (codes "YYYYMMDD-HH:MM:SS.sss") v (λ e. absurd (omega (arith, e))) in
    rw (whole, three) refl

pub narrow : (ds : List ℕ) → length ds ≤ 3 → width (fraction_of ds) ≤ 3
narrow ds few =
    let six : (length ds == 6) ≡ false = grind (arith, nat_tests) in
    let nine : (length ds == 9) ≡ false = grind (arith, nat_tests) in
    rw (six, nine) (by (length ds == 3))
  where
    by : (b : Bool) → width (if b then Three (number_of ds) else Whole) ≤ 3
    by true = omega arith
    by false = omega arith

pub stamp_form_short : (v : List ℕ) → is_stamp_form v ≡ true → length v ≤ 21
stamp_form_short v form = either (has_pattern (codes "YYYYMMDD-HH:MM:SS") v) _
    (λ h. omega (arith, length-has_pattern (codes "YYYYMMDD-HH:MM:SS") v h))
    (λ h. omega (arith, length-has_pattern (codes "YYYYMMDD-HH:MM:SS.sss") v h)) form

pub stamp_form_fine : (v : List ℕ) → is_stamp_form v ≡ true → is_fine_form v ≡ true
stamp_form_fine v form =
    or_one (is_stamp_form v) (has (codes ".ssssss") v || has (codes ".sssssssss") v) form
