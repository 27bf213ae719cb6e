-- The laws of moments.
use Rattle.std.proofs.Common.{◌≡◌, ◌==◌, ◌&&◌, ℕ, ◌+◌, ◌/◌, ◌%◌, ◌^◌, ◌<◌, ◌≤◌, nat_le, Bool}
use Rattle.std.proofs.Common.{true, false, zero, suc, replicate, List, [], ◌∷◌, ◌++◌, length}
use Rattle.std.proofs.Common.{take, drop, slice_range, codes, Result, Ok, Err, refl, sym, ap}
use Rattle.std.proofs.Common.{subst, ◌∙◌, arith, pos}
use Rattle.std.specs.Prelude.{IfOk, if◌then◌else◌}
use Rattle.std.proofs.lemmas.Bool.Decides.{nat_tests}
use Rattle.std.proofs.lemmas.List.{take_all, append_assoc, length-drop}
use Rattle.jiff_core.specs.Calendar.{days_from_civil}
use Rattle.jiff_core.proofs.SignedLemmas.{signed_arith}
use Rattle.typed_fields.specs.declared.fault.FieldFault.{FieldFault}
use Rattle.typed_fields.specs.declared.fault.FieldFault.TheVariants.{Form, Range}
use Rattle.typed_fields.specs.declared.stamp.Fraction.{Fraction}
use Rattle.typed_fields.specs.declared.stamp.Fraction.TheVariants.{Whole, Three, Six, Nine}
use Rattle.typed_fields.specs.declared.stamp.Stamp.{Stamp}
use Rattle.typed_fields.specs.Digits.{has_pattern, have_marks, number_of, zero_padded}
use Rattle.typed_fields.specs.Day.{year_in, month_in, day_in, spells_date, day_number, date_of}
use Rattle.typed_fields.specs.Day.{day_digits}
use Rattle.typed_fields.specs.Stamp.{hour_in, minute_in, second_in, behind_point, fraction_of}
use Rattle.typed_fields.specs.Stamp.{is_stamp_form, is_fine_form, spells_moment, stamp_in}
use Rattle.typed_fields.specs.Stamp.{read_stamp, read_fine, IsFine, IsStamp, width, number_in}
use Rattle.typed_fields.specs.Stamp.{fraction_text, seconds_text, stamp_text, cut, cut_text}
use Rattle.typed_fields.specs.Stamp.{cut_fraction}
use Rattle.typed_fields.specs.Stamp.{stamp_millis, stamp_at}
use Rattle.typed_fields.specs.Laws.{ReadsBack, IsPlain}
use Rattle.typed_fields.proofs.DateLemmas.{IsDate, IsDayNumber-spelled, date_found}
use Rattle.typed_fields.proofs.DateLemmas.{date_of-days_from_civil, is_date-IsDate}
use Rattle.typed_fields.proofs.DigitsLemmas.{both_true, zero_padded_two, zero_padded_four}
use Rattle.typed_fields.proofs.DigitsLemmas.{digits_of_pattern, has_pattern-take}
use Rattle.typed_fields.proofs.DigitsLemmas.{slice_range-take}
use Rattle.typed_fields.proofs.SpellingLemmas.{judged_ok, judged_good, two_back, four_back}
use Rattle.typed_fields.proofs.SpellingLemmas.{is_digit-last}
use Rattle.typed_fields.proofs.SpellingLemmas.{number_of-zero_padded, slice_then, part_back}
use Rattle.typed_fields.proofs.SpellingLemmas.{mark_of_pattern}
use Rattle.typed_fields.proofs.DayLaws.{date_back, day_below}
use Rattle.typed_fields.proofs.StampLemmas.{fine_nine, fine_six, fine_three, fine_whole, formed}
use Rattle.typed_fields.proofs.StampLemmas.{long_form, narrow, short_form, stamp_form_fine}
use Rattle.typed_fields.proofs.StampLemmas.{stamp_form_short}

-- the bytes of a moment up to its seconds, before others
abbrev front : (y m d h n s : ℕ) → List ℕ → List ℕ
front y m d h n s rest =
    (48 + y / 1000 % 10) ∷ (48 + y / 100 % 10) ∷ (48 + y / 10 % 10)
    ∷ (48 + y % 10) ∷ (48 + m / 10 % 10) ∷ (48 + m % 10) ∷ (48 + d / 10 % 10) ∷ (48 + d % 10)
    ∷ 45 ∷ (48 + h / 10 % 10) ∷ (48 + h % 10)
    ∷ 58 ∷ (48 + n / 10 % 10) ∷ (48 + n % 10) ∷ 58 ∷ (48 + s / 10 % 10) ∷ (48 + s % 10) ∷ rest

front_marks : (y m d h n s : ℕ) (more rest : List ℕ)
    → have_marks (codes "YYYYMMDD-HH:MM:SS" ++ more) (front y m d h n s rest) ≡ have_marks more rest
front_marks y m d h n s more rest =
    rw (
      is_digit-last (y / 1000),
      is_digit-last (y / 100),
      is_digit-last (y / 10),
      is_digit-last y,
      is_digit-last (m / 10),
      is_digit-last m,
      is_digit-last (d / 10),
      is_digit-last d,
      is_digit-last (h / 10),
      is_digit-last h,
      is_digit-last (n / 10),
      is_digit-last n,
      is_digit-last (s / 10),
      is_digit-last s,
    )

-- digits have a pattern of letters
digits_marked : (w n : ℕ) → have_marks (replicate w 115) (zero_padded w n) ≡ true
unfolding zero_padded
digits_marked zero n = refl
digits_marked (suc w) n =
    let first = is_digit-last (n / 10 ^ w) in let rest = digits_marked w n in rw (first, rest)

-- what is spelled has one of the forms
front_form : (y m d h n s : ℕ) (fraction : Fraction)
    → is_fine_form (front y m d h n s (fraction_text fraction)) ≡ true
unfolding has_pattern zero_padded
front_form y m d h n s Whole =
    fine_whole (front y m d h n s []) (front_marks y m d h n s [] [])
front_form y m d h n s (Three k) = fine_three (front y m d h n s (46 ∷ zero_padded 3 k))
    (front_marks y m d h n s (codes ".sss") (46 ∷ zero_padded 3 k) ∙ digits_marked 3 k)
front_form y m d h n s (Six k) = fine_six (front y m d h n s (46 ∷ zero_padded 6 k))
    (front_marks y m d h n s (codes ".ssssss") (46 ∷ zero_padded 6 k) ∙ digits_marked 6 k)
front_form y m d h n s (Nine k) = fine_nine (front y m d h n s (46 ∷ zero_padded 9 k))
    (front_marks y m d h n s (codes ".sssssssss") (46 ∷ zero_padded 9 k) ∙ digits_marked 9 k)

-- and spells its fraction
front_fraction : (y m d h n s : ℕ) (fraction : Fraction)
    → number_in fraction < 10 ^ width fraction
    → fraction_of (behind_point (front y m d h n s (fraction_text fraction))) ≡ fraction
unfolding zero_padded
front_fraction y m d h n s Whole small = refl
front_fraction y m d h n s (Three k) small = ap Three (number_of-zero_padded 3 k small)
front_fraction y m d h n s (Six k) small = ap Six (number_of-zero_padded 6 k small)
front_fraction y m d h n s (Nine k) small = ap Nine (number_of-zero_padded 9 k small)

read_front : (y m d h n s : ℕ) (fraction : Fraction)
    → IsDate y m d → h ≤ 23 → n ≤ 59 → s ≤ 60 → number_in fraction < 10 ^ width fraction
    → read_fine (front y m d h n s (fraction_text fraction)) ≡ Ok (record {
      day = days_from_civil (pos y) m d;
      hour = h;
      minute = n;
      second = s;
      frac = fraction;
    })
read_front y m d h n s fraction date hour minute second small =
    let v = front y m d h n s (fraction_text fraction) in
    let year_is : year_in v ≡ y = four_back y (omega (arith, date.year)) in
    let month_is : month_in v ≡ m = two_back m (omega (arith, date.month_high)) in
    let day_is : day_in v ≡ d = two_back d (omega (arith, day_below y m d date)) in
    let hour_is : hour_in v ≡ h = two_back h (omega arith) in
    let minute_is : minute_in v ≡ n = two_back n (omega arith) in
    let second_is : second_in v ≡ s = two_back s (omega arith) in
    let is_date : spells_date v ≡ true =
    rw (year_is, month_is, day_is) (is_date-IsDate y m d date) in
    let is_hour : nat_le (hour_in v) 23 ≡ true = rw hour_is (grind (arith, nat_tests)) in
    let is_minute : nat_le (minute_in v) 59 ≡ true = rw minute_is (grind (arith, nat_tests)) in
    let is_second : nat_le (second_in v) 60 ≡ true = rw second_is (grind (arith, nat_tests)) in
    let bound : spells_moment v ≡ true = rw (is_date, is_hour, is_minute, is_second) in
    let number : day_number v ≡ days_from_civil (pos y) m d = rw (year_is, month_is, day_is) in
    let fraction_is = front_fraction y m d h n s fraction small in
    let same : ◌≡◌ {A = Stamp} (stamp_in v) (record {
      day = days_from_civil (pos y) m d;
      hour = h;
      minute = n;
      second = s;
      frac = fraction;
    }) =
    λ i. record {
      day = number i;
      hour = hour_is i;
      minute = minute_is i;
      second = second_is i;
      frac = fraction_is i;
    } in
    let some : (length v == 0) ≡ false = grind (arith, nat_tests) in
    judged_good v _ _ _ some (front_form y m d h n s fraction) bound ∙ ap Ok same

seconds_text_is : (s : Stamp) (y m d : ℕ) → date_of s.day ≡ (y, m, d)
    → (rest : List ℕ) → seconds_text s ++ rest ≡ front y m d s.hour s.minute s.second rest
seconds_text_is s y m d parts rest = rw (
  parts,
  zero_padded_four y,
  zero_padded_two m,
  zero_padded_two d,
  zero_padded_two s.hour,
  zero_padded_two s.minute,
  zero_padded_two s.second,
)

pub fine_reads_back : ReadsBack read_fine IsFine stamp_text
fine_reads_back s good =
    let date = date_found s.day good.day in
    let parts : date_of s.day ≡ (date.y, date.m, date.d) = ap date_of (sym date.number)
    ∙ date_of-days_from_civil date.y date.m date.d date.is_date in
    let text = seconds_text_is s date.y date.m date.d parts (fraction_text s.frac) in
    let same : ◌≡◌ {A = Stamp} (record {
      day = days_from_civil (pos date.y) date.m date.d;
      hour = s.hour;
      minute = s.minute;
      second = s.second;
      frac = s.frac;
    }) s =
    λ i. record {
      day = date.number i;
      hour = s.hour;
      minute = s.minute;
      second = s.second;
      frac = s.frac;
    } in
    rw text (read_front date.y date.m date.d s.hour s.minute s.second s.frac date.is_date
    good.hour good.minute good.second good.frac ∙ ap Ok same)

-- what bytes of any form are read as is spelled by them, up to the fraction
seconds_back : (more v : List ℕ) → has_pattern (codes "YYYYMMDD-HH:MM:SS" ++ more) v ≡ true
    → spells_date v ≡ true → seconds_text (stamp_in v) ++ drop 17 v ≡ v
seconds_back more v form bound =
    let marks = codes "YYYYMMDD-HH:MM:SS" ++ more in
    let year8 : year_in (take 8 v) ≡ year_in v =
    ap number_of (slice_range-take v 8 0 4 (omega arith)) in
    let month8 : month_in (take 8 v) ≡ month_in v =
    ap number_of (slice_range-take v 8 4 6 (omega arith)) in
    let day8 : day_in (take 8 v) ≡ day_in v =
    ap number_of (slice_range-take v 8 6 8 (omega arith)) in
    let bound8 : spells_date (take 8 v) ≡ true = rw (year8, month8, day8) bound in
    let number8 : day_number (take 8 v) ≡ day_number v = rw (year8, month8, day8) in
    let day : day_digits (day_number v) ≡ slice_range v 0 8 = ap day_digits (sym number8)
    ∙ date_back (take 8 v) (has_pattern-take 8 marks v form) bound8 in
    let hour = part_back marks v 9 11 form (omega arith) (omega arith) refl in
    let minute = part_back marks v 12 14 form (omega arith) (omega arith) refl in
    let second = part_back marks v 15 17 form (omega arith) (omega arith) refl in
    let dash = mark_of_pattern marks v 8 45 form (omega arith) refl refl in
    let colon = mark_of_pattern marks v 11 58 form (omega arith) refl refl in
    let colon₂ = mark_of_pattern marks v 14 58 form (omega arith) refl refl in
    let whole : v ≡ slice_range v 0 8 ++ (45 ∷ [] ++ (slice_range v 9 11
    ++ (58 ∷ [] ++ (slice_range v 12 14 ++ (58 ∷ [] ++ (slice_range v 15 17 ++ drop 17 v)))))) =
    slice_then v 0 8 (omega arith) ∙ ap (λ xs. slice_range v 0 8 ++ xs)
    (slice_then v 8 9 (omega arith)
    ∙ (λ i. dash i ++ (slice_then v 9 11 (omega arith) ∙ ap (λ xs. slice_range v 9 11 ++ xs)
    (slice_then v 11 12 (omega arith)
    ∙ (λ i. colon i ++ (slice_then v 12 14 (omega arith) ∙ ap (λ xs. slice_range v 12 14 ++ xs)
    (slice_then v 14 15 (omega arith) ∙ (λ i. colon₂ i ++ slice_then v 15 17 (omega arith) i))
    ) i))) i))
    in
    rw (day, hour, minute, second) (simp append_assoc (sym whole))

pub fine_is_plain : IsPlain read_fine stamp_text (λ v. v)
fine_is_plain v s e =
    let j = judged_ok v (is_fine_form v) (spells_moment v) (stamp_in v) s e in
    let date = (both_true (spells_date v) (nat_le (hour_in v) 23
    && (nat_le (minute_in v) 59 && nat_le (second_in v) 60)) j.bound).0 in
    let formed = formed v j.form in
    ap stamp_text (sym j.value)
    ∙ ap (λ text. seconds_text (stamp_in v) ++ text) formed.text
    ∙ seconds_back formed.more v formed.form date

-- and is within the bound
in_bound : (v : List ℕ) → is_fine_form v ≡ true → spells_moment v ≡ true → IsFine (stamp_in v)
in_bound v form bound =
    let date = both_true (spells_date v) _ bound in
    let hour = both_true (nat_le (hour_in v) 23) _ date.1 in
    let minute = both_true (nat_le (minute_in v) 59) (nat_le (second_in v) 60) hour.1 in
    let formed = formed v form in
    let digits =
    digits_of_pattern (codes "YYYYMMDD-HH:MM:SS" ++ formed.more) v 0 8 formed.form refl in
    record {
      day = IsDayNumber-spelled v (day_number v) digits (rw date.0);
      hour = grind (arith, nat_tests);
      minute = grind (arith, nat_tests);
      second = grind (arith, nat_tests);
      frac = formed.small;
    }

pub moment_in_bound : (v : List ℕ) (r : Result Stamp FieldFault) → is_fine_form v ≡ true
    → r ≡ (if spells_moment v then Ok (stamp_in v) else Err Range) → IfOk r IsFine
moment_in_bound v r form e =
    let P : Result Stamp FieldFault → Type 0 = λ x. IfOk x IsFine in
    subst P (sym e) (by (spells_moment v) refl)
  where
    by : (b : Bool) → spells_moment v ≡ b
        → IfOk (if b then Ok (stamp_in v) else Err Range) IsFine
    by true t = in_bound v form t
    by false t = tt

pub fine_in_bound : (v : List ℕ) (s : Stamp) → read_fine v ≡ Ok s → IsFine s
fine_in_bound v s e =
    let j = judged_ok v (is_fine_form v) (spells_moment v) (stamp_in v) s e in
    let P : Stamp → Type 0 = λ x. IsFine x in subst P j.value (in_bound v j.form j.bound)

-- ---- no more than three digits

-- what is read is read by the fine reading, too
pub read_finer : (v : List ℕ) (s : Stamp) → read_stamp v ≡ Ok s → read_fine v ≡ Ok s
read_finer v s e =
    let j = judged_ok v (is_stamp_form v) (spells_moment v) (stamp_in v) s e in
    judged_good v _ _ _ j.some (stamp_form_fine v j.form) j.bound ∙ ap Ok j.value

-- where bytes are short, both readings are the same
pub read_short : (v : List ℕ) → length v ≤ 21 → read_fine v ≡ read_stamp v
read_short v short = rw (short_form v short)

-- and else there is nothing to be read
pub read_long : (v : List ℕ) → 21 < length v → Err Form ≡ read_stamp v
read_long v long =
    let some : (length v == 0) ≡ false = grind (arith, nat_tests) in
    rw (some, long_form v long) refl

pub short_in_bound : (v : List ℕ) (r : Result Stamp FieldFault) → length v ≤ 21
    → r ≡ read_fine v → IfOk r IsFine → IfOk r IsStamp
short_in_bound v (Err fault) short e fine = tt
short_in_bound v (Ok s) short e fine =
    let j = judged_ok v (is_fine_form v) (spells_moment v) (stamp_in v) s (sym e) in
    let P : Stamp → Type 0 = λ x. width x.frac ≤ 3 in
    record {
      fine = fine;
      milli = subst P j.value (narrow (drop 18 v) (omega (arith, length-drop 18 v)));
    }

pub stamp_is_plain : IsPlain read_stamp stamp_text (λ v. v)
stamp_is_plain v s e = fine_is_plain v s (read_finer v s e)

-- the parts of a day
parts_of : (s : Stamp) (rest : List ℕ) → seconds_text s ++ rest
    ≡ front (date_of s.day).0 (date_of s.day).1 (date_of s.day).2 s.hour s.minute s.second rest
parts_of s rest = seconds_text_is s _ _ _ refl rest

fraction_short : (fraction : Fraction) → width fraction ≤ 3 → length (fraction_text fraction) ≤ 4
unfolding zero_padded
fraction_short Whole few = omega arith
fraction_short (Three k) few = omega arith
fraction_short (Six k) few = absurd (omega arith)
fraction_short (Nine k) few = absurd (omega arith)

pub stamp_short : (s : Stamp) → width s.frac ≤ 3 → length (stamp_text s) ≤ 21
stamp_short s few =
    rw (parts_of s (fraction_text s.frac)) (omega (arith, fraction_short s.frac few))

pub stamp_reads_back : ReadsBack read_stamp IsStamp stamp_text
stamp_reads_back s good =
    sym (read_short (stamp_text s) (stamp_short s good.milli)) ∙ fine_reads_back s good.fine

-- what is read has nothing to be cut
pub read_whole : (v : List ℕ) (s : Stamp) → read_stamp v ≡ Ok s → cut_text v ≡ v
read_whole v s e =
    let j = judged_ok v (is_stamp_form v) (spells_moment v) (stamp_in v) s e in
    take_all 21 v (stamp_form_short v j.form)

-- the spelling of a stamp that is cut
cut_fraction_text : (fraction : Fraction)
    → fraction_text (cut_fraction fraction) ≡ take 4 (fraction_text fraction)
unfolding zero_padded
cut_fraction_text Whole = refl
cut_fraction_text (Three k) = refl
cut_fraction_text (Six k) =
    let a : k / 1000 / 100 ≡ k / 100000 = omega arith in
    let b : k / 1000 / 10 ≡ k / 10000 = omega arith in
    let c : k / 1000 / 1 ≡ k / 1000 = omega arith in
    λ i. 46 ∷ (48 + a i % 10) ∷ (48 + b i % 10) ∷ (48 + c i % 10) ∷ []
cut_fraction_text (Nine k) =
    let a : k / 1000000 / 100 ≡ k / 100000000 = omega arith in
    let b : k / 1000000 / 10 ≡ k / 10000000 = omega arith in
    let c : k / 1000000 / 1 ≡ k / 1000000 = omega arith in
    λ i. 46 ∷ (48 + a i % 10) ∷ (48 + b i % 10) ∷ (48 + c i % 10) ∷ []

cut_stamp_text : (s : Stamp) → stamp_text (cut s) ≡ cut_text (stamp_text s)
cut_stamp_text s =
    let d = date_of s.day in
    parts_of s (fraction_text (cut_fraction s.frac))
    ∙ ap (front d.0 d.1 d.2 s.hour s.minute s.second) (cut_fraction_text s.frac)
    ∙ ap cut_text (sym (parts_of s (fraction_text s.frac)))

cut_small : (fraction : Fraction) → number_in fraction < 10 ^ width fraction
    → number_in (cut_fraction fraction) < 10 ^ width (cut_fraction fraction)
cut_small Whole small = small
cut_small (Three k) small = small
cut_small (Six k) small = omega (arith, small)
cut_small (Nine k) small = omega (arith, small)

cut_narrow : (fraction : Fraction) → width (cut_fraction fraction) ≤ 3
cut_narrow Whole = omega arith
cut_narrow (Three k) = omega arith
cut_narrow (Six k) = omega arith
cut_narrow (Nine k) = omega arith

pub cut_in_bound : (s : Stamp) → IsFine s → IsStamp (cut s)
cut_in_bound s good = record {
  fine = record {
    day = good.day;
    hour = good.hour;
    minute = good.minute;
    second = good.second;
    frac = cut_small s.frac good.frac;
  };
  milli = cut_narrow s.frac;
}

-- what the fine reading reads is read once it is cut
pub read_cut : (v : List ℕ) (s : Stamp) → read_fine v ≡ Ok s → read_stamp (cut_text v) ≡ Ok (cut s)
read_cut v s e =
    let text : cut_text v ≡ stamp_text (cut s) =
    ap cut_text (sym (fine_is_plain v s e)) ∙ sym (cut_stamp_text s) in
    ap read_stamp text ∙ stamp_reads_back (cut s) (cut_in_bound s (fine_in_bound v s e))

-- a moment's stamp has that moment
pub stamp_millis-stamp_at : (ms : ℕ) → stamp_millis (stamp_at ms) ≡ pos ms
stamp_millis-stamp_at ms = omega (arith, signed_arith)

-- ---- what is written digit by digit

three_and_three : (k : ℕ) → zero_padded 3 (k / 1000) ++ zero_padded 3 (k % 1000) ≡ zero_padded 6 k
unfolding zero_padded
three_and_three k =
    let a : k / 1000 / 100 ≡ k / 100000 = omega arith in
    let b : k / 1000 / 10 ≡ k / 10000 = omega arith in
    let c : k / 1000 / 1 ≡ k / 1000 = omega arith in
    let d : k % 1000 / 100 % 10 ≡ k / 100 % 10 = omega arith in
    let e : k % 1000 / 10 % 10 ≡ k / 10 % 10 = omega arith in
    let f : k % 1000 / 1 % 10 ≡ k / 1 % 10 = omega arith in
    λ i. (48 + a i % 10) ∷ (48 + b i % 10) ∷ (48 + c i % 10) ∷ (48 + d i) ∷ (48 + e i) ∷ (48 + f i)
    ∷ []

six_and_three : (k : ℕ) → zero_padded 6 (k / 1000) ++ zero_padded 3 (k % 1000) ≡ zero_padded 9 k
unfolding zero_padded
six_and_three k =
    let a : k / 1000 / 100000 ≡ k / 100000000 = omega arith in
    let b : k / 1000 / 10000 ≡ k / 10000000 = omega arith in
    let c : k / 1000 / 1000 ≡ k / 1000000 = omega arith in
    let d : k / 1000 / 100 ≡ k / 100000 = omega arith in
    let e : k / 1000 / 10 ≡ k / 10000 = omega arith in
    let f : k / 1000 / 1 ≡ k / 1000 = omega arith in
    let g : k % 1000 / 100 % 10 ≡ k / 100 % 10 = omega arith in
    let h : k % 1000 / 10 % 10 ≡ k / 10 % 10 = omega arith in
    let j : k % 1000 / 1 % 10 ≡ k / 1 % 10 = omega arith in
    λ i. (48 + a i % 10) ∷ (48 + b i % 10) ∷ (48 + c i % 10) ∷ (48 + d i % 10) ∷ (48 + e i % 10)
    ∷ (48 + f i % 10) ∷ (48 + g i) ∷ (48 + h i) ∷ (48 + j i) ∷ []

-- pieces that are appended one behind the other
pub six_joined : (s : Stamp) (k : ℕ) (old one two millis more : List ℕ) → s.frac ≡ Six k
    → one ≡ old ++ millis → two ≡ one ++ more
    → millis ≡ seconds_text s ++ fraction_text (Three (k / 1000)) → more ≡ zero_padded 3 (k % 1000)
    → two ≡ old ++ stamp_text s
six_joined s k old one two millis more is e f g h =
    let text : stamp_text s ≡ millis ++ more =
    ap (λ x. seconds_text s ++ fraction_text x) is
    ∙ ap (λ ds. seconds_text s ++ 46 ∷ ds) (sym (three_and_three k))
    ∙ sym (append_assoc (seconds_text s) (46 ∷ zero_padded 3 (k / 1000)) (zero_padded 3 (k % 1000)))
    ∙ (λ i. sym g i ++ sym h i) in
    f ∙ ap (λ xs. xs ++ more) e ∙ append_assoc old millis more ∙ ap (λ xs. old ++ xs) (sym text)

pub nine_joined : (s : Stamp) (k : ℕ) (old one two three millis more last : List ℕ)
    → s.frac ≡ Nine k → one ≡ old ++ millis → two ≡ one ++ more → three ≡ two ++ last
    → millis ≡ seconds_text s ++ fraction_text (Three (k / 1000000))
    → more ≡ zero_padded 3 (k / 1000 % 1000) → last ≡ zero_padded 3 (k % 1000)
    → three ≡ old ++ stamp_text s
nine_joined s k old one two three millis more last is e f l g h m =
    let cut_s : Stamp = record s { frac = Six (k / 1000) } in
    let same : k / 1000 / 1000 ≡ k / 1000000 = omega arith in
    let first : two ≡ old ++ stamp_text cut_s =
    six_joined cut_s (k / 1000) old one two millis more refl e f
    (g ∙ ap (λ (n : ℕ). seconds_text s ++ fraction_text (Three n)) (sym same)) h in
    let text : stamp_text s ≡ stamp_text cut_s ++ last =
    ap (λ x. seconds_text s ++ fraction_text x) is
    ∙ ap (λ ds. seconds_text s ++ 46 ∷ ds) (sym (six_and_three k))
    ∙ sym (append_assoc (seconds_text s) (46 ∷ zero_padded 6 (k / 1000)) (zero_padded 3 (k % 1000)))
    ∙ ap (λ xs. stamp_text cut_s ++ xs) (sym m) in
    l ∙ ap (λ xs. xs ++ last) first ∙ append_assoc old (stamp_text cut_s) last
    ∙ ap (λ xs. old ++ xs) (sym text)

pub stamp_at-stamp_millis : (s : Stamp) (ms : ℕ)
    → IsStamp s → width s.frac ≡ 3 → s.second ≤ 59 → stamp_millis s ≡ pos ms → stamp_at ms ≡ s
stamp_at-stamp_millis s ms good three second e = go s.frac refl three good.fine.frac
  where
    go : (fraction : Fraction) → s.frac ≡ fraction → width fraction ≡ 3
        → number_in fraction < 10 ^ width fraction → stamp_at ms ≡ s
    go Whole is wide small = absurd (omega (arith, wide))
    go (Six k) is wide small = absurd (omega (arith, wide))
    go (Nine k) is wide small = absurd (omega (arith, wide))
    go (Three k) is wide small =
        let sum = rw is at e in
        let hours = good.fine.hour in
        let minutes = good.fine.minute in
        let day : pos (ms / 86_400_000) ≡ s.day = omega (arith, signed_arith, sum) in
        let hour : ms / 3_600_000 % 24 ≡ s.hour = omega (arith, signed_arith, sum) in
        let minute : ms / 60_000 % 60 ≡ s.minute = omega (arith, signed_arith, sum) in
        let second_is : ms / 1000 % 60 ≡ s.second = omega (arith, signed_arith, sum) in
        let millis : ms % 1000 ≡ k = omega (arith, signed_arith, sum) in
        let frac : Three (ms % 1000) ≡ s.frac = ap Three millis ∙ sym is in
        λ i. record {
          day = day i;
          hour = hour i;
          minute = minute i;
          second = second_is i;
          frac = frac i;
        }
