-- The days of entries: with one entry more, and as they are written.
use Rattle.std.proofs.Common.{◌≡◌, ℕ, zero, suc, ◌+◌, ◌-◌, ◌≤◌, Bool, true, false, List, [], ◌∷◌}
use Rattle.std.proofs.Common.{◌++◌, length, take, refl, sym, ◌∙◌, ap, subst, arith, length-append}
use Rattle.std.proofs.Common.{append_assoc, append-nil, Some, None, IfSome}
use Rattle.std.specs.Prelude.{fold, if◌then◌else◌}
use Rattle.std.specs.List.{slice_get}
use Rattle.std.specs.Option.{option_or}
use Rattle.std.specs.declared.option.Option.{Option}
use Rattle.std.proofs.lemmas.List.{take_at, take_all}
use Rattle.std.proofs.lemmas.List.Sums.{fold-append}
use Rattle.pair_entries.specs.declared.TheConstants.{MAX_AT}
use Rattle.pair_entries.specs.declared.entry.Entry.{Entry}
use Rattle.pair_entries.specs.Payload.{Next, IsEntry, payload_on}
use Rattle.kept_entries.specs.Numbers.{GoesOn, first_numbers, numbers_before, numbers_after}
use Rattle.kept_entries.specs.Entries.{AreEntries, DaysGoOn}
use Rattle.kept_entries.specs.Days.{Days, day_ended, day_longer, day_with, no_days, days_of}
use Rattle.kept_entries.specs.Days.{last_day, past_of, begun_with, day_at, day_after, day_number}
use Rattle.kept_entries.specs.Days.{dated, payload_behind}

-- ---- as they are written

dated-append : (day : ℕ) (es fs : List Entry)
    → dated day (es ++ fs) ≡ dated day es ++ dated (fold day_after day es) fs
dated-append day [] fs = refl
dated-append day (e ∷ es) fs =
    ap (λ (l : List (List ℕ)). payload_on (day_after day e) e ∷ l)
    (dated-append (day_after day e) es fs)

pub dated-split : (es fs : List Entry) → dated 0 (es ++ fs) ≡ dated 0 es ++ dated (day_number es) fs
dated-split es fs = dated-append 0 es fs

pub dated-push : (es : List Entry) (e : Entry)
    → dated 0 (es ++ e ∷ []) ≡ dated 0 es ++ payload_behind es e ∷ []
dated-push es e = dated-append 0 es (e ∷ [])

pub length-dated : (day : ℕ) (es : List Entry) → length (dated day es) ≡ length es
length-dated day [] = refl
length-dated day (e ∷ es) = omega (arith, length-dated (day_after day e) es)

-- ---- one entry more

pub day_number-push : (es : List Entry) (e : Entry)
    → day_number (es ++ e ∷ []) ≡ day_after (day_number es) e
day_number-push es e = fold-append day_after 0 es (e ∷ [])

pub day_at-push : (es : List Entry) (e : Entry)
    → day_at (es ++ e ∷ []) ≡ begun_with (day_at es) e
day_at-push es e = fold-append begun_with None es (e ∷ [])

pub days-push : (es : List Entry) (e : Entry) → days_of (es ++ e ∷ []) ≡ day_with (days_of es) e
days-push es e = fold-append day_with no_days es (e ∷ [])

pub with_reset : (days : Days) (e : Entry) → e.reset ≡ true → day_with days e ≡ day_ended days
with_reset days e is = ap (λ (b : Bool). if b then day_ended days else day_longer days e) is

pub with_more : (days : Days) (e : Entry) → e.reset ≡ false → day_with days e ≡ day_longer days e
with_more days e is = ap (λ (b : Bool). if b then day_ended days else day_longer days e) is

pub last_day-reset : (es : List Entry) (e : Entry) → e.reset ≡ true → last_day (es ++ e ∷ []) ≡ []
last_day-reset es e is =
    ap (λ (d : Days). d.present) (days-push es e ∙ with_reset (days_of es) e is)

pub last_day-push : (es : List Entry) (e : Entry) → e.reset ≡ false
    → last_day (es ++ e ∷ []) ≡ last_day es ++ e ∷ []
last_day-push es e is = ap (λ (d : Days). d.present) (days-push es e ∙ with_more (days_of es) e is)

-- a day is the next one, or the same
pub after_most : (day : ℕ) (b : Bool) → (if b then day + 1 else day) ≤ day + 1
after_most day true = omega arith
after_most day false = omega arith

number_from : (day : ℕ) (es : List Entry) → fold day_after day es ≤ day + length es
number_from day [] = omega arith
number_from day (e ∷ es) =
    omega (arith, number_from (day_after day e) es, after_most day e.reset)

pub few_days : (es : List Entry) → day_number es ≤ length es
few_days es = omega (arith, number_from 0 es)

-- ---- numbers that go on

pub AreEntries-push : (before : Next) (entries : List Entry) (entry : Entry)
    → AreEntries before entries → IsEntry entry
    → GoesOn (numbers_after before entries) entry → AreEntries before (entries ++ entry ∷ [])
AreEntries-push before [] entry are is on = (is, on, tt)
AreEntries-push before (e ∷ es) entry are is on =
    (are.0, are.1, AreEntries-push e.next es entry are.2 is on)

pub DaysGoOn-push : (before : Next) (entries : List Entry) (entry : Entry)
    → DaysGoOn before entries → IsEntry entry
    → GoesOn (numbers_before (numbers_after before entries) entry) entry
    → DaysGoOn before (entries ++ entry ∷ [])
DaysGoOn-push before [] entry are is on = (is, on, tt)
DaysGoOn-push before (e ∷ es) entry are is on =
    (are.0, are.1, DaysGoOn-push e.next es entry are.2 is on)

pub numbers_after-push : (before : Next) (entries : List Entry) (entry : Entry)
    → numbers_after before (entries ++ entry ∷ []) ≡ entry.next
numbers_after-push before [] entry = refl
numbers_after-push before (e ∷ es) entry = numbers_after-push e.next es entry

pub entry_at : (before : Next) (entries : List Entry) (i : ℕ) (entry : Entry)
    → DaysGoOn before entries → slice_get entries i ≡ Some entry → IsEntry entry
entry_at before [] i entry are e = absurd (cc e)
entry_at before (a ∷ es) zero entry are e = let same : a ≡ entry = cc e in subst IsEntry same are.0
entry_at before (a ∷ es) (suc i) entry are e = entry_at a.next es i entry are.2 e

-- when a day began is a moment
moment_in : (b : Bool) (at : Option ℕ) (e : Entry) → IfSome at (λ a. a ≤ MAX_AT) → IsEntry e
    → IfSome (if b then Some e.at else option_or at (Some e.at)) (λ a. a ≤ MAX_AT)
moment_in true at e h is = is.at
moment_in false None e h is = is.at
moment_in false (Some a) e h is = h

moment_from : (at : Option ℕ) (before : Next) (es : List Entry) → IfSome at (λ a. a ≤ MAX_AT)
    → DaysGoOn before es → IfSome (fold begun_with at es) (λ a. a ≤ MAX_AT)
moment_from at before [] h on = h
moment_from at before (e ∷ es) h on =
    moment_from (begun_with at e) e.next es (moment_in e.reset at e h on.0) on.2

pub is_moment : (es : List Entry) → DaysGoOn first_numbers es
    → IfSome (day_at es) (λ a. a ≤ MAX_AT)
is_moment es on = moment_from None first_numbers es tt on

pub before_more : (before : Next) (e : Entry) → e.reset ≡ false → numbers_before before e ≡ before
before_more before e is = ap (λ (b : Bool). if b then first_numbers else before) is

-- the entries of a day go on, and lead to the numbers of all
abbrev IsDay : Days → Next → Type 0
IsDay days numbers = AreEntries first_numbers days.present
    × (numbers_after first_numbers days.present ≡ numbers)

day_step : (b : Bool) (days : Days) (before : Next) (e : Entry) → e.reset ≡ b → IsDay days before
    → IsEntry e → GoesOn (numbers_before before e) e → IsDay (day_with days e) e.next
day_step true days before e is day sound on =
    subst (λ (d : Days). IsDay d e.next) (sym (with_reset days e is))
    (tt, sym (sound.reset is).next)
day_step false days before e is day sound on =
    subst (λ (d : Days). IsDay d e.next) (sym (with_more days e is)) (
      AreEntries-push first_numbers days.present e day.0 sound
          (subst (λ (n : Next). GoesOn n e) (before_more before e is ∙ sym day.1) on),
      numbers_after-push first_numbers days.present e,
    )

day_from : (days : Days) (before : Next) (es : List Entry) → IsDay days before
    → DaysGoOn before es → IsDay (fold day_with days es) (numbers_after before es)
day_from days before [] day on = day
day_from days before (e ∷ es) day on = day_from (day_with days e) e.next es
    (day_step e.reset days before e refl day on.0 on.1) on.2

pub last_is_sound : (es : List Entry) → DaysGoOn first_numbers es
    → AreEntries first_numbers (last_day es)
last_is_sound es on = (day_from no_days first_numbers es (tt, refl) on).0

pub last_numbers : (es : List Entry) → DaysGoOn first_numbers es
    → numbers_after first_numbers (last_day es) ≡ numbers_after first_numbers es
last_numbers es on = (day_from no_days first_numbers es (tt, refl) on).1

-- ---- the last day is behind the others

pub numbers_after-append : (before : Next) (es fs : List Entry)
    → numbers_after before (es ++ fs) ≡ numbers_after (numbers_after before es) fs
numbers_after-append before [] fs = refl
numbers_after-append before (e ∷ es) fs = numbers_after-append e.next es fs

-- entries that end in others, behind some that lead to the first numbers
abbrev Ends : List Entry → List Entry → Type 0
Ends whole end = (front : List Entry) × (whole ≡ front ++ end)
    × (numbers_after first_numbers front ≡ first_numbers)

ends_at : (b : Bool) (days : Days) (front : List Entry) (before : Next) (e : Entry)
    (es : List Entry) → e.reset ≡ b → IsEntry e
    → numbers_after first_numbers front ≡ first_numbers
    → ((d : Days) (f : List Entry) → numbers_after first_numbers f ≡ first_numbers
    → Ends (f ++ (d.present ++ es)) (fold day_with d es).present)
    → Ends (front ++ (days.present ++ e ∷ es)) (fold day_with (day_with days e) es).present
ends_at true days front before e es is sound anew rest =
    let more = front ++ (days.present ++ e ∷ []) in
    let last : numbers_after first_numbers more ≡ first_numbers =
    ap (numbers_after first_numbers) (sym (append_assoc front days.present (e ∷ [])))
    ∙ numbers_after-push first_numbers (front ++ days.present) e ∙ (sound.reset is).next in
    let r = rest (day_ended days) more last in (
      r.0,
      ap (λ (l : List Entry). front ++ l) (sym (append_assoc days.present (e ∷ []) es))
          ∙ sym (append_assoc front (days.present ++ e ∷ []) es) ∙ r.1
          ∙ ap (λ (d : Days). r.0 ++ (fold day_with d es).present) (sym (with_reset days e is)),
      r.2,
    )
ends_at false days front before e es is sound anew rest =
    let r = rest (day_longer days e) front anew in (
      r.0,
      ap (λ (l : List Entry). front ++ l) (sym (append_assoc days.present (e ∷ []) es)) ∙ r.1
          ∙ ap (λ (d : Days). r.0 ++ (fold day_with d es).present) (sym (with_more days e is)),
      r.2,
    )

ends_with : (days : Days) (front : List Entry) (before : Next) (es : List Entry)
    → DaysGoOn before es → numbers_after first_numbers front ≡ first_numbers
    → Ends (front ++ (days.present ++ es)) (fold day_with days es).present
ends_with days front before [] on anew =
    (front, ap (λ (l : List Entry). front ++ l) (append-nil days.present), anew)
ends_with days front before (e ∷ es) on anew =
    ends_at e.reset days front before e es refl on.0 anew
    (λ d f is. ends_with d f e.next es on.2 is)

module _ (es : List Entry) (on : DaysGoOn first_numbers es) where
  split_es : Ends es (last_day es)
  split_es = ends_with no_days [] first_numbers es on refl

  past_is : past_of es ≡ split_es.0
  past_is =
      let size : length split_es.0 ≡ length es - length (last_day es) =
      omega (arith, ap length split_es.1, length-append split_es.0 (last_day es)) in
      ap (take (length es - length (last_day es))) split_es.1
      ∙ take_at split_es.0 (last_day es) (length es - length (last_day es)) size

  pub past-last : past_of es ++ last_day es ≡ es
  past-last = ap (λ (l : List Entry). l ++ last_day es) past_is ∙ sym split_es.1

  pub past_numbers : numbers_after first_numbers (past_of es) ≡ first_numbers
  past_numbers = ap (numbers_after first_numbers) past_is ∙ split_es.2

  pub past_short : length (past_of es) ≤ length es
  past_short = omega (arith, ap length past-last, length-append (past_of es) (last_day es))

  -- a place within the last day
  take_behind : (xs ys : List Entry) (j : ℕ) → take (length xs + j) (xs ++ ys) ≡ xs ++ take j ys
  take_behind [] ys j = let same : zero + j ≡ j = omega arith in ap (λ n. take n ys) same
  take_behind (x ∷ xs) ys j =
      let same : length (x ∷ xs) + j ≡ suc (length xs + j) = omega arith in
      ap (λ n. take n (x ∷ xs ++ ys)) same ∙ ap (λ (l : List Entry). x ∷ l) (take_behind xs ys j)

  get_behind : (xs ys : List Entry) (j : ℕ) → slice_get (xs ++ ys) (length xs + j) ≡ slice_get ys j
  get_behind [] ys j = let same : zero + j ≡ j = omega arith in ap (slice_get ys) same
  get_behind (x ∷ xs) ys j =
      let same : length (x ∷ xs) + j ≡ suc (length xs + j) = omega arith in
      ap (slice_get (x ∷ xs ++ ys)) same ∙ get_behind xs ys j

  pub numbers_at : (n : ℕ) → length (past_of es) ≤ n → numbers_after first_numbers (take n es)
      ≡ numbers_after first_numbers (take (n - length (past_of es)) (last_day es))
  numbers_at n in_day =
      let j = n - length (past_of es) in
      let at : n ≡ length (past_of es) + j = omega (arith, in_day) in
      ap (λ k. numbers_after first_numbers (take k es)) at
      ∙ ap (λ (l : List Entry). numbers_after first_numbers (take (length (past_of es) + j) l))
      (sym past-last)
      ∙ ap (numbers_after first_numbers) (take_behind (past_of es) (last_day es) j)
      ∙ numbers_after-append first_numbers (past_of es) (take j (last_day es))
      ∙ ap (λ (b : Next). numbers_after b (take j (last_day es))) past_numbers

  pub entry_in : (n : ℕ) → length (past_of es) ≤ n
      → slice_get es n ≡ slice_get (last_day es) (n - length (past_of es))
  entry_in n in_day =
      let j = n - length (past_of es) in
      let at : n ≡ length (past_of es) + j = omega (arith, in_day) in
      ap (slice_get es) at
      ∙ ap (λ (l : List Entry). slice_get l (length (past_of es) + j)) (sym past-last)
      ∙ get_behind (past_of es) (last_day es) j

-- what stands before the last day, with one entry more
pub past_more : (es : List Entry) (e : Entry) → DaysGoOn first_numbers es
    → DaysGoOn first_numbers (es ++ e ∷ []) → e.reset ≡ false
    → past_of (es ++ e ∷ []) ≡ past_of es
past_more es e on more is =
    let size : length (past_of es) ≡ length (es ++ e ∷ []) - length (last_day (es ++ e ∷ [])) =
    omega (
      arith,
      ap length (last_day-push es e is),
      length-append (last_day es) (e ∷ []),
      length-append es (e ∷ []),
      ap length (past-last es on),
      length-append (past_of es) (last_day es),
    ) in
    let whole : es ++ e ∷ [] ≡ past_of es ++ (last_day es ++ e ∷ []) =
    ap (λ (l : List Entry). l ++ e ∷ []) (sym (past-last es on))
    ∙ append_assoc (past_of es) (last_day es) (e ∷ []) in
    ap (take (length (es ++ e ∷ []) - length (last_day (es ++ e ∷ [])))) whole
    ∙ take_at (past_of es) (last_day es ++ e ∷ [])
    (length (es ++ e ∷ []) - length (last_day (es ++ e ∷ []))) size

pub past_reset : (es : List Entry) (e : Entry) → e.reset ≡ true
    → past_of (es ++ e ∷ []) ≡ es ++ e ∷ []
past_reset es e is = take_all (length (es ++ e ∷ []) - length (last_day (es ++ e ∷ [])))
    (es ++ e ∷ []) (omega (arith, ap length (last_day-reset es e is)))
