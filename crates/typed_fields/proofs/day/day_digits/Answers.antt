use Rattle.std.proofs.Common.{◌≡◌, ℤ, ap, subst, sym, ◌∙◌, arith, pos, to_z, of_z, to_z-of_z, w16}
use Rattle.std.proofs.Common.{w32, w64, FitsSigned}
use Rattle.std.proofs.lemmas.Result.{IfOk-at_ok}
use Rattle.jiff_core.specs.Date.{epoch_day}
use Rattle.jiff_core.specs.declared.civil.date.Date.{Date as JiffDate}
use Rattle.jiff_core.proofs.SignedLemmas.{signed_arith, back_small}
use Rattle.typed_fields.specs.Day.{date_text, date_of, IsDayNumber}
use Rattle.typed_fields.proofs.DateLemmas.{HasParts, date_parts}
use Rattle.typed_fields.proofs.DigitsLemmas.{date_text_joined}
use Rattle.typed_fields.proofs.day.day_digits.Goals as goal

-- a date that has a day's number has the parts of that day
parts_of : (date : JiffDate) (day given : ℤ)
    → IsDayNumber day → given ≡ to_z w32 (of_z w32 day) → FitsSigned w32 day
    → epoch_day date ≡ to_z w64 (of_z w64 given) → HasParts date × (epoch_day date ≡ day)
parts_of date day given h e fits number =
    let fits64 : FitsSigned w64 day = omega (arith, signed_arith) in
    let same : epoch_day date ≡ day =
    number ∙ (ap (λ z. to_z w64 (of_z w64 z)) (e ∙ to_z-of_z fits) ∙ to_z-of_z fits64) in
    let P : ℤ → Type 0 = λ z. IsDayNumber z in
    (date_parts date (subst P (sym same) h), same)

year_back : (date : JiffDate) (parts : HasParts date) → to_z w16 (of_z w16 date.year) ≡ pos parts.y
year_back date parts = ap (λ z. to_z w16 (of_z w16 z)) parts.year
    ∙ back_small w16 (pos parts.y) (omega (arith, parts.small))

pub overflow_cast-date : goal.overflow_cast-date
overflow_cast-date c =
    let number = IfOk-at_ok _ c.unwrap-date.ensures c.from_unix_epoch_day.ensures.value in
    let parts = (parts_of c.unwrap-date.result
    c.args.day c.from.result c.requires c.from.ensures c.ranges.day number).0 in
    rw (year_back c.unwrap-date.result parts) (tt, omega (arith, parts.small))

pub returns : goal.returns
returns c =
    let number = IfOk-at_ok _ c.unwrap-date.ensures c.from_unix_epoch_day.ensures.value in
    let both = parts_of c.unwrap-date.result
    c.args.day c.from.result c.requires c.from.ensures c.ranges.day number in
    let year = year_back c.unwrap-date.result both.0 in
    date_text_joined c.four_digits.result c.two_digits.result c.two_digits-2.result
    _ _ _ (rw year at c.four_digits.ensures) c.two_digits.ensures c.two_digits-2.ensures
    ∙ ap date_text (sym both.0.date_is ∙ ap date_of both.1)
