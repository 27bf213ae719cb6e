use Rattle.std.proofs.Common.{◌≡◌, true, codes, sym, ◌∙◌, refl, arith}
use Rattle.typed_fields.specs.Day.{IsDayNumber}
use Rattle.typed_fields.proofs.DateLemmas.{IsDayNumber-spelled, day_fits}
use Rattle.typed_fields.specs.Digits.{has_pattern}
use Rattle.typed_fields.proofs.DigitsLemmas.{digits_of_pattern, length-has_pattern}
use Rattle.typed_fields.proofs.day.Day.read.Goals as goal

pub day_number-requires-clause-long : goal.day_number-requires-clause-long
day_number-requires-clause-long c =
    let shape : has_pattern (codes "YYYYMMDD") c.args.value.now ≡ true =
    sym c.has_day.ensures ∙ c.if-not-has_day.false in
    omega (arith, length-has_pattern _ _ shape)

pub day_number-requires-clause-digits : goal.day_number-requires-clause-digits
day_number-requires-clause-digits c =
    digits_of_pattern (codes "YYYYMMDD")
    c.args.value.now 0 8 (sym c.has_day.ensures ∙ c.if-not-has_day.false) refl

pub returns-in-Some-clause-bound : goal.returns-in-Some-clause-bound
returns-in-Some-clause-bound c =
    let digits = digits_of_pattern (codes "YYYYMMDD")
    c.args.value.now 0 8 (sym c.has_day.ensures ∙ c.if-not-has_day.false) refl in
    let day : IsDayNumber c.in-Some.day = IsDayNumber-spelled
    c.args.value.now c.in-Some.day digits (sym c.day_number.ensures ∙ c.in-Some.is) in
    rw (day_fits c.in-Some.day day) day
