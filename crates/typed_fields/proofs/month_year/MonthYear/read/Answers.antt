use Rattle.std.proofs.Common.{◌≡◌, true, codes, sym, ◌∙◌, refl, arith}
use Rattle.typed_fields.specs.Digits.{has_pattern}
use Rattle.typed_fields.proofs.DigitsLemmas.{digits_of_pattern, length-has_pattern}
use Rattle.typed_fields.proofs.month_year.MonthYear.read.Goals as goal

pub number_at-year-requires-clause-within : goal.number_at-year-requires-clause-within
number_at-year-requires-clause-within c =
    let shape : has_pattern (codes "YYYYMM") c.args.value.now ≡ true =
    sym c.has_pattern.ensures ∙ c.if-not-has_pattern.false in
    omega (arith, length-has_pattern _ _ shape)

pub number_at-year-requires-clause-digits : goal.number_at-year-requires-clause-digits
number_at-year-requires-clause-digits c =
    digits_of_pattern (codes "YYYYMM")
    c.args.value.now 0 4 (sym c.has_pattern.ensures ∙ c.if-not-has_pattern.false) refl

pub number_at-month-requires-clause-digits : goal.number_at-month-requires-clause-digits
number_at-month-requires-clause-digits c =
    digits_of_pattern (codes "YYYYMM")
    c.args.value.now 4 6 (sym c.has_pattern.ensures ∙ c.if-not-has_pattern.false) refl

pub number_at-month-requires-clause-within : goal.number_at-month-requires-clause-within
number_at-month-requires-clause-within c =
    let shape : has_pattern (codes "YYYYMM") c.args.value.now ≡ true =
    sym c.has_pattern.ensures ∙ c.if-not-has_pattern.false in
    omega (arith, length-has_pattern _ _ shape)
