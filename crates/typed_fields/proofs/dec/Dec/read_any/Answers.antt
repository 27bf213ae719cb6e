use Rattle.std.proofs.Common.{◌≡◌, ap, sym, ◌∙◌}
use Rattle.std.specs.List.{before_first, after_first}
use Rattle.typed_fields.specs.Dec.{is_point, whole_part, fraction_part}
use Rattle.typed_fields.proofs.DigitsLemmas.{are_digits-leading, are_digits-trailing}
use Rattle.typed_fields.proofs.DecLemmas.{IsDec-units_of, signed_fits, read_dec-found}
use Rattle.typed_fields.proofs.dec.Dec.read_any.Goals as goal

pub units_of-requires-clause-whole : goal.units_of-requires-clause-whole
units_of-requires-clause-whole c =
    rw c.without_leading_zeros-whole.ensures.value
    (are_digits-leading _ (sym c.are_digits.ensures ∙ c.if-not-are_digits.false))

pub units_of-requires-clause-fraction : goal.units_of-requires-clause-fraction
units_of-requires-clause-fraction c =
    rw c.without_trailing_zeros-fraction.ensures.value (are_digits-trailing
    _ (sym c.are_digits-else-not-are_digits.ensures ∙ c.if-not-are_digits-2.false))

pub returns-clause-value : goal.returns-clause-value
returns-clause-value c =
    let whole : c.parts.result.0.now ≡ whole_part c.args.value.now =
    c.parts.ensures.whole ∙ ap (before_first is_point) c.without_minus.ensures in
    let fraction : c.parts.result.1.now ≡ fraction_part c.args.value.now =
    c.parts.ensures.fraction ∙ ap (after_first is_point) c.without_minus.ensures in
    rw (
      c.signed.ensures,
      signed_fits c.has_minus-minus.result c.units_of.result c.units_of.ensures.bound,
      c.units_of.ensures.value,
      c.has_minus-minus.ensures,
    )
    (read_dec-found
    c.args.value.now c.parts.result.0.now c.parts.result.1.now
    c.without_leading_zeros-whole.result.now c.without_trailing_zeros-fraction.result.now
    (sym c.is_empty.ensures ∙ c.if-is_empty.false) c.if-value-gt-MAX_BYTES.false whole fraction
    (sym c.are_digits.ensures ∙ c.if-not-are_digits.false)
    (sym c.are_digits-else-not-are_digits.ensures ∙ c.if-not-are_digits-2.false)
    c.if-whole-fraction-eq0.false
    c.without_leading_zeros-whole.ensures.value c.without_trailing_zeros-fraction.ensures.value
    c.if-whole-fraction-gt-MAX_DIGITS.false c.if-fraction-gt-MAX_PLACES.false)

pub returns-clause-bound : goal.returns-clause-bound
returns-clause-bound c =
    let whole = rw (sym c.without_leading_zeros-whole.ensures.value) at (are_digits-leading
    c.parts.result.0.now (sym c.are_digits.ensures ∙ c.if-not-are_digits.false)) in
    let fraction = rw (sym c.without_trailing_zeros-fraction.ensures.value)
    at (are_digits-trailing c.parts.result.1.now
    (sym c.are_digits-else-not-are_digits.ensures ∙ c.if-not-are_digits-2.false)) in
    rw (
      c.signed.ensures,
      signed_fits c.has_minus-minus.result c.units_of.result c.units_of.ensures.bound,
      c.units_of.ensures.value,
    )
    (IsDec-units_of c.has_minus-minus.result c.without_leading_zeros-whole.result.now
    c.without_trailing_zeros-fraction.result.now whole fraction
    c.if-whole-fraction-gt-MAX_DIGITS.false c.if-fraction-gt-MAX_PLACES.false)
