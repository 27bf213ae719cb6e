use Rattle.std.proofs.Common.{arith}
use Rattle.typed_fields.proofs.DigitsLemmas.{are_digits-part}
use Rattle.typed_fields.proofs.day.day_number.Goals as goal

pub number_at-year-requires-clause-digits : goal.number_at-year-requires-clause-digits
number_at-year-requires-clause-digits c =
    are_digits-part c.args.bytes.now 8 0 4 c.requires.digits (omega arith)

pub number_at-month-requires-clause-digits : goal.number_at-month-requires-clause-digits
number_at-month-requires-clause-digits c =
    are_digits-part c.args.bytes.now 8 4 6 c.requires.digits (omega arith)

pub number_at-day-requires-clause-digits : goal.number_at-day-requires-clause-digits
number_at-day-requires-clause-digits c =
    are_digits-part c.args.bytes.now 8 6 8 c.requires.digits (omega arith)
