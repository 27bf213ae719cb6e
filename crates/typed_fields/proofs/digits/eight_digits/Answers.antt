use Rattle.std.proofs.Common.{◌/◌, ◌%◌}
use Rattle.typed_fields.proofs.DigitsLemmas.{eight_of_four, zero_padded_four}
use Rattle.typed_fields.proofs.digits.eight_digits.Goals as goal

pub returns : goal.returns
returns c =
    let n = c.args.number in
    rw (
      c.four_digits.ensures,
      c.four_digits-2.ensures,
      zero_padded_four (n / 10000 % 10000),
      zero_padded_four (n % 10000),
    ) (eight_of_four n)
