use Rattle.std.proofs.Common.{sym}
use Rattle.typed_fields.proofs.DigitsLemmas.{zero_padded_four}
use Rattle.typed_fields.proofs.digits.four_digits.Goals as goal

pub returns : goal.returns
returns c = sym (zero_padded_four c.args.number)
