use Rattle.std.proofs.Common.{sym}
use Rattle.typed_fields.proofs.DigitsLemmas.{zero_padded_three}
use Rattle.typed_fields.proofs.digits.three_digits.Goals as goal

pub returns : goal.returns
returns c = sym (zero_padded_three c.args.number)
