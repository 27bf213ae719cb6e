use Rattle.std.proofs.Common.{sym}
use Rattle.typed_fields.proofs.DigitsLemmas.{zero_padded_two}
use Rattle.typed_fields.proofs.digits.two_digits.Goals as goal

pub returns : goal.returns
returns c = sym (zero_padded_two c.args.number)
