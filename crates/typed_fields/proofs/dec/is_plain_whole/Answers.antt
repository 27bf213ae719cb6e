use Rattle.std.proofs.Common.{arith}
use Rattle.typed_fields.proofs.DecLaws.{leads_kept, one_kept}
use Rattle.typed_fields.proofs.dec.is_plain_whole.Goals as goal

pub returns-in-len1 : goal.returns-in-len1
returns-in-len1 c = λ yes.
    one_kept c.args.digits.now (omega (arith, c.in-len1.len_at_least, c.in-len1.len_below))

pub returns-in_default : goal.returns-in_default
returns-in_default c = λ yes.
    leads_kept c.args.digits.now (omega (arith, c.in_default.len_at_least)) yes
