use Rattle.std.proofs.Common.{arith}
use Rattle.order_meaning.proofs.NameLemmas.{zeros_follow}
use Rattle.order_meaning.proofs.names.Name.new.Goals as goal

-- src/names.rt:43:9
pub invariant_of-result : goal.invariant_of-result
invariant_of-result c =
    rw c.copy_from_slice.ensures.after (zeros_follow c.args.text.now (grind (
      arith,
      c.if-is_empty.ensures,
      c.if-is_empty.false,
      c.is_empty.ensures,
    )) c.if-text-gt-MAX_NAME.false)
