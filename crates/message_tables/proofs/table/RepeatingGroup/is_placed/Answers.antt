use Rattle.std.proofs.Common.{arith}
use Rattle.std.proofs.lemmas.Bool.Decides.{nat_tests}
use Rattle.message_tables.proofs.table.RepeatingGroup.is_placed.Goals as goal

pub returns : goal.returns
returns g c = λ yes place lt.
    c.placed_between.ensures.placed place (grind (arith, nat_tests, yes, lt))
