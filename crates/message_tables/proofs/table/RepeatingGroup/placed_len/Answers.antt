use Rattle.std.proofs.Common.{sym, arith, ◌∙◌}
use Rattle.message_tables.specs.CodeTables.{group_of}
use Rattle.message_tables.proofs.OnePass.{absent_is_whole}
use Rattle.message_tables.proofs.table.RepeatingGroup.placed_len.Goals as goal

pub returns-then-is_absent-clause-placed : goal.returns-then-is_absent-clause-placed
returns-then-is_absent-clause-placed g c = λ place lt.
    (absent_is_whole c.args.fields.now (group_of (λ k. k) c.args.self.now)
    (sym c.is_absent.ensures ∙ c.if-is_absent.true)).placed place (omega (arith, lt))

pub returns-clause-placed : goal.returns-clause-placed
returns-clause-placed g c = rw c.as_slice.ensures at c.placed_between.ensures.placed
