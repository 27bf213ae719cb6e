use Rattle.std.proofs.Common.{Bool, take, sym, ap, ◌∙◌}
use Rattle.std.specs.Prelude.{◌&&◌}
use Rattle.message_tables.specs.Tables.{has_tag}
use Rattle.message_tables.specs.FirstFault.{once_in}
use Rattle.message_tables.proofs.OnePass.{first_is_once}
use Rattle.first_faults.specs.Indexed.{own}
use Rattle.first_faults.proofs.ByTags.{is_off}
use Rattle.first_faults.proofs.indexed.stands_once.Goals as goal

pub returns-then-is_first : goal.returns-then-is_first
returns-then-is_first c = λ yes.
    first_is_once (once_in (own c.args.table.now)) c.args.fields.now c.args.tag c.args.place
    (c.is_first.ensures c.if-is_first.true)

pub returns-else-is_first : goal.returns-else-is_first
returns-else-is_first c = λ yes.
    ap (λ (b : Bool). b && has_tag c.args.tag (take c.args.place c.args.fields.now))
    (sym c.is_once.ensures ∙ is_off c.is_once.result yes)
