use Rattle.std.proofs.Common.{sym, ◌∙◌}
use Rattle.first_faults.proofs.ByTags.{marked_loose}
use Rattle.first_faults.proofs.indexed.is_loose.Goals as goal

pub returns-then-stands_once : goal.returns-then-stands_once
returns-then-stands_once c = λ yes.
    marked_loose c.args.table.now c.args.fields.now c.args.place c.in-Some.tag c.in-Some.value.now
    c.mark.result c.in-Some.ensures (c.stands_once.ensures c.if-stands_once.true) c.mark.ensures
    (sym c.is_good.ensures ∙ yes)
