use Rattle.std.proofs.Common.{sym, ◌∙◌}
use Rattle.value_kinds.proofs.Spelled.{as_fine, not_fine}
use Rattle.value_kinds.proofs.value_kind.fine_stamp.Goals as goal

pub returns-in-Ok-clause-text : goal.returns-in-Ok-clause-text
returns-in-Ok-clause-text c =
    as_fine c.args.value.now c.in-Ok.stamp c.cut.result
    (sym c.read_fine.ensures.value ∙ c.in-Ok.is) c.cut.ensures.value

pub returns-in-Err-clause-text : goal.returns-in-Err-clause-text
returns-in-Err-clause-text c =
    not_fine c.args.value.now c.in-Err.field-0 (sym c.read_fine.ensures.value ∙ c.in-Err.is)
