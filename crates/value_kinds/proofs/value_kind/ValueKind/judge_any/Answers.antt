use Rattle.std.proofs.Common.{ap, sym, ◌∙◌}
use Rattle.value_kinds.specs.CodeKinds.{judged, value_kind_of}
use Rattle.value_kinds.specs.ValueKind.{spelling}
use Rattle.value_kinds.proofs.Spelled.{judged_stamp, judged_fine}
use Rattle.value_kinds.proofs.value_kind.ValueKind.judge_any.Goals as goal

pub returns-in-Stamp : goal.returns-in-Stamp
returns-in-Stamp c =
    let value = c.args.value.now in
    c.judge_stamp.ensures
    ∙ judged_stamp value (sym c.is_empty.ensures ∙ c.if-is_empty.false)
    ∙ ap (λ kind. judged (spelling (value_kind_of kind) value)) (sym c.in-Stamp.is)

pub returns-in-FineStamp : goal.returns-in-FineStamp
returns-in-FineStamp c =
    let value = c.args.value.now in
    c.judge_fine_stamp.ensures
    ∙ judged_fine value (sym c.is_empty.ensures ∙ c.if-is_empty.false)
    ∙ ap (λ kind. judged (spelling (value_kind_of kind) value)) (sym c.in-FineStamp.is)
