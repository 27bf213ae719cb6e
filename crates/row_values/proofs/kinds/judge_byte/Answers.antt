use Rattle.std.proofs.Common.{ap, ◌∙◌}
use Rattle.value_kinds.specs.ValueKind.{OneByte, spelling}
use Rattle.row_values.specs.CodeKinds.{counted_mark, judged_mark}
use Rattle.row_values.proofs.Marks.{code_spelled, counted_marked, mark_judged}
use Rattle.row_values.proofs.kinds.judge_byte.Goals as goal

pub returns : goal.returns
returns c =
    let counts = c.is_some.ensures
    ∙ code_spelled c.args.listed.now c.args.value.now c.code.result c.code.ensures in
    let mark = c.mark_of.ensures ∙ ap judged_mark c.judge.ensures
    ∙ mark_judged (spelling OneByte c.args.value.now) in
    c.counted.ensures ∙ (λ i. counted_mark (counts i) (mark i)) ∙ counted_marked _ _
