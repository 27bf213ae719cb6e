use Rattle.std.proofs.Common.{ap, ◌∙◌}
use Rattle.value_kinds.specs.CodeKinds.{value_kind_of, is_good}
use Rattle.value_kinds.proofs.Spelled.{verbatim, or_none}
use Rattle.value_kinds.proofs.value_kind.text.Goals as goal

pub returns-then-is_good : goal.returns-then-is_good
returns-then-is_good c =
    ap (λ x. or_none x c.args.value.now) (c.if-is_good.ensures ∙ ap is_good c.judge.ensures)
    ∙ verbatim (value_kind_of c.args.kind.now) c.args.value.now c.requires

pub returns-else-is_good : goal.returns-else-is_good
returns-else-is_good c =
    ap (λ x. or_none x c.args.value.now) (c.if-is_good.ensures ∙ ap is_good c.judge.ensures)
    ∙ verbatim (value_kind_of c.args.kind.now) c.args.value.now c.requires
