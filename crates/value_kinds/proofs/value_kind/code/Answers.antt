use Rattle.std.proofs.Common.{ap, ◌∙◌}
use Rattle.std.specs.Option.{option_map}
use Rattle.value_kinds.specs.CodeKinds.{value_kind_of, is_good}
use Rattle.value_kinds.specs.ValueKind.{code_text}
use Rattle.value_kinds.proofs.Spelled.{code_good, code_bad}
use Rattle.value_kinds.proofs.value_kind.code.Goals as goal

pub returns-then-is_good : goal.returns-then-is_good
returns-then-is_good c =
    ap (option_map code_text) (c.copied.ensures ∙ c.first.ensures.value)
    ∙ code_good (value_kind_of c.args.kind.now)
    c.args.value.now c.requires (c.if-is_good.ensures ∙ ap is_good c.judge.ensures)

pub returns-else-is_good : goal.returns-else-is_good
returns-else-is_good c = code_bad (value_kind_of c.args.kind.now)
    c.args.value.now c.requires (c.if-is_good.ensures ∙ ap is_good c.judge.ensures)
