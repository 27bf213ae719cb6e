use Rattle.std.proofs.Common.{◌∙◌, sym, ap, ◌++◌, ◌∷◌, []}
use Rattle.std.proofs.lemmas.Result.{on_ok_weaker}
use Rattle.field_groups.proofs.Lines.{new_line, in_last_line, has_line}
use Rattle.field_groups.proofs.group.Group.add.Goals as goal

pub returns-then-tag-shape-clause-ok : goal.returns-then-tag-shape-clause-ok
returns-then-tag-shape-clause-ok c =
    on_ok_weaker c.begin.result (λ new before is.
    new ∙ ap (λ ls. ls ++ ((c.args.tag, c.args.place) ∷ []) ∷ []) is ∙ sym (new_line
    c.args.shape.now.first before (c.args.tag, c.args.place) c.if-tag-shape.true))
    c.begin.ensures.ok

pub returns-clause-ok : goal.returns-clause-ok
returns-clause-ok c =
    on_ok_weaker c.extend.result (λ new before is.
    new ∙ in_last_line c.args.shape.now.first
    before (c.args.tag, c.args.place) c.args.self.now.lines c.if-tag-shape.false is
    (has_line c.args.tag c.args.self.now.lines (sym c.is_astray.ensures ∙ c.if-is_astray.false)))
    c.extend.ensures.ok
