use Rattle.std.proofs.Common.{◌≡◌, ◌+◌, ◌∙◌, Option, sym, subst, map, length}
use Rattle.std.proofs.lemmas.List.{length-map}
use Rattle.std.proofs.lemmas.Result.{on_ok_weaker, MatchResult-weaker}
use Rattle.field_groups.specs.declared.group.GroupFault.{GroupFault}
use Rattle.field_groups.specs.Group.{tags_of, placed, TellsFault}
use Rattle.field_groups.proofs.Lines.{counts, counted, uncounted, lines_are, if_both, length_placed}
use Rattle.field_groups.proofs.group.read_group.Goals as goal

pub returns-then-not-says-clause-fault : goal.returns-then-not-says-clause-fault
returns-then-not-says-clause-fault c =
    let tags = tags_of c.args.shape.now in
    let same = counts tags c.args.from c.count_of.result
    (λ field. (field.0, field.1.now)) c.run_of-run.result.now c.args.fields.now
    c.count_said.result c.count_said.ensures c.count_of.ensures c.run_of-run.ensures.run in
    uncounted
    tags c.args.from c.args.fields.now (sym same ∙ sym c.says.ensures ∙ c.if-not-says.true)

pub returns-clause-in_order : goal.returns-clause-in_order
returns-clause-in_order c =
    let tags = tags_of c.args.shape.now in
    let same = counts tags c.args.from c.count_of.result
    (λ field. (field.0, field.1.now)) c.run_of-run.result.now c.args.fields.now
    c.count_said.result c.count_said.ensures c.count_of.ensures c.run_of-run.ensures.run in
    let fault = counted tags c.args.from c.args.fields.now
    (placed (c.args.from + 1) (map (λ field. (field.0, field.1.now)) c.run_of-run.result.now))
    (sym same ∙ sym c.says.ensures ∙ c.if-not-says.false) c.run_of-run.ensures.run in
    on_ok_weaker c.read_lines.result (λ none. sym fault ∙ none) c.read_lines.ensures.in_order

pub returns-clause-fault : goal.returns-clause-fault
returns-clause-fault c =
    let tags = tags_of c.args.shape.now in
    let same = counts tags c.args.from c.count_of.result
    (λ field. (field.0, field.1.now)) c.run_of-run.result.now c.args.fields.now
    c.count_said.result c.count_said.ensures c.count_of.ensures c.run_of-run.ensures.run in
    let fault = counted tags c.args.from c.args.fields.now
    (placed (c.args.from + 1) (map (λ field. (field.0, field.1.now)) c.run_of-run.result.now))
    (sym same ∙ sym c.says.ensures ∙ c.if-not-says.false) c.run_of-run.ensures.run in
    MatchResult-weaker c.read_lines.result c.read_lines.ensures.fault
    (λ g h. h) (λ e told. subst (λ (f : Option GroupFault). TellsFault e f) fault told)

pub returns-clause-lines : goal.returns-clause-lines
returns-clause-lines c =
    let run = c.run_of-run.result.now in
    let fields = map (λ field. (field.0, field.1.now)) run in
    let len : length run ≡ length (placed (c.args.from + 1) fields) = sym (length_placed
    (c.args.from + 1) fields ∙ length-map run (λ field. (field.0, field.1.now))) in
    if_both c.read_lines.result
    (λ group lines end.
    lines_are (tags_of c.args.shape.now) c.args.from (length run) c.args.fields.now
    (placed (c.args.from + 1) fields) group c.run_of-run.ensures.run len lines end)
    c.read_lines.ensures.lines c.read_lines.ensures.end
