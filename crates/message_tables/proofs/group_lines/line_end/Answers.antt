use Rattle.std.proofs.Common.{◌≡◌, ◌+◌, ◌∙◌, ap, drop}
use Rattle.std.specs.List.{prefix_len}
use Rattle.std.specs.Prelude.{not, ◌==◌}
use Rattle.message_tables.proofs.Cuts.{line_there}
use Rattle.message_tables.proofs.group_lines.line_end.Goals as goal

pub returns-clause-line : goal.returns-clause-line
returns-clause-line c =
    let fs = c.args.fields.now in
    let e : c.before_tag.result ≡ prefix_len
    (λ y. not (y.0 == c.args.first)) (drop (c.args.from + 1) fs) = c.before_tag.ensures.value
    ∙ ap (prefix_len (λ y. not (y.0 == c.args.first))) c.rest.ensures.fields in
    rw e (line_there (λ f. (f.0, f.1.now)) c.args.first fs c.args.from c.requires)
