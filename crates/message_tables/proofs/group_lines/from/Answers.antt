use Rattle.std.proofs.Common.{ℕ, ◌∙◌, ap, drop}
use Rattle.message_tables.specs.CodeTables.{seen}
use Rattle.message_tables.proofs.Cuts.{from_cut}
use Rattle.message_tables.proofs.group_lines.from.Goals as goal

pub returns : goal.returns
returns c =
    let xs = c.args.fields.now in
    ap seen c.rest.ensures.fields ∙ ap (λ (k : ℕ). seen (drop k xs)) c.before_tag.ensures.value
    ∙ from_cut (λ f. (f.0, f.1.now)) c.args.tag xs
