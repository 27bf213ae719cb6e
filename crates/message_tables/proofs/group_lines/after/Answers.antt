use Rattle.std.proofs.Common.{ℕ, ◌+◌, ◌∙◌, ap, drop}
use Rattle.message_tables.specs.CodeTables.{seen}
use Rattle.message_tables.proofs.Cuts.{after_cut, after_none}
use Rattle.message_tables.proofs.group_lines.after.Goals as goal

pub returns-then-place-fields : goal.returns-then-place-fields
returns-then-place-fields c =
    let xs = c.args.fields.now in
    ap seen c.rest.ensures.fields
    ∙ ap (λ (k : ℕ). seen (drop (k + 1) xs)) c.before_tag-place.ensures.value
    ∙ after_cut (λ f. (f.0, f.1.now))
    c.args.tag xs (rw c.before_tag-place.ensures.value at c.if-place-fields.true)

pub returns-else-place-fields : goal.returns-else-place-fields
returns-else-place-fields c =
    let xs = c.args.fields.now in
    ap seen c.rest-else-place-fields.ensures.fields
    ∙ ap (λ (k : ℕ). seen (drop k xs)) c.before_tag-place.ensures.value
    ∙ after_none (λ f. (f.0, f.1.now))
    c.args.tag xs (rw c.before_tag-place.ensures.value at c.if-place-fields.false)
