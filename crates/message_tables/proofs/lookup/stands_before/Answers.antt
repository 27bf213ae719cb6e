use Rattle.std.proofs.Common.{ap, ◌∙◌, Option, ℕ}
use Rattle.message_tables.proofs.OnePass.{is_before, stands_before}
use Rattle.message_tables.proofs.lookup.stands_before.Goals as goal

pub returns-in-None : goal.returns-in-None
returns-in-None c =
    ap (λ (first : Option ℕ). is_before first c.args.place) c.in-None.ensures.place
    ∙ stands_before c.args.tag c.args.fields.now c.args.place

pub returns-in-Some : goal.returns-in-Some
returns-in-Some c =
    ap (λ (first : Option ℕ). is_before first c.args.place) c.in-Some.ensures.place
    ∙ stands_before c.args.tag c.args.fields.now c.args.place
