use Rattle.std.proofs.Common.{◌≤◌, ◌-◌, ◌∙◌, sym, subst}
use Rattle.kept_entries.specs.Days.{last_day}
use Rattle.kept_entries.specs.Numbers.{next_out, numbers_after, first_numbers}
use Rattle.wire_sends.specs.Again.{IsGiven}
use Rattle.wire_sends.proofs.Sendings.{same_side}
use Rattle.wire_sends.proofs.acts.repeat_on.Goals as goal

pub repeat_outs-requires-clause-to : goal.repeat_outs-requires-clause-to
repeat_outs-requires-clause-to g c =
    let entries = last_day c.args.journal.now.entries in
    let given = subst (IsGiven entries) c.in-Some.is c.requires.given in
    let same = same_side c.args.side c.in-Some.of (sym c.is_side.ensures ∙ c.if-is_side.true) in
    subst (λ s. c.in-Some.to ≤ next_out s (numbers_after first_numbers entries) - 1) (sym same)
    given.1
