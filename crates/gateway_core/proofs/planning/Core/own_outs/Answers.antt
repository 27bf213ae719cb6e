use Rattle.std.proofs.Common.{ℕ, ap, ◌∙◌}
use Rattle.session_core.specs.Table.{says, is_spent}
use Rattle.gateway_core.specs.Planning.{heard_by}
use Rattle.gateway_core.proofs.Planned.{few_said, spare}
use Rattle.gateway_core.proofs.planning.Core.own_outs.Goals as goal

pub say_all-requires-clause-numbers : goal.say_all-requires-clause-numbers
say_all-requires-clause-numbers c =
    spare c.next_out-first.result (says c.args.acts.now) c.next_out-first.ensures.bound
    (ap (λ (n : ℕ). is_spent n (says c.args.acts.now)) c.next_out-first.ensures.number
    ∙ c.requires.unspent)

pub returns-clause-few : goal.returns-clause-few
returns-clause-few c =
    let speaker = c.args.speaker.now in
    few_said speaker.side speaker.heart (heard_by speaker.heard) c.next_out-first.result
    c.args.acts.now c.new-outs.result c.say_all.new.outs c.new-outs.ensures
    c.in_ok-say_all.ensures.added c.requires.few
