use Rattle.std.proofs.Common.{List, subst}
use Rattle.session_core.specs.declared.act.Act.{Act}
use Rattle.event_decisions.specs.Decide.{session_of, says_of}
use Rattle.kept_entries.specs.Days.{last_day}
use Rattle.gateway_core.specs.Planning.{JoinsWith, words_by}
use Rattle.gateway_core.specs.State.{sessions_in}
use Rattle.gateway_core.proofs.Reacted.{heard_as, heard_is, reacts_join, reacts_plan}
use Rattle.gateway_core.proofs.planning.Core.reacted.Goals as goal

pub concluded-requires-clause-joins : goal.concluded-requires-clause-joins
concluded-requires-clause-joins c =
    let core = c.args.self.now in
    let a = c.args.asked.now in
    let step = c.args.reaction.step in
    let heard = heard_as a c.echo_of.result.now in
    let first = (session_of a.side (sessions_in core)).numbers.next_out in
    subst (λ (acts : List Act). JoinsWith core.chains c.in_ok-took.took
    (says_of a.side step.next.heart heard first acts)
    (words_by c.in_ok-answer.answer.words) c.in_ok-answer.answer.item)
    c.as_slice-acts.ensures.items
    (reacts_join core (last_day c.args.journal.now.entries) a c.args.reaction.head
    c.as_slice-acts.result.now c.in_ok-took.took c.is_asked-is_asked.result
    c.in_ok-answer.answer (record {
      number = c.requires.number;
      took_is = c.in_ok-took.ensures.took;
      asked = c.is_asked-is_asked.ensures;
      answered = c.in_ok-answer.ensures.answered;
    }) step.next.heart heard first)

pub returns-clause-plans : goal.returns-clause-plans
returns-clause-plans c entries stand =
    let core = c.args.self.now in
    let a = c.args.asked.now in
    let head = c.args.reaction.head in
    let step = c.args.reaction.step in
    reacts_plan core (last_day c.args.journal.now.entries) a head c.as_slice-acts.result.now
    c.in_ok-took.took c.is_asked-is_asked.result c.in_ok-answer.answer (record {
      number = c.requires.number;
      took_is = c.in_ok-took.ensures.took;
      asked = c.is_asked-is_asked.ensures;
      answered = c.in_ok-answer.ensures.answered;
    }) entries c.args.now step (heard_as a c.echo_of.result.now)
    c.concluded.result c.as_slice-acts.ensures.items c.requires.head c.requires.step
    (heard_is a head c.echo_of.result.now c.requires.split c.requires.number c.echo_of.ensures)
    c.concluded.ensures.plan stand
