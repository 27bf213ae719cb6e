use Rattle.message_answers.proofs.Answered.{faulty}
use Rattle.message_answers.proofs.Joins.{refused_joins}
use Rattle.message_answers.proofs.Reported.{tells}
use Rattle.message_answers.proofs.reports.reported.Goals as goal

pub returns-in-Err-clause-answer : goal.returns-in-Err-clause-answer
returns-in-Err-clause-answer c =
    faulty c.args.known.now c.args.asked.now c.requires.split c.in-Err.fault c.refused.result
    (tells c.args.known.now c.args.asked.now c.requires.split c.requires.side c.requires.other
    c.in-Err.fault c.in-Err.ensures) c.refused.ensures.refused

pub returns-in-Err-clause-item : goal.returns-in-Err-clause-item
returns-in-Err-clause-item c =
    refused_joins c.args.known.now c.args.asked.now c.in-Err.fault c.refused.result
    c.refused.ensures.refused
