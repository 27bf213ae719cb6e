use Rattle.std.proofs.Common.{◌≡◌, ◌∙◌, ap, sym, subst, List, ℕ, Result}
use Rattle.message_tables.specs.Tables.{Message}
use Rattle.order_meaning.specs.declared.fault.Fault.{Fault}
use Rattle.first_faults.specs.Gives.{Tells}
use Rattle.message_answers.specs.Message.{said_by}
use Rattle.message_answers.specs.Seen.{message_in, refusal_type}
use Rattle.message_answers.proofs.Answered.{faulty, refusal_told}
use Rattle.message_answers.proofs.Joins.{refused_joins, told_joins}
use Rattle.message_answers.proofs.Refusals.{type_is}
use Rattle.message_answers.proofs.answer.refusal_heard.Goals as goal

pub returns-in-Ok-clause-answer : goal.returns-in-Ok-clause-answer
returns-in-Ok-clause-answer c =
    let a = c.args.asked.now in
    refusal_told c.args.known.now a c.requires.split c.is_business_type-business.result
    c.in-Ok.refusal c.told.result
    (ap (λ (t : List ℕ). said_by a.side t a.split.now.fields a.split.now.fault)
    (type_is a.msg_type.now c.is_business_type-business.result c.requires.refusal
    c.is_business_type-business.ensures)
    ∙ c.in-Ok.ensures.says) c.in-Ok.ensures.refusal c.told.ensures.told

pub returns-in-Ok-clause-item : goal.returns-in-Ok-clause-item
returns-in-Ok-clause-item c =
    told_joins c.args.known.now c.args.asked.now c.is_business_type-business.result
    c.in-Ok.refusal c.told.result c.told.ensures.told

pub returns-in-Err-clause-answer : goal.returns-in-Err-clause-answer
returns-in-Err-clause-answer c =
    let a = c.args.asked.now in
    let same : message_in a ≡ said_by a.side (refusal_type c.is_business_type-business.result)
    a.split.now.fields a.split.now.fault =
    ap (λ (t : List ℕ). said_by a.side t a.split.now.fields a.split.now.fault)
    (type_is a.msg_type.now c.is_business_type-business.result c.requires.refusal
    c.is_business_type-business.ensures) in
    faulty c.args.known.now a c.requires.split c.in-Err.fault c.refused.result
    (subst (λ (x : Result Message Fault). Tells c.in-Err.fault x) (sym same)
    c.in-Err.ensures.says) c.refused.ensures.refused

pub returns-in-Err-clause-item : goal.returns-in-Err-clause-item
returns-in-Err-clause-item c =
    refused_joins c.args.known.now c.args.asked.now c.in-Err.fault c.refused.result
    c.refused.ensures.refused
