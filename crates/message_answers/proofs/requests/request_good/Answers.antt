use Rattle.std.proofs.Common.{rules, ◌≡◌, true, false}
use Rattle.request_rules.specs.Good.{said}
use Rattle.message_answers.specs.Answer.{is_used}
use Rattle.message_answers.specs.Seen.{known_in}
use Rattle.reject_rules.specs.Refusals.{away_refusal, used_refusal}
use Rattle.message_answers.proofs.Joins.{joins_nothing, near_joins}
use Rattle.message_answers.proofs.Requested.{tried_answers, tried_joins}
use Rattle.message_answers.proofs.requests.request_good.Goals as goal

pub returns-then-resend-clause-item : goal.returns-then-resend-clause-item
returns-then-resend-clause-item c =
    joins_nothing c.args.known.now c.args.asked.now c.nothing.result c.nothing.ensures.words
    c.nothing.ensures.item

pub returns-then-is_used-clause-item : goal.returns-then-is_used-clause-item
returns-then-is_used-clause-item c =
    let a = c.args.asked.now in
    near_joins c.args.known.now a (used_refusal a.number a.msg_type.now) c.near_used.result
    c.near_used.ensures.words c.near_used.ensures.item

pub returns-then-not-known-clause-item : goal.returns-then-not-known-clause-item
returns-then-not-known-clause-item c =
    let a = c.args.asked.now in
    near_joins c.args.known.now a (away_refusal a.number a.msg_type.now) c.near_away.result
    c.near_away.ensures.words c.near_away.ensures.item

pub returns-clause-answer : goal.returns-clause-answer
returns-clause-answer c =
    let new : is_used (known_in c.args.known.now) (said c.args.good.now) ≡ false =
    search rules in
    let active : c.args.known.now.active ≡ true = search rules in
    tried_answers c.args.known.now c.args.asked.now c.requires.split c.requires.side
    c.requires.other (said c.args.good.now) c.requires.read c.tried.result new active
    c.tried.ensures.spelled

pub returns-clause-item : goal.returns-clause-item
returns-clause-item c =
    let new : is_used (known_in c.args.known.now) (said c.args.good.now) ≡ false =
    search rules in
    tried_joins c.args.known.now c.args.asked.now c.requires.split c.requires.side
    c.requires.other (said c.args.good.now) c.requires.read c.tried.result new
    c.tried.ensures.spelled
