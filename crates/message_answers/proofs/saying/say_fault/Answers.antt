use Rattle.std.proofs.Common.{◌≡◌, Some}
use Rattle.session_core.specs.declared.said.Said.{Said}
use Rattle.reject_rules.specs.Refusals.{refusal_of}
use Rattle.message_answers.proofs.Fits.{fits_by}
use Rattle.message_answers.proofs.saying.say_fault.Goals as goal

pub returns-clause-fit : goal.returns-clause-fit
returns-clause-fit c =
    fits_by (λ (said : Said).
    refusal_of c.args.side c.args.number c.args.msg_type.now c.args.fault ≡ Some said)
    c.refusal.result
    (λ said is. c.refusals_are_short.ensures.fault c.args.side c.args.number c.args.msg_type.now
    c.args.fault said c.is_word.ensures c.has_words.ensures is)
    c.refusal.ensures
