use Rattle.std.proofs.Common.{◌≡◌, sym, subst}
use Rattle.session_core.specs.declared.said.Said.{Said}
use Rattle.reject_rules.specs.Laws.{IsShort}
use Rattle.reject_rules.specs.Refusals.{away_refusal}
use Rattle.message_answers.proofs.Fits.{fits_by}
use Rattle.message_answers.proofs.saying.say_away.Goals as goal

pub returns-clause-fit : goal.returns-clause-fit
returns-clause-fit c =
    fits_by (λ (said : Said). said ≡ away_refusal c.args.number c.args.msg_type.now)
    c.away.result
    (λ said is. subst (λ (s : Said). IsShort s) (sym is)
    (c.refusals_are_short.ensures.away c.args.number c.args.msg_type.now c.is_word.ensures))
    c.away.ensures
