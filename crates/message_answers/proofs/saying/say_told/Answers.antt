use Rattle.std.proofs.Common.{◌≡◌, ◌∷◌, [], sym, subst}
use Rattle.session_core.specs.declared.said.Said.{Said}
use Rattle.reject_rules.specs.Laws.{IsShort}
use Rattle.reject_rules.specs.Renumbered.{renumbered}
use Rattle.message_answers.proofs.Fits.{fits_by}
use Rattle.message_answers.proofs.saying.say_told.Goals as goal

pub returns-clause-fit : goal.returns-clause-fit
returns-clause-fit c =
    fits_by (λ (said : Said). said ≡ renumbered c.args.side c.args.business c.args.refusal.now
    c.args.number (c.args.letter ∷ []))
    c.renumber.result
    (λ said is. subst (λ (s : Said). IsShort s) (sym is)
    (c.refusals_are_short.ensures.told c.args.side c.args.business c.args.refusal.now
    c.args.number (c.args.letter ∷ []) c.is_word.ensures c.requires))
    c.renumber.ensures
