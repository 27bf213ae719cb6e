use Rattle.std.proofs.Common.{sym, subst, arith}
use Rattle.session_core.specs.declared.said.Said.{Said}
use Rattle.message_answers.specs.Seen.{IsFit}
use Rattle.gateway_core.proofs.Fits.{said_fits}
use Rattle.gateway_core.proofs.outs.said_by.Goals as goal

pub returns-clause-fit : goal.returns-clause-fit
returns-clause-fit c =
    let speaker = c.args.speaker.now in
    subst (λ (said : Said). IsFit said) (sym c.in_ok-words.ensures)
    (said_fits speaker.side c.args.admin.now speaker.heart c.args.number speaker.heard.number
    speaker.heard.msg_type.now speaker.heard.echo.now c.has_words.ensures
    c.has_bound.ensures (omega arith)
    c.has_bound-2.ensures c.requires.echo)
