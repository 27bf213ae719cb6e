use Rattle.std.proofs.Common.{[], ◌≡◌, Ok, subst, sym}
use Rattle.session_core.specs.declared.session.Session.{Session}
use Rattle.session_core.specs.Table as session
use Rattle.gateway_core.proofs.Still.{rests_on}
use Rattle.gateway_core.proofs.planning.Core.rests.Goals as goal

pub returns-clause-rests : goal.returns-clause-rests
returns-clause-rests c = λ is entries.
    rests_on c.args.self.now entries c.args.side c.args.now
    (subst (λ (s : Session). session.step s session.Tick c.args.now ≡ Ok (session.does [] s))
    c.session.ensures (c.rests.ensures.0 is))

pub returns-clause-only : goal.returns-clause-only
returns-clause-only c = λ is.
    c.rests.ensures.1
    (subst (λ (s : Session). session.step s session.Tick c.args.now ≡ Ok (session.does [] s))
    (sym c.session.ensures) is)
