use Rattle.std.proofs.Common.{List, sym, subst}
use Rattle.std.proofs.lemmas.Result.{on_ok_weaker}
use Rattle.pair_entries.specs.declared.entry.Out.{Out}
use Rattle.pair_entries.specs.Payload.{AreOuts}
use Rattle.gateway_core.proofs.Planned.{more_outs}
use Rattle.gateway_core.proofs.outs.push.Goals as goal

pub returns-clause-outs : goal.returns-clause-outs
returns-clause-outs c = on_ok_weaker c.push.result (λ is. subst (λ (outs : List Out). AreOuts outs)
    (sym is) (more_outs c.args.outs.now c.args.out c.requires.outs c.requires.out))
    c.push.ensures.ok
