use Rattle.std.proofs.Common.{arith}
use Rattle.gate_log.proofs.Born.{unborn_shut, stays_unborn, shut_written}
use Rattle.gate_log.proofs.Told.{on_ok}
use Rattle.gate_log.proofs.log.shut_first_gate.Goals as goal

pub returns-then-len-gt1-clause-shut : goal.returns-then-len-gt1-clause-shut
returns-then-len-gt1-clause-shut g c = λ b e.
    let u = c.requires b e in
    (u.0, unborn_shut b u.0 (omega (arith, u.1, c.if-len-gt1.true)))

pub returns-clause-images : goal.returns-clause-images
returns-clause-images g c =
    stays_unborn _ c.args.len c.requires c.if-len-gt1.false _ _ c.write_stable.ensures.images

pub returns-clause-shut : goal.returns-clause-shut
returns-clause-shut g c = on_ok _
    (shut_written _ c.args.len c.requires c.if-len-gt1.false _) c.write_stable.ensures.written
