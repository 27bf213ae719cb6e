use Rattle.std.proofs.Common.{IfSome, Ok, subst}
use Rattle.gate_log.specs.Log.{Looks}
use Rattle.gate_log.proofs.Born.{begun}
use Rattle.gate_log.proofs.log.Log.load.Goals as goal

pub returns-in-None-clause-loads : goal.returns-in-None-clause-loads
returns-in-None-clause-loads g c =
    begun (g.D.Disk.bytes c.args.disk.now) _ c.args.birth.now c.begin.result c.requires
    (subst (λ o. IfSome (g.D.Disk.bytes c.args.disk.now) (λ b. Looks b (Ok o)))
    c.in-None.is c.in_ok-log.ensures.looks) c.begin.ensures.log c.begin.ensures.stands
    c.begin.ensures.only c.begin.ensures.not_foreign
