use Rattle.gate_log.proofs.Payloads.{begins_reads}
use Rattle.gate_log.proofs.chunk.Chunk.read.Goals as goal

pub returns-then-branch-clause-payload : goal.returns-then-branch-clause-payload
returns-then-branch-clause-payload g c =
    begins_reads (g.D.Disk.bytes c.args.disk.now) c.args.place c.seek.new.self.payload
    (c.in_ok-seek.ensures.found (cc c.if-branch.true))
