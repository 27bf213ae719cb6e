use Rattle.std.proofs.Common.{◌≡◌, ◌-◌, ◌<◌}
use Rattle.outside.specs.declared.disk.TheConstants.{MAX_DISK}
use Rattle.gate_log.specs.Log.{OnlyRead}
use Rattle.gate_log.specs.Chunk.{IsOf}
use Rattle.gate_log.proofs.Scanning.{SoFar}
use Rattle.gate_log.proofs.scan.scan.Given as goal

abbrev pub invariant-gates : goal.invariant-gates
invariant-gates g l = record {
  faults : g.D.Disk.faults l.disk ≡ g.D.Disk.faults l.fn.disk;
  only_read : OnlyRead (g.D.Disk.bytes l.fn.disk)
      (g.D.Disk.bytes l.disk) (g.D.Disk.image l.fn.disk) (g.D.Disk.image l.disk);
  of : IsOf (g.D.Disk.bytes l.fn.disk) l.chunk;
  long : 1 < l.size;
  so_far : SoFar (g.D.Disk.bytes l.fn.disk) l.size l.count l.end;
}

abbrev pub decreases-gates : goal.decreases-gates
decreases-gates g l = MAX_DISK - l.end
