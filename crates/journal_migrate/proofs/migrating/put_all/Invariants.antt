use Rattle.std.proofs.Common.{◌≡◌, ◌<◌, IfSome}
use Rattle.gate_log.specs.Chunk.{IsOf}
use Rattle.gate_log.specs.Log.{OnlyRead}
use Rattle.journal_migrate.specs.Walk.{IsPut}
use Rattle.journal_migrate.proofs.Made.{IsMade}
use Rattle.journal_migrate.proofs.migrating.put_all.Given as goal

abbrev pub invariant-loop-index : goal.invariant-loop-index
invariant-loop-index g l = record {
  put : IfSome (g.D.Disk.bytes l.fn.disk) (λ b. IsPut b l.index l.walk.place l.walk.day
      l.walk.next (g.O.Sink.bytes l.fn.out) (g.O.Sink.bytes l.out));
  made : IsMade l.walk.day l.walk.next (g.O.Sink.bytes l.fn.out) (g.O.Sink.bytes l.out);
  few : l.walk.day < l.walk.place;
  of : IsOf (g.D.Disk.bytes l.disk) l.walk.chunk;
  only_read : OnlyRead (g.D.Disk.bytes l.fn.disk)
      (g.D.Disk.bytes l.disk) (g.D.Disk.image l.fn.disk) (g.D.Disk.image l.disk);
  disk_still : g.D.Disk.faults l.disk ≡ g.D.Disk.faults l.fn.disk;
  output_still : g.O.Sink.faults l.out ≡ g.O.Sink.faults l.fn.out;
}
