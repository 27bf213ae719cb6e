use Rattle.std.proofs.Common.{◌≡◌, ◌≤◌, ◌+◌, [], length}
use Rattle.gate_log.specs.Log.{OnlyRead}
use Rattle.gate_log.specs.Chunk.{IsOf}
use Rattle.pair_journal.proofs.Reading.{TellsFront}
use Rattle.pair_journal.proofs.loading.read_entries.Given as goal

abbrev pub invariant-loop-index : goal.invariant-loop-index
invariant-loop-index g l = record {
  front : TellsFront (g.D.Disk.bytes l.fn.disk) l.names (g.K.Keeper.entries l.kept);
  count : l.index ≡ length (g.K.Keeper.entries l.kept) + 1;
  most : l.index ≤ l.log.count;
  shown : g.R.Reader.shown l.fn.reader [] → g.R.Reader.shown l.reader (g.K.Keeper.entries l.kept);
  only_read : OnlyRead (g.D.Disk.bytes l.fn.disk)
      (g.D.Disk.bytes l.disk) (g.D.Disk.image l.fn.disk) (g.D.Disk.image l.disk);
  still : g.D.Disk.faults l.disk ≡ g.D.Disk.faults l.fn.disk;
  of : IsOf (g.D.Disk.bytes l.disk) l.chunk;
}
