use Rattle.std.proofs.Common.{◌≡◌}
use Rattle.gate_log.specs.Log.{OnlyRead}
use Rattle.pair_journal.specs.Walks.{IsUpTo}
use Rattle.journal_show.proofs.JournalLines.{ArePut}
use Rattle.journal_show.proofs.journal_lines.put_entries.Given as goal

abbrev pub invariant-loop-index : goal.invariant-loop-index
invariant-loop-index g l = record {
  put : ArePut (g.D.Disk.bytes l.fn.disk) l.journal.entries l.index (g.O.Sink.bytes l.fn.out)
      (g.O.Sink.bytes l.out);
  walk : IsUpTo (g.D.Disk.bytes l.disk) l.journal.entries l.index l.walk;
  only_read : OnlyRead (g.D.Disk.bytes l.fn.disk)
      (g.D.Disk.bytes l.disk) (g.D.Disk.image l.fn.disk) (g.D.Disk.image l.disk);
  disk_still : g.D.Disk.faults l.disk ≡ g.D.Disk.faults l.fn.disk;
  output_still : g.O.Sink.faults l.out ≡ g.O.Sink.faults l.fn.out;
}
