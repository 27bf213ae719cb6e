use Rattle.std.proofs.Common.{◌≡◌, ◌-◌, ◌<◌, [], IfSome}
use Rattle.outside.specs.declared.disk.TheConstants.{MAX_DISK}
use Rattle.gate_log.specs.Log.{OnlyRead}
use Rattle.gate_log.specs.Chunk.{IsOf}
use Rattle.pair_journal.specs.Loading.{IsFront}
use Rattle.kept_entries.specs.Spots.{end_of}
use Rattle.pair_journal.proofs.loading.whole_entries.Given as goal

abbrev pub invariant-records : goal.invariant-records
invariant-records g l = record {
  front : IfSome (g.D.Disk.bytes l.fn.disk) (λ b. IsFront b l.names l.kept.entries);
  within : end_of l.kept.entries < MAX_DISK;
  shown : g.R.Reader.shown l.fn.reader [] → g.R.Reader.shown l.reader l.kept.entries;
  only_read : OnlyRead (g.D.Disk.bytes l.fn.disk)
      (g.D.Disk.bytes l.disk) (g.D.Disk.image l.fn.disk) (g.D.Disk.image l.disk);
  still : g.D.Disk.faults l.disk ≡ g.D.Disk.faults l.fn.disk;
  of : IsOf (g.D.Disk.bytes l.disk) l.chunk;
}

abbrev pub decreases-records : goal.decreases-records
decreases-records g l = MAX_DISK - end_of l.kept.entries
