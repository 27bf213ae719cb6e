use Rattle.std.proofs.Common.{◌≡◌, ◌≤◌, ◌+◌, ◌-◌}
use Rattle.std.specs.Option.{ForSome}
use Rattle.gate_log.specs.Log.{OnlyRead}
use Rattle.gate_log.specs.Chunk.{IsOf}
use Rattle.kept_entries.specs.Numbers.{next_out}
use Rattle.kept_entries.specs.Spots.{IsSpot}
use Rattle.pair_journal.proofs.journal.Journal.out.Given as goal

abbrev pub invariant-records : goal.invariant-records
invariant-records g l = record {
  from : l.mark.index ≤ l.spot.index;
  to : l.spot.index ≤ l.mark.index + 64;
  told : ForSome (g.D.Disk.bytes l.fn.disk)
      (λ b. IsSpot l.self.entries l.spot × (next_out l.side l.spot.next ≤ l.number));
  of : IsOf (g.D.Disk.bytes l.disk) l.into.walk.chunk;
  held : l.into.walk.spot ≡ l.fn.into.walk.spot;
  few : g.D.Disk.reads l.disk ≤ g.D.Disk.reads l.fn.disk + (l.spot.index - l.mark.index);
  only_read : OnlyRead (g.D.Disk.bytes l.fn.disk)
      (g.D.Disk.bytes l.disk) (g.D.Disk.image l.fn.disk) (g.D.Disk.image l.disk);
  still : g.D.Disk.faults l.disk ≡ g.D.Disk.faults l.fn.disk;
}

abbrev pub decreases-records : goal.decreases-records
decreases-records g l = l.mark.index + 64 - l.spot.index
