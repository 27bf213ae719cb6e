use Rattle.std.proofs.Common.{◌≡◌, ◌≤◌, ◌-◌}
use Rattle.std.specs.Option.{ForSome}
use Rattle.gate_log.specs.Log.{OnlyRead}
use Rattle.gate_log.specs.Chunk.{IsOf}
use Rattle.kept_entries.specs.Spots.{IsSpot}
use Rattle.pair_journal.proofs.look.Look.entry.Given as goal

abbrev pub invariant-records : goal.invariant-records
invariant-records g l = record {
  of : IsOf (g.D.Disk.bytes l.disk) l.walk.chunk;
  held : l.walk.spot ≡ l.fn.walk.spot;
  told : ForSome (g.D.Disk.bytes l.fn.disk)
      (λ b. IsSpot l.self.entries l.spot × (l.spot.index ≤ l.index));
  only_read : OnlyRead (g.D.Disk.bytes l.fn.disk)
      (g.D.Disk.bytes l.disk) (g.D.Disk.image l.fn.disk) (g.D.Disk.image l.disk);
  still : g.D.Disk.faults l.disk ≡ g.D.Disk.faults l.fn.disk;
}

abbrev pub decreases-records : goal.decreases-records
decreases-records g l = l.index - l.spot.index
