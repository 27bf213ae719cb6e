use Rattle.std.proofs.Common.{◌≡◌, ◌⊎◌, ◌≤◌, ◌+◌, ◌-◌, None}
use Rattle.std.specs.Option.{ForSome}
use Rattle.gate_log.specs.Log.{OnlyReads}
use Rattle.kept_entries.specs.Days.{last_day}
use Rattle.pair_journal.specs.Walks.{IsWalk}
use Rattle.wires.specs.Told.{Keeps}
use Rattle.life_laws.specs.Forms.{form_frame}
use Rattle.life_laws.specs.Repeats.{repeats, repeat_forms}
use Rattle.wire_sends.specs.Sent.{Agrees}
use Rattle.wire_sends.specs.Again.{run_of, IsBegun, Repeated}
use Rattle.wire_sends.proofs.repeats.repeat_outs.Given as goal

abbrev pub invariant-loop-number : goal.invariant-loop-number
invariant-loop-number g l = record {
  agrees : Agrees (g.W.Wire.recorded l.wire) l.still;
  begun : IsBegun l.run l.number;
  within : (l.run ≡ None) ⊎ (l.number ≤ l.again.to + 1);
  only_read : OnlyReads g.D.Disk.bytes g.D.Disk.image l.initial.disk l.disk;
  faults : g.D.Disk.faults l.disk ≡ g.D.Disk.faults l.initial.disk;
  polls : g.W.Wire.polls l.wire ≡ g.W.Wire.polls l.initial.wire;
  plays : Keeps (g.W.Wire.plays l.initial.wire) (g.W.Wire.plays l.wire);
  walk : IsWalk (g.D.Disk.bytes l.disk) l.journal.entries l.again.side l.number l.buf.walk;
  sent : ForSome (g.D.Disk.bytes l.initial.disk) (λ b. Repeated
      (g.W.Wire.recorded l.initial.wire) (g.W.Wire.recorded l.wire) l.up
      (form_frame l.names l.again.side) l.still
      (repeats (last_day l.journal.entries) l.again.side (run_of l.run) l.number l.again.now
      (l.again.to + 1 - l.number))
      (repeat_forms (last_day l.journal.entries) l.again.side l.again.from l.again.to
      l.again.now));
}
