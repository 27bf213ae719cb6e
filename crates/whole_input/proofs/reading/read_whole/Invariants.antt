use Rattle.std.proofs.Common.{◌≡◌, ◌-◌, ◌≤◌, length, false}
use Rattle.std.specs.Io.KnownBytes.{Consumes}
use Rattle.whole_input.specs.declared.reading.TheConstants.{MAX_INPUT, MAX_READ}
use Rattle.whole_input.proofs.reading.read_whole.Given as goal

abbrev pub invariant-loop-bytes : goal.invariant-loop-bytes
invariant-loop-bytes g l = record {
  taken : Consumes (g.I.Source.left l.fn.input) (g.I.Source.left l.input) l.bytes.items;
  limit : length l.bytes.items ≤ MAX_INPUT;
  buf : length l.buf ≡ MAX_READ;
  going : g.I.Source.ended l.input ≡ false;
  faults : g.I.Source.faults l.input ≡ g.I.Source.faults l.fn.input;
}

abbrev pub decreases-loop-bytes : goal.decreases-loop-bytes
decreases-loop-bytes g l = MAX_INPUT - length l.bytes.items
