use Rattle.std.proofs.Common.{◌≡◌, ◌++◌, drop}
use Rattle.std.specs.List.{concat}
use Rattle.replay_lines.specs.CallLog.{shown}
use Rattle.replay_lines.specs.Pieces.{pieces_of}
use Rattle.replay_lines.specs.ReplayLines.{side_lines}
use Rattle.replay_lines.proofs.Printed.{SoFar}
use Rattle.replay_lines.proofs.printing.print_side.Given as goal

abbrev pub invariant-loop-packed : goal.invariant-loop-packed
invariant-loop-packed g l = record {
  so_far : SoFar (g.O.Sink.bytes l.fn.out) (g.O.Sink.bytes l.out) l.text.items
      (shown l.side l.connections (concat (drop l.packed-index l.parts) ++ l.end))
      (l.fn.text.items ++ side_lines l.side 1 (pieces_of l.log));
  faults : g.O.Sink.faults l.out ≡ g.O.Sink.faults l.fn.out;
}
