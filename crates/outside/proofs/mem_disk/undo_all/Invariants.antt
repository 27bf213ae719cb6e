use Rattle.std.proofs.Common.{◌≡◌, ◌≤◌, length, drop}
use Rattle.outside.specs.MemDisk.{undone}
use Rattle.outside.proofs.mem_disk.undo_all.Given as goal

abbrev pub invariant-loop-left : goal.invariant-loop-left
invariant-loop-left l = record {
  within : l.left ≤ length l.pending;
  so_far : l.bytes.items ≡ undone (drop l.left l.pending) l.fn.bytes;
}

abbrev pub decreases-loop-left : goal.decreases-loop-left
decreases-loop-left l = l.left
