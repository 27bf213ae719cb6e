use Rattle.std.proofs.Common.{◌≡◌, ◌++◌, length}
use Rattle.std.specs.List.{flat_map}
use Rattle.kept_pieces.specs.Pieces.{pieces_in}
use Rattle.kept_pieces.proofs.pieces.next_packed.Given as goal

abbrev pub invariant-loop-piece : goal.invariant-loop-piece
invariant-loop-piece l =
    l.now ++ flat_map pieces_in l.blocks.now ≡ l.fn.now ++ flat_map pieces_in l.fn.blocks.now

abbrev pub decreases-loop-piece : goal.decreases-loop-piece
decreases-loop-piece l = length l.blocks.now
