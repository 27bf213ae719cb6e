use Rattle.std.proofs.Common.{◌≡◌, fold, length}
use Rattle.text_tap.specs.OrderLines.{said_by, said_in, fields_of}
use Rattle.text_tap.proofs.orders.values_in.Given as goal

-- what is left says the rest
abbrev pub invariant-loop-field : goal.invariant-loop-field
invariant-loop-field l = fold said_by l.values (fields_of l.rest) ≡ said_in l.fn.bytes

abbrev pub decreases-loop-field : goal.decreases-loop-field
decreases-loop-field l = length l.rest
