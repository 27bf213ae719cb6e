use Rattle.std.proofs.Common.{◌≡◌, drop, false}
use Rattle.value_kinds.specs.ValueKind.{are_spaced}
use Rattle.value_kinds.proofs.value_kind.are_spaced.Given as goal

abbrev pub invariant-loop-byte : goal.invariant-loop-byte
invariant-loop-byte l = are_spaced l.begun (drop l.byte-index l.bytes) ≡ are_spaced false l.bytes
