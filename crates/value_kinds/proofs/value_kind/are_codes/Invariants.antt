use Rattle.std.proofs.Common.{◌≡◌, drop, false}
use Rattle.value_kinds.specs.ValueKind.{are_codes}
use Rattle.value_kinds.proofs.value_kind.are_codes.Given as goal

abbrev pub invariant-loop-byte : goal.invariant-loop-byte
invariant-loop-byte l =
    are_codes l.listed l.come (drop l.byte-index l.bytes) ≡ are_codes l.listed false l.bytes
