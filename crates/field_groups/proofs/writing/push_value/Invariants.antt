use Rattle.std.proofs.Common.{◌≡◌, ◌+◌, ◌-◌, ◌<◌, ◌++◌, length, take, vec_capacity, vec_len}
use Rattle.field_groups.proofs.writing.push_value.Given as goal

abbrev pub invariant-loop-byte : goal.invariant-loop-byte
invariant-loop-byte l =
    (l.out.items ≡ l.initial.out.items ++ take l.byte-index l.value)
    × (vec_len l.out + (length l.value - l.byte-index) < vec_capacity l.out)
    × (l.byte-index-end ≡ length l.value)
