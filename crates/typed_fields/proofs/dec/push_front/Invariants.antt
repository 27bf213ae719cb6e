use Rattle.std.proofs.Common.{◌≡◌, ◌+◌, ◌-◌, ◌≤◌, ◌++◌, true, take, length}
use Rattle.std.specs.Prelude.{vec_capacity, vec_len}
use Rattle.typed_fields.specs.Digits.{are_digits}
use Rattle.typed_fields.proofs.dec.push_front.Given as goal

abbrev pub decreases-loop-len : goal.decreases-loop-len
decreases-loop-len l = 15 - l.len

abbrev pub invariant-loop-len : goal.invariant-loop-len
invariant-loop-len l = record {
  few : l.len ≤ 15;
  within : l.len ≤ length l.bytes;
  digits : are_digits (take l.len l.bytes) ≡ true;
  items : l.out.items ≡ l.fn.out.items ++ take l.len l.bytes;
  long : vec_len l.out ≡ vec_len l.fn.out + l.len;
  room : vec_capacity l.fn.out ≤ vec_capacity l.out;
}
