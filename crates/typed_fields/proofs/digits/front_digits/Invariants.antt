use Rattle.std.proofs.Common.{◌≡◌, ◌-◌, ◌≤◌, true, take, length}
use Rattle.typed_fields.specs.Digits.{are_digits, number_of}
use Rattle.typed_fields.proofs.digits.front_digits.Given as goal

abbrev pub decreases-loop-len : goal.decreases-loop-len
decreases-loop-len l = 15 - l.len

abbrev pub invariant-loop-len : goal.invariant-loop-len
invariant-loop-len l = record {
  few : l.len ≤ 15;
  within : l.len ≤ length l.bytes;
  digits : are_digits (take l.len l.bytes) ≡ true;
  value : l.number ≡ number_of (take l.len l.bytes);
}
