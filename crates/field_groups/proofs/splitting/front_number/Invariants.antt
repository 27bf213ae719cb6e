use Rattle.std.proofs.Common.{◌≡◌, ◌-◌, ◌≤◌, true, take, length}
use Rattle.std.specs.Char.{is_ascii_digit}
use Rattle.std.specs.List.{list_all}
use Rattle.std.specs.Str.Parse.{digits_value}
use Rattle.field_groups.proofs.splitting.front_number.Given as goal

abbrev pub decreases-loop-len : goal.decreases-loop-len
decreases-loop-len l = 9 - l.len

abbrev pub invariant-loop-len : goal.invariant-loop-len
invariant-loop-len l = record {
  few : l.len ≤ 9;
  within : l.len ≤ length l.bytes;
  digits : list_all is_ascii_digit (take l.len l.bytes) ≡ true;
  value : l.number ≡ digits_value 10 (take l.len l.bytes);
}
