use Rattle.std.proofs.Common.{◌≡◌, ◌^◌, ◌<◌, ◌≤◌, List, ℕ, [], take, drop}
use Rattle.std.specs.Str.Parse.{digits_value}
use Rattle.frame_grammar.specs.Found.{found_length}
use Rattle.frame_grammar.proofs.scan.read_length.Given as goal

abbrev pub invariant-loop-digits : goal.invariant-loop-digits
invariant-loop-digits l = record {
  so_far : (start : List ℕ) → found_length start [] l.bytes
      ≡ found_length start (take l.digits l.bytes) (drop l.digits l.bytes);
  says : l.said ≡ digits_value 10 (take l.digits l.bytes);
  small : l.said < 10 ^ l.digits;
  few : l.digits ≤ 7;
}
