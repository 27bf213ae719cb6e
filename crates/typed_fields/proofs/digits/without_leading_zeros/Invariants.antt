use Rattle.std.proofs.Common.{◌≡◌, ◌-◌, ◌≤◌, length, drop}
use Rattle.typed_fields.specs.Digits.{without_leading_zeros}
use Rattle.typed_fields.proofs.digits.without_leading_zeros.Given as goal

abbrev pub invariant-loop-start : goal.invariant-loop-start
invariant-loop-start l =
    (l.start ≤ length l.digits)
    × (without_leading_zeros (drop l.start l.digits) ≡ without_leading_zeros l.digits)

abbrev pub decreases-loop-start : goal.decreases-loop-start
decreases-loop-start l = length l.digits - l.start
