use Rattle.std.proofs.Common.{◌≡◌, take}
use Rattle.typed_fields.specs.Digits.{number_of}
use Rattle.typed_fields.proofs.digits.number.Given as goal

abbrev pub invariant-loop-digit : goal.invariant-loop-digit
invariant-loop-digit l = l.number ≡ number_of (take l.digit-index l.digits)
