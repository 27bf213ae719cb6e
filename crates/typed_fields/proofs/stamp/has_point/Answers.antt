use Rattle.std.proofs.Common.{◌≡◌, ◌-◌, false, length, drop, eqb, get_or, ap, ◌∙◌, arith}
use Rattle.std.proofs.lemmas.List.{take_all, length-drop}
use Rattle.std.proofs.lemmas.Bool.{ne_eqb}
use Rattle.typed_fields.specs.Digits.{are_digits}
use Rattle.typed_fields.proofs.DigitsLemmas.{point_is}
use Rattle.typed_fields.proofs.stamp.has_point.Goals as goal

pub returns-then-bytes-eq46 : goal.returns-then-bytes-eq46
returns-then-bytes-eq46 c =
    let bytes = c.args.bytes.now in
    c.are_digits.ensures
    ∙ ap are_digits
    (take_all (length bytes - 1) (drop 1 bytes) (omega (arith, length-drop 1 bytes)))
    ∙ (rw c.if-bytes-eq46.true at
    (point_is c.args.pattern.now bytes c.requires.pattern c.requires.len))

pub returns-else-bytes-eq46 : goal.returns-else-bytes-eq46
returns-else-bytes-eq46 c =
    let bytes = c.args.bytes.now in
    let other : eqb (get_or bytes 0 0) 46 ≡ false = ne_eqb _ _ c.if-bytes-eq46.false in
    other ∙ (rw other at
    (point_is c.args.pattern.now bytes c.requires.pattern c.requires.len))
