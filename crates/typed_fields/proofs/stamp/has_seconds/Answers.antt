use Rattle.std.proofs.Common.{codes, sym, ◌∙◌, arith}
use Rattle.std.proofs.lemmas.Bool.{eq-eqb, ne_eqb}
use Rattle.typed_fields.proofs.Sixteen.{moment_told}
use Rattle.typed_fields.proofs.StampLemmas.{no_pattern}
use Rattle.typed_fields.proofs.stamp.has_seconds.Goals as goal

pub returns-then-bytes-ne17 : goal.returns-then-bytes-ne17
returns-then-bytes-ne17 c =
    sym (no_pattern (codes "YYYYMMDD-HH:MM:SS") c.args.bytes.now c.if-bytes-ne17.true)

pub returns-then-zeros-eq65535 : goal.returns-then-zeros-eq65535
returns-then-zeros-eq65535 c =
    c.is_ascii_digit.ensures.value
    ∙ (rw (eq-eqb _ _ c.if-zeros-eq65535.true)
    at (moment_told c.args.bytes.now c.if-bytes-ne17.false
    (λ i. omega (arith, c.type_inv.bytes i))))

pub returns-else-zeros-eq65535 : goal.returns-else-zeros-eq65535
returns-else-zeros-eq65535 c =
    ne_eqb _ _ c.if-zeros-eq65535.false
    ∙ (rw (ne_eqb _ _ c.if-zeros-eq65535.false)
    at (moment_told c.args.bytes.now c.if-bytes-ne17.false
    (λ i. omega (arith, c.type_inv.bytes i))))
