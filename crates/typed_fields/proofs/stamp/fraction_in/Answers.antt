use Rattle.std.proofs.Common.{codes, sym, ◌∙◌, arith, drop}
use Rattle.typed_fields.proofs.DigitsLemmas.{length-has_pattern, number_of-lt}
use Rattle.typed_fields.proofs.StampLemmas.{behind_nine, behind_six, behind_three, fine_nine}
use Rattle.typed_fields.proofs.StampLemmas.{fine_six, fine_three, fine_whole, fraction_is, nine_is}
use Rattle.typed_fields.proofs.StampLemmas.{no_fraction, six_is, three_is, whole_is}
use Rattle.typed_fields.proofs.stamp.fraction_in.Goals as goal

pub behind-requires-clause-long : goal.behind-requires-clause-long
behind-requires-clause-long c =
    let form = sym c.has_fraction.ensures ∙ c.if-has_fraction.true in
    omega (arith, length-has_pattern (codes "YYYYMMDD-HH:MM:SS.sss") c.args.bytes.now form)

pub behind-requires-clause-digits : goal.behind-requires-clause-digits
behind-requires-clause-digits c =
    let form = sym c.has_fraction.ensures ∙ c.if-has_fraction.true in
    (behind_three c.args.bytes.now form).digits

pub behind-requires-clause-few : goal.behind-requires-clause-few
behind-requires-clause-few c =
    let form = sym c.has_fraction.ensures ∙ c.if-has_fraction.true in
    omega (arith, (behind_three c.args.bytes.now form).long)

pub behind-requires-then-has_fraction-2-clause-long :
    goal.behind-requires-then-has_fraction-2-clause-long
behind-requires-then-has_fraction-2-clause-long c =
    let form = sym c.has_fraction-else-has_fraction.ensures ∙ c.if-has_fraction-2.true in
    omega (arith, length-has_pattern (codes "YYYYMMDD-HH:MM:SS.ssssss") c.args.bytes.now form)

pub behind-requires-then-has_fraction-2-clause-digits :
    goal.behind-requires-then-has_fraction-2-clause-digits
behind-requires-then-has_fraction-2-clause-digits c =
    let form = sym c.has_fraction-else-has_fraction.ensures ∙ c.if-has_fraction-2.true in
    (behind_six c.args.bytes.now form).digits

pub behind-requires-then-has_fraction-2-clause-few :
    goal.behind-requires-then-has_fraction-2-clause-few
behind-requires-then-has_fraction-2-clause-few c =
    let form = sym c.has_fraction-else-has_fraction.ensures ∙ c.if-has_fraction-2.true in
    omega (arith, (behind_six c.args.bytes.now form).long)

pub behind-requires-then-has_fraction-3-clause-long :
    goal.behind-requires-then-has_fraction-3-clause-long
behind-requires-then-has_fraction-3-clause-long c =
    let form = sym c.has_fraction-else-has_fraction-2.ensures ∙ c.if-has_fraction-3.true in
    omega (arith, length-has_pattern (codes "YYYYMMDD-HH:MM:SS.sssssssss") c.args.bytes.now form)

pub behind-requires-then-has_fraction-3-clause-digits :
    goal.behind-requires-then-has_fraction-3-clause-digits
behind-requires-then-has_fraction-3-clause-digits c =
    let form = sym c.has_fraction-else-has_fraction-2.ensures ∙ c.if-has_fraction-3.true in
    (behind_nine c.args.bytes.now form).digits

pub behind-requires-then-has_fraction-3-clause-few :
    goal.behind-requires-then-has_fraction-3-clause-few
behind-requires-then-has_fraction-3-clause-few c =
    let form = sym c.has_fraction-else-has_fraction-2.ensures ∙ c.if-has_fraction-3.true in
    omega (arith, (behind_nine c.args.bytes.now form).long)

pub overflow_cast-result : goal.overflow_cast-result
overflow_cast-result c =
    let b = behind_three c.args.bytes.now (sym c.has_fraction.ensures ∙ c.if-has_fraction.true) in
    let same = c.behind.ensures in
    omega (
      arith,
      same,
      number_of-lt (drop 18 c.args.bytes.now) 3 b.digits (omega (arith, b.long)),
    )

pub returns-then-has_seconds : goal.returns-then-has_seconds
returns-then-has_seconds c =
    let form = sym c.has_seconds.ensures ∙ c.if-has_seconds.true in
    fraction_is c.args.bytes.now _ (fine_whole c.args.bytes.now form)
    (whole_is c.args.bytes.now form)

pub returns-then-has_fraction : goal.returns-then-has_fraction
returns-then-has_fraction c =
    let form = sym c.has_fraction.ensures ∙ c.if-has_fraction.true in
    fraction_is c.args.bytes.now _ (fine_three c.args.bytes.now form)
    (three_is (drop 18 c.args.bytes.now) c.behind.result
    (behind_three c.args.bytes.now form).long c.behind.ensures)

pub returns-then-has_fraction-2 : goal.returns-then-has_fraction-2
returns-then-has_fraction-2 c =
    let form = sym c.has_fraction-else-has_fraction.ensures ∙ c.if-has_fraction-2.true in
    fraction_is c.args.bytes.now _ (fine_six c.args.bytes.now form)
    (six_is (drop 18 c.args.bytes.now) c.behind-then-has_fraction-2.result
    (behind_six c.args.bytes.now form).long c.behind-then-has_fraction-2.ensures)

pub returns-then-has_fraction-3 : goal.returns-then-has_fraction-3
returns-then-has_fraction-3 c =
    let form = sym c.has_fraction-else-has_fraction-2.ensures ∙ c.if-has_fraction-3.true in
    fraction_is c.args.bytes.now _ (fine_nine c.args.bytes.now form)
    (nine_is (drop 18 c.args.bytes.now) c.behind-then-has_fraction-3.result
    (behind_nine c.args.bytes.now form).long c.behind-then-has_fraction-3.ensures)

pub returns-else-has_fraction-3 : goal.returns-else-has_fraction-3
returns-else-has_fraction-3 c =
    no_fraction c.args.bytes.now (sym c.has_seconds.ensures ∙ c.if-has_seconds.false)
    (sym c.has_fraction.ensures ∙ c.if-has_fraction.false)
    (sym c.has_fraction-else-has_fraction.ensures ∙ c.if-has_fraction-2.false)
    (sym c.has_fraction-else-has_fraction-2.ensures ∙ c.if-has_fraction-3.false)
