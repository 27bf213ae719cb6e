use Rattle.std.proofs.Common.{ap, sym, ◌∙◌, arith}
use Rattle.std.specs.Prelude.{take, ℕ}
use Rattle.std.specs.Str.Parse.{digits_value}
use Rattle.field_groups.proofs.Reading.{tag_tests, digit_count_is, no_tag, zero_first, other_next}
use Rattle.field_groups.proofs.Reading.{rest_is, equals}
use Rattle.field_groups.proofs.splitting.good_tag.Goals as goal
use Rattle.field_groups.proofs.splitting.good_tag.Goals.{then-len-eq0-via-then-len-eq0}
use Rattle.field_groups.proofs.splitting.good_tag.Goals.{
  then-len-eq0-via-else-len-eq0+then-bytes-eq48,
}
use Rattle.field_groups.proofs.splitting.good_tag.Goals.{
  then-len-eq0-via-else-len-eq0+else-bytes-eq48+then-not-is_equals_at,
}

pub returns-then-len-eq0-clause-none : goal.returns-then-len-eq0-clause-none
returns-then-len-eq0-clause-none c =
    let bytes = c.args.bytes.now in
    let n = c.front_number-len.ensures in
    elim c.then-len-eq0.branch [
      | then-len-eq0-via-then-len-eq0 w ↦
          no_tag bytes (sym w.if-len-eq0.true ∙ n.all (omega (arith, w.if-len-eq0.true)))
      | then-len-eq0-via-else-len-eq0+then-bytes-eq48 w ↦ zero_first bytes w.if-bytes-eq48.true
      | then-len-eq0-via-else-len-eq0+else-bytes-eq48+then-not-is_equals_at w ↦
          other_next bytes c.front_number-len.result.0 n.digits n.within n.few n.all
          (sym w.is_equals_at.ensures ∙ w.if-not-is_equals_at.true)
    ]

pub returns-clause-good : goal.returns-clause-good
returns-clause-good c =
    let n = c.front_number-len.ensures in
    tag_tests c.args.bytes.now c.front_number-len.result.0 n.digits n.within n.few
    c.if-len-eq0.false c.if-bytes-eq48.false
    (equals _ (sym c.is_equals_at.ensures ∙ c.if-not-is_equals_at.false))

pub returns-clause-tag : goal.returns-clause-tag
returns-clause-tag c =
    let n = c.front_number-len.ensures in
    n.value
    ∙ ap (λ (len : ℕ). digits_value 10 (take len c.args.bytes.now))
    (digit_count_is c.args.bytes.now c.front_number-len.result.0 n.digits n.within
    (equals _ (sym c.is_equals_at.ensures ∙ c.if-not-is_equals_at.false)))

pub returns-clause-rest : goal.returns-clause-rest
returns-clause-rest c =
    let n = c.front_number-len.ensures in
    rest_is c.args.bytes.now c.front_number-len.result.0
    (digit_count_is c.args.bytes.now c.front_number-len.result.0 n.digits n.within
    (equals _ (sym c.is_equals_at.ensures ∙ c.if-not-is_equals_at.false)))
