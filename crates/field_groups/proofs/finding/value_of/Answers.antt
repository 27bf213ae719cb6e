use Rattle.std.proofs.Common.{◌≡◌, ◌-◌, ◌∙◌, ℕ, List, Option, None, Some, ap, arith, length}
use Rattle.std.proofs.Common.{subst, sym}
use Rattle.std.proofs.lemmas.Bool.{eq-eqb, ne_eqb}
use Rattle.std.specs.Prelude.{MatchOption, [], ◌∷◌}
use Rattle.std.specs.Borrow.{Bor}
use Rattle.std.specs.Option.{option_map}
use Rattle.field_groups.specs.Field.{Field, IsField}
use Rattle.field_groups.specs.Fields.{NoField}
use Rattle.field_groups.specs.Index.{last_field}
use Rattle.field_groups.proofs.ByTag.{ended, found, no_field, none_left, one_more, some_left}
use Rattle.field_groups.proofs.ByTag.{too_many}
use Rattle.field_groups.proofs.finding.value_of.Goals as goal
use Rattle.field_groups.proofs.finding.value_of.Goals.{then-loop-count-test+else-not-is_empty}
use Rattle.field_groups.proofs.finding.value_of.Goals.{else-loop-count-test}

-- the field before, as a slice of one field or none
is_last : (before : Option (ℕ × Bor (List ℕ))) (parts : List (ℕ × Bor (List ℕ)))
    → MatchOption before (parts ≡ []) (λ part. parts ≡ part ∷ [])
    → last_field parts ≡ option_map (λ f. (f.0, f.1.now)) before
is_last None parts same = ap last_field same
is_last (Some part) parts same = ap last_field same

pub returns-in-Err : goal.returns-in-Err
returns-in-Err c =
    let before = option_map (λ f. (f.0, f.1.now)) c.loop-count.before in
    let place = length c.args.body.now - length c.loop-count.rest.now in
    ended c.args.tag c.args.body.now c.loop-count.rest.now before c.loop-count.count
    (Some c.in-Err.field-0) c.loop-count.invariant
    (no_field c.loop-count.count place before c.loop-count.rest.now c.in-Err.field-0
    (omega (arith, c.loop-count-test.true))
    (some_left c.loop-count.rest.now c.if-not-is_empty.ensures)
    (subst (λ (b : Option Field). NoField place b c.loop-count.rest.now c.in-Err.field-0)
    (is_last c.loop-count.before c.as_slice.result.now c.as_slice.ensures) c.in-Err.ensures.fault))

pub returns-then-found-tag : goal.returns-then-found-tag
returns-then-found-tag c = found c.args.tag c.args.body.now c.loop-count.rest.now c.in-Ok.after.now
    (option_map (λ f. (f.0, f.1.now)) c.loop-count.before) c.loop-count.count
    (c.in-Ok.found, c.in-Ok.value.now) c.loop-count.invariant (omega (arith, c.loop-count-test.true))
    (subst (λ (b : Option Field). IsField b (c.in-Ok.found, c.in-Ok.value.now))
    (is_last c.loop-count.before c.as_slice.result.now c.as_slice.ensures) c.in-Ok.ensures.good)
    c.in-Ok.ensures.written (eq-eqb _ _ c.if-found-tag.true)

pub loop-count-preserved : goal.loop-count-preserved
loop-count-preserved c = one_more c.args.tag c.args.body.now c.loop-count.rest.now c.in-Ok.after.now
    (option_map (λ f. (f.0, f.1.now)) c.loop-count.before) c.loop-count.count
    (c.in-Ok.found, c.in-Ok.value.now) c.loop-count.invariant (omega (arith, c.loop-count-test.true))
    (subst (λ (b : Option Field). IsField b (c.in-Ok.found, c.in-Ok.value.now))
    (is_last c.loop-count.before c.as_slice.result.now c.as_slice.ensures) c.in-Ok.ensures.good)
    c.in-Ok.ensures.written (ne_eqb _ _ c.if-found-tag.false)

pub returns : goal.returns
returns c =
    let before = option_map (λ f. (f.0, f.1.now)) c.loop-count.before in
    let place = length c.args.body.now - length c.loop-count.rest.now in
    let over = ended c.args.tag c.args.body.now c.loop-count.rest.now before c.loop-count.count in
    elim c.loop-count-test.branch [
      | then-loop-count-test+else-not-is_empty w ↦ over None c.loop-count.invariant
          (none_left c.loop-count.count place before c.loop-count.rest.now
          (sym w.is_empty.ensures ∙ w.if-not-is_empty.false))
      | else-loop-count-test w ↦
          let full = too_many c.loop-count.count place before c.loop-count.rest.now (omega (
            arith,
            w.loop-count-test.false,
            c.loop-count.invariant.counted,
            c.loop-count.invariant.taken.at_most,
          )) in
          over full.0 c.loop-count.invariant full.1
    ]
