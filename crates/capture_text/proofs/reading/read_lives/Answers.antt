use Rattle.std.proofs.Common.{◌≡◌, ◌==◌, ◌∙◌, ap, rules, codes, List, length, refl, sym}
use Rattle.capture_text.specs.declared.capture.Event.{Event}
use Rattle.capture_text.proofs.Steps.{says_fault, broken_life, one_life_on, ends_short, ends_none}
use Rattle.capture_text.proofs.reading.read_lives.Goals as goal

pub returns-in_err-life : goal.returns-in_err-life
returns-in_err-life c =
    let begins : c.in-Some.line.now ≡ codes "life" = search rules in
    says_fault c.args.text.now c.in_err-life.field-0.0 c.from_residual.result
    c.from_residual.ensures.0 c.from_residual.ensures.1
    (broken_life c.args.text.now c.loop-line.rest.now c.in-Some.line.now c.in-Some.after.now
    c.loop-line.number c.next_number-number.result c.loop-line.lives c.in_err-life.field-0.0
    c.loop-line.invariant.between c.in-Some.ensures.some begins c.next_number-number.ensures
    c.in_err-life.ensures.err)

pub loop-line-preserved : goal.loop-line-preserved
loop-line-preserved c =
    let begins : c.in-Some.line.now ≡ codes "life" = search rules in
    record {
      between = one_life_on c.args.text.now c.loop-line.rest.now c.in-Some.line.now
          c.in-Some.after.now c.in_ok-life.behind.now c.loop-line.number c.next_number-number.result
          c.in_ok-life.last c.loop-line.lives c.push.new.self c.in_ok-life.life
          c.loop-line.invariant.between c.in-Some.ensures.some begins c.next_number-number.ensures
          c.in_ok-life.ensures.ok c.in_ok-push.ensures.ok;
    }

pub returns-then-not-is_empty : goal.returns-then-not-is_empty
returns-then-not-is_empty c =
    elim c.then-not-is_empty.branch [
      | goal.then-not-is_empty-via-then-not-is_empty w ↦
          ends_short c.args.text.now c.loop-line.rest.now c.loop-line.number c.next_number.result
          c.loop-line.lives c.loop-line.invariant.between (c.in_default.ensures.none refl)
          c.next_number.ensures (sym c.is_empty.ensures ∙ w.if-not-is_empty.true)
      | goal.then-not-is_empty-via-else-not-is_empty+then-is_empty w ↦
          ends_none c.args.text.now c.loop-line.rest.now c.loop-line.number c.next_number.result
          c.loop-line.lives c.loop-line.invariant.between (c.in_default.ensures.none refl)
          c.next_number.ensures
          (ap (λ (ls : List (List Event)). length ls == 0)
          (sym w.as_slice-else-not-is_empty.ensures)
          ∙ sym w.is_empty-else-not-is_empty.ensures ∙ w.if-is_empty.true)
    ]
