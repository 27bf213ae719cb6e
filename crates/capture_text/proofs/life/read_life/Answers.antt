use Rattle.std.proofs.Common.{[], subst, arith}
use Rattle.capture_text.specs.Life.{behind, Follows}
use Rattle.capture_text.proofs.Steps.{lives_on, stay_open}
use Rattle.capture_text.proofs.life.read_life.Goals as goal

pub loop-line-preserved : goal.loop-line-preserved
loop-line-preserved c = record {
  passed = lives_on c.args.text.now c.loop-line.rest.now c.in-Some.line.now c.in-Some.after.now
      c.args.before c.loop-line.number c.next_number-number.result c.loop-line.life
      c.push.new.self c.in-Some-2.event c.loop-line.invariant.passed c.in-Some.ensures.some
      (subst (Follows c.in-Some.line.now (behind [] c.loop-line.life)) c.in-Some-2.is
      (c.in_ok-event.ensures (behind [] c.loop-line.life) c.loop-line.invariant.sides))
      c.in_ok-push.ensures.ok c.next_number-number.ensures;
  sides = stay_open c.after-sides.result c.loop-line.life c.push.new.self c.in-Some-2.event
      (c.after-sides.ensures (behind [] c.loop-line.life) c.loop-line.invariant.sides)
      c.in_ok-push.ensures.ok;
  shorter = omega (arith, c.in-Some.ensures.shorter);
}
