use Rattle.std.proofs.Common.{None, ap, subst, Option, arith}
use Rattle.std.specs.List.{last_or}
use Rattle.std.proofs.lemmas.Grind.{common_steps}
use Rattle.field_groups.specs.Field.{Field, IsField}
use Rattle.field_groups.proofs.Taking.{one_more}
use Rattle.field_groups.proofs.splitting.split_into.Goals as goal

pub loop-rest-preserved : goal.loop-rest-preserved
loop-rest-preserved c =
    let so_far = c.loop-rest.invariant in
    record {
      good =
          rw c.in_ok-push-in-Ok.ensures.ok
          (one_more None c.loop-rest.split.fields (c.in-Ok.tag, c.in-Ok.value.now) so_far.good
          (subst (λ (before : Option Field). IsField before (c.in-Ok.tag, c.in-Ok.value.now))
          (ap (last_or None) c.as_slice.ensures) c.in-Ok.ensures.good));
      at_most = grind (arith, common_steps);
      written = grind (arith, common_steps, so_far.written);
    }
