use Rattle.std.proofs.Common.{◌≡◌, ◌<◌, ◌++◌, ◌∷◌, ◌∙◌, [], List, length, sym, ap, subst, arith}
use Rattle.std.proofs.Common.{length-append}
use Rattle.std.specs.List.{flat_map}
use Rattle.pair_entries.specs.declared.entry.Out.{Out}
use Rattle.pair_entries.specs.Payload.{out_bytes, AreOuts}
use Rattle.pair_entries.proofs.Fronts.{more_outs, push_read, AreOuts-push}
use Rattle.pair_entries.proofs.reading.outs_front.Goals as goal

pub returns-in_default : goal.returns-in_default
returns-in_default c = λ outs rest are same is.
    let inv = c.loop-rest.invariant in
    let fewer : length c.loop-rest.outs < length outs =
    omega (arith, same, ap length c.as_slice.ensures.outs, c.from.ensures) in
    let more = more_outs
    c.loop-rest.outs outs c.loop-rest.rest.now rest inv.sound are fewer (sym inv.read ∙ is) in
    c.in_default.ensures more.0 more.1 more.2 more.3

pub loop-rest-preserved : goal.loop-rest-preserved
loop-rest-preserved c =
    let inv = c.loop-rest.invariant in
    let x = c.in-Some.ensures in
    let pushed : c.push.new.self ≡ c.loop-rest.outs ++ c.in-Some.out ∷ [] = c.push.ensures in
    let fewer : length c.loop-rest.outs < c.args.count =
    omega (arith, ap length c.as_slice.ensures.outs, c.from.ensures) in
    record {
      read = inv.read ∙ ap (λ l. flat_map out_bytes c.loop-rest.outs ++ l) x.0
          ∙ push_read c.loop-rest.outs c.in-Some.out c.in-Some.after.now
          ∙ sym (ap (λ (os : List Out). flat_map out_bytes os ++ c.in-Some.after.now) pushed);
      sound =
          subst AreOuts (sym pushed) (AreOuts-push c.loop-rest.outs c.in-Some.out inv.sound x.1);
      few = omega
          (arith, ap length pushed, length-append c.loop-rest.outs (c.in-Some.out ∷ []), fewer);
    }
