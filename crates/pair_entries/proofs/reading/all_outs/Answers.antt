use Rattle.std.proofs.Common.{◌≡◌, ◌∷◌, ◌∙◌, [], length, drop, sym, ap}
use Rattle.std.proofs.Common.{arith}
use Rattle.std.specs.List.{flat_map}
use Rattle.pair_entries.specs.Payload.{out_bytes}
use Rattle.pair_entries.proofs.Fronts.{same_outs, append_nothing}
use Rattle.pair_entries.proofs.reading.all_outs.Goals as goal

pub returns-in_default-outs_front : goal.returns-in_default-outs_front
returns-in_default-outs_front c = λ outs are few is.
    let both : c.in-Some.count ∷ c.in-Some.rest.now ≡ length outs ∷ flat_map out_bytes outs =
    sym c.in-Some.ensures ∙ is in
    let size : length outs ≡ c.in-Some.count = cc both in
    c.in_default-outs_front.ensures outs [] are size
    (ap (drop 1) both ∙ sym (append_nothing (flat_map out_bytes outs)))

pub returns-then-rest-gt0 : goal.returns-then-rest-gt0
returns-then-rest-gt0 c = λ outs are few is.
    let both : c.in-Some.count ∷ c.in-Some.rest.now ≡ length outs ∷ flat_map out_bytes outs =
    sym c.in-Some.ensures ∙ is in
    let size : length outs ≡ c.in-Some.count = cc both in
    let x = c.in-Some-outs_front.ensures in
    let none : c.in-Some-outs_front.rest.now ≡ [] =
    same_outs c.in-Some-outs_front.outs outs c.in-Some-outs_front.rest.now [] x.1 are
    (x.2 ∙ sym size) (sym x.0 ∙ ap (drop 1) both ∙ sym (append_nothing (flat_map out_bytes outs))) in
    absurd (omega (arith, ap length none))
