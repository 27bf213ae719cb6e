use Rattle.std.proofs.Common.{◌≡◌, ◌∷◌, [], ◌∙◌, length, drop, sym, ap}
use Rattle.std.specs.List.{flat_map}
use Rattle.pair_entries.specs.Payload.{out_bytes}
use Rattle.pair_entries.proofs.Fronts.{append_nothing}
use Rattle.kept_entries.proofs.given.out_in.Goals as goal

pub returns-clause-finds : goal.returns-clause-finds
returns-clause-finds c = λ entry are is.
    let both : c.in-Some.count ∷ c.in-Some.outs.now
    ≡ length entry.outs ∷ flat_map out_bytes entry.outs = sym c.in-Some.ensures ∙ is in
    let size : length entry.outs ≡ c.in-Some.count = cc both in
    c.out_among.ensures.finds entry.outs [] are size
    (ap (drop 1) both ∙ sym (append_nothing (flat_map out_bytes entry.outs)))
