use Rattle.std.proofs.Common.{◌++◌, ◌≡◌, ℕ, ◌+◌, ◌-◌, List, length, take, drop, sym, ◌∙◌, ap, subst}
use Rattle.std.proofs.Common.{arith, length-drop}
use Rattle.std.proofs.Math.Seq.{take-add}
use Rattle.std.proofs.lemmas.List.{drop-drop, take_all}
use Rattle.std.specs.Io.KnownBytes.{Appends}
use Rattle.std.proofs.KnownBytes.{Appends-trans}
use Rattle.edge_system.proofs.streams.WritingSink.put.Goals as goal

-- what `&xs[k..]` is
rest_of : (xs : List ℕ) (k : ℕ) → take (length xs - k) (drop k xs) ≡ drop k xs
rest_of xs k = take_all _ _ (omega (arith, length-drop k xs))

pub loop-rest-preserved : goal.loop-rest-preserved
loop-rest-preserved g c =
    let written = c.loop-rest.invariant.written in
    let piece = c.args.piece.now in
    let more : take c.in-Ok.count c.loop-rest.rest.now ≡ take c.in-Ok.count (drop written.0 piece) =
    ap (λ (l : List ℕ). take c.in-Ok.count l) written.2 in
    record {
      faults = c.loop-rest.invariant.faults;
      written = (
        written.0 + c.in-Ok.count,
        omega (arith, length-drop written.0 piece, ap length written.2, c.in-Ok.ensures.bound),
        rest_of c.loop-rest.rest.now c.in-Ok.count ∙ ap (λ (l : List ℕ). drop c.in-Ok.count l)
            written.2 ∙ drop-drop c.in-Ok.count written.0 piece,
        subst (λ l. Appends (g.W.Write.contents c.args.self.now.inner)
            (g.W.Write.contents c.write.new.self) l) (ap (λ (l : List ℕ). take written.0 piece ++ l)
            more ∙ sym (take-add written.0 c.in-Ok.count piece))
            (Appends-trans _ _ _ _ _ written.3 c.in-Ok.ensures.bytes),
      );
    }
