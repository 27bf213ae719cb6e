-- One byte more of a text.
use Rattle.std.proofs.Common.{◌≡◌, ◌∙◌, ap, ℕ, suc, List, [], ◌∷◌, ◌++◌, length, take, ◌<◌}
use Rattle.std.proofs.Math.Seq.{take-suc}
use Rattle.std.proofs.Math.ListN.{get_or}
use Rattle.std.specs.List.{flat_map}
use Rattle.std.proofs.lemmas.Grind.{flat_map-append}
use Rattle.std.proofs.lemmas.List.{append-nil}

pub one_more : (f : ℕ → List ℕ) (text : List ℕ) (at d : ℕ) → at < length text
    → flat_map f (take (suc at) text) ≡ flat_map f (take at text) ++ f (get_or text at d)
one_more f text at d there =
    ap (λ (l : List ℕ). flat_map f l) (take-suc text at d there)
    ∙ flat_map-append f (take at text) (get_or text at d ∷ [])
    ∙ ap (λ (l : List ℕ). flat_map f (take at text) ++ l) (append-nil (f (get_or text at d)))
