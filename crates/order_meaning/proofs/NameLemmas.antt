-- A text of 1 to 35 bytes fills the room of a name.
use Rattle.std.proofs.Common.{◌≤◌, ℕ, List, ◌++◌, length, drop, replicate, sym, ap, ◌∙◌}
use Rattle.std.proofs.Math.Seq.{take-append_seam}
use Rattle.std.proofs.lemmas.List.{drop-replicate}
use Rattle.order_meaning.specs.Names.{IsPadded, padded}

pub zeros_follow : (text : List ℕ) → 1 ≤ length text
    → length text ≤ 35 → IsPadded (length text) (text ++ drop (length text) (replicate 35 0))
zeros_follow text some short =
    let rest : List ℕ = drop (length text) (replicate 35 0) in
    record {
      some = some;
      short = short;
      counted = ap length (take-append_seam text rest);
      filled = ap padded (take-append_seam text rest)
          ∙ ap (λ z. text ++ z) (sym (drop-replicate (length text) 35 0));
    }
