-- What stands in bytes that were read at once.
use Rattle.std.proofs.Common.{◌≡◌, ℕ, ◌+◌, ◌-◌, ◌≤◌, List, length, take, drop, sym, ◌∙◌, ap, subst}
use Rattle.std.proofs.Common.{arith, length-drop}
use Rattle.std.proofs.lemmas.List.{drop-take, drop-drop, take_all}
use Rattle.gate_log.specs.Chunk.{StandsAt}

-- what is behind a part of them stands behind it
left_stands : (bytes : List ℕ) (place at : ℕ) (part : List ℕ) → place ≤ at
    → at - place ≤ length part → StandsAt bytes place part
    → StandsAt bytes at (drop (at - place) part)
left_stands bytes place at part from within is =
    let s : ℕ = at - place in
    let left : length (drop s part) ≡ length part - s = length-drop s part in
    let whole : s + (length part - s) ≡ length part = omega (arith, within) in
    let there : place + s ≡ at = omega (arith, from) in
    ap (drop s) (is ∙ ap (λ n. take n (drop place bytes)) (sym whole))
    ∙ drop-take s (length part - s) (drop place bytes)
    ∙ ap (take (length part - s)) (drop-drop s place bytes ∙ ap (λ n. drop n bytes) there)
    ∙ ap (λ n. take n (drop at bytes)) (sym left)

pub stands_behind : (bytes : List ℕ) (place at : ℕ) (part : List ℕ) → place ≤ at
    → at - place ≤ length part → StandsAt bytes place part
    → StandsAt bytes at (take (length part - (at - place)) (drop (at - place) part))
stands_behind bytes place at part from within is = subst (StandsAt bytes at)
    (sym (take_all (length part - (at - place)) (drop (at - place) part)
    (omega (arith, length-drop (at - place) part))))
    (left_stands bytes place at part from within is)
