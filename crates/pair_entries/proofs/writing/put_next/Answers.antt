use Rattle.std.proofs.Common.{◌≡◌, ◌++◌, ◌∙◌, List, ℕ, ap, append_assoc}
use Rattle.std.specs.Int.{w32, to_be_bytes}
use Rattle.pair_entries.proofs.writing.put_next.Goals as goal

regroup : (o x y z w : List ℕ) → o ++ x ++ y ++ z ++ w ≡ o ++ (x ++ y ++ z ++ w)
regroup o x y z w = simp append_assoc

pub returns : goal.returns
returns c =
    let n = c.args.next in
    let one = c.in_ok-put_u32.ensures in
    let two = c.in_ok-put_u32-2.ensures in
    let three = c.in_ok-put_u32-3.ensures in
    let four = c.in_ok-put_u32-4.ensures in
    four ∙ ap (λ l. l ++ to_be_bytes w32 n.3)
    (three ∙ ap (λ l. l ++ to_be_bytes w32 n.2) (two ∙ ap (λ l. l ++ to_be_bytes w32 n.1) one))
    ∙ regroup c.args.out.now.items
    (to_be_bytes w32 n.0) (to_be_bytes w32 n.1) (to_be_bytes w32 n.2) (to_be_bytes w32 n.3)
