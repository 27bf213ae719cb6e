use Rattle.std.proofs.Common.{ℕ, List, ◌+◌, ◌++◌, ◌∙◌, ap, take, drop, sym}
use Rattle.std.proofs.Math.Seq.{take-add}
use Rattle.std.proofs.lemmas.List.{drop-drop}
use Rattle.frame_grammar.specs.Held.{Window}
use Rattle.frame_grammar.proofs.buffer.Buffer.advance.Goals as goal

pub returns : goal.returns
returns c =
    let start = c.self.inside.start in
    let count = c.args.count in
    let items = c.self.inside.bytes.items in
    let build : List ℕ → List ℕ → Window = λ seen unread. record { read = seen; unread = unread } in
    rw (← c.self.view_is)
    (ap (λ (l : List ℕ). build l (drop (start + count) items)) (take-add start count items)
    ∙ ap (λ (l : List ℕ). build (take start items ++ take count (drop start items)) l)
    (sym (drop-drop count start items)))
