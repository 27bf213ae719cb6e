use Rattle.std.proofs.Common.{◌-◌, ◌∙◌, List, ℕ, take, drop, length, ap, sym}
use Rattle.std.specs.Str.{bytes_eq}
use Rattle.frame_grammar.proofs.Scanned.{rest_of}
use Rattle.frame_grammar.proofs.Words.{same_behind}
use Rattle.frame_grammar.proofs.scan.begins.Goals as goal

pub returns-then-want-word : goal.returns-then-want-word
returns-then-want-word c =
    let text = c.args.text.now in
    let bytes = c.args.bytes.now in
    let all = c.in-Some-Some in
    c.begins_with.ensures
    ∙ ap (λ (l : List ℕ). bytes_eq l (take (length l) (take (length bytes - 8) (drop 8 bytes))))
    (rest_of text 8)
    ∙ ap (λ (l : List ℕ). bytes_eq (drop 8 text) (take (length (drop 8 text)) l)) (rest_of bytes 8)
    ∙ sym (same_behind text bytes all.want all.word all.ensures all.ensures' c.if-want-word.true)
