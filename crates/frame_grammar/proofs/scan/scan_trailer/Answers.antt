use Rattle.std.proofs.Common.{◌≡◌, ◌-◌, ◌%◌, ◌∷◌, [], ◌++◌, ◌∙◌, List, ℕ, take, drop, length, ap}
use Rattle.std.proofs.Common.{sym}
use Rattle.std.specs.Prelude.{codes, sum}
use Rattle.std.proofs.lemmas.List.{drop-drop}
use Rattle.frame_grammar.specs.Frame.{three_digits}
use Rattle.frame_grammar.specs.Found.{Whole}
use Rattle.frame_grammar.proofs.Begins.{trailer_comes}
use Rattle.frame_grammar.proofs.Scanned.{rest_of}
use Rattle.frame_grammar.proofs.scan.scan_trailer.Goals as goal

pub returns-then-is_trailer-clause-leads : goal.returns-then-is_trailer-clause-leads
returns-then-is_trailer-clause-leads c before body is =
    let stream = c.args.buffer.now.unread in
    let end = c.args.end in
    let bytes = c.unread.result.now in
    let same : take (length bytes - end) (drop end bytes) ≡ drop end stream =
    ap (λ (l : List ℕ). take (length l - end) (drop end l)) c.unread.ensures.value
    ∙ rest_of stream end in
    let total : c.sum.result ≡ sum (before ++ body) % 256 =
    c.sum.ensures ∙ ap (λ (l : List ℕ). sum l % 256) (sym is) in
    trailer_comes before body (drop end stream)
    (sym (ap (take 7) same) ∙ c.is_trailer.ensures.comes c.if-is_trailer.true
    ∙ ap (λ (n : ℕ). codes "10=" ++ three_digits n ++ 1 ∷ []) total)
    ∙ ap (Whole body) (drop-drop 7 end stream)
