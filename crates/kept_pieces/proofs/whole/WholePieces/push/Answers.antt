use Rattle.std.proofs.Common.{◌≡◌, ◌∙◌, ◌++◌, ◌∷◌, [], rules, length, ap}
use Rattle.kept_pieces.specs.Pieces.{cut_by}
use Rattle.kept_pieces.proofs.OneMore.{one_more}
use Rattle.kept_pieces.proofs.whole.WholePieces.push.Goals as goal

pub returns-clause-ok : goal.returns-clause-ok
returns-clause-ok c =
    let lengths = c.self.inside.lengths.items in
    let bytes = c.self.inside.bytes.items in
    let piece = c.args.piece.now in
    let longer : c.push_reserved.new.self.items ≡ lengths ++ length piece ∷ [] = search rules in
    let more : c.extend_from_slice.new.self.items ≡ bytes ++ piece = search rules in
    ap (λ ls. cut_by ls c.extend_from_slice.new.self.items) longer
    ∙ ap (cut_by (lengths ++ length piece ∷ [])) more
    ∙ one_more lengths bytes piece c.self.invariant
    ∙ ap (λ all. all ++ piece ∷ []) c.self.view_is
