use Rattle.std.proofs.Common.{◌≡◌, ◌∙◌, ◌++◌, ◌∷◌, [], List, rules, sym, ap, append-nil}
use Rattle.capture_text.specs.declared.capture.Event.{Event}
use Rattle.capture_text.specs.Kept.{events_of}
use Rattle.capture_text.proofs.Kept.{one_more, still_whole}
use Rattle.capture_text.proofs.capture.Life.push_number.Goals as goal

pub invariant_of-self-2 : goal.invariant_of-self-2
invariant_of-self-2 c =
    let marked : c.push_reserved.new.self.items
    ≡ c.self.inside.marks.items ++ c.args.mark ∷ [] = search rules in
    let more : c.push.new.self.items
    ≡ c.self.inside.numbers.items ++ c.args.number ∷ [] = search rules in
    still_whole c.self.inside.marks.items c.push_reserved.new.self.items c.self.inside.numbers.items
    c.push.new.self.items c.self.inside.pieces c.self.inside.pieces c.args.mark
    (c.args.number ∷ []) [] marked more (sym (append-nil c.self.inside.pieces)) c.self.invariant
    c.requires

pub returns-clause-ok : goal.returns-clause-ok
returns-clause-ok c =
    let marked : c.push_reserved.new.self.items
    ≡ c.self.inside.marks.items ++ c.args.mark ∷ [] = search rules in
    let more : c.push.new.self.items
    ≡ c.self.inside.numbers.items ++ c.args.number ∷ [] = search rules in
    one_more c.self.inside.marks.items c.push_reserved.new.self.items c.self.inside.numbers.items
    c.push.new.self.items c.self.inside.pieces c.self.inside.pieces c.args.mark
    (c.args.number ∷ []) [] marked more (sym (append-nil c.self.inside.pieces)) c.self.invariant
    ∙ ap (λ (l : List Event). l ++ events_of (c.args.mark ∷ []) (c.args.number ∷ []) [])
    c.self.view_is
