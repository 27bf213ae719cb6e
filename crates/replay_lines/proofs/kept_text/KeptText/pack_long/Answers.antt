use Rattle.std.proofs.Common.{◌≡◌, ◌∙◌, ◌++◌, ◌∷◌, [], rules}
use Rattle.replay_lines.proofs.Kept.{packed_more}
use Rattle.replay_lines.proofs.kept_text.KeptText.pack_long.Goals as goal

pub returns : goal.returns
returns c =
    let packed = c.self.inside.packed.items in
    let end = c.self.inside.end.items in
    let more : c.push.new.self.items ≡ packed ++ end ∷ [] = search rules in
    let none : c.clear.new.self.items ≡ [] = search rules in
    packed_more packed c.push.new.self.items end c.clear.new.self.items more none
    ∙ c.self.view_is
