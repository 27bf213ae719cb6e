use Rattle.std.proofs.Common.{◌≡◌, ◌<◌, List, length, map, subst, sym}
use Rattle.std.proofs.lemmas.Result.{on_ok_weaker}
use Rattle.field_groups.specs.Group.{Member, Lines}
use Rattle.field_groups.specs.declared.group.Line.{Line}
use Rattle.field_groups.proofs.Lines.{set_view}
use Rattle.field_groups.proofs.group.Group.extend.Goals as goal

abbrev members : Line → List Member
members line = line.members.items

pub returns-clause-ok : goal.returns-clause-ok
returns-clause-ok c =
    let xs = c.self.inside.lines.items in
    let some : 0 < length (map members xs) =
    subst (λ (g : Lines). 0 < length g.lines) (sym c.self.view_is) c.requires in
    let len : c.len-last.result ≡ length (map members xs) = subst (λ (g : Lines). c.len-last.result
    ≡ length g.lines) (sym c.self.view_is) c.len-last.ensures in
    rw (← c.self.view_is)
    (on_ok_weaker c.push.result
    (λ more. set_view members xs c.len-last.result c.index_mut.result.now
    c.push.new.self (c.args.tag, c.args.place) some len c.index_mut.ensures.value more)
    c.push.ensures.ok)
