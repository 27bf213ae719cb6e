use Rattle.std.proofs.Common.{◌∙◌, List, Option, ap, option_map}
use Rattle.field_groups.specs.Group.{Member, is_astray}
use Rattle.field_groups.specs.declared.group.Line.{Line}
use Rattle.field_groups.proofs.Places.{last_seen}
use Rattle.field_groups.proofs.group.Group.is_astray.Goals as goal

abbrev members : Line → List Member
members line = line.members.items

pub returns-in-Some : goal.returns-in-Some
returns-in-Some c =
    rw (← c.self.view_is)
    (c.has.ensures ∙ ap (λ (line : Option (List Member)). is_astray c.args.tag line)
    (ap (option_map members) c.in-Some.ensures.value
    ∙ rw c.deref.ensures.value (last_seen members c.self.inside.lines.items)))
