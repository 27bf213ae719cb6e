use Rattle.field_groups.proofs.Grouped.{groups_are}
use Rattle.field_groups.proofs.laws.groups_are_lines.Goals as goal

pub returns : goal.returns
returns c = groups_are
