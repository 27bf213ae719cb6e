use Rattle.std.proofs.Common.{sym, ◌∙◌}
use Rattle.first_faults.proofs.ByTags.{is_passed_in, member_row, own_row}
use Rattle.first_faults.proofs.indexed.tag_row.Goals as goal

pub returns-then-is_in_groups_marked : goal.returns-then-is_in_groups_marked
returns-then-is_in_groups_marked c = (
  c.in-None.ensures,
  is_passed_in c.args.table.now.strict _
      (sym c.is_in_groups_marked.ensures ∙ c.if-is_in_groups_marked.true),
)

pub returns-then-not-is_in_groups_marked : goal.returns-then-not-is_in_groups_marked
returns-then-not-is_in_groups_marked c =
    own_row c.args.table.now c.args.tag c.in-Some.row c.in-Some.ensures
    (sym c.is_in_groups_marked-in-Some.ensures ∙ c.if-not-is_in_groups_marked.true)

pub returns-then-not-is_once : goal.returns-then-not-is_once
returns-then-not-is_once c =
    member_row c.args.table.now c.args.tag c.in-Some.row c.in-Some.ensures
    (sym c.is_once.ensures ∙ c.if-not-is_once.true)
