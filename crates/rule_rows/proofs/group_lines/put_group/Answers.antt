use Rattle.message_tables.specs.CodeTables.{own_tags}
use Rattle.rule_rows.proofs.LinesSaid.{count_few, group_done}
use Rattle.rule_rows.proofs.group_lines.put_group.Goals as goal

pub put_count-requires : goal.put_count-requires
put_count-requires c =
    count_few (own_tags c.args.group.now) c.args.fields.now c.members-members.result.now
    c.count_lines-count.result c.len-most.result c.members-members.ensures
    c.count_lines-count.ensures.few c.len-most.ensures.value c.len-most.ensures.few

pub returns-clause-done : goal.returns-clause-done
returns-clause-done c =
    group_done c.put_members.result c.args.fields.now c.args.group.now
    c.members-members.result.now c.first-first.result c.count_lines-count.result
    c.args.out.now.items c.put_count.new.out.items c.put_members.new.out.items
    c.members-members.ensures c.first-first.ensures c.count_lines-count.ensures.value
    c.in_ok-put_count.ensures.done c.put_members.ensures.done
