use Rattle.std.proofs.Common.{ℕ, drop, subst}
use Rattle.message_tables.specs.CodeTables.{own_tags, seen}
use Rattle.message_tables.specs.Tables.{in_lines}
use Rattle.row_values.proofs.LineByLine.{Reads, all_read}
use Rattle.row_values.proofs.lines.read_group.Goals as goal

pub returns : goal.returns
returns g c =
    let members = c.members-members.result.now in
    let Read : ℕ → Type 0 = λ first. Reads g.L.GroupLine.is_line (in_lines first (seen members))
    (in_lines first (drop c.loop-from.from (seen members))) c.loop-from.lines in
    all_read g.L.GroupLine.is_line (own_tags c.args.group.now) c.args.fields.now members
    c.loop-from.from c.loop-from.lines c.loop-from-test.false c.members-members.ensures
    (subst Read c.first-first.ensures c.loop-from.invariant.reads)
