use Rattle.row_values.proofs.Contents.{group_done}
use Rattle.row_values.proofs.writing.put_lines.Goals as goal

pub returns-clause-done : goal.returns-clause-done
returns-clause-done g c =
    group_done g.L.GroupLine.cells c.args.tag c.args.out.now.items c.loop-line.out.items
    c.as_slice-lines.result.now c.args.lines.now c.loop-line.line-index c.loop-line.invariant
    c.loop-line-test.false c.as_slice-lines.ensures.lines
