use Rattle.first_faults.proofs.ByTags.{kept_row}
use Rattle.first_faults.proofs.indexed.TagRows.keep.Goals as goal

pub returns-then-place-lt-MAX_ROWS : goal.returns-then-place-lt-MAX_ROWS
returns-then-place-lt-MAX_ROWS c =
    kept_row c.args.table.now c.args.self.now.rows c.args.self.now.count c.tag_row.result
    c.requires.rows c.tag_row.ensures
