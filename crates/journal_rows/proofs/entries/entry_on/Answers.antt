use Rattle.std.proofs.Common.{Some, arith}
use Rattle.journal_rows.proofs.entries.entry_on.Goals as goal

pub entry-requires-clause-walk : goal.entry-requires-clause-walk
entry-requires-clause-walk c =
    let at = c.in_ok-walk.ensures.entries (Some c.look.new.disk.bytes) c.in-Some.look.entries in
    (at.0, λ b e. ((at.1 b e).0, omega (arith, (at.1 b e).1)))
