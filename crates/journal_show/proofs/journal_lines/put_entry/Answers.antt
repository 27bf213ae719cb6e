use Rattle.std.proofs.Common.{rules}
use Rattle.journal_show.proofs.JournalLines.{entry_at, nothing_put}
use Rattle.journal_show.proofs.journal_lines.put_entry.Goals as goal

pub returns-in_err-entry-clause-line : goal.returns-in_err-entry-clause-line
returns-in_err-entry-clause-line g c =
    let one = entry_at c.args.journal.now.entries c.args.index c.requires.index in (
      one.0,
      nothing_put c.from_residual.result (g.O.Sink.bytes c.args.out.now) _
          c.from_residual.ensures.0,
      λ b e. one.1,
    )

pub returns-clause-line : goal.returns-clause-line
returns-clause-line g c =
    (c.in_ok-entry.entry, search rules, c.in_ok-entry.ensures.entry)
