use Rattle.std.proofs.Common.{◌∙◌}
use Rattle.std.proofs.KnownBytes.{Appends-nil}
use Rattle.pair_journal.specs.Journal.{Unborn, Born}
use Rattle.journal_show.proofs.Shown.{shown_born}
use Rattle.journal_show.proofs.journal_lines.show.Goals as goal

pub returns-in-Ok-Some-clause-shows : goal.returns-in-Ok-Some-clause-shows
returns-in-Ok-Some-clause-shows g c =
    let same = c.look.ensures.only_read.same in
    let lines = c.put_entries.ensures.lines in
    shown_born _ _ _ _ c.in-Ok-Some.journal _ lines.0 c.in-Ok-Some.field-0-is
    c.in-Ok-Some.ensures.looks lines.1 (λ b e. lines.2 b (same ∙ e))
    (λ b e. c.put_entries.ensures.reads b (same ∙ e))

pub returns-in-Ok-None-clause-puts : goal.returns-in-Ok-None-clause-puts
returns-in-Ok-None-clause-puts g c = (Unborn, c.put_line.ensures.line)

pub returns-in-Ok-Some-clause-puts : goal.returns-in-Ok-Some-clause-puts
returns-in-Ok-Some-clause-puts g c = let lines = c.put_entries.ensures.lines in
    (Born c.in-Ok-Some.journal.names lines.0, lines.1)

pub returns-in-Err-clause-puts : goal.returns-in-Err-clause-puts
returns-in-Err-clause-puts g c = (Unborn, (0, Appends-nil (g.O.Sink.bytes c.args.out.now)))
