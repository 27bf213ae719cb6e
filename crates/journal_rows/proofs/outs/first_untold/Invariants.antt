use Rattle.std.specs.Option.{ForSome}
use Rattle.order_meaning.specs.declared.Side.TheVariants.{Venue}
use Rattle.pair_journal.specs.Journal.{JournalOf, Born}
use Rattle.pair_journal.specs.Walks.{IsWalk}
use Rattle.journal_rows.proofs.outs.first_untold.Given as goal

abbrev pub invariant-loop-number : goal.invariant-loop-number
invariant-loop-number g l = record {
  stands : ForSome (g.D.Disk.bytes l.disk)
      (λ b. JournalOf b (Born l.journal.names l.journal.entries));
  walk : IsWalk (g.D.Disk.bytes l.disk) l.journal.entries Venue l.number l.buf.walk;
}
