use Rattle.std.specs.Option.{ForSome}
use Rattle.pair_journal.specs.Journal.{JournalOf, Born}
use Rattle.pair_journal.specs.Walks.{IsWalk}
use Rattle.life_rows.proofs.outs.show_outs.Given as goal

abbrev pub invariant-loop-number : goal.invariant-loop-number
invariant-loop-number g l = record {
  stands : ForSome (g.D.Disk.bytes l.disk)
      (λ b. JournalOf b (Born l.journal.names l.journal.entries));
  walk : IsWalk (g.D.Disk.bytes l.disk) l.journal.entries l.side l.number l.out.walk;
}
