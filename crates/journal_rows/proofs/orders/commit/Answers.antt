use Rattle.std.proofs.Common.{sym, subst}
use Rattle.pair_journal.specs.Journal.{JournalOf, Born}
use Rattle.journal_rows.proofs.orders.commit.Goals as goal

pub commit-requires-clause-stands : goal.commit-requires-clause-stands
commit-requires-clause-stands g c = λ x e.
    subst (λ s. JournalOf x (Born s.names s.entries))
    (sym c.in_ok-reserve.ensures.ok) (c.requires.stands x e)
