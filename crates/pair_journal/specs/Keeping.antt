-- Inside: how a journal keeps its entries: their number, end and marks beside the log.
use Rattle.std.specs.Prelude.{min}
use Rattle.pair_journal.specs.declared.journal.Journal.TheInside.{Inside}
use Rattle.pair_entries.specs.Birth.{AreNames}
use Rattle.pair_journal.specs.Loading.{HasExtent}
use Rattle.pair_journal.specs.State.{JournalState}

abbrev pub state_of : Inside → JournalState
state_of journal = record {
  names = journal.names;
  entries = journal.kept.entries;
  broken = journal.log.broken;
  spare = min journal.log.spare journal.kept.spare;
}

pub record IsKept (journal : Inside) : Type 0 where
  pub named : AreNames journal.names
  pub extent : HasExtent journal.log journal.names journal.kept.entries
