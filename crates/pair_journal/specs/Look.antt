-- Inside: how a journal that is only looked at has its names and its end beside the log.
use Rattle.pair_journal.specs.declared.look.Look.TheInside.{Inside}
use Rattle.pair_entries.specs.Birth.{AreNames}
use Rattle.pair_journal.specs.Loading.{HasExtent}
use Rattle.pair_journal.specs.State.{JournalState}

abbrev pub state_of : Inside → JournalState
state_of look = record {
  names = look.names;
  entries = look.reached;
  broken = look.log.broken;
  spare = 0;
}

pub record IsLook (look : Inside) : Type 0 where
  pub named : AreNames look.names
  pub extent : HasExtent look.log look.names look.reached
