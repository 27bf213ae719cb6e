-- Own: what contracts see of a journal.
use Rattle.std.specs.Prelude.{ℕ, List, Bool}
use Rattle.order_meaning.specs.declared.names.Names.{Names}
use Rattle.pair_entries.specs.declared.entry.Entry.{Entry}

pub record JournalState : Type 0 where
  pub names : Names
  pub entries : List Entry
  -- a commit has answered a disk fault
  pub broken : Bool
  -- for so many commits there is room
  pub spare : ℕ
