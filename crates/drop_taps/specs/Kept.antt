-- Own: what contracts see of the tap that keeps entries.
use Rattle.std.specs.Prelude.{List, Bool}
use Rattle.std.specs.declared.option.Option.{Option}
use Rattle.outside.specs.Memory.{CallsState}
use Rattle.pair_entries.specs.declared.entry.Entry.{Entry}

pub record KeepState : Type 0 where
  pub entries : List Entry
  pub calls : CallsState
  pub failed : Bool
  pub refused : Option Entry
