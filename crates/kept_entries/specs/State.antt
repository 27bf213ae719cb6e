-- Own: what contracts see of what is kept of entries.
use Rattle.std.specs.Prelude.{ℕ, List}
use Rattle.pair_entries.specs.declared.entry.Entry.{Entry}

-- what a journal keeps of its entries
pub record KeptState : Type 0 where
  pub entries : List Entry
  -- for so many entries there is room
  pub spare : ℕ
