-- Own: the counts of the journal's file; docs/DECISIONS.md, "The edge".
use Rattle.std.specs.Prelude.{ℕ}
use Rattle.std.specs.declared.option.Option.{Option}
use Rattle.edge_logic.specs.declared.journal.Denial.{Denial}

-- how often it was read, how often a call on it failed, and why the last call did, where it did
pub record Counts : Type 0 where
  pub reads : ℕ
  pub faults : ℕ
  pub denial : Option Denial
