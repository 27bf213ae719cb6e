-- Own: what the journal's file tells of its last call; docs/DECISIONS.md, "The edge".
use Rattle.std.specs.Prelude.{ℕ, Bool, true, false, List, String, string_bytes, Some, None}
use Rattle.std.specs.declared.option.Option.{Option}
use Rattle.edge_logic.specs.declared.journal.Denial.{Denial}
use Rattle.edge_logic.specs.declared.journal.Denial.TheVariants as denial
use Rattle.edge_logic.specs.Notice.{TellsDenial}

-- the line of why it failed, where it did
abbrev pub TellsRefusal : {A : Type 0} → List ℕ → Option Denial → Option (String A) → Type 0
TellsRefusal path None None = Unit {0}
TellsRefusal path (Some reason) (Some line) = TellsDenial path reason (string_bytes line)
TellsRefusal path reason line = ⊥

-- whether it failed because the file is no journal
abbrev pub is_no_journal : Option Denial → Bool
is_no_journal (Some denial.NoJournal) = true
is_no_journal reason = false
