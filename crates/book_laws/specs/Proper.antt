-- Own: what the numbers of a lawful day are; docs/DEFINITIONS.md, "Equal books".
use Rattle.std.specs.Prelude.{◌⊎◌, List, [], ◌∷◌}
use Rattle.order_meaning.specs.declared.names.Names.{Names}
use Rattle.pair_entries.specs.declared.entry.Entry.{Entry}
use Rattle.pair_entries.specs.Payload.{Next}
use Rattle.kept_entries.specs.Numbers.{GoesOn, TookGoesOn, first_numbers}
use Rattle.kept_entries.specs.Entries.{AreEntries}
use Rattle.event_decisions.specs.Decide.{IsLawful}
use Rattle.event_decisions.specs.Laws.{counts, taking_of}
use Rattle.message_answers.specs.Answer.{Answers}

-- the numbers go on from these, and what was taken had the number that was expected and counts by
-- its body, or counts one whatever it is
abbrev pub ProperFrom : Next → List Entry → Type 0
ProperFrom before [] = Unit {0}
ProperFrom before (entry ∷ entries) = GoesOn before entry
    × (TookGoesOn taking_of before entry ⊎ TookGoesOn counts before entry)
    × ProperFrom entry.next entries

-- A PROPER DAY
abbrev pub Proper : List Entry → Type 0
Proper entries = ProperFrom first_numbers entries

-- A LAWFUL DAY IS PROPER.
abbrev pub LawfulDaysAreProper : Type 0
LawfulDaysAreProper = (names : Names) (entries : List Entry) → IsLawful Answers names entries →
    AreEntries first_numbers entries → Proper entries
