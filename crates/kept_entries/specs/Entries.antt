-- Own: entries of a journal, in their order; docs/DEFINITIONS.md, "Disk and journal".
use Rattle.std.specs.Prelude.{List, [], ◌∷◌}
use Rattle.pair_entries.specs.declared.entry.Entry.{Entry}
use Rattle.pair_entries.specs.Payload.{Next, IsEntry}
use Rattle.kept_entries.specs.Numbers.{GoesOn, numbers_before}

-- entries within their bounds, whose numbers go on; of a day these are all
abbrev pub AreEntries : Next → List Entry → Type 0
AreEntries before [] = Unit {0}
AreEntries before (entry ∷ entries) =
    IsEntry entry × GoesOn before entry × AreEntries entry.next entries

-- the same of entries over days: with each day the numbers begin anew
abbrev pub DaysGoOn : Next → List Entry → Type 0
DaysGoOn before [] = Unit {0}
DaysGoOn before (entry ∷ entries) =
    IsEntry entry × GoesOn (numbers_before before entry) entry × DaysGoOn entry.next entries
