-- Own: a message of FIX 5.0 SP2 that says the month of its date, so that it is complete.
use Rattle.std.specs.Prelude.{◌≡◌}
use Rattle.message_tables.specs.Tables.{Table, Tag, Message, said_at}
use Rattle.row_values.specs.Kinds.{Kind, judge}
use Rattle.rows_fix50.specs.Header.{month_by}
use Rattle.sound_laws.specs.Sound.{IsSound}

-- the month is that of the date, where a message has one
abbrev pub HasMonthOfDate : Message → Type 0
HasMonthOfDate m = said_at m.cells (Tag 200)
    ≡ month_by (said_at m.cells (Tag 541)) (said_at m.cells (Tag 200))

-- a sound message that says the month of its date; its parties are any
pub record IsComplete (table : Table Kind) (m : Message) : Type 0 where
  pub sound : IsSound judge table m
  pub month : HasMonthOfDate m
