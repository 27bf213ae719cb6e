-- Standard: FIXT 1.1, Standard Message Header.
-- Own: what the header's fields count for in an order message, and that a field of no row is passed
-- over.
use Rattle.std.specs.Prelude.{ℕ, false, List, [], ◌∷◌, map, Some, None, Result, Ok, Err}
use Rattle.std.specs.Prelude.{if◌then◌else◌}
use Rattle.message_tables.specs.Tables.{Optional, Row, Item, Tag, Said, Cell, Table, Message}
use Rattle.message_tables.specs.Tables.{is_place, said_at}
use Rattle.order_meaning.specs.declared.fault.Fault.{Fault}
use Rattle.value_kinds.specs.ValueKind.{Filled, Flag}
use Rattle.row_values.specs.Kinds.{Kind, Version, row, month_in_date}

-- The standard header. Of its fields PossResend (97) alone is a part of what a message means, and
-- ApplVerID (1128) has to be that of FIX 5.0 SP2; of the others it is only asked that they have a
-- value.
abbrev pub header : List (Row Kind)
header =
    row Optional 35 Filled ∷  -- MsgType
    record { tag = 1128; kind = Version; need = Optional } ∷  -- ApplVerID
    row Optional 49 Filled ∷  -- SenderCompID
    row Optional 56 Filled ∷  -- TargetCompID
    row Optional 34 Filled ∷  -- MsgSeqNum
    row Optional 43 Filled ∷  -- PossDupFlag
    row Optional 97 Flag ∷  -- PossResend
    row Optional 52 Filled ∷  -- SendingTime
    row Optional 122 Filled ∷  -- OrigSendingTime
    row Optional 50 Filled ∷  -- SenderSubID
    row Optional 57 Filled ∷  -- TargetSubID
    row Optional 142 Filled ∷  -- SenderLocationID
    row Optional 143 Filled ∷  -- TargetLocationID
    row Optional 347 Filled ∷  -- MessageEncoding
    row Optional 369 Filled ∷  -- LastMsgSeqNumProcessed
    []

-- a field that has no row is passed over
abbrev pub table : ℕ → List (Item Kind) → Table Kind
table letter items = record { letter = letter; header = header; items = items; strict = false }

-- MaturityDate (541) says the month (200), too, whatever stands there.
abbrev pub month_by : Said → Said → Said
month_by (Some date) month = Some (month_in_date date)
month_by None month = month

abbrev with_month : Said → Cell → Cell
with_month date cell = if is_place cell.0 (Tag 200) then (Tag 200, month_by date cell.1) else cell

abbrev pub completed : Message → Message
completed m = record m { cells = map (with_month (said_at m.cells (Tag 541))) m.cells }

abbrev pub completed_by : Result Message Fault → Result Message Fault
completed_by (Ok message) = Ok (completed message)
completed_by (Err fault) = Err fault
