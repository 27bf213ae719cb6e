-- Standard: FIX 4.2, Standard Message Header, and MaturityDay (205).
-- Own: what the header's fields count for in an order message, and that a field of no row is
-- outside the profile.
use Rattle.std.specs.Prelude.{ℕ, true, List, [], ◌∷◌}
use Rattle.message_tables.specs.Tables.{Condition, Stands, Optional, Row, Item, Table}
use Rattle.value_kinds.specs.ValueKind.{Filled, Flag}
use Rattle.row_values.specs.Kinds.{Kind, row}

-- The standard header. Of its fields PossResend (97) alone is a part of what a message means; of
-- the others it is only asked that they have a value.
abbrev pub header : List (Row Kind)
header =
    row Optional 35 Filled ∷  -- MsgType
    row Optional 49 Filled ∷  -- SenderCompID
    row Optional 56 Filled ∷  -- TargetCompID
    row Optional 34 Filled ∷  -- MsgSeqNum
    row Optional 43 Filled ∷  -- PossDupFlag
    row Optional 97 Flag ∷  -- PossResend
    row Optional 52 Filled ∷  -- SendingTime
    row Optional 122 Filled ∷  -- OrigSendingTime
    row Optional 50 Filled ∷  -- SenderSubID
    row Optional 57 Filled ∷  -- TargetSubID
    row Optional 142 Filled ∷  -- SenderLocationID
    row Optional 143 Filled ∷  -- TargetLocationID
    row Optional 347 Filled ∷  -- MessageEncoding
    row Optional 369 Filled ∷  -- LastMsgSeqNumProcessed
    []

-- a field that has no row is outside the profile
abbrev pub table : ℕ → List (Item Kind) → Table Kind
table letter items = record { letter = letter; header = header; items = items; strict = true }

-- MaturityDay (205) is the day of a MaturityMonthYear (200)
abbrev pub has_day : Condition
has_day = (Stands 205 ∷ []) ∷ []
