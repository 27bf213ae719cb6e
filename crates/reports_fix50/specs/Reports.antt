-- Standard: FIX 5.0 SP2, volume 4, Execution Report (8), Order Cancel Reject (9) and Business
-- Message Reject (j); FIXT 1.1, Reject (3); and volume 6, the fields and their values.
-- Own: which of their fields count, and when one is required.
use Rattle.std.specs.Prelude.{ℕ, List, [], ◌∷◌, codes}
use Rattle.message_tables.specs.Tables.{Test, Is, Required, Optional, Lenient}
use Rattle.message_tables.specs.Tables.{When, Item, One, Party, Lines}
use Rattle.value_kinds.specs.ValueKind.{ValueKind, Id, Code, Known, Word, Text, Currency, Number}
use Rattle.value_kinds.specs.ValueKind.{Reason, Qty, Price, FineStamp, Day}
use Rattle.row_values.specs.Kinds.{Kind, MonthBeside, TimeBeside, row}
use Rattle.row_values.specs.Groups.{parties}
use Rattle.row_values.specs.Contras.{contras}

-- ---- how a row is needed

abbrev required : ℕ → ValueKind → Item Kind
required tag kind = One (row Required tag kind)

abbrev optional : ℕ → ValueKind → Item Kind
optional tag kind = One (row Optional tag kind)

-- a value that is dropped where it is outside the profile
abbrev lenient : ℕ → ValueKind → Item Kind
lenient tag kind = One (row Lenient tag kind)

abbrev beside : ℕ → Kind → Item Kind
beside tag kind = One (record { tag = tag; kind = kind; need = Lenient })

-- a value that each message with one of these codes in another field says
abbrev where_is : Test → ℕ → ValueKind → Item Kind
where_is test tag kind = One (row (When ((test ∷ []) ∷ [])) tag kind)

-- ---- the codes of the venue's reports

-- ExecType (150): 0 New, 3 Done for day, 4 Canceled, 5 Replaced, 6 Pending Cancel, 7 Stopped, 8
-- Rejected, 9 Suspended, A Pending New, B Calculated, C Expired, D Restated, E Pending Replace, F
-- Trade, G Trade Correct, H Trade Cancel, I Order Status, J Trade in a Clearing Hold, K Trade has
-- been released to Clearing, L Triggered or Activated by System
abbrev exec_types : List ℕ
exec_types = codes "03456789ABCDEFGHIJKL"

-- OrdStatus (39): 0 New, 1 Partially filled, 2 Filled, 3 Done for day, 4 Canceled, 5 Replaced, 6
-- Pending Cancel, 7 Stopped, 8 Rejected, 9 Suspended, A Pending New, B Calculated, C Expired, D
-- Accepted for Bidding, E Pending Replace
abbrev ord_statuses : List ℕ
ord_statuses = codes "0123456789ABCDE"

-- a trade or its correction, and a correction or a bust
abbrev is_trade : Test
is_trade = Is 150 (codes "FG")

abbrev is_of_another : Test
is_of_another = Is 150 (codes "GH")

-- ---- the tables, in the order of writing

-- EXECUTION REPORT (8)
abbrev pub execution_report : List (Item Kind)
execution_report =
    required 37 Id ∷  -- OrderID
    optional 198 Id ∷  -- SecondaryOrderID
    optional 11 Id ∷  -- ClOrdID
    optional 41 Id ∷  -- OrigClOrdID
    Lines parties ∷
    Party 3 ∷  -- ClientID of FIX 4.2
    Party 1 ∷  -- ExecBroker of FIX 4.2
    Party 4 ∷  -- ClearingFirm of FIX 4.2
    Lines contras ∷
    required 17 Id ∷  -- ExecID
    where_is is_of_another 19 Id ∷  -- ExecRefID
    required 150 (Known exec_types) ∷  -- ExecType
    required 39 (Known ord_statuses) ∷  -- OrdStatus
    optional 103 Reason ∷  -- OrdRejReason
    optional 378 Reason ∷  -- ExecRestatementReason
    optional 1 Id ∷  -- Account
    lenient 63 (Code (codes "0123456789")) ∷  -- SettlType
    optional 64 Day ∷  -- SettlDate
    required 55 Id ∷  -- Symbol
    optional 65 Id ∷  -- SymbolSfx
    optional 48 Id ∷  -- SecurityID
    lenient 22 (Code (codes "123456789")) ∷  -- SecurityIDSource
    -- SecurityType
    lenient 167 (Word (codes "CS" ∷ codes "PS" ∷ codes "FUT" ∷ [])) ∷
    beside 200 (MonthBeside 541) ∷  -- MaturityMonthYear
    optional 541 Day ∷  -- MaturityDate
    optional 207 Id ∷  -- SecurityExchange
    required 54 (Code (codes "123456")) ∷  -- Side
    optional 38 Qty ∷  -- OrderQty
    lenient 40 (Code (codes "1234")) ∷  -- OrdType
    optional 44 Price ∷  -- Price
    optional 99 Price ∷  -- StopPx
    optional 15 Currency ∷  -- Currency
    beside 59 (TimeBeside 40) ∷  -- TimeInForce
    optional 432 Day ∷  -- ExpireDate
    optional 126 FineStamp ∷  -- ExpireTime
    lenient 528 (Code (codes "AIP")) ∷  -- OrderCapacity
    where_is is_trade 32 Qty ∷  -- LastQty
    where_is is_trade 31 Price ∷  -- LastPx
    optional 30 Id ∷  -- LastMkt
    required 151 Qty ∷  -- LeavesQty
    required 14 Qty ∷  -- CumQty
    required 6 Price ∷  -- AvgPx
    optional 75 Day ∷  -- TradeDate
    optional 60 FineStamp ∷  -- TransactTime
    optional 110 Qty ∷  -- MinQty
    optional 1138 Qty ∷  -- DisplayQty
    optional 58 Text ∷  -- Text
    []

-- ORDER CANCEL REJECT (9)
abbrev pub cancel_reject : List (Item Kind)
cancel_reject =
    required 37 Id ∷  -- OrderID
    optional 198 Id ∷  -- SecondaryOrderID
    required 11 Id ∷  -- ClOrdID
    optional 41 Id ∷  -- OrigClOrdID
    required 39 (Known ord_statuses) ∷  -- OrdStatus
    optional 1 Id ∷  -- Account
    optional 60 FineStamp ∷  -- TransactTime
    required 434 (Known (codes "12")) ∷  -- CxlRejResponseTo
    optional 102 Reason ∷  -- CxlRejReason
    optional 58 Text ∷  -- Text
    []

-- REJECT (3)
abbrev pub session_reject : List (Item Kind)
session_reject =
    required 45 Number ∷  -- RefSeqNum
    optional 371 Number ∷  -- RefTagID
    optional 372 Id ∷  -- RefMsgType
    optional 373 Number ∷  -- SessionRejectReason
    optional 58 Text ∷  -- Text
    []

-- BUSINESS MESSAGE REJECT (j)
abbrev pub business_reject : List (Item Kind)
business_reject =
    optional 45 Number ∷  -- RefSeqNum
    required 372 Id ∷  -- RefMsgType
    optional 379 Id ∷  -- BusinessRejectRefID
    required 380 Number ∷  -- BusinessRejectReason
    optional 58 Text ∷  -- Text
    []
