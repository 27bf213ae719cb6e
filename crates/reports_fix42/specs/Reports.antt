-- Standard: FIX 4.2, Execution Report (8), Order Cancel Reject (9), Reject (3), Business Message
-- Reject (j), and Field Definitions: their fields, and the values of these. Own: which of their
-- fields are in the profile, and the order in which they are written.
use Rattle.std.specs.Prelude.{ℕ, List, [], ◌∷◌, codes}
use Rattle.message_tables.specs.Tables.{Condition, Is, Required, Optional, When}
use Rattle.message_tables.specs.Tables.{RepeatingGroup, Item, One, Lines}
use Rattle.value_kinds.specs.ValueKind.{ValueKind, Id, Code, Word, Text, Currency, Number, Reason}
use Rattle.value_kinds.specs.ValueKind.{Qty, Price, Stamp, Day, MonthYear}
use Rattle.row_values.specs.Kinds.{Kind, DayOf, row}
use Rattle.row_values.specs.Contras.{contra_rows}
use Rattle.rows_fix42.specs.Header.{has_day}

abbrev required : ℕ → ValueKind → Item Kind
required tag kind = One (row Required tag kind)

abbrev optional : ℕ → ValueKind → Item Kind
optional tag kind = One (row Optional tag kind)

abbrev needed : Condition → ℕ → ValueKind → Item Kind
needed condition tag kind = One (row (When condition) tag kind)

-- ExecTransType (20): 1 Cancel, 2 Correct; each of these is about an execution told of before
abbrev pub is_about_another : Condition
is_about_another = (Is 20 (codes "12") ∷ []) ∷ []

-- a trade is new, 20=0, with ExecType (150) 1 Partial fill or 2 Fill; or it is a correction, 20=2
abbrev pub is_execution : Condition
is_execution = (Is 20 (codes "0") ∷ Is 150 (codes "12") ∷ []) ∷ (Is 20 (codes "2") ∷ []) ∷ []

-- the brokers on the other side of a trade; no tag that says nothing stands in their lines
abbrev pub contras : RepeatingGroup Kind
contras = record {
  count = 382;  -- NoContraBrokers
  rows = contra_rows Stamp;
  skipped = [];
}

-- Execution Report (8)
abbrev pub execution_report : List (Item Kind)
execution_report =
    required 37 Id ∷  -- OrderID
    optional 198 Id ∷  -- SecondaryOrderID
    optional 11 Id ∷  -- ClOrdID
    optional 41 Id ∷  -- OrigClOrdID
    optional 109 Id ∷  -- ClientID
    optional 76 Id ∷  -- ExecBroker
    optional 439 Id ∷  -- ClearingFirm
    Lines contras ∷
    required 17 Id ∷  -- ExecID
    required 20 (Code (codes "0123")) ∷  -- ExecTransType
    needed is_about_another 19 Id ∷  -- ExecRefID
    required 150 (Code (codes "0123456789ABCDE")) ∷  -- ExecType
    required 39 (Code (codes "0123456789ABCDE")) ∷  -- OrdStatus
    optional 103 Reason ∷  -- OrdRejReason
    optional 378 Reason ∷  -- ExecRestatementReason
    optional 1 Id ∷  -- Account
    optional 63 (Code (codes "0123456789")) ∷  -- SettlmntTyp
    optional 64 Day ∷  -- FutSettDate
    required 55 Id ∷  -- Symbol
    optional 65 Id ∷  -- SymbolSfx
    optional 48 Id ∷  -- SecurityID
    optional 22 (Code (codes "123456789")) ∷  -- IDSource
    optional 167 (Word (codes "CS" ∷ codes "PS" ∷ codes "FUT" ∷ [])) ∷  -- SecurityType
    needed has_day 200 MonthYear ∷  -- MaturityMonthYear
    One (record { tag = 205; kind = DayOf 200; need = Optional }) ∷  -- MaturityDay
    optional 207 Id ∷  -- SecurityExchange
    required 54 (Code (codes "123456")) ∷  -- Side
    optional 38 Qty ∷  -- OrderQty
    optional 40 (Code (codes "12345B")) ∷  -- OrdType
    optional 44 Price ∷  -- Price
    optional 99 Price ∷  -- StopPx
    optional 15 Currency ∷  -- Currency
    optional 59 (Code (codes "0123456")) ∷  -- TimeInForce
    optional 432 Day ∷  -- ExpireDate
    optional 126 Stamp ∷  -- ExpireTime
    optional 47 (Code (codes "AIP")) ∷  -- Rule80A
    needed is_execution 32 Qty ∷  -- LastShares
    needed is_execution 31 Price ∷  -- LastPx
    optional 30 Id ∷  -- LastMkt
    required 151 Qty ∷  -- LeavesQty
    required 14 Qty ∷  -- CumQty
    required 6 Price ∷  -- AvgPx
    optional 75 Day ∷  -- TradeDate
    optional 60 Stamp ∷  -- TransactTime
    optional 110 Qty ∷  -- MinQty
    optional 111 Qty ∷  -- MaxFloor
    optional 58 Text ∷  -- Text
    []

-- Order Cancel Reject (9)
abbrev pub cancel_reject : List (Item Kind)
cancel_reject =
    required 37 Id ∷  -- OrderID
    optional 198 Id ∷  -- SecondaryOrderID
    required 11 Id ∷  -- ClOrdID
    required 41 Id ∷  -- OrigClOrdID
    required 39 (Code (codes "0123456789ABCDE")) ∷  -- OrdStatus
    optional 1 Id ∷  -- Account
    optional 60 Stamp ∷  -- TransactTime
    required 434 (Code (codes "12")) ∷  -- CxlRejResponseTo
    optional 102 Reason ∷  -- CxlRejReason
    optional 58 Text ∷  -- Text
    []

-- Reject (3)
abbrev pub session_reject : List (Item Kind)
session_reject =
    required 45 Number ∷  -- RefSeqNum
    optional 371 Number ∷  -- RefTagID
    optional 372 Id ∷  -- RefMsgType
    optional 373 Number ∷  -- SessionRejectReason
    optional 58 Text ∷  -- Text
    []

-- Business Message Reject (j)
abbrev pub business_reject : List (Item Kind)
business_reject =
    required 45 Number ∷  -- RefSeqNum
    required 372 Id ∷  -- RefMsgType
    optional 379 Id ∷  -- BusinessRejectRefID
    required 380 Number ∷  -- BusinessRejectReason
    optional 58 Text ∷  -- Text
    []
