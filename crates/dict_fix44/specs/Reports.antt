-- Standard: FIX 4.4, volume 4, Execution Report (8), Order Cancel Reject (9), Reject (3) and
-- Business Message Reject (j); and volume 6, the fields and their values. Own: which of their
-- fields count, when one is required, and the order of writing.
use Rattle.std.specs.Prelude.{ℕ, List, [], ◌∷◌, codes}
use Rattle.message_tables.specs.Tables.{Is, Required, Optional, When, RepeatingGroup, Item, One}
use Rattle.message_tables.specs.Tables.{Party, Lines}
use Rattle.value_kinds.specs.ValueKind.{ValueKind, Id, Code, Word, Text, Currency, Number, Reason}
use Rattle.value_kinds.specs.ValueKind.{Qty, Price, Stamp, Day}
use Rattle.row_values.specs.Kinds.{Kind, MonthBeside, TimeBeside, row}
use Rattle.row_values.specs.Groups.{parties}
use Rattle.row_values.specs.Contras.{contra_rows}

abbrev required : ℕ → ValueKind → Item Kind
required tag kind = One (row Required tag kind)

abbrev optional : ℕ → ValueKind → Item Kind
optional tag kind = One (row Optional tag kind)

abbrev beside : ℕ → Kind → Item Kind
beside tag kind = One (record { tag = tag; kind = kind; need = Optional })

-- a value that each report with one of these ExecTypes says
abbrev where_is : List ℕ → ℕ → ValueKind → Item Kind
where_is exec_types tag kind = One (row (When ((Is 150 exec_types ∷ []) ∷ [])) tag kind)

-- the brokers on the other side of a trade; ContraLegRefID is passed over
abbrev pub contras : RepeatingGroup Kind
contras = record {
  count = 382;  -- NoContraBrokers
  rows = contra_rows Stamp;
  skipped = 655 ∷ [];  -- ContraLegRefID
}

-- ExecType (150): 0 New, 3 Done for day, 4 Canceled, 5 Replaced, 6 Pending Cancel, 7 Stopped, 8
-- Rejected, 9 Suspended, A Pending New, B Calculated, C Expired, D Restated, E Pending Replace, F
-- Trade, G Trade Correct, H Trade Cancel, I Order Status
abbrev pub exec_types : List ℕ
exec_types = codes "03456789ABCDEFGHI"

-- OrdStatus (39): 0 New, 1 Partially filled, 2 Filled, 3 Done for day, 4 Canceled, 6 Pending
-- Cancel, 7 Stopped, 8 Rejected, 9 Suspended, A Pending New, B Calculated, C Expired, D Accepted
-- for bidding, E Pending Replace. An order that was replaced works on by its own status.
abbrev pub ord_statuses : List ℕ
ord_statuses = codes "012346789ABCDE"

-- EXECUTION REPORT (8)
abbrev pub execution_report : List (Item Kind)
execution_report =
    required 37 Id ∷  -- OrderID
    optional 198 Id ∷  -- SecondaryOrderID
    optional 11 Id ∷  -- ClOrdID
    optional 41 Id ∷  -- OrigClOrdID
    Lines parties ∷
    Party 3 ∷  -- Client ID
    Party 1 ∷  -- Executing Firm
    Party 4 ∷  -- Clearing Firm
    Lines contras ∷
    required 17 Id ∷  -- ExecID
    where_is (codes "GH") 19 Id ∷  -- ExecRefID
    required 150 (Code exec_types) ∷  -- ExecType
    required 39 (Code ord_statuses) ∷  -- OrdStatus
    optional 103 Reason ∷  -- OrdRejReason
    optional 378 Reason ∷  -- ExecRestatementReason
    optional 1 Id ∷  -- Account
    optional 63 (Code (codes "0123456789")) ∷  -- SettlType
    optional 64 Day ∷  -- SettlDate
    required 55 Id ∷  -- Symbol
    optional 65 Id ∷  -- SymbolSfx
    optional 48 Id ∷  -- SecurityID
    optional 22 (Code (codes "123456789")) ∷  -- SecurityIDSource
    optional 167 (Word (codes "CS" ∷ codes "PS" ∷ codes "FUT" ∷ [])) ∷  -- SecurityType
    beside 200 (MonthBeside 541) ∷  -- MaturityMonthYear
    optional 541 Day ∷  -- MaturityDate
    optional 207 Id ∷  -- SecurityExchange
    required 54 (Code (codes "123456")) ∷  -- Side
    optional 38 Qty ∷  -- OrderQty
    optional 40 (Code (codes "1234")) ∷  -- OrdType
    optional 44 Price ∷  -- Price
    optional 99 Price ∷  -- StopPx
    optional 15 Currency ∷  -- Currency
    beside 59 (TimeBeside 40) ∷  -- TimeInForce
    optional 432 Day ∷  -- ExpireDate
    optional 126 Stamp ∷  -- ExpireTime
    optional 528 (Code (codes "AIP")) ∷  -- OrderCapacity
    where_is (codes "FG") 32 Qty ∷  -- LastQty
    where_is (codes "FG") 31 Price ∷  -- LastPx
    optional 30 Id ∷  -- LastMkt
    required 151 Qty ∷  -- LeavesQty
    required 14 Qty ∷  -- CumQty
    required 6 Price ∷  -- AvgPx
    optional 75 Day ∷  -- TradeDate
    optional 60 Stamp ∷  -- TransactTime
    optional 110 Qty ∷  -- MinQty
    optional 111 Qty ∷  -- MaxFloor
    optional 58 Text ∷  -- Text
    []

-- ORDER CANCEL REJECT (9)
abbrev pub cancel_reject : List (Item Kind)
cancel_reject =
    required 37 Id ∷  -- OrderID
    optional 198 Id ∷  -- SecondaryOrderID
    required 11 Id ∷  -- ClOrdID
    required 41 Id ∷  -- OrigClOrdID
    required 39 (Code ord_statuses) ∷  -- OrdStatus
    optional 1 Id ∷  -- Account
    optional 60 Stamp ∷  -- TransactTime
    required 434 (Code (codes "12")) ∷  -- CxlRejResponseTo
    optional 102 Reason ∷  -- CxlRejReason
    optional 58 Text ∷  -- Text
    []

-- REJECT (3)
abbrev pub session_reject : List (Item Kind)
session_reject =
    required 45 Number ∷  -- RefSeqNum
    optional 371 Number ∷  -- RefTagID
    optional 372 Id ∷  -- RefMsgType
    optional 373 Number ∷  -- SessionRejectReason
    optional 58 Text ∷  -- Text
    []

-- BUSINESS MESSAGE REJECT (j)
abbrev pub business_reject : List (Item Kind)
business_reject =
    optional 45 Number ∷  -- RefSeqNum
    required 372 Id ∷  -- RefMsgType
    optional 379 Id ∷  -- BusinessRejectRefID
    required 380 Number ∷  -- BusinessRejectReason
    optional 58 Text ∷  -- Text
    []
