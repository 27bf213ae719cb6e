-- Standard: FIX 4.4, volume 4, New Order - Single (D), Order Cancel Request (F), Order
-- Cancel/Replace Request (G) and Order Status Request (H). Own: which of their fields and values
-- count, and the order of writing.
use Rattle.std.specs.Prelude.{ℕ, List, [], ◌∷◌, codes}
use Rattle.message_tables.specs.Tables.{Optional, Item, Table}
use Rattle.order_meaning.specs.Request.{RequestKind, New, Cancel, Replace, Status}
use Rattle.value_kinds.specs.ValueKind.{Flag, Id, OneByte, Code, Codes, Word, Text, Currency, Qty}
use Rattle.value_kinds.specs.ValueKind.{Price, Stamp, Day}
use Rattle.row_values.specs.Asked.{letter_of}
use Rattle.row_values.specs.Kinds.{Kind, MonthBeside}
use Rattle.row_values.specs.Groups.{parties, allocs, sessions}
use Rattle.row_values.specs.Columns.{Column, R, O, N, Line, line, field, value, party, lines}
use Rattle.row_values.specs.Columns.{of_d, of_f, of_g, of_h}
use Rattle.rows_fix42.specs.Header.{table}

abbrev special : ℕ → Kind → Column → Column → Column → Column → Line
special tag kind = line (field Optional tag kind)

-- THE TABLE OF REQUESTS, in the order of writing; the columns are D, F, G and H
abbrev pub requests : List Line
requests =
    value 11 Id R R R R ∷  -- ClOrdID
    value 41 Id N R R N ∷  -- OrigClOrdID
    value 37 Id N O O O ∷  -- OrderID
    lines parties O O O O ∷
    party 3 O O O O ∷  -- Client ID
    party 1 O O O O ∷  -- Executing Firm
    party 4 O N O N ∷  -- Clearing Firm
    value 1 Id O O O O ∷  -- Account
    lines allocs O N O N ∷
    value 63 (Code (codes "0123456789")) O N O N ∷  -- SettlType
    value 64 Day O N O N ∷  -- SettlDate
    value 21 (Code (codes "123")) O N O N ∷  -- HandlInst
    value 18 (Codes (codes "123456G")) O N O N ∷  -- ExecInst
    value 110 Qty O N O N ∷  -- MinQty
    value 111 Qty O N O N ∷  -- MaxFloor
    value 100 Id O N O N ∷  -- ExDestination
    lines sessions O N O N ∷
    value 55 Id R R R R ∷  -- Symbol
    value 65 Id O O O O ∷  -- SymbolSfx
    value 48 Id O O O O ∷  -- SecurityID
    value 22 (Code (codes "123456789")) O O O O ∷  -- SecurityIDSource
    value 167 (Word (codes "CS" ∷ codes "PS" ∷ codes "FUT" ∷ [])) O O O O ∷  -- SecurityType
    special 200 (MonthBeside 541) O O O O ∷  -- MaturityMonthYear
    value 541 Day O O O O ∷  -- MaturityDate
    value 207 Id O O O O ∷  -- SecurityExchange
    value 54 (Code (codes "123456")) R R R R ∷  -- Side
    value 114 Flag O N O N ∷  -- LocateReqd
    value 60 Stamp R R R N ∷  -- TransactTime
    value 38 Qty R O R N ∷  -- OrderQty
    value 40 (Code (codes "12345B")) R N R N ∷  -- OrdType
    value 44 Price O N O N ∷  -- Price
    value 99 Price O N O N ∷  -- StopPx
    value 15 Currency O N O N ∷  -- Currency
    value 59 (Code (codes "01234567")) O N O N ∷  -- TimeInForce
    value 168 Stamp O N O N ∷  -- EffectiveTime
    value 432 Day O N O N ∷  -- ExpireDate
    value 126 Stamp O N O N ∷  -- ExpireTime
    value 528 OneByte O N O N ∷  -- OrderCapacity
    value 77 (Code (codes "OC")) O N O N ∷  -- PositionEffect
    value 58 Text O O O N ∷  -- Text
    []

-- the items of each message, in the order of writing
abbrev pub new_order : List (Item Kind)
new_order = of_d requests

abbrev pub cancel_request : List (Item Kind)
cancel_request = of_f requests

abbrev pub replace_request : List (Item Kind)
replace_request = of_g requests

abbrev pub status_request : List (Item Kind)
status_request = of_h requests

-- and of what is asked for
abbrev pub items44 : RequestKind → List (Item Kind)
items44 New = new_order
items44 Cancel = cancel_request
items44 Replace = replace_request
items44 Status = status_request

-- THE TABLE of what is asked for. The fields of the header that count are those of FIX 4.2.
abbrev pub asked44 : RequestKind → Table Kind
asked44 kind = table (letter_of kind) (items44 kind)
