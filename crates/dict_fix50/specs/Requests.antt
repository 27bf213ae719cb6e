-- Standard: FIX 5.0 SP2, volume 4, New Order - Single (D), Order Cancel Request (F), Order
-- Cancel/Replace Request (G) and Order Status Request (H). Own: which of their fields and values
-- count.
use Rattle.std.specs.Prelude.{ℕ, List, [], ◌∷◌, codes}
use Rattle.message_tables.specs.Tables.{Lenient, Item, Table}
use Rattle.value_kinds.specs.ValueKind.{Flag, Id, Code, Codes, Word, Text, Currency, Qty, Price}
use Rattle.value_kinds.specs.ValueKind.{FineStamp, Day}
use Rattle.order_meaning.specs.Request.{RequestKind, New, Cancel, Replace, Status}
use Rattle.row_values.specs.Asked.{letter_of}
use Rattle.row_values.specs.Kinds.{Kind, Value, Byte, MonthBeside, TimeBeside}
use Rattle.row_values.specs.Groups.{parties, allocs, sessions}
use Rattle.row_values.specs.Columns.{Column, R, O, N, Line, line, field, value, party, lines}
use Rattle.row_values.specs.Columns.{of_d, of_f, of_g, of_h}
use Rattle.rows_fix50.specs.Header.{table}

-- a value that is dropped where it is outside the profile and not required
abbrev code : ℕ → List ℕ → Column → Column → Column → Column → Line
code tag listed = line (field Lenient tag (Value (Code listed)))

abbrev special : ℕ → Kind → Column → Column → Column → Column → Line
special tag kind = line (field Lenient tag kind)

-- THE TABLE OF REQUESTS, in the order of writing; the columns are D, F, G and H
abbrev pub requests : List Line
requests =
    value 11 Id R R R R ∷  -- ClOrdID
    value 41 Id N R R N ∷  -- OrigClOrdID
    value 37 Id N O O O ∷  -- OrderID
    lines parties O O O O ∷
    party 3 O O O O ∷  -- ClientID of FIX 4.2
    party 1 O O O O ∷  -- ExecBroker of FIX 4.2
    party 4 O N O N ∷  -- ClearingFirm of FIX 4.2
    value 1 Id O O O O ∷  -- Account
    lines allocs O N O N ∷
    code 63 (codes "0123456789") O N O N ∷  -- SettlType
    value 64 Day O N O N ∷  -- SettlDate
    code 21 (codes "123") R N R N ∷  -- HandlInst
    special 18 (Value (Codes (codes "123456G"))) O N O N ∷  -- ExecInst
    value 110 Qty O N O N ∷  -- MinQty
    value 1138 Qty O N O N ∷  -- DisplayQty
    value 100 Id O N O N ∷  -- ExDestination
    lines sessions O N O N ∷
    value 55 Id R R R R ∷  -- Symbol
    value 65 Id O O O O ∷  -- SymbolSfx
    value 48 Id O O O O ∷  -- SecurityID
    code 22 (codes "123456789") O O O O ∷  -- SecurityIDSource
    -- SecurityType
    special 167 (Value (Word (codes "CS" ∷ codes "PS" ∷ codes "FUT" ∷ []))) O O O O ∷
    special 200 (MonthBeside 541) O O O O ∷  -- MaturityMonthYear
    value 541 Day O O O O ∷  -- MaturityDate
    value 207 Id O O O O ∷  -- SecurityExchange
    code 54 (codes "123456") R R R R ∷  -- Side
    value 114 Flag O N O N ∷  -- LocateReqd
    value 60 FineStamp R R R N ∷  -- TransactTime
    value 38 Qty R O R N ∷  -- OrderQty
    code 40 (codes "1234") R N R N ∷  -- OrdType
    value 44 Price O N O N ∷  -- Price
    value 99 Price O N O N ∷  -- StopPx
    value 15 Currency O N O N ∷  -- Currency
    special 59 (TimeBeside 40) O N O N ∷  -- TimeInForce
    value 168 FineStamp O N O N ∷  -- EffectiveTime
    value 432 Day O N O N ∷  -- ExpireDate
    value 126 FineStamp O N O N ∷  -- ExpireTime
    special 528 (Byte (codes "AIP")) O N O N ∷  -- OrderCapacity
    code 77 (codes "OC") O N O N ∷  -- PositionEffect
    value 58 Text O O O N ∷  -- Text
    []

-- the items of each message, in the order of writing
abbrev pub new_order : List (Item Kind)
new_order = of_d requests

abbrev pub cancel_request : List (Item Kind)
cancel_request = of_f requests

abbrev pub replace_request : List (Item Kind)
replace_request = of_g requests

abbrev pub status_request : List (Item Kind)
status_request = of_h requests

-- and of what is asked for
abbrev pub items50 : RequestKind → List (Item Kind)
items50 New = new_order
items50 Cancel = cancel_request
items50 Replace = replace_request
items50 Status = status_request

-- THE TABLE of what is asked for
abbrev pub asked50 : RequestKind → Table Kind
asked50 kind = table (letter_of kind) (items50 kind)
