-- Standard: FIX 4.2, New Order - Single (D), Order Cancel Request (F), Order Cancel/Replace Request
-- (G) and Order Status Request (H). Own: which of their fields and values count, and the order of
-- writing.
use Rattle.std.specs.Prelude.{ℕ, List, [], ◌∷◌, codes}
use Rattle.message_tables.specs.Tables.{Condition, Optional, When, Item, Table}
use Rattle.value_kinds.specs.ValueKind.{ValueKind, Flag, OneByte, Id, Code, Codes, Word, Text}
use Rattle.value_kinds.specs.ValueKind.{Currency, Qty, Price, Stamp, Day, MonthYear}
use Rattle.order_meaning.specs.Request.{RequestKind, New, Cancel, Replace, Status}
use Rattle.row_values.specs.Asked.{letter_of}
use Rattle.row_values.specs.Kinds.{Kind, Value, DayOf}
use Rattle.row_values.specs.Groups.{allocs, sessions}
use Rattle.row_values.specs.Columns.{Column, R, O, N, Line, line, field, value, lines}
use Rattle.row_values.specs.Columns.{of_d, of_f, of_g, of_h}
use Rattle.rows_fix42.specs.Header.{has_day, table}

-- a code or word, which is a fault where it is outside the profile
abbrev code : ℕ → List ℕ → Column → Column → Column → Column → Line
code tag listed = line (field Optional tag (Value (Code listed)))

abbrev words : ℕ → List (List ℕ) → Column → Column → Column → Column → Line
words tag listed = line (field Optional tag (Value (Word listed)))

abbrev special : ℕ → Kind → Column → Column → Column → Column → Line
special tag kind = line (field Optional tag kind)

abbrev needed : Condition → ℕ → ValueKind → Column → Column → Column → Column → Line
needed condition tag kind = line (field (When condition) tag (Value kind))

-- THE TABLE OF REQUESTS, in the order of writing; the columns are D, F, G and H
abbrev pub requests : List Line
requests =
    value 11 Id R R R R ∷  -- ClOrdID
    value 41 Id N R R N ∷  -- OrigClOrdID
    value 37 Id N O O O ∷  -- OrderID
    value 109 Id O O O O ∷  -- ClientID
    value 76 Id O O O O ∷  -- ExecBroker
    value 439 Id O N O N ∷  -- ClearingFirm
    value 1 Id O O O O ∷  -- Account
    lines allocs O N O N ∷
    code 63 (codes "0123456789") O N O N ∷  -- SettlmntTyp
    value 64 Day O N O N ∷  -- FutSettDate
    code 21 (codes "123") R N R N ∷  -- HandlInst
    special 18 (Value (Codes (codes "123456G"))) O N O N ∷  -- ExecInst
    value 110 Qty O N O N ∷  -- MinQty
    value 111 Qty O N O N ∷  -- MaxFloor
    value 100 Id O N O N ∷  -- ExDestination
    lines sessions O N O N ∷
    value 55 Id R R R R ∷  -- Symbol
    value 65 Id O O O O ∷  -- SymbolSfx
    value 48 Id O O O O ∷  -- SecurityID
    code 22 (codes "123456789") O O O O ∷  -- IDSource
    words 167 (codes "CS" ∷ codes "PS" ∷ codes "FUT" ∷ []) O O O O ∷  -- SecurityType
    needed has_day 200 MonthYear O O O O ∷  -- MaturityMonthYear
    special 205 (DayOf 200) O O O O ∷  -- MaturityDay
    value 207 Id O O O O ∷  -- SecurityExchange
    code 54 (codes "123456") R R R R ∷  -- Side
    value 114 Flag O N O N ∷  -- LocateReqd
    value 60 Stamp R R R N ∷  -- TransactTime
    value 38 Qty R O R N ∷  -- OrderQty
    code 40 (codes "12345B") R N R N ∷  -- OrdType
    value 44 Price O N O N ∷  -- Price
    value 99 Price O N O N ∷  -- StopPx
    value 15 Currency O N O N ∷  -- Currency
    code 59 (codes "0123456") O N O N ∷  -- TimeInForce
    value 168 Stamp O N O N ∷  -- EffectiveTime
    value 432 Day O N O N ∷  -- ExpireDate
    value 126 Stamp O N O N ∷  -- ExpireTime
    value 47 OneByte O N O N ∷  -- Rule80A
    code 77 (codes "OC") O N O N ∷  -- OpenClose
    value 58 Text O O O N ∷  -- Text
    []

-- the items of each message, in the order of writing
abbrev pub new_order : List (Item Kind)
new_order = of_d requests

abbrev pub cancel_request : List (Item Kind)
cancel_request = of_f requests

abbrev pub replace_request : List (Item Kind)
replace_request = of_g requests

abbrev pub status_request : List (Item Kind)
status_request = of_h requests

-- and of what is asked for
abbrev pub items42 : RequestKind → List (Item Kind)
items42 New = new_order
items42 Cancel = cancel_request
items42 Replace = replace_request
items42 Status = status_request

-- THE TABLE of what is asked for
abbrev pub asked42 : RequestKind → Table Kind
asked42 kind = table (letter_of kind) (items42 kind)
