-- Standard: FIX 4.2, Execution Report (8), NoContraBrokers (382); FIX 5.0 SP2, the component
-- ContraGrp. Own: which of their fields count.
use Rattle.std.specs.Prelude.{◌≡◌, List, [], ◌∷◌, Some, unwrap_or, IfSome}
use Rattle.std.specs.Option.{option_map}
use Rattle.std.specs.List.{AllByRecursion, AllZip}
use Rattle.typed_fields.specs.Dec.{dec_text, IsDec}
use Rattle.typed_fields.specs.Stamp.{stamp_text, IsStamp}
use Rattle.field_groups.specs.Field.{Field}
use Rattle.message_tables.specs.Tables.{Required, Optional, RepeatingGroup, Row, Tag, Cell}
use Rattle.message_tables.specs.Tables.{lines_in}
use Rattle.message_tables.specs.Tables.{tags_in}
use Rattle.row_values.specs.declared.contras.ContraLine.{ContraLine}
use Rattle.value_kinds.specs.ValueKind.{ValueKind, Id, Qty, FineStamp}
use Rattle.row_values.specs.Kinds.{Kind, Value, row, said}

-- a line of the brokers on the other side of a trade, with a time of this kind
abbrev pub contra_rows : ValueKind → List (Row Kind)
contra_rows time =
    row Required 375 Id ∷  -- ContraBroker
    row Optional 337 Id ∷  -- ContraTrader
    row Optional 437 Qty ∷  -- ContraTradeQty
    row Optional 438 time ∷  -- ContraTradeTime
    []

-- these brokers in FIX 5.0 SP2; ContraLegRefID is passed over
abbrev pub contras : RepeatingGroup Kind
contras = record {
  count = 382;  -- NoContraBrokers
  rows = contra_rows FineStamp;
  skipped = 655 ∷ [];  -- ContraLegRefID
}

-- what a line says
abbrev pub contra_cells : ContraLine → List Cell
contra_cells line =
    (Tag 375, Some line.broker) ∷ (Tag 337, line.trader) ∷ (Tag 437, option_map dec_text line.qty)
    ∷ (Tag 438, option_map stamp_text line.time) ∷ []

-- a line whose values can be read, and so written
pub record IsReadableContra (line : ContraLine) : Type 0 where
  pub qty : IfSome line.qty IsDec
  pub time : IfSome line.time IsStamp

abbrev pub AreReadableContras : List ContraLine → Type 0
AreReadableContras lines = AllByRecursion IsReadableContra lines

-- a line that says what its fields say, in either version: a moment of FIX 4.2 is a fine one, too
pub record IsContra (fields : List Field) (line : ContraLine) : Type 0 where
  pub broker : line.broker ≡ unwrap_or (said fields 375 (Value Id)) []
  pub trader : line.trader ≡ said fields 337 (Value Id)
  pub qty : option_map dec_text line.qty ≡ said fields 437 (Value Qty)
  pub time : option_map stamp_text line.time ≡ said fields 438 (Value FineStamp)
  pub readable : IsReadableContra line

-- lines that say what the fields of their group say
abbrev pub AreContras : List Field → List ContraLine → Type 0
AreContras fields lines = AllZip IsContra (lines_in (tags_in contras) fields) lines
