-- Own: what the lines of an order's groups say, and what maturities say; and those whose values can
-- be read.
use Rattle.std.specs.Prelude.{◌≡◌, ℕ, ◌≤◌, List, [], ◌∷◌, ◌++◌, codes, Option, Some, unwrap_or}
use Rattle.std.specs.Prelude.{IfSome}
use Rattle.std.specs.Option.{option_map}
use Rattle.std.specs.List.{AllByRecursion}
use Rattle.std.specs.Fmt.{decimal}
use Rattle.typed_fields.specs.Dec.{dec_text, IsDec}
use Rattle.typed_fields.specs.Digits.{zero_padded}
use Rattle.typed_fields.specs.MonthYear.{month_year_text, IsMonthYear}
use Rattle.field_groups.specs.Field.{Field}
use Rattle.message_tables.specs.Tables.{Tag, Cell}
use Rattle.order_meaning.specs.declared.party.PartyLine.{PartyLine}
use Rattle.row_values.specs.declared.lines.AllocLine.{AllocLine}
use Rattle.row_values.specs.declared.lines.SessionLine.{SessionLine}
use Rattle.row_values.specs.declared.lines.Maturity.{Maturity}
use Rattle.value_kinds.specs.ValueKind.{Id, Qty, Number, two_digit_text}
use Rattle.row_values.specs.Kinds.{Value, said}

-- ---- what is said

-- a maturity: its month; the day of the month, where there is one; and with it the date
abbrev pub month_text : Maturity → List ℕ
month_text maturity = month_year_text maturity.month

abbrev pub month_day_text : Maturity → Option (List ℕ)
month_day_text maturity = option_map two_digit_text maturity.day

abbrev pub date_text : Maturity → Option (List ℕ)
date_text maturity = option_map (λ day. month_text maturity ++ zero_padded 2 day) maturity.day

-- a party's PartyID, PartyIDSource (447) D, proprietary, and PartyRole
abbrev pub party_cells : PartyLine → List Cell
party_cells line =
    (Tag 448, Some line.id) ∷ (Tag 447, Some (codes "D")) ∷ (Tag 452, Some (decimal line.role)) ∷ []

-- AllocAccount, and the shares or quantity
abbrev pub alloc_cells : AllocLine → List Cell
alloc_cells line = (Tag 79, Some line.account) ∷ (Tag 80, option_map dec_text line.qty) ∷ []

-- TradingSessionID
abbrev pub session_cells : SessionLine → List Cell
session_cells line = (Tag 336, Some line.id) ∷ []

-- ---- lines that say what the fields of their group say

pub record IsParty (fields : List Field) (line : PartyLine) : Type 0 where
  pub id : line.id ≡ unwrap_or (said fields 448 (Value Id)) []
  pub role : IfSome (said fields 452 (Value Number)) (λ text. text ≡ decimal line.role)
  pub bound : line.role ≤ 1_000_000_000

pub record IsAlloc (fields : List Field) (line : AllocLine) : Type 0 where
  pub account : line.account ≡ unwrap_or (said fields 79 (Value Id)) []
  pub qty : option_map dec_text line.qty ≡ said fields 80 (Value Qty)
  pub bound : IfSome line.qty IsDec

pub record IsSession (fields : List Field) (line : SessionLine) : Type 0 where
  pub id : line.id ≡ unwrap_or (said fields 336 (Value Id)) []

-- ---- what can be read, and so written

abbrev pub IsReadableMaturity : Maturity → Type 0
IsReadableMaturity maturity = IsMonthYear maturity.month

abbrev pub AreReadableParties : List PartyLine → Type 0
AreReadableParties lines = AllByRecursion (λ line. line.role ≤ 1_000_000_000) lines

abbrev pub AreReadableAllocs : List AllocLine → Type 0
AreReadableAllocs lines = AllByRecursion (λ line. IfSome line.qty IsDec) lines
