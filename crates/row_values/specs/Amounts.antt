-- Standard: FIX 4.2 and FIX 5.0 SP2, volume 6: the amounts and the numbers that messages say, and
-- what a line of a group means.
use Rattle.std.specs.Prelude.{ℕ, List, pos, unwrap_or}
use Rattle.std.specs.declared.option.Option.{Option}
use Rattle.std.specs.Option.{option_map}
use Rattle.field_groups.specs.HeadValues.{number_in}
use Rattle.message_tables.specs.Tables.{Tag, Cell, ◌>>=◌, said_at, text_in}
use Rattle.order_meaning.specs.declared.Amount.{Amount}
use Rattle.order_meaning.specs.Report.{NeutralContra}
use Rattle.order_meaning.specs.Request.{NeutralAlloc, NeutralSession}
use Rattle.value_kinds.specs.ValueKind.{units_of_text}

abbrev pub amount_of : List ℕ → Option Amount
amount_of text = option_map (λ units. record { units = units }) (units_of_text text)

-- the amount that is said at a tag, if one is
abbrev pub amount_if : List Cell → ℕ → Option Amount
amount_if cells tag = said_at cells (Tag tag) >>= amount_of

-- the amount at a tag whose row is required
abbrev pub amount_in : List Cell → ℕ → Amount
amount_in cells tag = unwrap_or (amount_if cells tag) (record { units = pos 0 })

-- the number that is said at a tag, if one is
abbrev pub number_if : List Cell → ℕ → Option ℕ
number_if cells tag = said_at cells (Tag tag) >>= number_in

-- a line of accounts: AllocAccount (79), and AllocShares (80) of FIX 4.2, AllocQty (80) of FIX 5.0
-- SP2
abbrev pub alloc_of : List Cell → NeutralAlloc
alloc_of line = record { account = text_in line 79; qty = amount_if line 80 }

-- a line of sessions: TradingSessionID (336)
abbrev pub session_of : List Cell → NeutralSession
session_of line = record { id = text_in line 336 }

-- a line of contra brokers: ContraBroker (375), ContraTrader (337), ContraTradeQty (437) and
-- ContraTradeTime (438)
abbrev pub contra_of : List Cell → NeutralContra
contra_of line = record {
  broker = text_in line 375;
  trader = said_at line (Tag 337);
  qty = amount_if line 437;
  time = said_at line (Tag 438);
}
