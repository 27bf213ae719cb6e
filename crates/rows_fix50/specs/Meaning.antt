-- Standard: FIX 5.0 SP2, volume 6: what values that requests and reports have in common mean.
use Rattle.std.specs.Prelude.{ℕ, List, drop, Option, Some, None, ◌==◌}
use Rattle.std.specs.Prelude.{if◌then◌else◌}
use Rattle.std.specs.Option.{option_map}
use Rattle.std.specs.List.{find}
use Rattle.std.specs.Str.Parse.{digits_value}
use Rattle.message_tables.specs.Tables.{Said}
use Rattle.order_meaning.specs.declared.party.PartyLine.{PartyLine}
use Rattle.order_meaning.specs.Request.{OrderType, Market, Limit, Stop, StopLimit, MarketOnClose}
use Rattle.order_meaning.specs.Request.{LimitOnClose, NeutralMaturity}

-- OrdType and TimeInForce: market and limit at the close (7) are order types of their own.
abbrev plain_type : ℕ → Option OrderType
plain_type code =
    if code == 49 then Some Market else (if code == 50 then Some Limit else
    (if code == 51 then Some Stop else (if code == 52 then Some StopLimit else None)))

abbrev close_type : ℕ → Option OrderType
close_type code =
    if code == 49 then Some MarketOnClose else (if code == 50 then Some LimitOnClose else None)

abbrev pub terms_of : Option ℕ → Option ℕ → Option OrderType × Option ℕ
terms_of None time = (None, time)
terms_of (Some code) None = (plain_type code, None)
terms_of (Some code) (Some time) =
    if time == 55 then (close_type code, None) else (plain_type code, Some time)

-- the last two digits of YYYYMMDD
abbrev pub day_of : List ℕ → ℕ
day_of date = digits_value 10 (drop 6 date)

abbrev pub maturity_of : Said → Said → Option NeutralMaturity
maturity_of None date = None
maturity_of (Some month) date = Some (record { month = month; day = option_map day_of date })

-- the id of the first party of a role
abbrev pub id_of : ℕ → List PartyLine → Said
id_of role lines = option_map (λ line. line.id) (find (λ line. line.role == role) lines)
