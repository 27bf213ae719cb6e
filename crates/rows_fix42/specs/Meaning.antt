-- Standard: FIX 4.2, Field Definitions: what values that requests and reports have in common mean.
-- Own: 59=0 says the same as no TimeInForce, beside an order on close.
use Rattle.std.specs.Prelude.{ℕ, Option, Some, None, ◌==◌, ◌||◌, ◌&&◌, Bool, false}
use Rattle.std.specs.Prelude.{if◌then◌else◌}
use Rattle.std.specs.Option.{option_map}
use Rattle.message_tables.specs.Tables.{Said}
use Rattle.order_meaning.specs.Request.{OrderType, Market, Limit, Stop, StopLimit, MarketOnClose}
use Rattle.order_meaning.specs.Request.{LimitOnClose, NeutralMaturity}
use Rattle.value_kinds.specs.ValueKind.{number_of_two}

-- MaturityMonthYear(200) and MaturityDay(205)
abbrev pub maturity_of : Said → Said → Option NeutralMaturity
maturity_of month day =
    option_map (λ month. record { month = month; day = option_map number_of_two day }) month

-- OrdType(40): 1 Market, 2 Limit, 3 Stop, 4 Stop limit, 5 Market on close, B Limit on close
abbrev pub order_type_of : ℕ → Option OrderType
order_type_of code =
    if code == 49 then Some Market else
    (if code == 50 then Some Limit else
    (if code == 51 then Some Stop else
    (if code == 52 then Some StopLimit else
    (if code == 53 then Some MarketOnClose else
    (if code == 66 then Some LimitOnClose else None)))))

abbrev pub is_on_close : Option ℕ → Bool
is_on_close None = false
is_on_close (Some code) = code == 53 || code == 66

abbrev pub time_of : Bool → Option ℕ → Option ℕ
time_of on_close None = None
time_of on_close (Some time) = if on_close && (time == 48) then None else Some time
