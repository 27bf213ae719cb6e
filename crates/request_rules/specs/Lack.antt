-- Standard: FIX 4.2 and FIX 5.0 SP2, OrdType(40), TimeInForce(59), Rule80A(47), OrderCapacity(528).
-- Own: of OrderCapacity only A (agency), I (individual) and P (principal) are in the profile.
use Rattle.std.specs.Prelude.{ℕ, Bool, true, false, not, codes, Option, Some, None, if◌then◌else◌}
use Rattle.message_tables.specs.Tables.{Message, ◌>>=◌, is_one_of}
use Rattle.order_meaning.specs.Request.{Request, OrderType, MarketOnClose, LimitOnClose}
use Rattle.dict_fix42.specs.Sense.{request42}

-- An order on close with a TimeInForce: FIX 5.0 SP2 says by TimeInForce itself that it is on close.
abbrev pub lacks_time : Option OrderType → Option ℕ → Bool
lacks_time (Some MarketOnClose) (Some time) = true
lacks_time (Some LimitOnClose) (Some time) = true
lacks_time ord_type time = false

-- a capacity that OrderCapacity does not have
abbrev pub lacks_capacity : Option ℕ → Bool
lacks_capacity None = false
lacks_capacity (Some code) = not (is_one_of (codes "AIP") code)

-- the first tag that lacks a spelling
abbrev pub lack_in : Option OrderType → Option ℕ → Option ℕ → Option ℕ
lack_in ord_type time capacity =
    if lacks_time ord_type time
    then Some 59 else (if lacks_capacity capacity then Some 47 else None)

-- THE LACK of a request: the tag of FIX 4.2 that says what FIX 5.0 SP2 cannot say, 59 before 47
abbrev pub lack_of : Request → Option ℕ
lack_of r = lack_in r.ord_type r.time_in_force r.capacity

-- the lack of what a message of FIX 4.2 asks for
abbrev pub lack42 : Message → Option ℕ
lack42 m = request42 m >>= lack_of
