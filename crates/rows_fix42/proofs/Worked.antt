-- Worked examples: what values of FIX 4.2 mean, and the faults of a message that has no rows but
-- the header's, by computation.
use Rattle.std.specs.Prelude.{◌≡◌, ℕ, true, false, List, [], ◌∷◌, codes, refl, map, Some, None}
use Rattle.std.specs.declared.option.Option.{Option}
use Rattle.field_groups.specs.Field.{Field}
use Rattle.field_groups.specs.HeadValues.{number_in}
use Rattle.message_tables.specs.Tables.{first_of, holds}
use Rattle.message_tables.specs.FirstFault.{first_fault}
use Rattle.message_tables.specs.declared.table_fault.TableFault.{TableFault}
use Rattle.message_tables.specs.declared.table_fault.TableFault.TheVariants.{Reason, Outside}
use Rattle.order_meaning.specs.Request.{OrderType, Market, Limit, Stop, StopLimit, MarketOnClose}
use Rattle.order_meaning.specs.Request.{LimitOnClose}
use Rattle.row_values.specs.Kinds.{judge}
use Rattle.value_kinds.specs.ValueKind.{spelling}
use Rattle.rows_fix42.specs.Header.{table, has_day}
use Rattle.rows_fix42.specs.Meaning.{maturity_of, order_type_of, is_on_close, time_of}

-- OrdType (40) by the bytes of its codes; those of FIX 4.2 that are not in the profile are none
pub record OrderTypes : Type 0 where
  pub known : map order_type_of (codes "12345B")
      ≡ Some Market ∷ Some Limit ∷ Some Stop ∷ Some StopLimit ∷ Some MarketOnClose
      ∷ Some LimitOnClose ∷ []
  -- 6 With or without, 9 On basis, A On close, P Pegged
  pub others : map order_type_of (codes "69AP") ≡ None ∷ None ∷ None ∷ None ∷ []

order_types : OrderTypes
order_types = record { known = refl; others = refl }

-- TimeInForce (59): 0 Day, 4 Fill or kill. Day is no time of an order on close
pub record Times : Type 0 where
  pub on_close : map (λ code. is_on_close (Some code)) (codes "12345B")
      ≡ false ∷ false ∷ false ∷ false ∷ true ∷ true ∷ []
  pub no_type : is_on_close None ≡ false
  pub day : time_of false (Some 48) ≡ Some 48
  pub day_on_close : time_of true (Some 48) ≡ None
  pub other_on_close : time_of true (Some 52) ≡ Some 52
  pub none : time_of true None ≡ None

times : Times
times = record {
  on_close = refl;
  no_type = refl;
  day = refl;
  day_on_close = refl;
  other_on_close = refl;
  none = refl;
}

-- MaturityMonthYear (200) and MaturityDay (205), by their canonical spellings
pub record Maturities : Type 0 where
  pub month : maturity_of (Some (codes "202406")) None
      ≡ Some (record { month = codes "202406"; day = None })
  pub day : maturity_of (Some (codes "202406")) (Some (codes "21"))
      ≡ Some (record { month = codes "202406"; day = Some 21 })
  pub short_day : maturity_of (Some (codes "202406")) (Some (codes "03"))
      ≡ Some (record { month = codes "202406"; day = Some 3 })
  pub none : maturity_of None None ≡ None
  -- a message with a day needs its month
  pub day_stands : holds has_day ((205, codes "3") ∷ []) ≡ true
  pub no_day : holds has_day ((200, codes "202406") ∷ []) ≡ false

maturities : Maturities
maturities = record {
  month = refl;
  day = refl;
  short_day = refl;
  none = refl;
  day_stands = refl;
  no_day = refl;
}

-- a message with the header's rows alone
abbrev fault : List Field → Option TableFault
fault fields = first_fault judge (table 72 []) fields

pub record Headers : Type 0 where
  pub good : fault ((35, codes "H") ∷ (49, codes "C") ∷ (56, codes "G") ∷ (34, codes "7") ∷
      (43, codes "N") ∷ (97, codes "N") ∷ (52, codes "20240102-10:00:00") ∷
      (122, codes "20240102-10:00:00") ∷ (50, codes "S") ∷ (57, codes "T") ∷ (142, codes "L") ∷
      (143, codes "M") ∷ (347, codes "UTF-8") ∷ (369, codes "6") ∷ [])
      ≡ None
  pub twice : fault ((35, codes "H") ∷ (34, codes "7") ∷ (34, codes "7") ∷ [])
      ≡ Some (Reason 34 13)
  pub empty : fault ((49, []) ∷ []) ≡ Some (Reason 49 4)
  -- of PossDupFlag it is asked that it has a value, and of PossResend that it is Y or N
  pub other_flag : fault ((43, codes "X") ∷ []) ≡ None
  pub no_flag : fault ((97, codes "X") ∷ []) ≡ Some (Reason 97 6)
  -- ApplVerID is no field of this version, and any other tag is outside the profile, too
  pub version : fault ((1128, codes "9") ∷ []) ≡ Some (Outside 1128)
  pub unknown : fault ((9999, codes "x") ∷ []) ≡ Some (Outside 9999)

headers : Headers
unfolding first_fault first_of number_in judge spelling
headers = record {
  good = refl;
  twice = refl;
  empty = refl;
  other_flag = refl;
  no_flag = refl;
  version = refl;
  unknown = refl;
}
