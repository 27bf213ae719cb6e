-- Standard: FIX 4.2 and FIX 5.0 SP2, OrdType(40), TimeInForce(59), Rule80A(47), OrderCapacity(528).
-- Own: of OrderCapacity only A (agency), I (individual) and P (principal) are in the profile.
use Rattle.std.specs.Prelude.{◌≡◌, ◌≢◌, ℕ, List, Option, Some}
use Rattle.field_groups.specs.Field.{Field}
use Rattle.message_tables.specs.Tables.{Message}
use Rattle.order_meaning.specs.declared.fault.Lack.{Lack}
use Rattle.order_meaning.specs.declared.fault.Lack.TheVariants as lacks
use Rattle.order_meaning.specs.Request.{Request}
use Rattle.dict_fix42.specs.Sense.{request42}
use Rattle.dict_fix50.specs.Sense.{sense50}
pub use Rattle.request_rules.specs.Lack.{lack42, lack_in, lack_of, lacks_capacity, lacks_time}

-- no message of FIX 5.0 SP2 means this
abbrev pub HasNoSpelling : Option Request → Type 0
HasNoSpelling request =
    (msg_type : List ℕ) (fields : List Field) → sense50 msg_type fields ≢ request

-- why there is no translation of a request: its lack, with which it has no spelling; want of memory
-- is free
abbrev pub IsLackOf : Message → Lack → Type 0
IsLackOf m lacks.NoMemory = Unit {0}
IsLackOf m (lacks.Tag tag) = (lack42 m ≡ Some tag) × HasNoSpelling (request42 m)
