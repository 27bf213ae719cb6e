-- What a message of FIX 5.0 SP2 means lacks no spelling there.
use Rattle.std.proofs.Common.{◌≡◌, ℕ, List, [], ◌∷◌, Bool, true, false, Option, Some, None, IfSome}
use Rattle.std.proofs.Common.{refl, ap, subst, codes, if◌then◌else◌, ◌==◌}
use Rattle.std.specs.Prelude.{Result, not}
use Rattle.std.specs.Result.{result_ok}
use Rattle.value_kinds.specs.ValueKind.{spelling, OneByte}
use Rattle.message_tables.specs.declared.table_fault.TableFault.{TableFault}
use Rattle.field_groups.specs.Field.{Field}
use Rattle.message_tables.specs.Tables.{Verdict, Spells, Table, Message, Lenient}
use Rattle.message_tables.specs.Tables.{◌>>=◌, says, value_at, text_of, code_of, code_if, is_one_of}
use Rattle.message_tables.specs.FirstFault.{unless, first_fault, message_in, message_of}
use Rattle.order_meaning.specs.declared.fault.Fault.{Fault}
use Rattle.order_meaning.specs.declared.fault.Lack.{Lack}
use Rattle.order_meaning.specs.declared.fault.Lack.TheVariants as lacks
use Rattle.order_meaning.specs.Request.{Request, RequestKind, New, Replace, OrderType, Market}
use Rattle.row_values.specs.Kinds.{Kind, judge, Byte, counted, verdict_of}
use Rattle.dict_fix42.specs.Sense.{request42}
use Rattle.dict_fix50.specs.Message.{message50, message50_by}
use Rattle.rows_fix50.specs.Header.{completed, completed_by}
use Rattle.first_faults.specs.Faults.{told}
use Rattle.dict_fix50.specs.Requests.{asked50}
use Rattle.dict_fix50.specs.Sense.{sense50, request50, request_of}
use Rattle.rows_fix50.specs.Meaning.{terms_of}
use Rattle.request_rules.specs.Put.{Lacks}
use Rattle.request_rules.proofs.ByType.{by_type}
use Rattle.request_rules.proofs.LacksUp.{plain}
use Rattle.request_translate.specs.Lack.{lacks_time, lacks_capacity, lack_of, IsLackOf}
use Rattle.request_translate.specs.Laws.{LacksNothing}

-- what is told of a message of FIX 5.0 SP2, or of its first fault
abbrev pub told50 : Result Message TableFault → Result Message Fault
told50 read = completed_by (told read)

-- a request, if there is one, lacks nothing
abbrev pub IsSayable : Option Request → Type 0
IsSayable request = IfSome request (λ r. lack_of r ≡ None)

no_time : (ord_type : Option OrderType) → lacks_time ord_type None ≡ false
no_time None = refl
no_time (Some Market) = refl
no_time (Some other) = refl

abbrev pick : Bool
    → Option OrderType × Option ℕ → Option OrderType × Option ℕ → Option OrderType × Option ℕ
pick close a b = if close then a else b

by_close : (close : Bool) (closing other : Option OrderType) (time : ℕ)
    → lacks_time other (Some time) ≡ false →
    lacks_time (pick close (closing, None) (other, Some time)).0
    (pick close (closing, None) (other, Some time)).1 ≡ false
by_close true closing other time h = no_time closing
by_close false closing other time h = h

-- TimeInForce says that an order is on close, or something else
pub terms_lack_nothing : (code time : Option ℕ)
    → lacks_time (terms_of code time).0 (terms_of code time).1 ≡ false
terms_lack_nothing None time = refl
terms_lack_nothing (Some code) None = no_time (terms_of (Some code) None).0
terms_lack_nothing (Some code) (Some time) =
    by_close (time == 55) (terms_of (Some code) (Some 55)).0 (terms_of (Some code) None).0 time
    (plain (code == 49) (code == 50) (code == 51) (code == 52) (Some time))

by_listed : (listed : Bool) (byte : ℕ) → is_one_of (codes "AIP") byte ≡ listed →
    lacks_capacity (text_of (counted listed (Spells (byte ∷ []))) >>= code_of) ≡ false
by_listed true byte e = ap not e
by_listed false byte e = refl

outside : (verdict : Verdict) → lacks_capacity (text_of (counted false verdict) >>= code_of) ≡ false
outside (Spells text) = refl
outside other = refl

-- of OrderCapacity the values of the profile alone count
pub capacity_lacks_nothing : (fields : List Field) (value : Option (List ℕ)) →
    lacks_capacity (says Lenient (judge fields (Byte (codes "AIP"))) value >>= code_of) ≡ false
unfolding judge spelling
capacity_lacks_nothing fields None = refl
capacity_lacks_nothing fields (Some []) = refl
capacity_lacks_nothing fields (Some (byte ∷ [])) =
    by_listed (is_one_of (codes "AIP") byte) byte refl
capacity_lacks_nothing fields (Some (byte ∷ again ∷ bytes)) =
    outside (verdict_of (spelling OneByte (byte ∷ again ∷ bytes)))

-- what a message means lacks nothing, where its capacity does not
of_message : (kind : RequestKind) (m : Message)
    → lacks_capacity (code_if m.cells 528) ≡ false → lack_of (request_of kind m) ≡ None
of_message kind m h =
    rw (terms_lack_nothing (code_if m.cells 40) (code_if m.cells 59), h) refl

each : (fields : List Field) (kind : RequestKind)
    → IsSayable (request50 (completed (message_in judge (asked50 kind) fields)))
each fields New = of_message New (completed (message_in judge (asked50 New) fields))
    (capacity_lacks_nothing fields (value_at 528 fields))
each fields Replace = of_message Replace (completed (message_in judge (asked50 Replace) fields))
    (capacity_lacks_nothing fields (value_at 528 fields))
each fields kind = of_message kind (completed (message_in judge (asked50 kind) fields)) refl

by_fault : (fault : Option TableFault) (m : Message) → IsSayable (request50 (completed m))
    → IsSayable (result_ok (told50 (unless fault m)) >>= request50)
by_fault None m h = h
by_fault (Some fault) m h = tt

by_message : (table : Table Kind) (fields : List Field)
    → IsSayable (request50 (completed (message_in judge table fields))) →
    IsSayable (result_ok (told50 (message_of judge table fields)) >>= request50)
unfolding message_of
by_message table fields h =
    by_fault (first_fault judge table fields) (message_in judge table fields) h

pub sayable : LacksNothing
unfolding sense50 message50
sayable msg_type fields =
    by_type (λ t of42 of50. IsSayable (result_ok (message50_by of50 fields None) >>= request50))
    (λ t. tt) (λ kind. by_message (asked50 kind) fields (each fields kind)) msg_type

-- ---- what lacks a spelling is what no message of FIX 5.0 SP2 means

no_spelling : (request : Option Request) (tag : ℕ)
    → request >>= lack_of ≡ Some tag → IsSayable request → ⊥
no_spelling None tag e h = absurd cc
no_spelling (Some request) tag e h = absurd cc

pub lack_is : (m : Message) (lack : Lack) → Lacks m lack → IsLackOf m lack
lack_is m lacks.NoMemory h = tt
lack_is m (lacks.Tag tag) h = (
  h,
  λ msg_type fields e. no_spelling (request42 m) tag h
      (let P : Option Request → Type 0 = λ r. IsSayable r in subst P e (sayable msg_type fields)),
)
