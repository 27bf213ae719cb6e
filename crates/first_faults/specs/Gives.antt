-- Own: what an answer of a reading says of the message of its fields: the message that it gives, or
-- its first fault. Want of memory says nothing.
use Rattle.std.specs.Prelude.{◌≡◌, List, Option, Some, None, Result, Ok, Err}
use Rattle.std.specs.Borrow.{Bor}
use Rattle.field_groups.specs.declared.fault.SplitFault.{SplitFault}
use Rattle.field_groups.specs.Field.{Field}
use Rattle.message_tables.specs.FirstFault.{first_fault}
use Rattle.message_tables.specs.Tables.{Message, Table}
use Rattle.order_meaning.specs.declared.fault.Fault.{Fault}
use Rattle.order_meaning.specs.declared.fault.Fault.TheVariants.{NoMemory}
use Rattle.row_values.specs.Kinds.{Kind, judge}
use Rattle.first_faults.specs.Faults.{message_by}

abbrev pub Tells : Fault → Result Message Fault → Type 0
Tells NoMemory message = Unit {0}
Tells fault message = message ≡ Err fault

-- what was read says the message, or its fault is told
abbrev pub Gives : {M : Type 0} → (M → Message) → Result M Fault → Result Message Fault → Type 0
Gives says (Ok m) message = message ≡ Ok (says m)
Gives says (Err fault) message = Tells fault message

-- fields that are whole and at no fault beside their table, or the first fault
abbrev pub IsClean : Table Kind → List Field → Option SplitFault
    → Result (Bor (List Field)) Fault → Type 0
IsClean table fields fault (Ok good) =
    (good.now ≡ fields) × (fault ≡ None) × (first_fault judge table fields ≡ None)
IsClean table fields fault (Err e) = message_by (Some table) fields fault ≡ Err e

-- the same beside the table of a type, where the type has one
abbrev pub IsCleanIf : Option (Table Kind) → List Field → Option SplitFault
    → Result (Bor (List Field)) Fault → Type 0
IsCleanIf None fields fault (Ok good) = ⊥
IsCleanIf None fields fault (Err e) = message_by None fields fault ≡ Err e
IsCleanIf (Some table) fields fault result = IsClean table fields fault result
