-- What the fields of a body give: their message, or their first fault.
use Rattle.std.specs.Prelude.{◌≡◌, List, Option, Some, None, Result, Ok, Err, refl}
use Rattle.std.proofs.Common.{sym, ap, ◌∙◌}
use Rattle.field_groups.specs.declared.fault.SplitFault.{SplitFault}
use Rattle.message_tables.specs.declared.table_fault.TableFault.{TableFault}
use Rattle.field_groups.specs.Field.{Field}
use Rattle.message_tables.specs.Tables.{Table, Message}
use Rattle.message_tables.specs.FirstFault.{first_fault, message_in, message_of}
use Rattle.order_meaning.specs.declared.fault.Fault.{Fault}
use Rattle.order_meaning.specs.declared.fault.Fault.TheVariants.{Session, NoCounterpart}
use Rattle.order_meaning.specs.declared.fault.Fault.TheVariants.{NotSupported, NoMemory}
use Rattle.row_values.specs.Kinds.{Kind, judge}
use Rattle.first_faults.specs.Faults.{of_table, message_by}
use Rattle.first_faults.specs.Gives.{Tells}

module _ (table : Table Kind) (fields : List Field) where
  pub given : (fault : Option SplitFault) → fault ≡ None → first_fault judge table fields ≡ None
      → message_by (Some table) fields fault ≡ Ok (message_in judge table fields)
  unfolding message_of
  given fault whole none = rw (whole, none) refl

  pub refused : (fault : Option SplitFault) (first : TableFault) → fault ≡ None
      → Some first ≡ first_fault judge table fields
      → message_by (Some table) fields fault ≡ Err (of_table first)
  unfolding message_of
  refused fault first whole found = rw (whole, sym found) refl

-- fields that were judged by a table of the code, which is this table
module _ {code table : Table Kind} {fields good : List Field} {fault : Option SplitFault}
    (same : code ≡ table)
    (clean : (good ≡ fields) × (fault ≡ None) × (first_fault judge code fields ≡ None)) where
  pub no_fault : first_fault judge table good ≡ None
  no_fault =
      ap (first_fault judge table) clean.0
      ∙ sym (ap (λ table. first_fault judge table fields) same) ∙ clean.2

  pub reads : (m : Message) → m ≡ message_in judge table good
      → message_by (Some table) fields fault ≡ Ok m
  reads m means =
      ap (λ fields. message_by (Some table) fields fault) (sym clean.0)
      ∙ given table good fault clean.1 no_fault ∙ ap Ok (sym means)

-- an answer tells its fault, or is want of memory
pub tells : (fault : Fault) (message : Result Message Fault) → message ≡ Err fault
    → Tells fault message
tells (Session tag reason) message h = h
tells (NoCounterpart tag) message h = h
tells NotSupported message h = h
tells NoMemory message h = tt
