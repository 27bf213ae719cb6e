-- Fields as they are judged beside the table of their type.
use Rattle.std.proofs.Common.{◌≡◌, List, Option, Some, None, Ok, Err}
use Rattle.std.specs.Borrow.{Bor}
use Rattle.field_groups.specs.declared.fault.SplitFault.{SplitFault}
use Rattle.field_groups.specs.Field.{Field}
use Rattle.message_tables.specs.Tables.{Table}
use Rattle.order_meaning.specs.declared.fault.Fault.{Fault}
use Rattle.first_faults.specs.Faults.{message_by}
use Rattle.first_faults.specs.Gives.{IsCleanIf}
use Rattle.row_values.specs.Kinds.{Kind}
use Rattle.report_rules.specs.Down.{IsGoodBy}
use Rattle.report_rules.specs.Judged.{AreGood}

module _ (fields : List Field) (stopped : Option SplitFault) where
  clean_by : (table : Option (Table Kind)) (good : Bor (List Field))
      → IsCleanIf table fields stopped (Ok good)
      → (good.now ≡ fields) × (stopped ≡ None) × IsGoodBy table fields
  clean_by None good h = absurd h
  clean_by (Some table) good h = h

  pub clean_is : (table : Option (Table Kind)) (good : Bor (List Field))
      → IsCleanIf table fields stopped (Ok good) → AreGood table fields stopped good.now
  clean_is table good h =
      let are = clean_by table good h in record { same = are.0; whole = are.1; none = are.2 }

  pub fault_by : (table : Option (Table Kind)) (fault : Fault)
      → IsCleanIf table fields stopped (Err fault) → message_by table fields stopped ≡ Err fault
  fault_by None fault h = h
  fault_by (Some table) fault h = h
