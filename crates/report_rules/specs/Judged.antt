-- Inside: fields that were judged beside the table of their type.
use Rattle.std.specs.Prelude.{◌≡◌, List, Option, None}
use Rattle.field_groups.specs.declared.fault.SplitFault.{SplitFault}
use Rattle.field_groups.specs.Field.{Field}
use Rattle.message_tables.specs.Tables.{Table}
use Rattle.row_values.specs.Kinds.{Kind}
use Rattle.report_rules.specs.Down.{IsGoodBy}

-- the fields of a whole body, at no fault beside a table
pub record AreGood (table : Option (Table Kind)) (fields : List Field)
    (stopped : Option SplitFault) (good : List Field) : Type 0 where
  pub same : good ≡ fields
  pub whole : stopped ≡ None
  pub none : IsGoodBy table fields
