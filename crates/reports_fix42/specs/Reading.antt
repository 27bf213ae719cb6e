-- Inside: reports that say what the fields say.
use Rattle.std.specs.Prelude.{◌≡◌, List, [], ◌∷◌, codes, None}
use Rattle.std.specs.List.{AllZip}
use Rattle.value_kinds.specs.ValueKind.{Id, Text, Word, Currency}
use Rattle.field_groups.specs.Field.{Field}
use Rattle.message_tables.specs.FirstFault.{first_fault, message_in}
use Rattle.message_tables.specs.Tables.{Said, lines_in, tags_in}
use Rattle.row_values.specs.declared.contras.ContraLine.{ContraLine}
use Rattle.row_values.specs.Contras.{IsContra}
use Rattle.row_values.specs.Kinds.{Value, judge, said}
use Rattle.reports_fix42.specs.declared.reports.Report42.{Report42}
use Rattle.reports_fix42.specs.declared.reports.CancelReject42.{CancelReject42}
use Rattle.reports_fix42.specs.Message.{cancel_reject_table, execution_report_table}
use Rattle.reports_fix42.specs.Reports.{contras}
use Rattle.reports_fix42.specs.Said.{cancel_reject_says, report_says}

-- what SecurityType says
abbrev security_type_said : List Field → Said
security_type_said fields =
    said fields 167 (Value (Word (codes "CS" ∷ codes "PS" ∷ codes "FUT" ∷ [])))

-- lines of contra brokers that say what the fields say
abbrev pub AreContras : List Field → List ContraLine → Type 0
AreContras fields lines = AllZip IsContra (lines_in (tags_in contras) fields) lines

-- what an execution report says is what fields at no fault say
pub record IsReport (fields : List Field) (m : Report42) : Type 0 where
  pub means : first_fault judge execution_report_table fields ≡ None
      → report_says m ≡ message_in judge execution_report_table fields

-- and so is what a cancel reject says
pub record IsCancelReject (fields : List Field) (m : CancelReject42) : Type 0 where
  pub means : first_fault judge cancel_reject_table fields ≡ None
      → cancel_reject_says m ≡ message_in judge cancel_reject_table fields

-- the names in an execution report
abbrev pub report_names : List Field → List Said
report_names fields =
    said fields 37 (Value Id) ∷ said fields 198 (Value Id) ∷ said fields 11 (Value Id) ∷
    said fields 41 (Value Id) ∷ said fields 109 (Value Id) ∷ said fields 76 (Value Id) ∷
    said fields 439 (Value Id) ∷ said fields 17 (Value Id) ∷ said fields 19 (Value Id) ∷
    said fields 1 (Value Id) ∷ []

-- the texts of an execution report beside its names
abbrev pub report_texts : List Field → List Said
report_texts fields =
    said fields 55 (Value Id) ∷ said fields 65 (Value Id) ∷ said fields 48 (Value Id) ∷
    security_type_said fields ∷ said fields 207 (Value Id) ∷ said fields 15 (Value Currency) ∷
    said fields 30 (Value Id) ∷ said fields 58 (Value Text) ∷ []

-- the texts of a cancel reject
abbrev pub cancel_reject_texts : List Field → List Said
cancel_reject_texts fields =
    said fields 37 (Value Id) ∷ said fields 198 (Value Id) ∷ said fields 11 (Value Id) ∷
    said fields 41 (Value Id) ∷ said fields 1 (Value Id) ∷ said fields 58 (Value Text) ∷ []
