-- What is read of fields at no fault is their message.
use Rattle.std.proofs.Common.{◌≡◌, ◌≤◌, List, [], ◌∷◌, None, length, refl}
use Rattle.field_groups.specs.Field.{Field}
use Rattle.message_tables.specs.FirstFault.{first_fault, message_in}
use Rattle.message_tables.specs.Tables.{Cell, Place, Said, lines_in, tags_in}
use Rattle.message_tables.proofs.Few.{IsPlain, few}
use Rattle.row_values.specs.declared.contras.ContraLine.{ContraLine}
use Rattle.row_values.specs.Contras.{AreReadableContras}
use Rattle.row_values.specs.Kinds.{judge, resend_of}
use Rattle.row_values.proofs.ContraRows.{by_contras}
use Rattle.row_values.proofs.SaidRows.{cell}
use Rattle.rows_fix42.proofs.ContraTimes.{contras_said}
use Rattle.reports_fix42.specs.Message.{execution_report_table, cancel_reject_table}
use Rattle.reports_fix42.specs.Reports.{contras}
use Rattle.reports_fix42.specs.Reading.{AreContras, IsReport, IsCancelReject}
use Rattle.reports_fix42.specs.declared.reports.CancelReject42.{CancelReject42}
use Rattle.reports_fix42.specs.declared.reports.Report42.{Report42}
use Rattle.reports_fix42.specs.Said.{report_says, cancel_reject_says}

-- lines that are read can be written
pub contras_readable : (fields : List Field) (ls : List ContraLine) → AreContras fields ls
    → AreReadableContras ls
contras_readable fields ls w = by_contras (lines_in (tags_in contras) fields) ls w

pub plain_contras : IsPlain (tags_in contras)
plain_contras = record {
  first_inside = refl;
  first_counts_not = refl;
  first_is_said = refl;
  count_outside = refl;
}

-- there are at most 32 of them
pub few_contras : (fields : List Field) → first_fault judge execution_report_table fields ≡ None
    → length (lines_in (tags_in contras) fields) ≤ 32
few_contras fields h =
    few judge execution_report_table fields 0 (tags_in contras) plain_contras refl h

-- a cell that is said alike, and the cells behind it
infixr 5 ◌&◌
pub ◌&◌ : {place : Place} {a b : Said} {xs ys : List Cell} → a ≡ b → xs ≡ ys
    → (place, a) ∷ xs ≡ (place, b) ∷ ys
e & es = cell e es

-- an execution report is read by its cells
pub report_is : (fields : List Field) (m : Report42) → m.resend ≡ resend_of fields
    → AreContras fields m.contras → (first_fault judge execution_report_table fields ≡ None
    → (report_says m).cells ≡ (message_in judge execution_report_table fields).cells)
    → IsReport fields m
report_is fields m resend contras cells = record {
  means = λ h.
      let table = execution_report_table in
      let others = contras_said table refl fields h 7 [] refl refl m.contras contras in
      λ i. record {
        letter = 56;
        resend = resend i;
        cells = cells h i;
        groups = (382, others i) ∷ [];
      };
}

-- and so is a cancel reject
pub reject_is : (fields : List Field) (m : CancelReject42) → m.resend ≡ resend_of fields
    → (first_fault judge cancel_reject_table fields ≡ None → (cancel_reject_says m).cells
    ≡ (message_in judge cancel_reject_table fields).cells) → IsCancelReject fields m
reject_is fields m resend cells = record {
  means = λ h. λ i. record { letter = 57; resend = resend i; cells = cells h i; groups = [] };
}
