-- What is read of fields at no fault is their message, row by row.
use Rattle.std.proofs.Common.{◌≡◌, List, [], ◌∷◌, None, map, refl}
use Rattle.field_groups.specs.Field.{Field}
use Rattle.message_tables.specs.Tables.{group_says, Place, Said, Cell}
use Rattle.message_tables.specs.FirstFault.{first_fault, message_in}
use Rattle.row_values.specs.Contras.{AreContras}
use Rattle.row_values.specs.Kinds.{judge, resend_of}
use Rattle.row_values.specs.Groups.{AreParties, parties}
use Rattle.row_values.specs.Lines.{party_cells}
use Rattle.row_values.proofs.ByTable.{says_parties}
use Rattle.row_values.proofs.SaidRows.{cell}
use Rattle.rows_fix42.proofs.ContraTimes.{contras_said}
use Rattle.rows_fix50.specs.Header.{completed}
use Rattle.reports_fix50.specs.declared.reports.Report50.{Report50}
use Rattle.reports_fix44.specs.declared.reports.CancelReject44.{CancelReject44}
use Rattle.reports_fix44.specs.Message.{report_table, cancel_reject_table}
use Rattle.reports_fix44.specs.Said.{report_says, cancel_reject_says}
use Rattle.reports_fix44.specs.Reading.{IsReport, IsCancelReject}

-- a cell that is said alike, and the cells behind it
infixr 5 ◌&◌
pub ◌&◌ : {place : Place} {a b : Said} {xs ys : List Cell} → a ≡ b → xs ≡ ys
    → (place, a) ∷ xs ≡ (place, b) ∷ ys
e & es = cell e es

-- an execution report is read by its cells
pub report_is : (fields : List Field) (m : Report50) → m.resend ≡ resend_of fields
    → AreParties fields m.parties → AreContras fields m.contras
    → (first_fault judge report_table fields ≡ None
    → map party_cells m.parties ≡ (group_says judge fields parties).1
    → (report_says m).cells ≡ (completed (message_in judge report_table fields)).cells)
    → IsReport fields m
report_is fields m resend its_parties its_contras cells = record {
  means = λ h.
      let lines = says_parties report_table fields h 4 refl refl refl m.parties its_parties in
      let others = contras_said report_table refl fields h 8 _ refl refl m.contras its_contras in
      λ i. record {
        letter = 56;
        resend = resend i;
        cells = cells h lines i;
        groups = (453, lines i) ∷ (382, others i) ∷ [];
      };
}

-- and so is a cancel reject
pub reject_is : (fields : List Field) (m : CancelReject44) → m.resend ≡ resend_of fields
    → (first_fault judge cancel_reject_table fields ≡ None → (cancel_reject_says m).cells
    ≡ (completed (message_in judge cancel_reject_table fields)).cells) → IsCancelReject fields m
reject_is fields m resend cells = record {
  means = λ h. λ i. record { letter = 57; resend = resend i; cells = cells h i; groups = [] };
}
