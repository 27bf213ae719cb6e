-- Inside: what is known of the fields by which the code writes.
use Rattle.std.specs.Prelude.{◌≡◌, List, [], ◌∷◌, None, codes}
use Rattle.field_groups.specs.Field.{Field}
use Rattle.message_tables.specs.FirstFault.{first_fault, message_in}
use Rattle.message_tables.specs.Tables.{Message, Table, is_one_of}
use Rattle.order_meaning.specs.Request.{RequestKind}
use Rattle.order_meaning.specs.declared.fault.Lack.{Lack}
use Rattle.row_values.specs.Groups.{AreParties}
use Rattle.row_values.specs.Kinds.{Kind, judge}
use Rattle.rows_fix50.specs.Header.{completed}
use Rattle.dict_fix44.specs.Requests.{asked44}
use Rattle.reports_fix50.specs.Message.{report_table_of}
pub use Rattle.report_rules.specs.Down.{IsGoodBy}
use Rattle.row_values.specs.Asked.{letter_of}
use Rattle.translation.specs.Bodies.{Direction}
use Rattle.translation.specs.Errors.{error_of_lack}
use Rattle.translation.specs.Going.{StayBack}
use Rattle.translation.specs.Header.{type_of}
use Rattle.rule_rows.specs.CodeRules.{table_of}
use Rattle.translate_fix44.specs.CodeRules.{Source}

-- fields at no fault beside the table of their type, which is that of a request
pub record IsAsked (table : Table Kind) (fields : List Field) : Type 0 where
  pub kind : RequestKind
  pub its : table ≡ asked44 kind
  pub type : type_of fields ≡ letter_of kind ∷ []
  pub none : first_fault judge table fields ≡ None

-- what the rules read of such fields: their parties, and whether they have the terms of an order
pub record IsRead (s : Source) : Type 0 where
  pub asked : IsAsked (table_of s) s.fields.now
  pub are : AreParties s.fields.now s.besides.parties
  pub terms : s.besides.has_terms ≡ is_one_of (codes "DG") (table_of s).letter

-- the message that they are
abbrev pub message : Source → Message
message s = completed (message_in judge (table_of s) s.fields.now)

-- fields at no fault beside the table of their type, which is that of a report
abbrev pub IsReport : List Field → Type 0
IsReport fields = IsGoodBy (report_table_of (type_of fields)) fields

-- why nothing is appended of the fields of a body
abbrev pub Lacks : Direction → List Field → Lack → Type 0
Lacks d fields lack = StayBack d fields None (error_of_lack lack)
