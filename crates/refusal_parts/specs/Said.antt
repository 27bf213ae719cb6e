-- Own: what a refusal says, row by row of its table, and the fields in which it is written.
use Rattle.std.specs.Prelude.{false, List, [], ◌∷◌}
use Rattle.std.specs.Option.{option_map}
use Rattle.std.specs.Fmt.{decimal}
use Rattle.field_groups.specs.Field.{Field}
use Rattle.message_tables.specs.Tables.{Tag, Message}
use Rattle.message_tables.specs.Content.{line_fields}
use Rattle.order_meaning.specs.declared.refusal.Refusal.{Refusal}

-- what a refusal says as a Reject (3)
abbrev pub session_reject_says : Refusal → Message
session_reject_says m = record {
  letter = 51;
  resend = false;
  cells =
      (Tag 45, option_map decimal m.number) ∷
      (Tag 371, option_map decimal m.tag) ∷
      (Tag 372, m.msg_type) ∷
      (Tag 373, option_map decimal m.reason) ∷
      (Tag 58, m.text) ∷
      [];
  groups = [];
}

-- what a refusal says as a Business Message Reject (j)
abbrev pub business_reject_says : Refusal → Message
business_reject_says m = record {
  letter = 106;
  resend = false;
  cells =
      (Tag 45, option_map decimal m.number) ∷
      (Tag 372, m.msg_type) ∷
      (Tag 379, m.id) ∷
      (Tag 380, option_map decimal m.reason) ∷
      (Tag 58, m.text) ∷
      [];
  groups = [];
}

-- the fields in which a refusal is written, after the header
abbrev pub session_reject_fields : Refusal → List Field
session_reject_fields m = line_fields (session_reject_says m).cells

abbrev pub business_reject_fields : Refusal → List Field
business_reject_fields m = line_fields (business_reject_says m).cells
