-- A refusal that is read is the message of the fields, whatever the header of its table; a Business
-- Message Reject also where its RefSeqNum (45) may be missing.
use Rattle.std.proofs.Common.{◌≡◌, Bool, true, false, List, [], ◌∷◌, refl}
use Rattle.field_groups.specs.Field.{Field}
use Rattle.message_tables.specs.Tables.{Need, Required, Optional, Row, One, Table}
use Rattle.message_tables.specs.FirstFault.{message_in}
use Rattle.order_meaning.specs.declared.refusal.Refusal.{Refusal}
use Rattle.row_values.specs.Kinds.{Kind, judge, row}
use Rattle.value_kinds.specs.ValueKind.{Id, Text, Number}
use Rattle.row_values.proofs.SaidRows.{cell}
use Rattle.refusal_parts.specs.Once.{once}
use Rattle.refusal_parts.specs.Said.{session_reject_says, business_reject_says}
use Rattle.refusal_parts.specs.Reading.{IsSessionReject, IsBusinessReject}

module _ (header : List (Row Kind)) (strict : Bool) where
  abbrev session_reject_table : Table Kind
  session_reject_table = record {
    letter = 51;
    header = header;
    items =
        One (row Required 45 Number) ∷ One (row Optional 371 Number) ∷ One (row Optional 372 Id)
        ∷ One (row Optional 373 Number) ∷ One (row Optional 58 Text) ∷ [];
    strict = strict;
  }

  pub session_reject_means : (fields : List Field) (m : Refusal) → IsSessionReject fields m
      → session_reject_says m ≡ once (message_in judge session_reject_table fields)
  session_reject_means fields m w =
      let e : (session_reject_says m).cells ≡ (message_in judge session_reject_table fields).cells =
      cell w.number (cell w.tag (cell w.msg_type (cell w.reason (cell w.text refl)))) in
      λ i. record { letter = 51; resend = false; cells = e i; groups = [] }

  abbrev business_reject_table : Need → Table Kind
  business_reject_table need = record {
    letter = 106;
    header = header;
    items =
        One (row need 45 Number) ∷ One (row Required 372 Id) ∷ One (row Optional 379 Id)
        ∷ One (row Required 380 Number) ∷ One (row Optional 58 Text) ∷ [];
    strict = strict;
  }

  abbrev needed : Bool → Need
  needed true = Required
  needed false = Optional

  business_cells : (must : Bool) (fields : List Field) (m : Refusal) → IsBusinessReject fields m
      → (business_reject_says m).cells
      ≡ (message_in judge (business_reject_table (needed must)) fields).cells
  business_cells true fields m w =
      cell w.number (cell w.msg_type (cell w.id (cell w.reason (cell w.text refl))))
  business_cells false fields m w =
      cell w.number (cell w.msg_type (cell w.id (cell w.reason (cell w.text refl))))

  pub business_reject_means : (must : Bool) (fields : List Field) (m : Refusal)
      → IsBusinessReject fields m
      → business_reject_says m
      ≡ once (message_in judge (business_reject_table (needed must)) fields)
  business_reject_means must fields m w = λ i. record {
    letter = 106;
    resend = false;
    cells = business_cells must fields m w i;
    groups = [];
  }
