-- Inside: refusals that say at each row what the fields say.
use Rattle.std.specs.Prelude.{◌≡◌, List}
use Rattle.std.specs.Option.{option_map}
use Rattle.std.specs.Fmt.{decimal}
use Rattle.field_groups.specs.Field.{Field}
use Rattle.order_meaning.specs.declared.refusal.Refusal.{Refusal}
use Rattle.value_kinds.specs.ValueKind.{Id, Text, Number}
use Rattle.row_values.specs.Kinds.{Value, said}

-- each row of a Reject says what the fields say
pub record IsSessionReject (fields : List Field) (m : Refusal) : Type 0 where
  pub number : option_map decimal m.number ≡ said fields 45 (Value Number)
  pub tag : option_map decimal m.tag ≡ said fields 371 (Value Number)
  pub msg_type : m.msg_type ≡ said fields 372 (Value Id)
  pub reason : option_map decimal m.reason ≡ said fields 373 (Value Number)
  pub text : m.text ≡ said fields 58 (Value Text)

-- each row of a Business Message Reject says what the fields say
pub record IsBusinessReject (fields : List Field) (m : Refusal) : Type 0 where
  pub number : option_map decimal m.number ≡ said fields 45 (Value Number)
  pub msg_type : m.msg_type ≡ said fields 372 (Value Id)
  pub id : m.id ≡ said fields 379 (Value Id)
  pub reason : option_map decimal m.reason ≡ said fields 380 (Value Number)
  pub text : m.text ≡ said fields 58 (Value Text)
