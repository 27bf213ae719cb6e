-- Inside: the fields of a request that were judged.
use Rattle.std.specs.Prelude.{◌≡◌, ℕ, List, Option, None, Some, Ok}
use Rattle.field_groups.specs.declared.fault.SplitFault.{SplitFault}
use Rattle.field_groups.specs.Field.{Field}
use Rattle.message_tables.specs.CodeTables.{table_of as code_table}
use Rattle.message_tables.specs.FirstFault.{first_fault, message_in}
use Rattle.message_tables.specs.Tables.{Message, Table}
use Rattle.row_values.specs.CodeKinds.{kind_of}
use Rattle.row_values.specs.Kinds.{Kind, judge}
use Rattle.dict_fix42.specs.Message.{message42, table_of}
use Rattle.request_rules.specs.declared.reading.Good.{Good}

-- the table of a type of requests
abbrev pub IsTable42 : Table Kind → Type 0
IsTable42 table = (msg_type : List ℕ) × (table_of msg_type ≡ Some table)

-- the table of good fields, and what they say
abbrev pub table : Good → Table Kind
table good = code_table kind_of good.table.now

abbrev pub said : Good → Message
said good = message_in judge (table good) good.fields.now

pub record IsGood (good : Good) : Type 0 where
  pub typed : IsTable42 (table good)
  pub none : first_fault judge (table good) good.fields.now ≡ None

-- fields of a whole body of a type that are read as this message
pub record IsRead (msg_type : List ℕ) (fields : List Field) (stopped : Option SplitFault)
    (m : Message) : Type 0 where
  pub whole : stopped ≡ None
  pub read : message42 msg_type fields None ≡ Ok m
