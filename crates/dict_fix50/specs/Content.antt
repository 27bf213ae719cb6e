-- Own: the content in which a message of FIX 5.0 SP2 is written: the fields behind its header, in
-- the order of its table.
use Rattle.std.specs.Prelude.{List}
use Rattle.field_groups.specs.Field.{Field}
use Rattle.message_tables.specs.Tables.{Table}
use Rattle.message_tables.specs.Content.{content}
use Rattle.dict_fix50.specs.declared.requests.Msg50.{Msg50}
use Rattle.dict_fix50.specs.declared.requests.Msg50.TheVariants as messages
use Rattle.row_values.specs.Kinds.{Kind}
use Rattle.rows_fix50.specs.Header.{table}
use Rattle.dict_fix50.specs.Requests.{new_order, cancel_request, replace_request, status_request}
use Rattle.dict_fix50.specs.Said.{says}

-- the table of a message
abbrev pub table50 : Msg50 → Table Kind
table50 (messages.New m) = table 68 new_order
table50 (messages.Cancel m) = table 70 cancel_request
table50 (messages.Replace m) = table 71 replace_request
table50 (messages.Status m) = table 72 status_request

-- THE CONTENT of a message
abbrev pub content50 : Msg50 → List Field
content50 m = content (table50 m) (says m)
