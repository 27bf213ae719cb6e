-- Own: the content in which a message of FIX 4.2 is written: the fields behind its header, in the
-- order of its table.
use Rattle.std.specs.Prelude.{List}
use Rattle.field_groups.specs.Field.{Field}
use Rattle.message_tables.specs.Tables.{Table}
use Rattle.message_tables.specs.Content.{content}
use Rattle.dict_fix42.specs.declared.requests.Msg42.{Msg42}
use Rattle.dict_fix42.specs.declared.requests.Msg42.TheVariants as messages
use Rattle.row_values.specs.Kinds.{Kind}
use Rattle.rows_fix42.specs.Header.{table}
use Rattle.dict_fix42.specs.Requests.{new_order, cancel_request, replace_request, status_request}
use Rattle.dict_fix42.specs.Said.{says}

-- the table of a message
abbrev pub table42 : Msg42 → Table Kind
table42 (messages.New m) = table 68 new_order
table42 (messages.Cancel m) = table 70 cancel_request
table42 (messages.Replace m) = table 71 replace_request
table42 (messages.Status m) = table 72 status_request

-- THE CONTENT of a message
abbrev pub content42 : Msg42 → List Field
content42 m = content (table42 m) (says m)
