-- Own: the content in which a message of FIX 4.4 is written: the fields behind its header, in
-- the order of its table.
use Rattle.std.specs.Prelude.{List}
use Rattle.field_groups.specs.Field.{Field}
use Rattle.message_tables.specs.Tables.{Table}
use Rattle.message_tables.specs.Content.{content}
use Rattle.requests_fix44.specs.declared.requests.Msg44.{Msg44}
use Rattle.requests_fix44.specs.declared.requests.Msg44.TheVariants as messages
use Rattle.row_values.specs.Kinds.{Kind}
use Rattle.rows_fix42.specs.Header.{table}
use Rattle.dict_fix44.specs.Requests.{new_order, cancel_request, replace_request, status_request}
use Rattle.requests_fix44.specs.Said.{says}

-- the table of a message
abbrev pub table44 : Msg44 → Table Kind
table44 (messages.New m) = table 68 new_order
table44 (messages.Cancel m) = table 70 cancel_request
table44 (messages.Replace m) = table 71 replace_request
table44 (messages.Status m) = table 72 status_request

-- THE CONTENT of a message
abbrev pub content44 : Msg44 → List Field
content44 m = content (table44 m) (says m)
