-- Own: what the requests of FIX 4.4 say, row by row of the request table: their max floor is
-- MaxFloor (111), and HandlInst may be missing.
use Rattle.std.specs.Prelude.{ℕ, Option}
use Rattle.std.specs.Option.{option_map}
use Rattle.value_kinds.specs.ValueKind.{code_text}
use Rattle.message_tables.specs.Tables.{Message}
use Rattle.dict_fix50.specs.Said.{cancel_says, ordered_says, replaced_says, status_says}
use Rattle.dict_fix50.specs.declared.requests.New.{New}
use Rattle.dict_fix50.specs.declared.requests.Replace.{Replace}
use Rattle.requests_fix44.specs.declared.requests.Msg44.{Msg44}
use Rattle.requests_fix44.specs.declared.requests.Msg44.TheVariants as messages

abbrev pub new_says : New (Option ℕ) → Message
new_says m = ordered_says (option_map code_text) 111 m

abbrev pub replace_says : Replace (Option ℕ) → Message
replace_says m = replaced_says (option_map code_text) 111 m

-- WHAT A MESSAGE SAYS
abbrev pub says : Msg44 → Message
says (messages.New m) = new_says m
says (messages.Cancel m) = cancel_says m
says (messages.Replace m) = replace_says m
says (messages.Status m) = status_says m
