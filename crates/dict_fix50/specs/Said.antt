-- Own: what the structs of the requests of FIX 5.0 SP2 say, row by row of the request table.
use Rattle.std.specs.Prelude.{ℕ, [], ◌∷◌, map, Some}
use Rattle.std.specs.Prelude.{option_and_then}
use Rattle.std.specs.Option.{option_map}
use Rattle.typed_fields.specs.Dec.{dec_text}
use Rattle.typed_fields.specs.Day.{day_text}
use Rattle.typed_fields.specs.Stamp.{stamp_text}
use Rattle.typed_fields.specs.Flag.{flag_text}
use Rattle.value_kinds.specs.ValueKind.{code_text}
use Rattle.message_tables.specs.Tables.{Tag, Role, Said, Message}
use Rattle.row_values.specs.Lines.{month_text, party_cells, alloc_cells, session_cells, date_text}
use Rattle.rows_fix50.specs.Meaning.{id_of}
use Rattle.dict_fix50.specs.declared.requests.New.{New}
use Rattle.dict_fix50.specs.declared.requests.Cancel50.{Cancel50}
use Rattle.dict_fix50.specs.declared.requests.Replace.{Replace}
use Rattle.dict_fix50.specs.declared.requests.Status50.{Status50}
use Rattle.dict_fix50.specs.declared.requests.Msg50.{Msg50}
use Rattle.dict_fix50.specs.declared.requests.Msg50.TheVariants as messages

-- what a new order says, of which HandlInst says this and max floor stands at this tag
abbrev pub ordered_says : {HandInst : Type 0} → (HandInst → Said) → ℕ → New HandInst
    → Message
ordered_says inst floor m = record {
  letter = 68;
  resend = m.resend;
  cells =
      (Tag 11, Some m.cl_ord_id) ∷
      (Role 3, id_of 3 m.parties) ∷
      (Role 1, id_of 1 m.parties) ∷
      (Role 4, id_of 4 m.parties) ∷
      (Tag 1, m.account) ∷
      (Tag 63, option_map code_text m.settl_type) ∷
      (Tag 64, option_map day_text m.settl_date) ∷
      (Tag 21, inst m.hand_inst) ∷
      (Tag 18, m.exec_inst) ∷
      (Tag 110, option_map dec_text m.min_qty) ∷
      (Tag floor, option_map dec_text m.max_floor) ∷
      (Tag 100, m.ex_destination) ∷
      (Tag 55, Some m.symbol) ∷
      (Tag 65, m.symbol_sfx) ∷
      (Tag 48, m.security_id) ∷
      (Tag 22, option_map code_text m.id_source) ∷
      (Tag 167, m.security_type) ∷
      (Tag 200, option_map month_text m.maturity) ∷
      (Tag 541, option_and_then date_text m.maturity) ∷
      (Tag 207, m.security_exchange) ∷
      (Tag 54, Some (code_text m.side)) ∷
      (Tag 114, option_map flag_text m.locate) ∷
      (Tag 60, Some (stamp_text m.transact_time)) ∷
      (Tag 38, Some (dec_text m.order_qty)) ∷
      (Tag 40, Some (code_text m.ord_type)) ∷
      (Tag 44, option_map dec_text m.price) ∷
      (Tag 99, option_map dec_text m.stop_px) ∷
      (Tag 15, m.currency) ∷
      (Tag 59, option_map code_text m.time_in_force) ∷
      (Tag 168, option_map stamp_text m.effective_time) ∷
      (Tag 432, option_map day_text m.expire_date) ∷
      (Tag 126, option_map stamp_text m.expire_time) ∷
      (Tag 528, option_map code_text m.capacity) ∷
      (Tag 77, option_map code_text m.open_close) ∷
      (Tag 58, m.text) ∷
      [];
  groups = (453, map party_cells m.parties) ∷ (78, map alloc_cells m.allocs)
      ∷ (386, map session_cells m.sessions) ∷ [];
}

abbrev pub new_says : New ℕ → Message
new_says m = ordered_says (λ code. Some (code_text code)) 1138 m

-- what a cancel request says
abbrev pub cancel_says : Cancel50 → Message
cancel_says m = record {
  letter = 70;
  resend = m.resend;
  cells =
      (Tag 11, Some m.cl_ord_id) ∷
      (Tag 41, Some m.orig_id) ∷
      (Tag 37, m.order_id) ∷
      (Role 3, id_of 3 m.parties) ∷
      (Role 1, id_of 1 m.parties) ∷
      (Tag 1, m.account) ∷
      (Tag 55, Some m.symbol) ∷
      (Tag 65, m.symbol_sfx) ∷
      (Tag 48, m.security_id) ∷
      (Tag 22, option_map code_text m.id_source) ∷
      (Tag 167, m.security_type) ∷
      (Tag 200, option_map month_text m.maturity) ∷
      (Tag 541, option_and_then date_text m.maturity) ∷
      (Tag 207, m.security_exchange) ∷
      (Tag 54, Some (code_text m.side)) ∷
      (Tag 60, Some (stamp_text m.transact_time)) ∷
      (Tag 38, option_map dec_text m.order_qty) ∷
      (Tag 58, m.text) ∷
      [];
  groups = (453, map party_cells m.parties) ∷ [];
}

-- what a replace request says
abbrev pub replaced_says : {HandInst : Type 0} → (HandInst → Said) → ℕ → Replace HandInst
    → Message
replaced_says inst floor m = record {
  letter = 71;
  resend = m.resend;
  cells =
      (Tag 11, Some m.cl_ord_id) ∷
      (Tag 41, Some m.orig_id) ∷
      (Tag 37, m.order_id) ∷
      (Role 3, id_of 3 m.parties) ∷
      (Role 1, id_of 1 m.parties) ∷
      (Role 4, id_of 4 m.parties) ∷
      (Tag 1, m.account) ∷
      (Tag 63, option_map code_text m.settl_type) ∷
      (Tag 64, option_map day_text m.settl_date) ∷
      (Tag 21, inst m.hand_inst) ∷
      (Tag 18, m.exec_inst) ∷
      (Tag 110, option_map dec_text m.min_qty) ∷
      (Tag floor, option_map dec_text m.max_floor) ∷
      (Tag 100, m.ex_destination) ∷
      (Tag 55, Some m.symbol) ∷
      (Tag 65, m.symbol_sfx) ∷
      (Tag 48, m.security_id) ∷
      (Tag 22, option_map code_text m.id_source) ∷
      (Tag 167, m.security_type) ∷
      (Tag 200, option_map month_text m.maturity) ∷
      (Tag 541, option_and_then date_text m.maturity) ∷
      (Tag 207, m.security_exchange) ∷
      (Tag 54, Some (code_text m.side)) ∷
      (Tag 114, option_map flag_text m.locate) ∷
      (Tag 60, Some (stamp_text m.transact_time)) ∷
      (Tag 38, Some (dec_text m.order_qty)) ∷
      (Tag 40, Some (code_text m.ord_type)) ∷
      (Tag 44, option_map dec_text m.price) ∷
      (Tag 99, option_map dec_text m.stop_px) ∷
      (Tag 15, m.currency) ∷
      (Tag 59, option_map code_text m.time_in_force) ∷
      (Tag 168, option_map stamp_text m.effective_time) ∷
      (Tag 432, option_map day_text m.expire_date) ∷
      (Tag 126, option_map stamp_text m.expire_time) ∷
      (Tag 528, option_map code_text m.capacity) ∷
      (Tag 77, option_map code_text m.open_close) ∷
      (Tag 58, m.text) ∷
      [];
  groups = (453, map party_cells m.parties) ∷ (78, map alloc_cells m.allocs)
      ∷ (386, map session_cells m.sessions) ∷ [];
}

abbrev pub replace_says : Replace ℕ → Message
replace_says m = replaced_says (λ code. Some (code_text code)) 1138 m

-- what a status request says
abbrev pub status_says : Status50 → Message
status_says m = record {
  letter = 72;
  resend = m.resend;
  cells =
      (Tag 11, Some m.cl_ord_id) ∷
      (Tag 37, m.order_id) ∷
      (Role 3, id_of 3 m.parties) ∷
      (Role 1, id_of 1 m.parties) ∷
      (Tag 1, m.account) ∷
      (Tag 55, Some m.symbol) ∷
      (Tag 65, m.symbol_sfx) ∷
      (Tag 48, m.security_id) ∷
      (Tag 22, option_map code_text m.id_source) ∷
      (Tag 167, m.security_type) ∷
      (Tag 200, option_map month_text m.maturity) ∷
      (Tag 541, option_and_then date_text m.maturity) ∷
      (Tag 207, m.security_exchange) ∷
      (Tag 54, Some (code_text m.side)) ∷
      [];
  groups = (453, map party_cells m.parties) ∷ [];
}

-- WHAT A MESSAGE SAYS
abbrev pub says : Msg50 → Message
says (messages.New m) = new_says m
says (messages.Cancel m) = cancel_says m
says (messages.Replace m) = replace_says m
says (messages.Status m) = status_says m
