-- Standard: FIX 4.2, New Order - Single (D), Order Cancel Request (F), Order Cancel/Replace Request
-- (G), Order Status Request (H), and Field Definitions: what their fields mean.
use Rattle.std.specs.Prelude.{ℕ, List, Option, None}
use Rattle.std.specs.Result.{result_ok}
use Rattle.field_groups.specs.Field.{Field}
use Rattle.message_tables.specs.Tables.{Tag, Message, ◌>>=◌, said_at, code_if}
use Rattle.order_meaning.specs.Request.{Request, RequestKind}
use Rattle.row_values.specs.Amounts.{amount_if}
use Rattle.row_values.specs.Asked.{of_letter, request_by}
use Rattle.rows_fix42.specs.Meaning.{order_type_of, is_on_close, time_of, maturity_of}
use Rattle.dict_fix42.specs.Message.{message42}

-- what a message asks for
abbrev pub request_of : RequestKind → Message → Request
request_of kind m = request_by kind m (record {
  client_id = said_at m.cells (Tag 109);
  exec_broker = said_at m.cells (Tag 76);
  clearing_firm = said_at m.cells (Tag 439);
  hand_inst = code_if m.cells 21;
  max_floor = amount_if m.cells 111;
  maturity = maturity_of (said_at m.cells (Tag 200)) (said_at m.cells (Tag 205));
  ord_type = code_if m.cells 40 >>= order_type_of;
  time_in_force = time_of (is_on_close (code_if m.cells 40)) (code_if m.cells 59);
  capacity = code_if m.cells 47;
})

-- the request of a message, by its letter
abbrev pub request42 : Message → Option Request
request42 m = of_letter m.letter (λ kind. request_of kind m)

-- THE SENSE of a message of FIX 4.2, by its MsgType and its fields
unfoldable pub sense42 : List ℕ → List Field → Option Request
sense42 msg_type fields = result_ok (message42 msg_type fields None) >>= request42
