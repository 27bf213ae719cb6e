-- Standard: FIX 5.0 SP2, volume 4, New Order - Single (D), Order Cancel Request (F), Order
-- Cancel/Replace Request (G), Order Status Request (H), and volume 6: what their fields mean.
use Rattle.std.specs.Prelude.{ℕ, List, Option, None}
use Rattle.std.specs.Result.{result_ok}
use Rattle.field_groups.specs.Field.{Field}
use Rattle.message_tables.specs.Tables.{Tag, Role, Message, ◌>>=◌, said_at, code_if}
use Rattle.order_meaning.specs.Request.{Request, RequestKind}
use Rattle.row_values.specs.Amounts.{amount_if}
use Rattle.row_values.specs.Asked.{of_letter, request_by}
use Rattle.rows_fix50.specs.Meaning.{terms_of, maturity_of}
use Rattle.dict_fix50.specs.Message.{message50}

-- what a message asks for
abbrev pub request_of : RequestKind → Message → Request
request_of kind m = request_by kind m (record {
  client_id = said_at m.cells (Role 3);
  exec_broker = said_at m.cells (Role 1);
  clearing_firm = said_at m.cells (Role 4);
  hand_inst = code_if m.cells 21;
  max_floor = amount_if m.cells 1138;
  maturity = maturity_of (said_at m.cells (Tag 200)) (said_at m.cells (Tag 541));
  ord_type = (terms_of (code_if m.cells 40) (code_if m.cells 59)).0;
  time_in_force = (terms_of (code_if m.cells 40) (code_if m.cells 59)).1;
  capacity = code_if m.cells 528;
})

-- the request of a message, by its letter
abbrev pub request50 : Message → Option Request
request50 m = of_letter m.letter (λ kind. request_of kind m)

-- THE SENSE of a message of FIX 5.0 SP2, by its MsgType and its fields
unfoldable pub sense50 : List ℕ → List Field → Option Request
sense50 msg_type fields = result_ok (message50 msg_type fields None) >>= request50
