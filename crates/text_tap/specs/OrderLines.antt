-- Own: the line of an order or a report, by which it is found; docs/DEFINITIONS.md, "Taps and
-- lines".
use Rattle.std.specs.Prelude.{ℕ, Bool, ◌==◌, ◌||◌, ◌&&◌, nat_lt, List, [], ◌∷◌, ◌++◌, map, take, drop}
use Rattle.std.specs.Prelude.{codes, bytes_eq, length, fold, slice_index, if◌then◌else◌}
use Rattle.std.specs.List.{slice_split}
use Rattle.text_tap.specs.Shown.{shown}

-- what an order or a report says at ClOrdID(11), ExecID(17), ExecTransType(20), ExecType(150) and
-- OrdStatus(39)
pub record Said : Type 0 where
  pub order : List ℕ
  pub execution : List ℕ
  pub transaction : List ℕ
  pub exec_type : List ℕ
  pub status : List ℕ

abbrev pub nothing_said : Said
nothing_said =
    record { order = []; execution = []; transaction = []; exec_type = []; status = [] }

-- what a field says, where its tag and `=` are these; else nothing
abbrev pub value_of : List ℕ → List ℕ → List ℕ
value_of tag field =
    if bytes_eq (take (length tag) field) tag then drop (length tag) field else []

-- the first of two values that says something
abbrev pub first_said : List ℕ → List ℕ → List ℕ
first_said [] second = second
first_said (byte ∷ bytes) second = byte ∷ bytes

-- with what one field more says
abbrev pub said_by : Said → List ℕ → Said
said_by said field = record {
  order = first_said said.order (value_of (codes "11=") field);
  execution = first_said said.execution (value_of (codes "17=") field);
  transaction = first_said said.transaction (value_of (codes "20=") field);
  exec_type = first_said said.exec_type (value_of (codes "150=") field);
  status = first_said said.status (value_of (codes "39=") field);
}

-- the fields of a body or a content, which end with SOH
abbrev pub fields_of : List ℕ → List (List ℕ)
fields_of bytes = slice_split (λ byte. byte == 1) bytes

abbrev pub said_in : List ℕ → Said
said_in bytes = fold said_by nothing_said (fields_of bytes)

-- the byte of a value of one byte, and else 0
abbrev pub letter : List ℕ → ℕ
letter [] = 0
letter (byte ∷ []) = byte
letter (byte ∷ other ∷ bytes) = 0

-- the byte before an SOH at the second place, and else 0
abbrev pub letter_before : List ℕ → ℕ
letter_before bytes =
    if nat_lt 1 (length bytes) && slice_index bytes 1 == 1 then slice_index bytes 0 else 0

-- the type of a body, where it is one letter: the body begins with its MsgType(35) and SOH
abbrev pub letter_in : List ℕ → ℕ
letter_in body =
    if bytes_eq (take 3 body) (codes "35=") then letter_before (drop 3 body) else 0

-- the types of orders and reports: 8, 9, D, F, G and H
abbrev pub is_named : ℕ → Bool
is_named msg_type =
    msg_type == 56 || (msg_type == 57 || (msg_type == 68 || (msg_type == 70
    || (msg_type == 71 || msg_type == 72))))

-- what a report of an ExecType(150) and an OrdStatus(39) tells
abbrev pub exec_name : ℕ → ℕ → List ℕ
exec_name exec_type status =
    if exec_type == 48 then codes "new"
    else if exec_type == 49 then codes "partial fill"
    else if exec_type == 50 then codes "fill"
    else if exec_type == 51 then codes "done for day"
    else if exec_type == 52 then codes "canceled"
    else if exec_type == 53 then codes "replaced"
    else if exec_type == 54 then codes "pending cancel"
    else if exec_type == 55 then codes "stopped"
    else if exec_type == 56 then codes "rejected"
    else if exec_type == 57 then codes "suspended"
    else if exec_type == 65 then codes "pending new"
    else if exec_type == 66 then codes "calculated"
    else if exec_type == 67 then codes "expired"
    else if exec_type == 68 then codes "restated"
    else if exec_type == 69 then codes "pending replace"
    else if exec_type == 70 then (if status == 50 then codes "fill" else codes "partial fill")
    else if exec_type == 71 then codes "correction"
    else if exec_type == 72 then codes "bust"
    else if exec_type == 73 then codes "status"
    else codes "report"

-- what a report tells: in FIX 4.2 by its ExecTransType(20) first
abbrev pub report_name : Said → List ℕ
report_name said =
    if letter said.transaction == 49 then codes "bust"
    else if letter said.transaction == 50 then codes "correction"
    else if letter said.transaction == 51 then codes "status"
    else exec_name (letter said.exec_type) (letter said.status)

-- what an order or a report is called
abbrev pub message_name : ℕ → Said → List ℕ
message_name msg_type said =
    if msg_type == 68 then codes "order"
    else if msg_type == 70 then codes "cancel"
    else if msg_type == 71 then codes "replace"
    else if msg_type == 72 then codes "status request"
    else if msg_type == 57 then codes "cancel reject"
    else report_name said

-- ` 11=A1`, where there is one
abbrev pub id_words : List ℕ → List ℕ → List ℕ
id_words tag [] = []
id_words tag (byte ∷ id) = tag ++ map shown (byte ∷ id)

-- `fill 11=A1 17=E2`, to the end of the line
abbrev pub order_words : ℕ → List ℕ → List ℕ
order_words msg_type bytes =
    message_name msg_type (said_in bytes) ++ id_words (codes " 11=") (said_in bytes).order
    ++ id_words (codes " 17=") (said_in bytes).execution ++ codes "\n"
