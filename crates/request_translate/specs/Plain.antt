-- Own: the plain order, which version 0.1.0 translated and no other message, and its translation,
-- both field by field.
use Rattle.std.specs.Prelude.{◌≡◌, ℕ, List, [], ◌∷◌, ◌++◌, codes, Some, None, Result, Ok, IfSome}
use Rattle.std.specs.declared.option.Option.{Option}
use Rattle.frame_grammar.specs.declared.frame.Kind.TheVariants.{Fixt11}
use Rattle.frame_grammar.specs.Frame.{frame_of}
use Rattle.field_groups.specs.Field.{Field, body_of}
use Rattle.value_kinds.specs.ValueKind.{ValueKind, Id, Code, Stamp, Qty, Price, spelling}
use Rattle.translation.specs.declared.error.TranslateError.{TranslateError}
use Rattle.sound_laws.specs.Sound.{IsClear}
use Rattle.request_translate.specs.Translation.{IsOutcome}

-- the values of a plain order
pub record PlainOrder : Type 0 where
  pub sender_comp_id : List ℕ
  pub target_comp_id : List ℕ
  pub msg_seq_num : List ℕ
  pub sending_time : List ℕ
  pub cl_ord_id : List ℕ
  pub client_id : Option (List ℕ)
  pub hand_inst : List ℕ
  pub symbol : List ℕ
  pub side : List ℕ
  pub transact_time : List ℕ
  pub order_qty : List ℕ
  -- the price of a limit order; a market order has none
  pub limit : Option (List ℕ)

-- a value of a kind by its one canonical spelling, without SOH
pub record IsValue (kind : ValueKind) (text : List ℕ) : Type 0 where
  pub spelled : spelling kind text ≡ Ok (Some text)
  pub clear : IsClear text

-- an id is 1 to 128 bytes
pub record HasPlainValues (o : PlainOrder) : Type 0 where
  pub sender_comp_id : IsValue Id o.sender_comp_id
  pub target_comp_id : IsValue Id o.target_comp_id
  pub msg_seq_num : IsValue Id o.msg_seq_num
  pub sending_time : IsValue Id o.sending_time
  pub cl_ord_id : IsValue Id o.cl_ord_id
  pub client_id : IfSome o.client_id (IsValue Id)
  pub hand_inst : IsValue (Code (codes "123")) o.hand_inst
  pub symbol : IsValue Id o.symbol
  pub side : IsValue (Code (codes "123456")) o.side
  pub transact_time : IsValue Stamp o.transact_time
  pub order_qty : IsValue Qty o.order_qty
  pub limit : IfSome o.limit (IsValue Price)

-- ClientID(109) of FIX 4.2, and the party that it is in FIX 5.0 SP2
abbrev pub client_field : Option (List ℕ) → List Field
client_field None = []
client_field (Some id) = (109, id) ∷ []

abbrev pub client_party : Option (List ℕ) → List Field
client_party None = []
client_party (Some id) =
    (453, codes "1") ∷ (448, id) ∷ (447, codes "D") ∷ (452, codes "3") ∷ []

-- OrdType(40), market or limit, and Price(44) of a limit order
abbrev pub terms : Option (List ℕ) → List Field
terms None = (40, codes "1") ∷ []
terms (Some price) = (40, codes "2") ∷ (44, price) ∷ []

-- THE FIELDS OF A PLAIN ORDER in FIX 4.2
abbrev pub plain_fields : PlainOrder → List Field
plain_fields o =
    (35, codes "D") ∷ (49, o.sender_comp_id) ∷ (56, o.target_comp_id) ∷
    (34, o.msg_seq_num) ∷ (52, o.sending_time) ∷
    (11, o.cl_ord_id) ∷ client_field o.client_id ++
    (21, o.hand_inst) ∷ (55, o.symbol) ∷ (54, o.side) ∷
    (60, o.transact_time) ∷ (38, o.order_qty) ∷ terms o.limit

-- and those of its translation to FIX 5.0 SP2
abbrev pub translated_fields : PlainOrder → List Field
translated_fields o =
    (35, codes "D") ∷ (49, o.sender_comp_id) ∷ (56, o.target_comp_id) ∷
    (34, o.msg_seq_num) ∷ (52, o.sending_time) ∷
    (11, o.cl_ord_id) ∷ client_party o.client_id ++
    (21, o.hand_inst) ∷ (55, o.symbol) ∷ (54, o.side) ∷
    (60, o.transact_time) ∷ (38, o.order_qty) ∷ terms o.limit

-- THE ONE OUTCOME of the body of a plain order is the frame of its translation.
abbrev pub PlainOrdersAreTranslated : Type 0
PlainOrdersAreTranslated = (o : PlainOrder) (outcome : Result (List ℕ) TranslateError)
    → HasPlainValues o → IsOutcome (body_of (plain_fields o)) outcome
    → outcome ≡ Ok (frame_of Fixt11 (body_of (translated_fields o)))
