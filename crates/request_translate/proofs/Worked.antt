-- A worked plain order: its values have the forms of a plain order, by computation.
use Rattle.std.specs.Prelude.{[], ◌∷◌, ◌≡◌, codes, Some, refl}
use Rattle.std.specs.Fmt.{digits}
use Rattle.typed_fields.specs.Digits.{are_digits, number_of, has_pattern, zero_padded}
use Rattle.typed_fields.specs.Digits.{without_leading_zeros, without_trailing_zeros}
use Rattle.value_kinds.specs.ValueKind.{spelling}
use Rattle.request_translate.specs.Plain.{PlainOrder, HasPlainValues, translated_fields}

abbrev order : PlainOrder
order = record {
  sender_comp_id = codes "CLNT";
  target_comp_id = codes "GATE";
  msg_seq_num = codes "2";
  sending_time = codes "20240102-10:00:00";
  cl_ord_id = codes "A1";
  client_id = Some (codes "FUND");
  hand_inst = codes "1";
  symbol = codes "IBM";
  side = codes "1";
  transact_time = codes "20240102-10:00:00";
  order_qty = codes "100";
  limit = Some (codes "10.5");
}

its_values : HasPlainValues order
unfolding spelling are_digits number_of has_pattern without_leading_zeros
    without_trailing_zeros digits zero_padded
its_values = search

its_translation : translated_fields order
    ≡ (35, codes "D") ∷ (49, codes "CLNT") ∷ (56, codes "GATE") ∷ (34, codes "2") ∷
    (52, codes "20240102-10:00:00") ∷ (11, codes "A1") ∷ (453, codes "1") ∷
    (448, codes "FUND") ∷ (447, codes "D") ∷ (452, codes "3") ∷ (21, codes "1") ∷
    (55, codes "IBM") ∷ (54, codes "1") ∷ (60, codes "20240102-10:00:00") ∷
    (38, codes "100") ∷ (40, codes "2") ∷ (44, codes "10.5") ∷ []
its_translation = refl
