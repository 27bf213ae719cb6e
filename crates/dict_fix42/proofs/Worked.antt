-- Worked requests of FIX 4.2: what they mean, and what is written of them, by computation.
use Rattle.std.specs.Prelude.{◌≡◌, true, false, pos, List, [], ◌∷◌, ◌++◌, codes, refl}
use Rattle.std.specs.Prelude.{Some, None, Result, Ok, Err}
use Rattle.std.specs.declared.option.Option.{Option}
use Rattle.std.specs.Option.{option_map}
use Rattle.std.specs.Fmt.{digits}
use Rattle.value_kinds.specs.ValueKind.{spelling, units_of_text}
use Rattle.typed_fields.specs.Digits.{are_digits, number_of, has_pattern, zero_padded}
use Rattle.typed_fields.specs.Digits.{without_leading_zeros, without_trailing_zeros}
use Rattle.order_meaning.specs.declared.fault.Fault.{Fault}
use Rattle.order_meaning.specs.Request.{Request, Limit}
use Rattle.field_groups.specs.Field.{Field}
use Rattle.field_groups.specs.HeadValues.{number_in}
use Rattle.message_tables.specs.Tables.{Message, first_of}
use Rattle.message_tables.specs.FirstFault.{first_fault, message_of}
use Rattle.message_tables.specs.Content.{content}
use Rattle.row_values.specs.Kinds.{judge}
use Rattle.dict_fix42.specs.Message.{message42}
use Rattle.rows_fix42.specs.Header.{table}
use Rattle.dict_fix42.specs.Requests.{new_order}
use Rattle.dict_fix42.specs.Sense.{sense42}

-- a new order with these fields between its ClOrdID and its HandlInst, and at its end
abbrev order_fields : List Field → List Field → List Field
order_fields between last =
    (35, codes "D") ∷ (34, codes "2") ∷ (11, codes "A1") ∷ between ++ (21, codes "1") ∷
    (55, codes "IBM") ∷ (54, codes "1") ∷
    (60, codes "20240102-10:00:00") ∷ (38, codes "100") ∷ (40, codes "2") ∷ (44, codes "10.5") ∷
    last

-- ---- what is meant, and what is written

abbrev meant : {A : Type 0} → (Request → A) → List Field → List Field → Option A
meant field between last = option_map field (sense42 (codes "D") (order_fields between last))

pub record Meanings : Type 0 where
  pub client : meant (λ r. r.client_id) ((109, codes "C7") ∷ []) [] ≡ Some (Some (codes "C7"))
  pub limit : meant (λ r. r.ord_type) [] [] ≡ Some (Some Limit)
  pub quantity : meant (λ r. r.order_qty) [] []
      ≡ Some (Some (record { units = pos 10_000_000_000 }))
  pub resend : meant (λ r. r.resend) ((97, codes "Y") ∷ []) [] ≡ Some true
  pub no_resend : meant (λ r. r.resend) ((97, codes "N") ∷ []) [] ≡ Some false
  pub day : meant (λ r. r.maturity) ((205, codes "3") ∷ (200, codes "202406") ∷ []) []
      ≡ Some (Some (record { month = codes "202406"; day = Some 3 }))
  pub no_sense : meant (λ r. r.symbol) ((9999, codes "x") ∷ []) [] ≡ None

meanings : Meanings
unfolding sense42 units_of_text message42 message_of first_fault first_of number_in judge spelling
    are_digits number_of has_pattern without_leading_zeros without_trailing_zeros digits zero_padded
meanings = search

abbrev written_again : Result Message Fault → Result Message Fault
written_again (Ok m) = message42 (codes "D") (content (table 68 new_order) m) None
written_again (Err fault) = Err fault

abbrev in_groups : List Field
in_groups = (78, codes "2") ∷ (79, codes "X") ∷ (80, codes "40.0") ∷ (79, codes "Y") ∷
    (386, codes "01") ∷ (336, codes "DAY") ∷ (205, codes "3") ∷ (200, codes "202406") ∷ []

-- the content of a message with groups is the same message
again : written_again (message42 (codes "D") (order_fields in_groups ((58, codes "hi") ∷ [])) None)
    ≡ message42 (codes "D") (order_fields in_groups ((58, codes "hi") ∷ [])) None
unfolding message42 message_of first_fault first_of number_in judge spelling are_digits number_of
    has_pattern without_leading_zeros without_trailing_zeros digits zero_padded
again = refl
