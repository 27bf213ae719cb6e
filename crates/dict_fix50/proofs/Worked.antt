-- Worked requests of FIX 5.0 SP2: what they say, by computation.
use Rattle.std.specs.Prelude.{◌≡◌, ℕ, List, [], ◌∷◌, ◌++◌, codes}
use Rattle.std.specs.Prelude.{Some, None, Result, Ok, Err}
use Rattle.std.specs.Fmt.{digits}
use Rattle.value_kinds.specs.ValueKind.{spelling}
use Rattle.typed_fields.specs.Digits.{are_digits, number_of, has_pattern, zero_padded}
use Rattle.typed_fields.specs.Digits.{without_leading_zeros, without_trailing_zeros}
use Rattle.field_groups.specs.Field.{Field}
use Rattle.message_tables.specs.Tables.{Tag, Role, Said, Message, first_of, said_at}
use Rattle.message_tables.specs.FirstFault.{first_fault, message_of}
use Rattle.field_groups.specs.HeadValues.{number_in}
use Rattle.order_meaning.specs.declared.fault.Fault.{Fault}
use Rattle.row_values.specs.Kinds.{judge}
use Rattle.dict_fix50.specs.Message.{message50}

abbrev said_in : Result Message Fault → ℕ → Said
said_in (Ok m) tag = said_at m.cells (Tag tag)
said_in (Err fault) tag = None

abbrev party_in : Result Message Fault → ℕ → Said
party_in (Ok m) role = said_at m.cells (Role role)
party_in (Err fault) role = None

-- a new order with these fields behind its ClOrdID, and at its end
abbrev fields_of : List Field → List Field → List Field
fields_of between last =
    (35, codes "D") ∷ (34, codes "2") ∷ (11, codes "A1") ∷ between ++ (21, codes "1")
    ∷ (55, codes "IBM") ∷ (54, codes "1") ∷
    (60, codes "20240102-10:00:00") ∷ (38, codes "100") ∷ (40, codes "2") ∷ (44, codes "10.5")
    ∷ last

abbrev read : List Field → List Field → Result Message Fault
read between last = message50 (codes "D") (fields_of between last) None

-- a party of a role
abbrev party : List ℕ → List ℕ → List Field
party id role = (448, id) ∷ (452, role) ∷ []

-- what is said: the first party of a role; TimeInForce 7 beside market or limit alone; a month, by
-- its date where one stands
pub record Says : Type 0 where
  pub first_of_role : party_in
      (read ((453, codes "3") ∷ party (codes "B0") (codes "17") ++ party (codes "B1") (codes "01")
      ++ party (codes "B2") (codes "1")) []) 1 ≡ Some (codes "B1")
  pub at_close : said_in (read [] ((59, codes "7") ∷ [])) 59 ≡ Some (codes "7")
  pub month : said_in (read ((200, codes "202406") ∷ []) []) 200 ≡ Some (codes "202406")
  pub no_month : said_in (read ((200, codes "2024W1") ∷ []) []) 200 ≡ None
  pub month_of_date : said_in (read ((541, codes "20240630") ∷ []) []) 200 ≡ Some (codes "202406")
  pub other_month : said_in (read ((200, codes "2023-7") ∷ (541, codes "20240630") ∷ []) []) 200
      ≡ Some (codes "202406")
  pub listed_codes : said_in (read ((18, codes "1 1 G") ∷ []) []) 18 ≡ Some (codes "1 1 G")
  pub canonical : said_in (read [] ((99, codes "010.500") ∷ [])) 99 ≡ Some (codes "10.5")

says : Says
unfolding message50 message_of first_fault first_of judge number_in spelling are_digits number_of
    has_pattern without_leading_zeros without_trailing_zeros digits zero_padded
says = search
