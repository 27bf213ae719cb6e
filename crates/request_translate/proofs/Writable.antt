-- The types of requests have one byte.
use Rattle.std.proofs.Common.{◌≡◌, ℕ, List, [], ◌∷◌, None, Ok, refl, arith}
use Rattle.field_groups.specs.Field.{Field}
use Rattle.message_tables.specs.Tables.{Message}
use Rattle.order_meaning.specs.Request.{RequestKind, New, Cancel, Replace, Status}
use Rattle.dict_fix42.specs.Message.{message42}
use Rattle.first_faults.specs.Faults.{message_by}
use Rattle.translation.specs.Going.{IsType, One}
use Rattle.row_values.specs.Asked.{letter_of}
use Rattle.request_rules.proofs.ByType.{by_type}

pub is_type : (kind : RequestKind) → IsType (letter_of kind ∷ [])
is_type New = One 68 (λ no. absurd (omega (arith, no))) refl
is_type Cancel = One 70 (λ no. absurd (omega (arith, no))) refl
is_type Replace = One 71 (λ no. absurd (omega (arith, no))) refl
is_type Status = One 72 (λ no. absurd (omega (arith, no))) refl

-- a message has a type of one byte
pub type_is : (msg_type : List ℕ) (fields : List Field) (x : Message)
    → message42 msg_type fields None ≡ Ok x → IsType msg_type
unfolding message42
type_is msg_type fields x e =
    by_type (λ t of42 of50. message_by of42 fields None ≡ Ok x → IsType t)
    (λ t no. absurd cc) (λ kind read. is_type kind) msg_type e
