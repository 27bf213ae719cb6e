-- What a refusal says as a message, read again from the message.
use Rattle.std.proofs.Common.{◌≡◌, ℕ, ◌||◌, Bool, true, false, List, codes, Option, Some, None}
use Rattle.std.proofs.Common.{refl, sym, ap, ◌∙◌}
use Rattle.std.specs.Prelude.{IfSome}
use Rattle.std.specs.Str.{bytes_eq}
use Rattle.std.proofs.lemmas.Slice.Eq.{bytes_eq-Decides}
use Rattle.std.specs.Fmt.{decimal}
use Rattle.std.specs.Option.{option_map}
use Rattle.field_groups.specs.HeadValues.{number_in}
use Rattle.message_tables.specs.Tables.{◌>>=◌}
use Rattle.order_meaning.specs.declared.refusal.Refusal.{Refusal}
use Rattle.refusal_parts.specs.Readable.{IsReadableRefusal, IsWhole}
use Rattle.refusal_parts.specs.Said.{business_reject_says, session_reject_says}
use Rattle.sound_laws.proofs.GroupStage.{number_said}
use Rattle.message_answers.specs.Message.{is_refusal_type, refusal_in}
use Rattle.message_answers.specs.Seen.{refusal_type}

number_again : (number : Option ℕ) → IfSome number IsWhole
    → (option_map decimal number >>= number_in) ≡ number
number_again None whole = refl
number_again (Some number) whole = number_said number whole

pub business_again : (r : Refusal) → IsReadableRefusal r → r.tag ≡ None
    → refusal_in (business_reject_says r) ≡ r
business_again r readable tag = λ i. record {
  number = number_again r.number readable.number i;
  msg_type = r.msg_type;
  id = r.id;
  tag = sym tag i;
  reason = number_again r.reason readable.reason i;
  text = r.text;
}

pub session_again : (r : Refusal) → IsReadableRefusal r → r.id ≡ None
    → refusal_in (session_reject_says r) ≡ r
session_again r readable id = λ i. record {
  number = number_again r.number readable.number i;
  msg_type = r.msg_type;
  id = sym id i;
  tag = number_again r.tag readable.tag i;
  reason = number_again r.reason readable.reason i;
  text = r.text;
}

-- the type of a refusal
pub type_is : (msg_type : List ℕ) (business : Bool) → is_refusal_type msg_type ≡ true
    → business ≡ bytes_eq msg_type (codes "j") → msg_type ≡ refusal_type business
type_is msg_type business is named =
    by (bytes_eq msg_type (codes "3")) (bytes_eq msg_type (codes "j")) refl refl is
  where
    by : (three j : Bool) → bytes_eq msg_type (codes "3") ≡ three
        → bytes_eq msg_type (codes "j") ≡ j → (three || j) ≡ true → msg_type ≡ refusal_type business
    by three true a b h = (bytes_eq-Decides msg_type (codes "j")).0 b
        ∙ ap refusal_type (sym (named ∙ b))
    by true false a b h = (bytes_eq-Decides msg_type (codes "3")).0 a
        ∙ ap refusal_type (sym (named ∙ b))
    by false false a b h = absurd cc
