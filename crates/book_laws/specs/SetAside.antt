-- Standard: FIX 4.2 and FIX 5.0 SP2, Reject (3) and Business Message Reject (j): RefSeqNum(45) and
-- BusinessRejectRefID(379) name the message that is refused.
-- Own: which messages of a conversation are set aside: those that were answered off, and those that
-- were refused.
use Rattle.std.specs.Prelude.{ℕ, ◌==◌, ◌&&◌, not, Bool, true, false, List, filter, Option, Some}
use Rattle.std.specs.Prelude.{None}
use Rattle.std.specs.List.{list_any}
use Rattle.std.specs.Str.{bytes_eq}
use Rattle.order_meaning.specs.declared.Side.{Side}
use Rattle.order_meaning.specs.declared.Side.TheVariants.{Client, Venue}
use Rattle.book_laws.specs.Heard.{Sort, Request, Report, Refusal, is_reject, Heard}

-- A CONVERSATION of a side: the messages that it sent, and those that it took, in the order of
-- their numbers
pub record Conversation : Type 0 where
  pub sent : List Heard
  pub took : List Heard

-- ---- sorts

abbrev pub is_request : Sort → Bool
is_request Request = true
is_request other = false

abbrev pub is_report : Sort → Bool
is_report Report = true
is_report other = false

-- a Reject(3) or a BusinessMessageReject(j) that is read without a fault
abbrev pub is_refusal : Sort → Bool
is_refusal Refusal = true
is_refusal other = false

-- ---- what a refusal names

abbrev pub is_number : Option ℕ → ℕ → Bool
is_number None n = false
is_number (Some k) n = k == n

abbrev pub is_id : Option (List ℕ) → Option (List ℕ) → Bool
is_id None b = false
is_id (Some a) None = false
is_id (Some a) (Some b) = bytes_eq a b

-- by the number, or where there is none by the id
abbrev pub names_by : Option ℕ → Option (List ℕ) → ℕ → Option (List ℕ) → Bool
names_by (Some k) id number cl_ord_id = k == number
names_by None id number cl_ord_id = is_id id cl_ord_id

-- a refusal names a message by RefSeqNum(45); where that is absent, a New Order (D), a Cancel (F)
-- or a Cancel/Replace (G) whose ClOrdID(11) is its BusinessRejectRefID(379)
abbrev pub names : Heard → Heard → Bool
names refusal m = names_by refusal.number_named refusal.id_named m.number m.cl_ord_id

-- ---- set aside

-- a Reject or j, read or at fault, that names this number
abbrev pub answers : ℕ → Heard → Bool
answers number m = is_reject m.sort && is_number m.number_named number

-- A MESSAGE OF A SIDE IS ANSWERED OFF where the side took a Reject or j with its number.
abbrev pub is_answered_off : List Heard → Heard → Bool
is_answered_off took m = list_any (answers m.number) took

-- a refusal that names this message, and is not answered off itself
abbrev pub refuses : List Heard → Heard → Heard → Bool
refuses took m refusal =
    (is_refusal refusal.sort && not (is_answered_off took refusal)) && names refusal m

-- A MESSAGE THAT A SIDE TOOK IS REFUSED where it sent a refusal that names it.
abbrev pub is_refused : Conversation → Heard → Bool
is_refused c m = list_any (refuses c.took m) c.sent

-- ---- what counts

-- of a client its requests, but for those with PossResend(97); of a venue its reports
abbrev pub counts : Side → Heard → Bool
counts Client m = is_request m.sort && not m.resend
counts Venue m = is_report m.sort

-- those that a side sent, and was not answered off
abbrev pub sent_by : Side → Conversation → List Heard
sent_by side c = filter (λ m. counts side m && not (is_answered_off c.took m)) c.sent

-- those that its peer took of them, and did not refuse
abbrev pub took_of : Side → Conversation → List Heard
took_of side c = filter (λ m. counts side m && not (is_refused c m)) c.took
