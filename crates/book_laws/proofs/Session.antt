-- The session takes a body as its receiver reads it, and its own messages are heard as plain.
use Rattle.std.proofs.Common.{◌≡◌, ℕ, ◌||◌, Bool, true, false, List, [], ◌∷◌, codes, Option, Some}
use Rattle.std.proofs.Common.{None, Result, Ok, Err, refl, sym, ap, subst, ◌∙◌, inl, inr, ◌⊎◌}
use Rattle.std.proofs.Common.{if◌then◌else◌}
use Rattle.std.specs.Prelude.{unwrap_or}
use Rattle.std.specs.List.{list_all, list_any}
use Rattle.std.specs.Str.{bytes_eq}
use Rattle.std.proofs.lemmas.Slice.Eq.{bytes_eq-Decides}
use Rattle.field_groups.specs.Field.{Field}
use Rattle.message_tables.specs.Tables.{value_at}
use Rattle.order_meaning.specs.declared.Side.{Side}
use Rattle.session_core.specs.declared.head.What.{What}
use Rattle.session_core.specs.declared.head.What.TheVariants as what
use Rattle.session_core.specs.declared.numbers.TheConstants.{ALL_USED, MAX_MSG_SEQ_NUM}
use Rattle.session_core.specs.declared.tag.TheConstants.{BEGIN_SEQ_NO, END_SEQ_NO, TEST_REQ_ID}
use Rattle.session_core.specs.declared.tag.TheConstants.{GAP_FILL_FLAG, NEW_SEQ_NO}
use Rattle.session_logon.specs.declared.logon.LogonFault.{LogonFault}
use Rattle.session_logon.specs.declared.logon.LogonFault.TheVariants.{Tag}
use Rattle.session_logon.specs.Head.{end_kind, kind_of, logon_kind, number_in, resend_request_kind}
use Rattle.session_logon.specs.Head.{sequence_reset_kind, test_request_kind}
use Rattle.session_logon.specs.Logon.{is_yes, logon_of}
use Rattle.session_logon.specs.Reasons.{read_between, read_zero_or_from, required, text_fault}
use Rattle.kept_entries.specs.Numbers.{Taking, Counts, Fills, Resets}
use Rattle.sound_laws.proofs.Each.{both}
use Rattle.event_decisions.specs.Body.{fields_of, type_of}
use Rattle.event_decisions.specs.Laws.{taking_by, taking_of}
use Rattle.life_laws.specs.Receiver.{is_administrative, message_by, read_as, read_body, read_reset}
use Rattle.life_laws.specs.Taken.{Read, GapFill, Reset, Other}
use Rattle.book_laws.specs.Heard.{Sort, Plain, sort_of}
use Rattle.book_laws.specs.HeardLaws.{BodiesAreReadAlike, HasNumber}
use Rattle.book_laws.specs.HeardLaws.{SessionsAreHeardPlain, SentSessionsAreHeardPlain}

-- ---- what a body is taken for

-- the kind of a SequenceReset(4)
abbrev pub reset_kind : List Field → What
reset_kind fields = sequence_reset_kind (is_yes (value_at GAP_FILL_FLAG fields))
    (required (read_between 1 ALL_USED) (value_at NEW_SEQ_NO fields))

logon_counts : (r : Result (ℕ × Bool) LogonFault) → taking_by (logon_kind r) ≡ Counts
logon_counts (Ok said) = refl
logon_counts (Err (Tag tag)) = refl

test_counts : (fault : Option ℕ) → taking_by (test_request_kind fault) ≡ Counts
test_counts None = refl
test_counts (Some reason) = refl

end_counts : (from : ℕ) (r : Result ℕ ℕ) → taking_by (end_kind from r) ≡ Counts
end_counts from (Ok to) = refl
end_counts from (Err reason) = refl

resend_counts : (r : Result ℕ ℕ) (fields : List Field)
    → taking_by (resend_request_kind r fields) ≡ Counts
resend_counts (Ok from) fields =
    end_counts from (required (read_zero_or_from from) (value_at END_SEQ_NO fields))
resend_counts (Err reason) fields = refl

module _ (side : Side) (msg_type : List ℕ) (fields : List Field) where
  -- any other message counts
  other_counts : bytes_eq msg_type (codes "4") ≡ false
      → taking_by (kind_of side msg_type fields) ≡ Counts
  other_counts none = by (bytes_eq msg_type (codes "A")) (bytes_eq msg_type (codes "0"))
      (bytes_eq msg_type (codes "1")) (bytes_eq msg_type (codes "2"))
      (bytes_eq msg_type (codes "3")) (bytes_eq msg_type (codes "4"))
      (bytes_eq msg_type (codes "5")) none
    where
      by : (a b c d e f g : Bool) → f ≡ false → taking_by
          (if a then logon_kind (logon_of side fields)
          else (if b then what.Heartbeat
          else (if c then test_request_kind (text_fault (value_at TEST_REQ_ID fields))
          else (if d then resend_request_kind
          (required (read_between 1 MAX_MSG_SEQ_NUM) (value_at BEGIN_SEQ_NO fields)) fields
          else (if e then what.Reject
          else (if f then reset_kind fields
          else (if g then what.Logout else what.App))))))) ≡ Counts
      by true b c d e f g is = logon_counts (logon_of side fields)
      by false true c d e f g is = refl
      by false false true d e f g is = test_counts (text_fault (value_at TEST_REQ_ID fields))
      by false false false true e f g is = resend_counts
          (required (read_between 1 MAX_MSG_SEQ_NUM) (value_at BEGIN_SEQ_NO fields)) fields
      by false false false false true f g is = refl
      by false false false false false true g is = absurd cc
      by false false false false false false true is = refl
      by false false false false false false false is = refl

  -- a SequenceReset(4) is of its kind
  pub reset_is : bytes_eq msg_type (codes "4") ≡ true
      → kind_of side msg_type fields ≡ reset_kind fields
  reset_is test =
      ap (λ (t : List ℕ). kind_of side t fields) ((bytes_eq-Decides msg_type (codes "4")).0 test)

  -- ---- how it is read

  abbrev read : ℕ → Read
  read number = read_as number msg_type fields

  pub read_other : (number : ℕ) → bytes_eq msg_type (codes "4") ≡ false
      → read number ≡ Other (message_by number msg_type fields) (is_administrative msg_type)
  read_other number none = ap (λ (b : Bool). if b then read_reset number (reset_kind fields)
      else Other (message_by number msg_type fields) (is_administrative msg_type)) none

  read_kind : (number : ℕ) → bytes_eq msg_type (codes "4") ≡ true
      → read number ≡ read_reset number (kind_of side msg_type fields)
  read_kind number test = ap (λ (b : Bool). if b then read_reset number (reset_kind fields)
      else Other (message_by number msg_type fields) (is_administrative msg_type)) test
      ∙ ap (read_reset number) (sym (reset_is test))

  -- what a message, a gap fill and a reset are taken for
  abbrev IsAlike : Read → Taking → Type 0
  IsAlike (Other m admin) taking = taking ≡ Counts
  IsAlike (GapFill number to) taking = taking ≡ Fills to
  IsAlike Reset taking = (taking ≡ Counts) ⊎ ((to : ℕ) × (taking ≡ Resets to))

  of_kind : (number : ℕ) (kind : What) → IsAlike (read_reset number kind) (taking_by kind)
  of_kind number (what.GapFill to) = refl
  of_kind number (what.Reset to) = inr (to, refl)
  of_kind number kind = inl refl

  alike : (number : ℕ) → IsAlike (read number) (taking_by (kind_of side msg_type fields))
  alike number = by (bytes_eq msg_type (codes "4")) refl
    where
      by : (b : Bool) → bytes_eq msg_type (codes "4") ≡ b
          → IsAlike (read number) (taking_by (kind_of side msg_type fields))
      by true e = subst (λ (r : Read). IsAlike r (taking_by (kind_of side msg_type fields)))
          (sym (read_kind number e)) (of_kind number (kind_of side msg_type fields))
      by false e = subst (λ (r : Read). IsAlike r (taking_by (kind_of side msg_type fields)))
          (sym (read_other number e)) (other_counts e)

  -- the number of a body
  numbered_kind : (number : ℕ) (kind : What) → HasNumber number (read_reset number kind)
  numbered_kind number (what.GapFill to) = refl
  numbered_kind number kind = tt

  numbered : (number : ℕ) → HasNumber number (read number)
  numbered number = by (bytes_eq msg_type (codes "4"))
    where
      by : (b : Bool) → HasNumber number (if b then read_reset number (reset_kind fields)
          else Other (message_by number msg_type fields) (is_administrative msg_type))
      by true = numbered_kind number (reset_kind fields)
      by false = refl

-- A SESSION TAKES A BODY AS ITS RECEIVER READS IT.
pub bodies_alike : BodiesAreReadAlike
bodies_alike side raw =
    let msg_type = type_of raw in
    let fields = fields_of raw in
    let number = unwrap_or (number_in fields) 0 in
    let is = alike side msg_type fields number in
    let P : Read → Type 0 = λ r. IsAlike side msg_type fields r (taking_of side raw) in
    record {
      message = λ m admin e. subst P e is;
      fill = λ n to e. subst P e is;
      reset = λ e. subst P e is;
      by_kind = read_kind side msg_type fields number;
      numbered = λ n e. subst (λ (k : ℕ). HasNumber k (read_body raw))
          (ap (λ (o : Option ℕ). unwrap_or o 0) e) (numbered side msg_type fields number);
    }

-- ---- the session's own messages

abbrev is_plain : Sort → Bool
is_plain Plain = true
is_plain other = false

plain_is : (sort : Sort) → is_plain sort ≡ true → sort ≡ Plain
plain_is Plain is = refl
plain_is sort is = absurd cc

-- what holds of each of some types holds of one among them
among : (test : List ℕ → Bool) (types : List (List ℕ)) (msg_type : List ℕ)
    → list_all test types ≡ true → list_any (bytes_eq msg_type) types ≡ true → test msg_type ≡ true
among test [] msg_type all one = absurd cc
among test (t ∷ types) msg_type all one =
    by (bytes_eq msg_type t) refl one (λ rest. among test types msg_type parts.1 rest)
  where
    parts : (test t ≡ true) × (list_all test types ≡ true)
    parts = both (test t) (list_all test types) all

    by : (b : Bool) → bytes_eq msg_type t ≡ b → (b || list_any (bytes_eq msg_type) types) ≡ true
        → (list_any (bytes_eq msg_type) types ≡ true → test msg_type ≡ true) → test msg_type ≡ true
    by true e one later = ap test ((bytes_eq-Decides msg_type t).0 e) ∙ parts.0
    by false e one later = later one

pub plain_type : (msg_type : List ℕ) (is_read : Bool) → is_administrative msg_type ≡ true
    → sort_of msg_type is_read ≡ Plain
plain_type msg_type is_read listed = plain_is (sort_of msg_type is_read)
    (among (λ t. is_plain (sort_of t is_read))
    (codes "0" ∷ codes "1" ∷ codes "2" ∷ codes "4" ∷ codes "5" ∷ codes "A" ∷ []) msg_type refl
    listed)

pub sessions_plain : SessionsAreHeardPlain
sessions_plain side number body admin = plain_type (type_of body) _ admin

pub sent_plain : SentSessionsAreHeardPlain
sent_plain names side out sent admin = plain_type out.msg_type _ (sym sent.admin ∙ admin)
