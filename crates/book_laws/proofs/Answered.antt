-- What each answer is: a refusal to the side that asked, a refusal that is told to the other side,
-- or a message that goes on.
use Rattle.std.proofs.Common.{◌≡◌, ℕ, ◌++◌, Bool, true, false, List, [], ◌∷◌, codes, Option, Some}
use Rattle.std.proofs.Common.{None, Ok, IfSome, refl, ap, subst}
use Rattle.field_groups.specs.Field.{Field, body_of}
use Rattle.message_tables.specs.Tables.{Message, is_one_of}
use Rattle.order_meaning.specs.declared.Side.{Side}
use Rattle.order_meaning.specs.declared.Side.TheVariants.{Client}
use Rattle.order_meaning.specs.declared.fault.Fault.{Fault}
use Rattle.order_meaning.specs.declared.fault.Fault.TheVariants as faults
use Rattle.order_meaning.specs.declared.refusal.Refusal.{Refusal}
use Rattle.session_core.specs.declared.said.Said.{Said}
use Rattle.session_core.specs.declared.tag.TheConstants.{REF_SEQ_NUM, REF_TAG_ID, REF_MSG_TYPE}
use Rattle.session_core.specs.declared.tag.TheConstants.{SESSION_REJECT_REASON, TEXT}
use Rattle.pair_entries.specs.declared.entry.Entry.{Entry}
use Rattle.reject_rules.specs.Content.{business_reject, field_if, number_if, reject}
use Rattle.reject_rules.specs.Refusals.{business_refusal, no_counterpart}
use Rattle.reject_rules.specs.Refusals.{refusal_of, session_refusal}
use Rattle.reject_rules.specs.Renumbered.{renumbered}
use Rattle.event_decisions.specs.Body.{type_of}
use Rattle.event_decisions.specs.Decide.{Asked, Words}
use Rattle.message_answers.specs.Answer.{Answers, forwarded, is_used, near_words, other, to_near}
use Rattle.message_answers.specs.Known.{known_of, named}
use Rattle.message_answers.specs.Laws.{AreNumbered}
use Rattle.message_answers.specs.Message.{is_business, is_refusal, message_of, refusal_in}
use Rattle.message_answers.specs.Translated.{GoesOn}
use Rattle.message_answers.proofs.AnswerCases as cases
use Rattle.message_answers.proofs.KnownNumbers.{known_short}
use Rattle.message_answers.proofs.SaidTexts.{IsShortId}
use Rattle.book_laws.proofs.Contents.{number_field}

-- ---- a Reject(3) or a BusinessMessageReject(j) that names a number first

pub record NamesFirst (number : ℕ) (said : Said) : Type 0 where
  pub letter : ℕ
  pub typed : said.msg_type ≡ letter ∷ []
  pub listed : is_one_of (codes "3j") letter ≡ true
  pub more : List Field
  pub content : said.content ≡ body_of (number_field number ∷ more)

reject_names : (number : ℕ) (r : Refusal) → r.number ≡ Some number → NamesFirst number (reject r)
unfolding reject
reject_names number r is = record {
  letter = 51;
  typed = refl;
  listed = refl;
  more = number_if REF_TAG_ID r.tag ++ field_if REF_MSG_TYPE r.msg_type
      ++ number_if SESSION_REJECT_REASON r.reason ++ field_if TEXT r.text;
  content = ap (λ (n : Option ℕ). body_of (number_if REF_SEQ_NUM n ++ number_if REF_TAG_ID r.tag
      ++ field_if REF_MSG_TYPE r.msg_type ++ number_if SESSION_REJECT_REASON r.reason
      ++ field_if TEXT r.text)) is;
}

business_names : (number : ℕ) (r : Refusal) → r.number ≡ Some number
    → NamesFirst number (business_reject r)
unfolding business_reject
business_names number r is = record {
  letter = 106;
  typed = refl;
  listed = refl;
  more = field_if REF_MSG_TYPE r.msg_type ++ field_if 379 r.id ++ number_if 380 r.reason
      ++ field_if TEXT r.text;
  content = ap (λ (n : Option ℕ). body_of (number_if REF_SEQ_NUM n
      ++ field_if REF_MSG_TYPE r.msg_type ++ field_if 379 r.id ++ number_if 380 r.reason
      ++ field_if TEXT r.text)) is;
}

fault_names : (side : Side) (number : ℕ) (msg_type : List ℕ) (fault : Fault) (said : Said)
    → refusal_of side number msg_type fault ≡ Some said → NamesFirst number said
fault_names side number msg_type (faults.Session tag reason) said is =
    let same : session_refusal side number msg_type tag reason ≡ said = cc in
    subst (NamesFirst number) same (reject_names number _ refl)
fault_names side number msg_type (faults.NoCounterpart tag) said is =
    let same : business_refusal number msg_type 0 (no_counterpart tag) ≡ said = cc in
    subst (NamesFirst number) same (business_names number _ refl)
fault_names side number msg_type faults.NotSupported said is =
    let same : business_refusal number msg_type 3 (no_counterpart 35) ≡ said = cc in
    subst (NamesFirst number) same (business_names number _ refl)
fault_names side number msg_type faults.NoMemory said is = absurd cc

pub told_names : (side : Side) (business : Bool) (r : Refusal) (number : ℕ) (far_type : List ℕ)
    → NamesFirst number (renumbered side business r number far_type)
told_names side true r number far_type = business_names number _ refl
told_names side false r number far_type = business_names number _ refl

-- ---- the three answers

pub data IsAnswer (before : List Entry) (asked : Asked) (words : Option Words) : Type 0 where
  Nears : (said : Said) → NamesFirst asked.number said → words ≡ to_near asked said
      → IsAnswer before asked words
  Tells : (m : Message) → message_of asked.side asked.body ≡ Ok m → is_refusal m ≡ true
      → (number letter : ℕ)
      → named (known_of before) asked.side (refusal_in m) ≡ Some (number, letter)
      → words ≡ Some (record {
        to = other asked.side;
        said = renumbered (other asked.side) (is_business m) (refusal_in m) number (letter ∷ []);
        resend = false;
      }) → IsAnswer before asked words
  Goes : (m : Message) → message_of asked.side asked.body ≡ Ok m → is_refusal m ≡ false
      → (asked.side ≡ Client → is_used (known_of before) m ≡ false)
      → (original : Option (List ℕ)) → IfSome original IsShortId → (written : List Field)
      → GoesOn asked.side original m written → words ≡ forwarded asked m written
      → IsAnswer before asked words

module _ (before : List Entry) (numbered : AreNumbered before) (active : Bool) (asked : Asked)
    (words : Words) where
  fault_is : (fault : Fault) (said : Option Said)
      → refusal_of asked.side asked.number (type_of asked.body) fault ≡ said
      → Some words ≡ near_words asked said → IsAnswer before asked (Some words)
  fault_is fault None e is = absurd cc
  fault_is fault (Some said) e is =
      Nears said (fault_names asked.side asked.number (type_of asked.body) fault said e) is

  -- WHAT AN ANSWER IS
  pub answer_is : Answers before active (Some asked) (Some words)
      → IsAnswer before asked (Some words)
  answer_is is = by (cases.given (known_of before) active asked (Some words) is)
    where
      by : cases.IsGiven (known_of before) active asked (Some words)
          → IsAnswer before asked (Some words)
      by (cases.Faulty fault of is) = fault_is fault _ refl is
      by (cases.Used is) = Nears _ (business_names asked.number _ refl) is
      by (cases.Away is) = Nears _ (business_names asked.number _ refl) is
      by (cases.Repeats m read client again is) = absurd cc
      by (cases.NamesNone m read none is) = absurd cc
      by (cases.Tells m read number letter source is) =
          Tells m read.reads read.is number letter source is
      by (cases.Goes m read unused original from written on short is) =
          Goes m read.reads read.is unused original (known_short before numbered m original from)
          written on is
