-- What is answered to a message, by what each step of the code found.
use Rattle.std.proofs.Common.{◌≡◌, ◌≤◌, ◌<◌, ℕ, Bool, true, false, List, [], ◌∷◌}
use Rattle.std.proofs.Common.{length, nat_lt, Option, Some, None, Result, Ok, Err, refl, sym, ap}
use Rattle.std.proofs.Common.{subst, ◌∙◌, arith, if◌then◌else◌}
use Rattle.std.specs.Prelude.{IfOk}
use Rattle.std.proofs.lemmas.Bool.Decides.{nat_tests}
use Rattle.std.proofs.lemmas.Result.{IfOk-weaker}
use Rattle.field_groups.specs.Field.{Field, body_of}
use Rattle.message_tables.specs.Tables.{Message}
use Rattle.order_meaning.specs.declared.Side.{Side}
use Rattle.order_meaning.specs.declared.fault.Fault.{Fault}
use Rattle.order_meaning.specs.declared.fault.Fault.TheVariants as faults
use Rattle.order_meaning.specs.declared.refusal.Refusal.{Refusal}
use Rattle.order_chains.specs.declared.item.ChainItem.{ChainItem}
use Rattle.session_core.specs.declared.said.Said.{Said}
use Rattle.pair_entries.specs.declared.TheConstants.{MAX_CONTENT}
use Rattle.first_faults.specs.Gives.{Tells}
use Rattle.refusal_parts.specs.Said.{business_reject_says, session_reject_says}
use Rattle.reject_rules.specs.Refusals.{refusal_of}
use Rattle.event_decisions.specs.Body.{type_of}
use Rattle.event_decisions.specs.Decide.{Words}
use Rattle.message_answers.specs.declared.answer.Answer.{Answer as GivenAnswer}
use Rattle.message_answers.specs.declared.asking.Asked.{Asked as GivenAsked}
use Rattle.message_answers.specs.declared.asking.Known.{Known as GivenKnown}
use Rattle.message_answers.specs.Answer.{Gives, near_if, refused, spelled, told, in_order, answered}
use Rattle.message_answers.specs.Answer.{forwarded, near_words, words_of, too_long}
use Rattle.message_answers.specs.Known.{named}
use Rattle.message_answers.specs.Message.{message_of, is_refusal, refusal_in, said_by}
use Rattle.message_answers.specs.Seen.{IsSplit, IsAnswer, IsRefused, IsTold, IsForwarded}
use Rattle.message_answers.specs.Seen.{Sent, Long, IsSpelled, Lacks, Goes, asked_in}
use Rattle.message_answers.specs.Seen.{known_in, words_in, message_in, refusal_says, told_words}
use Rattle.message_answers.specs.Translated.{GoesOn}

-- ---- what each step gives out

module _ (a : GivenAsked) (is_type : a.msg_type.now ≡ type_of a.body.now) where
  -- a refusal, by the type that the fields have
  same_refusal : (fault : Fault) → refusal_of a.side a.number a.msg_type.now fault
      ≡ refusal_of a.side a.number (type_of a.body.now) fault
  same_refusal fault = ap (λ (t : List ℕ). refusal_of a.side a.number t fault) is_type

  pub gives_refused : (fault : Fault) (answer : GivenAnswer) → IsRefused a fault answer
      → Gives (asked_in a) (refused (asked_in a) fault) (words_in answer)
  gives_refused fault answer is =
      subst (λ (said : Option Said). Gives (asked_in a) (near_if said) (words_in answer))
      (sym is.is ∙ same_refusal fault) is.words

  near_of : (fault : Fault) (answer : GivenAnswer) → IsRefused a fault answer
      → words_in answer
      ≡ near_words (asked_in a) (refusal_of a.side a.number (type_of a.body.now) fault)
  near_of fault answer is =
      is.words ∙ ap (near_words (asked_in a)) (sym is.is ∙ same_refusal fault)

  fits_not : (most n : ℕ) → n ≤ most → nat_lt most n ≡ false
  fits_not most n short = grind (arith, nat_tests)

  passes : (most n : ℕ) → most < n → nat_lt most n ≡ true
  passes most n long = grind (arith, nat_tests)

  words_by : (m : Message) (written : List Field) (long : Bool)
      → nat_lt MAX_CONTENT (length (body_of written)) ≡ long
      → words_of (asked_in a) m written ≡ (if long then near_words (asked_in a)
      (refusal_of a.side a.number (type_of a.body.now) (faults.NoCounterpart too_long))
      else forwarded (asked_in a) m written)
  words_by m written long is = λ i. if is i then near_words (asked_in a)
      (refusal_of a.side a.number (type_of a.body.now) (faults.NoCounterpart too_long))
      else forwarded (asked_in a) m written

  sent_words : (m : Message) (written : List Field) (item : Option ChainItem)
      (answer : GivenAnswer) → IsForwarded a (m.letter ∷ []) m.resend (body_of written) item answer
      → words_in answer ≡ words_of (asked_in a) m written
  sent_words m written item answer (Sent is) =
      is.words ∙ sym (words_by m written false (fits_not MAX_CONTENT _ is.short))
  sent_words m written item answer (Long long is) =
      near_of (faults.NoCounterpart too_long) answer is
      ∙ sym (words_by m written true (passes MAX_CONTENT _ long))

  -- a message that lacks a counterpart, or goes on
  pub gives_spelled : (side : Side) (original : Option (List ℕ)) (m : Message) (lack : Option ℕ)
      (item : Option ChainItem) (answer : GivenAnswer) → a.side ≡ side
      → IsSpelled a side original m lack item answer
      → Gives (asked_in a) (spelled (asked_in a) original m lack) (words_in answer)
  gives_spelled side original m lack item answer of_side (Lacks tag at is) =
      subst (λ (l : Option ℕ).
      Gives (asked_in a) (spelled (asked_in a) original m l) (words_in answer))
      (sym at) (gives_refused (faults.NoCounterpart tag) answer is)
  gives_spelled side original m lack item answer of_side (Goes written none goes is) =
      subst (λ (l : Option ℕ).
      Gives (asked_in a) (spelled (asked_in a) original m l) (words_in answer))
      (sym none) (
        written,
        subst (λ (s : Side). GoesOn s original m written) (sym of_side) goes,
        sent_words m written item answer is,
      )

-- what is told to the other side
gives_told : (a : GivenAsked) (business : Bool) (r : Refusal) (at : Option (ℕ × ℕ))
    → refusal_in (refusal_says business r) ≡ r
    → Gives (asked_in a) (told (asked_in a) (refusal_says business r) at)
    (told_words a.side business r at)
gives_told a business r None again = refl
gives_told a true r (Some (number, letter)) again =
    ap (λ (x : Refusal). told_words a.side true x (Some (number, letter))) (sym again)
gives_told a false r (Some (number, letter)) again =
    ap (λ (x : Refusal). told_words a.side false x (Some (number, letter))) (sym again)

-- ---- the message that is asked about

pub message_is : (a : GivenAsked) → IsSplit a → message_of a.side a.body.now ≡ message_in a
message_is a split = λ i.
    said_by a.side (sym split.msg_type i) (sym split.fields i) (sym split.fault i)

module _ (k : GivenKnown) (a : GivenAsked) (split : IsSplit a) where
  -- an answer to the message that the fields are
  pub answers : (x : Result Message Fault) (answer : GivenAnswer) → message_in a ≡ x
      → Gives (asked_in a) (answered (known_in k) k.active (asked_in a) x) (words_in answer)
      → IsAnswer k a answer
  answers x answer is gives =
      subst (λ (y : Result Message Fault).
      Gives (asked_in a) (answered (known_in k) k.active (asked_in a) y) (words_in answer))
      (sym (message_is a split ∙ is)) gives

  -- a fault that is told
  is_told : (fault : Fault) (answer : GivenAnswer) (x : Result Message Fault)
      → IsRefused a fault answer → Tells fault x → x ≡ Err fault
  is_told faults.NoMemory answer x is tells = absurd (cc is.is)
  is_told fault answer x is tells = tells

  -- THE FIRST FAULT is answered by its refusal, where there is memory for it.
  pub faulty : {E : Type 0} (fault : Fault) (result : Result GivenAnswer E)
      → Tells fault (message_in a) → IfOk result (IsRefused a fault) → IfOk result (IsAnswer k a)
  faulty fault result tells = IfOk-weaker result (IsRefused a fault) (IsAnswer k a)
      (λ answer is. answers (Err fault) answer (is_told fault answer (message_in a) is tells)
      (gives_refused a split.msg_type fault answer is))

  -- a message that is no refusal
  pub answers_message : (m : Message) (answer : GivenAnswer) → message_in a ≡ Ok m
      → is_refusal m ≡ false
      → Gives (asked_in a) (in_order a.side (known_in k) k.active (asked_in a) m)
      (words_in answer) → IsAnswer k a answer
  answers_message m answer is other gives =
      answers (Ok m) answer is
      (subst (λ (b : Bool). Gives (asked_in a)
      (if b then told (asked_in a) m (named (known_in k) a.side (refusal_in m)) else
      in_order a.side (known_in k) k.active (asked_in a) m) (words_in answer))
      (sym other) gives)

  -- a refusal
  gives_refusal : (business : Bool) (r : Refusal) (answer : GivenAnswer)
      → refusal_in (refusal_says business r) ≡ r → IsTold k a business r answer
      → Gives (asked_in a) (told (asked_in a) (refusal_says business r)
      (named (known_in k) a.side (refusal_in (refusal_says business r)))) (words_in answer)
  gives_refusal business r answer again is =
      let at : named (known_in k) a.side (refusal_in (refusal_says business r))
      ≡ named (known_in k) a.side r = ap (named (known_in k) a.side) again in
      subst (λ (x : Option (ℕ × ℕ)). Gives (asked_in a)
      (told (asked_in a) (refusal_says business r) x) (words_in answer)) (sym at)
      (subst (λ (w : Option Words). Gives (asked_in a)
      (told (asked_in a) (refusal_says business r) (named (known_in k) a.side r)) w)
      (sym is.words) (gives_told a business r (named (known_in k) a.side r) again))

  pub refusal_told : {E : Type 0} (business : Bool) (r : Refusal) (result : Result GivenAnswer E)
      → message_in a ≡ Ok (refusal_says business r) → refusal_in (refusal_says business r) ≡ r
      → IfOk result (IsTold k a business r) → IfOk result (IsAnswer k a)
  refusal_told business r result is again =
      IfOk-weaker result (IsTold k a business r) (IsAnswer k a) (by business is again)
    where
      by : (business : Bool) → message_in a ≡ Ok (refusal_says business r)
          → refusal_in (refusal_says business r) ≡ r → (answer : GivenAnswer)
          → IsTold k a business r answer → IsAnswer k a answer
      by true is again answer told =
          answers (Ok (business_reject_says r)) answer is (gives_refusal true r answer again told)
      by false is again answer told =
          answers (Ok (session_reject_says r)) answer is (gives_refusal false r answer again told)
