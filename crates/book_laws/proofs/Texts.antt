-- What is heard in an answer.
use Rattle.std.proofs.Common.{◌≡◌, ◌≤◌, ℕ, Bool, true, false, List, [], ◌∷◌, codes, Option, Some}
use Rattle.std.proofs.Common.{None, Result, Ok, IfSome, refl, sym, ap, subst, ◌∙◌, arith}
use Rattle.std.proofs.Common.{if◌then◌else◌}
use Rattle.std.specs.Prelude.{is_some}
use Rattle.std.specs.Option.{option_map}
use Rattle.std.specs.Result.{result_ok}
use Rattle.field_groups.specs.Field.{Field, body_of}
use Rattle.field_groups.specs.HeadValues.{number_in}
use Rattle.message_tables.specs.Tables.{Message, ◌>>=◌, is_one_of, value_at}
use Rattle.order_meaning.specs.declared.Side.{Side}
use Rattle.order_meaning.specs.declared.Side.TheVariants.{Client, Venue}
use Rattle.order_meaning.specs.declared.fault.Fault.{Fault}
use Rattle.session_core.specs.declared.said.Said.{Said}
use Rattle.session_core.specs.declared.tag.TheConstants.{REF_SEQ_NUM}
use Rattle.pair_entries.specs.declared.TheConstants.{MAX_NUMBER}
use Rattle.pair_entries.specs.declared.entry.Entry.{Entry}
use Rattle.reject_rules.specs.Renumbered.{renumbered}
use Rattle.dict_fix42.specs.Sense.{request42}
use Rattle.dict_fix50.specs.Sense.{request50}
use Rattle.reports_fix42.specs.Step.{step42}
use Rattle.reports_fix50.specs.Step.{step50}
use Rattle.event_decisions.specs.Body.{fields_of}
use Rattle.event_decisions.specs.Decide.{Asked, Words, out_of}
use Rattle.message_answers.specs.Answer.{other}
use Rattle.message_answers.specs.Laws as answers
use Rattle.message_answers.specs.Laws.{AnswersAreGivenOut, AreNumbered, IsGivenOut}
use Rattle.message_answers.specs.Message.{is_business, is_refusal, is_refusal_type, message_of}
use Rattle.message_answers.specs.Message.{refusal_in}
use Rattle.message_answers.specs.Translated.{GoesOn}
use Rattle.message_answers.proofs.KnownNumbers.{IsGoodSource, named_good}
use Rattle.message_answers.proofs.Letters.{among}
use Rattle.message_answers.proofs.ReadShapes.{resend_is, said_type}
use Rattle.message_answers.proofs.SaidTexts.{IsShortId}
use Rattle.request_rules.specs.Rules.{up_message}
use Rattle.book_laws.specs.Heard.{Heard, Carries, book_after, cl_ord_id_in, heard_body}
use Rattle.book_laws.specs.Heard.{heard_out, is_reject, message_to, number_named_in, said_out}
use Rattle.book_laws.specs.Heard.{sort_of, with_resend}
use Rattle.book_laws.specs.HeardLaws.{AnswersAreHeard, HasItsId, IsHeard, IsHeardOn, IsRefusalOf}
use Rattle.book_laws.specs.HeardLaws.{Off, On, Returned}
use Rattle.book_laws.proofs.Answered.{NamesFirst, IsAnswer, Nears, Tells, Goes, answer_is}
use Rattle.book_laws.proofs.Answered.{told_names}
use Rattle.life_laws.proofs.Received.{content_read}
use Rattle.book_laws.proofs.Contents.{number_named}
use Rattle.book_laws.proofs.On.{HasSameId, IsOn}
use Rattle.book_laws.proofs.Reports.{report_on}
use Rattle.book_laws.proofs.Requests.{request_on}

-- ---- refusals

-- a refusal is heard as one, whether it is read or not
rejects : (letter : ℕ) (read : Bool) → is_one_of (codes "3j") letter ≡ true
    → is_reject (sort_of (letter ∷ []) read) ≡ true
rejects letter true listed =
    among (λ l. is_reject (sort_of (l ∷ []) true)) (codes "3j") letter refl listed
rejects letter false listed =
    among (λ l. is_reject (sort_of (l ∷ []) false)) (codes "3j") letter refl listed

pub refuses : (number : ℕ) → number ≤ 1_000_000_000 → (said : Said) → NamesFirst number said
    → IsGivenOut said → (side : Side) (own : ℕ) (resend : Bool)
    → IsRefusalOf number (heard_out (out_of side own resend said))
refuses number few said names given side own resend =
    let fields = fields_of said.content in
    let read = is_some (said_out (out_of side own resend said)) in
    let is_type : is_refusal_type (names.letter ∷ []) ≡ true =
    among (λ l. is_refusal_type (l ∷ [])) (codes "3j") names.letter refl names.listed in
    record {
      reject = ap (λ (t : List ℕ). is_reject (sort_of t read)) names.typed
          ∙ rejects names.letter read names.listed;
      named = ap (λ (t : List ℕ). number_named_in t fields) names.typed
          ∙ ap (λ (b : Bool). if b then (value_at REF_SEQ_NUM fields >>= number_in) else None)
          is_type ∙ number_named number few said names.more names.content given;
    }

-- ---- what goes on

module _ (side : Side) (number : ℕ) (body : List ℕ) (m : Message)
    (reads : message_of side body ≡ Ok m) (none : is_refusal m ≡ false) (out : Message)
    (written : List Field) (on : IsOn side m out written) (own : ℕ) where
  abbrev given : Heard
  given = heard_out (out_of (other side) own m.resend
      (record { msg_type = m.letter ∷ []; content = body_of written; admin = false }))

  said_is : given.said ≡ Some out
  said_is =
      ap (λ (fields : List Field). option_map (with_resend m.resend)
      (result_ok (message_to (other side) (m.letter ∷ []) fields)))
      (content_read written on.given.good on.given.few)
      ∙ ap (λ (r : Result Message Fault). option_map (with_resend m.resend) (result_ok r)) on.read
      ∙ (λ i. Some (record out { resend = on.resend i }))

  id_is : (other : Side) → HasSameId other m out
      → HasItsId other (heard_body side number body) given
  id_is Client same = ap (λ (r : Result Message Fault). result_ok r >>= cl_ord_id_in) reads ∙ same
      ∙ sym (ap (λ (s : Option Message). s >>= cl_ord_id_in) said_is)
  id_is Venue same = tt

  goes_on : IsHeardOn side (heard_body side number body) given
  goes_on = record {
    sort = (λ i. sort_of (said_type side body m reads i) (is_some (result_ok (reads i)))) ∙ on.sort;
    out_sort = ap (λ (s : Option Message). sort_of (m.letter ∷ []) (is_some s)) said_is ∙ on.sort;
    resend = sym (resend_is side body m reads none);
    id = id_is side on.id;
    carries = carried side on.carries;
  }
    where
      carried : (x : Side) → answers.Carries x m out → Carries x (heard_body side number body) given
      carried Client same = ap (λ (r : Result Message Fault). result_ok r >>= request42) reads
          ∙ same ∙ sym (ap (λ (s : Option Message). s >>= request50) said_is)
      carried Venue same = λ book.
          ap (λ (r : Result Message Fault). book_after step50 book (result_ok r)) reads
          ∙ same book ∙ sym (ap (λ (s : Option Message). book_after step42 book s) said_is)

-- ---- answers

module _ (given_out : AnswersAreGivenOut) (before : List Entry) (numbered : AreNumbered before)
    (active : Bool) (asked : Asked) (few : asked.number ≤ MAX_NUMBER) (own : ℕ) where
  -- these words are heard so, where they can be sent
  abbrev AreHeard : Option Words → Type 0
  AreHeard words = IfSome words (λ w. IsGivenOut w.said → IsHeard before asked w own)

  goes : (side : Side) (number : ℕ) (body : List ℕ) (m : Message)
      → (reads : message_of side body ≡ Ok m) → (none : is_refusal m ≡ false)
      → (original : Option (List ℕ)) → IfSome original IsShortId → (written : List Field)
      → GoesOn side original m written
      → IsHeardOn side (heard_body side number body) (heard_out (out_of (other side) own m.resend
      (record { msg_type = m.letter ∷ []; content = body_of written; admin = false })))
  goes Client number body m reads none original known written is =
      goes_on Client number body m reads none (up_message m) written
      (request_on m (up_message m) written is.means is.canonical) own
  goes Venue number body m reads none original known written is =
      goes_on Venue number body m reads none is.client written
      (report_on body m reads none original written known is) own

  by_answer : (words : Option Words) → IsAnswer before asked words → AreHeard words
  by_answer words (Nears said names is) =
      subst AreHeard (sym is) (λ given. Off refl
      (refuses asked.number (omega (arith, few)) said names given asked.side own false))
  by_answer words (Tells m reads refusal number letter source is) =
      let good : IsGoodSource (number, letter) =
      subst (λ (o : Option (ℕ × ℕ)). IfSome o IsGoodSource) source
      (named_good before numbered asked.side (refusal_in m)) in
      subst AreHeard (sym is) (λ given. Returned refl (record {
        m = m;
        read = reads;
        refusal = refusal;
        number = number;
        letter = letter;
        source = source;
        refuses = refuses number (omega (arith, good.number))
            (renumbered (other asked.side) (is_business m) (refusal_in m) number (letter ∷ []))
            (told_names (other asked.side) (is_business m) (refusal_in m) number (letter ∷ []))
            given (other asked.side) own false;
      }))
  by_answer words (Goes m reads none unused original known written on is) =
      subst AreHeard (sym is) (λ given. On refl
      (goes asked.side asked.number asked.body m reads none original known written on))

-- EACH ANSWER IS HEARD.
pub answers_heard : AnswersAreGivenOut → AnswersAreHeard
answers_heard given_out before active asked words own numbered few is =
    by_answer given_out before numbered active asked few own (Some words)
    (answer_is before numbered active asked words is)
    (given_out before active (Some asked) words numbered few is)
