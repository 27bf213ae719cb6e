-- Every answer that is given out can be sent.
use Rattle.std.proofs.Common.{◌≡◌, ◌≤◌, ◌<◌, ◌^◌, ℕ, ◌&&◌, ◌||◌, not, Bool, true, false, List}
use Rattle.std.proofs.Common.{[], ◌∷◌, codes, length, Option, Some, None}
use Rattle.std.proofs.Common.{inl, inr, IfSome, refl, sym, ap, subst, arith}
use Rattle.std.specs.Prelude.{All}
use Rattle.std.specs.Fmt.{decimal}
use Rattle.std.specs.List.{AllByRecursion, list_any}
use Rattle.std.specs.Str.{bytes_eq}
use Rattle.std.proofs.lemmas.List.Elements.{All-head, All-tail}
use Rattle.field_groups.specs.Data.{is_data_tag}
use Rattle.field_groups.specs.Field.{Field, IsPlainField, body_of, is_soh}
use Rattle.field_groups.proofs.Plain.{plain_are}
use Rattle.message_tables.specs.Tables.{Message, is_one_of}
use Rattle.order_meaning.specs.declared.Side.{Side}
use Rattle.order_meaning.specs.declared.Side.TheVariants.{Client, Venue}
use Rattle.order_meaning.specs.declared.fault.Fault.{Fault}
use Rattle.order_meaning.specs.declared.fault.Fault.TheVariants as faults
use Rattle.order_meaning.specs.declared.refusal.Refusal.{Refusal}
use Rattle.session_core.specs.declared.said.Said.{Said}
use Rattle.session_core.specs.declared.tag.TheConstants.{REF_SEQ_NUM}
use Rattle.pair_entries.specs.declared.TheConstants.{MAX_CONTENT, MAX_NUMBER}
use Rattle.pair_entries.specs.declared.entry.Entry.{Entry}
use Rattle.sound_laws.proofs.Each.{both, each_by, not_true}
use Rattle.sound_laws.proofs.PlainFields.{all_of, is_good_tag, plain_field}
use Rattle.reject_rules.specs.Content.{reject, business_reject}
use Rattle.reject_rules.specs.Laws.{HasWords, IsOf, IsRefusalField, IsShort, refusal_tags}
use Rattle.reject_rules.specs.Refusals.{business_refusal, no_counterpart}
use Rattle.reject_rules.specs.Refusals.{refusal_of, session_refusal}
use Rattle.reject_rules.specs.Renumbered.{renumbered}
use Rattle.reject_rules.proofs.Plain.{fault_plain, used_plain, away_plain, told_plain}
use Rattle.reject_rules.proofs.Short.{fault_short, used_short, away_short, told_short}
use Rattle.request_rules.specs.Rules.{up_message}
use Rattle.event_decisions.specs.Body.{type_of}
use Rattle.event_decisions.specs.Decide.{Asked, Words}
use Rattle.message_answers.specs.Answer.{near_words, other}
use Rattle.message_answers.specs.Known.{known_of, named}
use Rattle.message_answers.specs.Laws.{AnswersAreGivenOut, AreNumbered, IsGivenOut, IsGivenType}
use Rattle.message_answers.specs.Laws.{session_types}
use Rattle.message_answers.specs.Message.{is_business, refusal_in}
use Rattle.message_answers.specs.Translated.{GoesOn}
use Rattle.message_answers.proofs.AnswerCases.{IsFault, IsGiven, IsRead, Away, Faulty, Goes}
use Rattle.message_answers.proofs.AnswerCases.{NamesNone, Repeats, Tells, Used, given}
use Rattle.message_answers.proofs.KnownNumbers.{IsGoodSource, known_short, named_good}
use Rattle.message_answers.proofs.Letters.{among}
use Rattle.message_answers.proofs.ReadShapes.{letter_is, refuses_well, venue_report, words_of_fault}
use Rattle.message_answers.proofs.SaidTexts.{IsShortId, type_clear}
use Rattle.message_answers.proofs.SentFields.{AreGiven, apart_of, report_given, request_given}

-- ---- types

abbrev is_given : ℕ → Bool
is_given letter =
    not (is_soh letter) && (not (bytes_eq (letter ∷ []) (codes "4"))
    && not (list_any (bytes_eq (letter ∷ [])) session_types))

type_given : (letter : ℕ) → is_one_of (codes "DFGH893j") letter ≡ true → IsGivenType (letter ∷ [])
type_given letter listed =
    let a = both _ _ (among is_given (codes "DFGH893j") letter refl listed) in
    let b = both _ _ a.1 in
    record {
      typed = omega arith;
      short = omega arith;
      plain = ap (λ (b : Bool). b || false) (not_true (is_soh letter) a.0);
      no_reset = not_true (bytes_eq (letter ∷ []) (codes "4")) b.0;
      no_session = not_true (list_any (bytes_eq (letter ∷ [])) session_types) b.1;
    }

-- a message of such a type
record IsOfType (said : Said) : Type 0 where
  letter : ℕ
  typed : said.msg_type ≡ letter ∷ []
  listed : is_one_of (codes "DFGH893j") letter ≡ true
  plain : said.admin ≡ false

by_parts : (said : Said) (fields : List Field) → IsOfType said → said.content ≡ body_of fields
    → AreGiven fields → length said.content ≤ MAX_CONTENT → IsGivenOut said
by_parts said fields of content given bounded = record {
  fields = fields;
  content = content;
  good = given.good;
  few = given.few;
  bounded = bounded;
  msg_type = subst IsGivenType (sym of.typed) (type_given of.letter of.listed);
  no_header = given.apart;
  plain = of.plain;
}

-- ---- refusals

word : (n : ℕ) → n ≤ MAX_NUMBER → n < 2 ^ 32
word n few = omega (arith, few)

refusal_plain : (f : Field) → IsRefusalField f → IsPlainField f
unfolding is_data_tag
refusal_plain f here =
    plain_field f.0 f.1 (among is_good_tag refusal_tags f.0 refl here.listed) here.no_soh

refusal_fields : (fs : List Field) → All IsRefusalField fs → AllByRecursion IsRefusalField fs
refusal_fields [] all = tt
refusal_fields (f ∷ fs) all = (
  All-head IsRefusalField f fs all,
  refusal_fields fs (All-tail IsRefusalField f fs all),
)

refusal_given : (number : ℕ) (said : Said) → IsOfType said → IsOf number said → IsShort said
    → IsGivenOut said
refusal_given number said typed of short =
    let fs : List Field = (REF_SEQ_NUM, decimal number) ∷ of.more in
    let each = refusal_fields fs of.fields in
    by_parts said fs typed of.written (record {
      good = plain_are None fs (all_of fs
          (each_by IsRefusalField IsPlainField refusal_plain fs each));
      few = omega (arith, of.few);
      apart = apart_of refusal_tags fs refl (each_by IsRefusalField
          (λ f. is_one_of refusal_tags f.0 ≡ true) (λ f here. here.listed) fs each);
    }) (omega (arith, short.short))

reject_type : (r : Refusal) → IsOfType (reject r)
unfolding reject
reject_type r = record { letter = 51; typed = refl; listed = refl; plain = refl }

business_type : (r : Refusal) → IsOfType (business_reject r)
unfolding business_reject
business_type r = record { letter = 106; typed = refl; listed = refl; plain = refl }

fault_type : (side : Side) (number : ℕ) (msg_type : List ℕ) (fault : Fault) (said : Said)
    → refusal_of side number msg_type fault ≡ Some said → IsOfType said
fault_type side number msg_type (faults.Session tag reason) said is =
    let same : session_refusal side number msg_type tag reason ≡ said = cc in
    subst IsOfType same (reject_type _)
fault_type side number msg_type (faults.NoCounterpart tag) said is =
    let same : business_refusal number msg_type 0 (no_counterpart tag) ≡ said = cc in
    subst IsOfType same (business_type _)
fault_type side number msg_type faults.NotSupported said is =
    let same : business_refusal number msg_type 3 (no_counterpart 35) ≡ said = cc in
    subst IsOfType same (business_type _)
fault_type side number msg_type faults.NoMemory said is = absurd cc

told_type : (side : Side) (business : Bool) (r : Refusal) (number : ℕ) (msg_type : List ℕ)
    → IsOfType (renumbered side business r number msg_type)
told_type side true r number msg_type = business_type _
told_type side false r number msg_type = business_type _

-- ---- what is asked

abbrev AreGivenOut : Option Words → Type 0
AreGivenOut words = IfSome words (λ w. IsGivenOut w.said)

module _ (before : List Entry) (numbered : AreNumbered before) (active : Bool) (asked : Asked)
    (few : asked.number ≤ MAX_NUMBER) where
  fault_given : (fault : Fault) → HasWords fault → (said : Option Said)
      → refusal_of asked.side asked.number (type_of asked.body) fault ≡ said
      → AreGivenOut (near_words asked said)
  fault_given fault small None e = tt
  fault_given fault small (Some said) e = refusal_given asked.number said
      (fault_type asked.side asked.number (type_of asked.body) fault said e)
      (fault_plain asked.side asked.number (type_of asked.body) fault said
      (word asked.number few) small (type_clear asked.body) e)
      (fault_short asked.side asked.number (type_of asked.body) fault said
      (word asked.number few) small e)

  small_fault : (fault : Fault) → IsFault asked fault → HasWords fault
  small_fault fault (inl reads) = words_of_fault asked.side asked.body fault reads
  small_fault fault (inr (tag, small, same)) = subst (λ (x : Fault). HasWords x) same small

  told_given : (m : Message) → IsRead asked true m → (number letter : ℕ)
      → named (known_of before) asked.side (refusal_in m) ≡ Some (number, letter)
      → IsGivenOut (renumbered (other asked.side) (is_business m) (refusal_in m) number
      (letter ∷ []))
  told_given m read number letter source =
      let well = refuses_well asked.side asked.body m read.reads read.is in
      let good : IsGoodSource (number, letter) =
      subst (λ (at : Option (ℕ × ℕ)). IfSome at IsGoodSource) source
      (named_good before numbered asked.side (refusal_in m)) in
      refusal_given number _
      (told_type (other asked.side) (is_business m) (refusal_in m) number (letter ∷ []))
      (told_plain (other asked.side) (is_business m) (refusal_in m) number (letter ∷ [])
      (word number good.number) well.bounded well.texts
      (ap (λ (b : Bool). b || false) good.letter))
      (told_short (other asked.side) (is_business m) (refusal_in m) number (letter ∷ [])
      (word number good.number) well.bounded)

  -- what goes on
  goes_given : (m : Message) → IsRead asked false m → (side : Side) → asked.side ≡ side
      → (original : Option (List ℕ)) → IfSome original IsShortId → (written : List Field)
      → GoesOn side original m written → AreGiven written
  goes_given m read Client of original known written goes =
      request_given (up_message m) written goes.canonical
  goes_given m read Venue of original known written goes =
      report_given m (venue_report asked.side asked.body m read.reads of read.is)
      original known written goes

  all_given : (words : Option Words) → IsGiven (known_of before) active asked words
      → AreGivenOut words
  all_given words (Faulty fault of is) =
      subst AreGivenOut (sym is) (fault_given fault (small_fault fault of) _ refl)
  all_given words (Used is) = subst AreGivenOut (sym is) (refusal_given asked.number _
      (business_type _)
      (used_plain asked.number (type_of asked.body) (word asked.number few) (type_clear asked.body))
      (used_short asked.number (type_of asked.body) (word asked.number few)))
  all_given words (Away is) = subst AreGivenOut (sym is) (refusal_given asked.number _
      (business_type _)
      (away_plain asked.number (type_of asked.body) (word asked.number few) (type_clear asked.body))
      (away_short asked.number (type_of asked.body) (word asked.number few)))
  all_given words (Repeats m read client again is) = subst AreGivenOut (sym is) tt
  all_given words (NamesNone m read none is) = subst AreGivenOut (sym is) tt
  all_given words (Tells m read number letter source is) =
      subst AreGivenOut (sym is) (told_given m read number letter source)
  all_given words (Goes m read unused original from written on short is) =
      subst AreGivenOut (sym is) (by_parts _ written (record {
        letter = m.letter;
        typed = refl;
        listed = letter_is asked.side asked.body m read.reads;
        plain = refl;
      }) refl (goes_given m read asked.side refl original
      (known_short before numbered m original from) written on) short)

-- EVERY ANSWER CAN BE SENT.
pub answers_given : AnswersAreGivenOut
answers_given before active None words numbered few is = absurd cc
answers_given before active (Some asked) words numbered few is =
    all_given before numbered active asked few (Some words)
    (given (known_of before) active asked (Some words) is)
