-- That each request that a lawful journal forwarded was at no fault.
use Rattle.std.proofs.Common.{◌≡◌, ℕ, ◌==◌, not, Bool, true, false, List, [], ◌∷◌, ◌++◌, Option}
use Rattle.std.proofs.Common.{Some, None, Result, Ok, Err, IfSome, refl, sym, ap, subst, ◌∙◌}
use Rattle.std.proofs.Common.{option_map, unwrap_or, inl, inr}
use Rattle.std.specs.List.{AllByRecursion, list_any}
use Rattle.message_tables.specs.Tables.{Message, is_one_of}
use Rattle.order_meaning.specs.declared.Side.{Side}
use Rattle.order_meaning.specs.declared.Side.TheVariants.{Client, Venue}
use Rattle.order_meaning.specs.declared.fault.Fault.{Fault}
use Rattle.order_chains.specs.declared.item.ChainItem.{ChainItem}
use Rattle.session_core.specs.declared.said.Said.{Said}
use Rattle.pair_entries.specs.declared.entry.Took.{Took}
use Rattle.pair_entries.specs.declared.entry.Out.{Out}
use Rattle.pair_entries.specs.declared.entry.Entry.{Entry}
use Rattle.kept_entries.specs.Numbers.{is_side}
use Rattle.kept_entries.specs.Given.{has_letter, letters_to}
use Rattle.sound_laws.proofs.Each.{not_true}
use Rattle.reject_rules.specs.Refusals.{refusal_of}
use Rattle.event_decisions.specs.Body.{fields_of, type_of}
use Rattle.event_decisions.specs.Decide.{Asked, LawfulAfter, Words, asked_if, out_of}
use Rattle.event_decisions.specs.Laws.{AreWords, asked_about}
use Rattle.message_answers.specs.Answer.{Answers, Gives, answered, near_if}
use Rattle.message_answers.specs.Chains.{item_in, item_said, joining}
use Rattle.message_answers.specs.Known.{Known, known_of}
use Rattle.message_answers.specs.Message.{message_of}
use Rattle.message_answers.specs.Seen.{item_of}
use Rattle.message_answers.proofs.Forwards.{request_said}
use Rattle.message_answers.proofs.Letters.{among}
use Rattle.message_answers.proofs.ReadShapes.{said_type}
use Rattle.message_answers.proofs.Typed.{type_is}
use Rattle.book_laws.specs.Heard.{is_among, request_types}
use Rattle.book_laws.specs.Keeps.{In}
use Rattle.book_laws.specs.Laws.{IsJudged, RequestsAreJudged}
use Rattle.book_laws.proofs.Chains.{item_of_entry, joins_client}
use Rattle.book_laws.proofs.EntryFollows.{IsMadeOf, decided_is}
use Rattle.book_laws.proofs.Lists.{in-either}
use Rattle.book_laws.proofs.Quiet.{AreQuiet, IsQuiet}
use Rattle.book_laws.proofs.Sides.{own_side}
use Rattle.book_laws.proofs.Sources.{parts, same_took, source_is}

-- ---- an answer to the other side

-- where some words go to the other side, what was asked was at no fault
module _ (known : Known) (active : Bool) (asked : Asked) (words : Words)
    (far : is_side words.to asked.side ≡ false) where
  not_near : (said : Option Said) → Gives asked (near_if said) (Some words) → ⊥
  not_near None gives = absurd (cc gives)
  not_near (Some said) gives =
      let to : words.to ≡ asked.side =
      ap (λ (o : Option Words). unwrap_or (option_map (λ w. w.to) o) asked.side) gives in
      let near = ap (λ (s : Side). is_side s asked.side) to ∙ own_side asked.side in
      absurd (cc (near, far))

  no_fault : (r : Result Message Fault) → message_of asked.side asked.body ≡ r
      → Gives asked (answered known active asked r) (Some words)
      → (m : Message) × (message_of asked.side asked.body ≡ Ok m)
  no_fault (Ok m) reads gives = (m, reads)
  no_fault (Err fault) reads gives =
      absurd (not_near (refusal_of asked.side asked.number (type_of asked.body) fault) gives)

module _ (before : List Entry) (active : Bool) (took : Took) (out : Out)
    (far : is_side out.side took.side ≡ false) where
  given_read : (b : Bool) (words : Option Words) (given : List Out)
      → Answers before active (asked_if b (Some took)) words → AreWords words given
      → In out given → (m : Message) × (message_of took.side took.raw ≡ Ok m)
  given_read b None given answer are i = absurd (subst (In out) are i)
  given_read false (Some words) given answer are i = absurd (cc answer)
  given_read true (Some words) given answer are i = by (subst (In out) are.1 i)
    where
      by : In out (out_of words.to are.0 words.resend words.said ∷ [])
          → (m : Message) × (message_of took.side took.raw ≡ Ok m)
      by (inl same) = no_fault (known_of before) active (asked_about took) words
          (ap (λ (o : Out). is_side o.side took.side) (sym same) ∙ far)
          (message_of took.side took.raw) refl answer
      by (inr none) = absurd none

-- ---- the tests of an out that translates

-- a request that joins is the client's
client_of : (side to : Side) (letter : ℕ) → is_one_of joining letter ≡ true
    → is_side to side ≡ false → list_any (λ b. letter == b) (letters_to to) ≡ true → side ≡ Client
client_of Client to letter joins far listed = refl
client_of Venue Client letter joins far listed = joins_client Venue letter joins listed
client_of Venue Venue letter joins far listed = absurd (cc far)

-- no session says one
quiet_in : (outs : List Out) (out : Out) → AreQuiet outs → In out outs → IsQuiet out.msg_type
quiet_in [] out quiet i = absurd i
quiet_in (x ∷ outs) out quiet (inl same) =
    subst (λ (o : Out). IsQuiet o.msg_type) (sym same) quiet.0
quiet_in (x ∷ outs) out quiet (inr i) = quiet_in outs out quiet.1 i

not_quiet : (letter : ℕ) → is_one_of joining letter ≡ true → IsQuiet (letter ∷ []) → ⊥
not_quiet letter joins quiet =
    let request : is_among request_types (letter ∷ []) ≡ true =
    among (λ l. is_among request_types (l ∷ [])) joining letter refl joins in
    let none : is_among request_types (letter ∷ []) ≡ false = quiet Venue in
    absurd (cc (request, none))

-- ---- an entry

-- what a request at no fault says of an order is what the chains have of it
module _ (took : Took) (letter : ℕ) (item : ChainItem) (joins : is_one_of joining letter ≡ true)
    (item_is : item_said took.number letter (fields_of took.raw) ≡ item)
    (begins : has_letter letter took.raw ≡ true) (m : Message)
    (reads : message_of Client took.raw ≡ Ok m) where
  judged : IsJudged took item
  judged =
      let typed = said_type Client took.raw m reads in
      let named : m.letter ∷ [] ≡ letter ∷ [] = sym typed ∙ type_is letter took.raw
      (not_true (letter == 1) (among (λ l. not (l == 1)) joining letter refl joins)) begins in
      let one : m.letter ≡ letter = cc named in
      let same : item_of took.number m ≡ item =
      request_said took.raw m reads (ap (is_one_of joining) one ∙ joins) took.number
      ∙ ap (λ (l : ℕ). item_said took.number l (fields_of took.raw)) one ∙ item_is in
      record {
        m = m;
        reads = reads;
        id = ap (λ (x : ChainItem). x.id) (sym same);
        orig = ap (λ (x : ChainItem). x.orig) (sym same);
        number = ap (λ (x : ChainItem). x.number) (sym same);
        letter = ap (λ (x : ChainItem). x.letter) (sym same);
      }

abbrev AreJudged : Entry → Type 0
AreJudged e = (item : ChainItem) → item_in e ≡ Some item
    → IfSome e.took (λ took. IsJudged took item)

module _ (before : List Entry) (e : Entry) where
  made_judged : (took : Option Took) (b active : Bool) (words : Option Words)
      → IsMadeOf took e words → Answers before active (asked_if b took) words → AreJudged e
  made_judged took b active words of answer item is =
      let x = item_of_entry e item is in
      let s = source_is e x.out (x.took.number, x.letter) x.source in
      let same = same_took e.took s.took x.took s.is x.is in
      let tests = parts (not (is_side x.out.side s.took.side))
      (list_any (λ b. x.letter == b) (letters_to x.out.side)) (has_letter x.letter s.took.raw)
      s.source in
      let asked : Answers before active (asked_if b (Some s.took)) words =
      subst (λ (t : Option Took). Answers before active (asked_if b t) words)
      (sym of.took_is ∙ s.is) answer in
      let read : (m : Message) × (message_of s.took.side s.took.raw ≡ Ok m) =
      elim (in-either of.own of.given x.out (subst (In x.out) of.outs x.among)) [
        | inl own ↦ absurd (not_quiet x.letter x.joins
            (subst IsQuiet s.typed (quiet_in of.own x.out of.quiet own)))
        | inr given ↦ given_read before active s.took x.out (not_true _ tests.0) b words of.given
            asked of.are given
      ] in
      let client = client_of s.took.side x.out.side x.letter x.joins (not_true _ tests.0) tests.1 in
      subst (λ (t : Option Took). IfSome t (λ took. IsJudged took item)) (sym s.is)
      (judged s.took x.letter item x.joins
      (ap (λ (t : Took). item_said t.number x.letter (fields_of t.raw)) same ∙ x.item_is) tests.2
      read.0 (ap (λ (side : Side). message_of side s.took.raw) (sym client) ∙ read.1))

-- THE REQUESTS OF A LAWFUL JOURNAL were at no fault.
pub requests_judged : RequestsAreJudged
requests_judged names entries lawful = go [] entries lawful
  where
    go : (before entries : List Entry) → LawfulAfter Answers names before entries
        → AllByRecursion AreJudged entries
    go before [] lawful = tt
    go before (e ∷ entries) lawful =
        let f = decided_is names before e lawful.0 in (
          made_judged before e f.took f.asked f.active f.words f.of f.answer,
          go (before ++ e ∷ []) entries lawful.1,
        )
