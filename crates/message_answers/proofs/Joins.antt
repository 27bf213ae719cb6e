-- The request that joins by an answer, as an entry forwards it.
use Rattle.std.proofs.Common.{◌≡◌, ℕ, Bool, true, false, ◌==◌, ◌&&◌, List, [], ◌∷◌, codes, Option}
use Rattle.std.proofs.Common.{Some, None, Result, Ok, Err, refl, sym, ap, subst, ◌∙◌, if◌then◌else◌}
use Rattle.std.specs.Prelude.{IfOk}
use Rattle.std.specs.List.{list_any}
use Rattle.std.proofs.lemmas.Result.{IfOk-weaker}
use Rattle.field_groups.specs.Field.{body_of}
use Rattle.message_tables.specs.Tables.{Message, ◌>>=◌, first_of, is_one_of, or_else, text_in}
use Rattle.order_meaning.specs.declared.Side.{Side}
use Rattle.order_meaning.specs.declared.Side.TheVariants.{Client, Venue}
use Rattle.order_meaning.specs.declared.fault.Fault.{Fault}
use Rattle.order_meaning.specs.declared.refusal.Refusal.{Refusal}
use Rattle.order_chains.specs.Chains.{has_id}
use Rattle.order_chains.specs.declared.item.ChainItem.{ChainItem}
use Rattle.session_core.specs.declared.said.Said.{Said}
use Rattle.pair_entries.specs.declared.entry.Took.{Took}
use Rattle.pair_entries.specs.declared.entry.Out.{Out}
use Rattle.pair_entries.specs.declared.entry.Entry.{Entry}
use Rattle.kept_entries.specs.Given.{has_letter, is_source, letter_of}
use Rattle.reject_rules.specs.Content.{business_reject}
use Rattle.reject_rules.specs.Renumbered.{renumbered}
use Rattle.event_decisions.specs.Body.{reading_of}
use Rattle.event_decisions.specs.Decide.{Words, out_of}
use Rattle.event_decisions.specs.Laws.{AreWords}
use Rattle.message_answers.specs.declared.answer.Answer.{Answer as GivenAnswer}
use Rattle.message_answers.specs.declared.asking.Asked.{Asked as GivenAsked}
use Rattle.message_answers.specs.declared.asking.Known.{Known as GivenKnown}
use Rattle.message_answers.specs.Answer.{other, is_used, to_near}
use Rattle.message_answers.specs.Chains.{if_new, item_said, joining, joining_letter, new_item}
use Rattle.message_answers.specs.Known.{named}
use Rattle.message_answers.specs.Message.{message_of}
use Rattle.message_answers.specs.Seen.{IsSplit, IsRefused, IsTold, IsForwarded, Sent, Long, Joins}
use Rattle.message_answers.specs.Seen.{IsSpelled, Lacks, Goes, asked_in, item_of, joined, known_in}
use Rattle.message_answers.specs.Seen.{words_in, told_words}
use Rattle.message_answers.proofs.Forwards.{request_said}
use Rattle.message_answers.proofs.Letters.{among, joining_by, source_by}
use Rattle.message_answers.proofs.Typed.{typed}

-- an entry that took this and gave out these
abbrev as_entry : Entry → Took → List Out → Entry
as_entry entry took outs =
    record { at = entry.at; reset = entry.reset; took = Some took; next = entry.next; outs = outs }

entry_is : (entry : Entry) (took : Took) (outs : List Out) → entry.took ≡ Some took
    → entry.outs ≡ outs → entry ≡ as_entry entry took outs
entry_is entry took outs is gives = λ i. record {
  at = entry.at;
  reset = entry.reset;
  took = is i;
  next = entry.next;
  outs = gives i;
}

-- what joins by the letters of the outs
abbrev item_by : List ChainItem → Took → Option ℕ → Option ChainItem
item_by chains took letter = if_new chains (letter >>= (λ l.
    Some (item_said took.number l (reading_of took.raw).fields)))

no_outs : (chains : List ChainItem) (entry : Entry) (took : Took)
    → new_item chains (as_entry entry took []) ≡ None
unfolding first_of
no_outs chains entry took = refl

one_out : (chains : List ChainItem) (entry : Entry) (took : Took) (out : Out) (letter : Option ℕ)
    → joining_letter (as_entry entry took (out ∷ [])) out ≡ letter
    → new_item chains (as_entry entry took (out ∷ [])) ≡ item_by chains took letter
unfolding first_of
one_out chains entry took out letter is =
    ap (λ (o : Option ℕ). item_by chains took (or_else o None)) is ∙ by letter
  where
    by : (o : Option ℕ) → item_by chains took (or_else o None) ≡ item_by chains took o
    by None = refl
    by (Some l) = refl

-- an out to the side whose message was taken translates none
own_side : (side : Side) (number : ℕ) (raw : List ℕ) (letter : Option ℕ) → joining_by (elim letter [
  | None ↦ None
  | Some l ↦
      if is_source (record { side = side; number = number; raw = raw }) side l
      then Some (number, l) else None
]) ≡ None
own_side side number raw None = refl
own_side Client number raw (Some l) = refl
own_side Venue number raw (Some l) = refl

-- nor does one of another letter join
other_letter : (b : Bool) (number letter : ℕ) → is_one_of joining letter ≡ false
    → joining_by (source_by b number letter) ≡ None
other_letter false number letter fails = refl
other_letter true number letter fails =
    ap (λ (b : Bool). if b then Some letter else None) fails

joins_letter : (b : Bool) (number letter : ℕ) → b ≡ true → is_one_of joining letter ≡ true
    → joining_by (source_by b number letter) ≡ Some letter
joins_letter true number letter is holds =
    ap (λ (b : Bool). if b then Some letter else None) holds
joins_letter false number letter is holds = absurd cc

module _ (k : GivenKnown) (a : GivenAsked) where
  abbrev took_in : Took
  took_in = record { side = a.side; number = a.number; raw = a.body.now }

  -- ---- by what is given out

  pub joins_nothing : (answer : GivenAnswer) → words_in answer ≡ None → answer.item ≡ None
      → Joins k a answer
  joins_nothing answer words item entry took outs =
      let none : entry.outs ≡ [] =
      subst (λ (w : Option Words). AreWords w entry.outs) words outs in
      item ∙ sym (ap (new_item k.chains.now) (entry_is entry took_in [] took none)
      ∙ no_outs k.chains.now entry took_in)

  joins_one : (answer : GivenAnswer) (w : Words) (item : Option ChainItem)
      → words_in answer ≡ Some w → answer.item ≡ item
      → ((entry : Entry) (number : ℕ)
      → new_item k.chains.now
      (as_entry entry took_in (out_of w.to number w.resend w.said ∷ [])) ≡ item)
      → Joins k a answer
  joins_one answer w item words is joins entry took outs =
      let one : (number : ℕ) × (entry.outs ≡ out_of w.to number w.resend w.said ∷ []) =
      subst (λ (x : Option Words). AreWords x entry.outs) words outs in
      is ∙ sym (ap (new_item k.chains.now)
      (entry_is entry took_in (out_of w.to one.0 w.resend w.said ∷ []) took one.1)
      ∙ joins entry one.0)

  -- a message to the side that asked
  pub joins_near : (answer : GivenAnswer) (said : Said) (resend : Bool)
      → words_in answer ≡ Some (record { to = a.side; said = said; resend = resend })
      → answer.item ≡ None → Joins k a answer
  joins_near answer said resend words item = joins_one answer _ None words item
      (λ entry number. one_out k.chains.now entry took_in (out_of a.side number resend said) None
      (own_side a.side a.number a.body.now (letter_of said.msg_type)))

  -- a message of a letter that does not join
  pub joins_other : (answer : GivenAnswer) (w : Words) (letter : ℕ)
      → words_in answer ≡ Some w → w.said.msg_type ≡ letter ∷ []
      → is_one_of joining letter ≡ false → answer.item ≡ None → Joins k a answer
  joins_other answer w letter words typed fails item = joins_one answer w None words item
      (λ entry number. one_out k.chains.now entry took_in
      (out_of w.to number w.resend w.said) None
      (ap (λ (t : List ℕ). joining_by (elim (letter_of t) [
        | None ↦ None
        | Some l ↦ if is_source took_in w.to l then Some (a.number, l) else None
      ])) typed ∙ other_letter (is_source took_in w.to letter) a.number letter fails))

  -- ---- by what was found

  pub joins_refused : (fault : Fault) (answer : GivenAnswer) → IsRefused a fault answer
      → Joins k a answer
  joins_refused fault answer is = joins_near answer is.said false is.words is.item

  told_type : (business : Bool) (r : Refusal) (number : ℕ) (letter : ℕ)
      → (renumbered (other a.side) business r number (letter ∷ [])).msg_type ≡ 106 ∷ []
  unfolding business_reject
  told_type true r number letter = refl
  told_type false r number letter = refl

  pub joins_told : (business : Bool) (r : Refusal) (answer : GivenAnswer)
      → IsTold k a business r answer → Joins k a answer
  joins_told business r answer is = by (named (known_in k) a.side r) is.words
    where
      by : (at : Option (ℕ × ℕ)) → words_in answer ≡ told_words a.side business r at
          → Joins k a answer
      by None words = joins_nothing answer words is.item
      by (Some (number, letter)) words =
          joins_other answer _ 106 words (told_type business r number letter) refl is.item

  -- ---- where there is memory

  pub refused_joins : {E : Type 0} (fault : Fault) (result : Result GivenAnswer E)
      → IfOk result (IsRefused a fault) → IfOk result (Joins k a)
  refused_joins fault result =
      IfOk-weaker result (IsRefused a fault) (Joins k a) (joins_refused fault)

  pub near_joins : {E : Type 0} (said : Said) (result : Result GivenAnswer E)
      → IfOk result (λ answer. words_in answer ≡ to_near (asked_in a) said)
      → IfOk result (λ answer. answer.item ≡ None) → IfOk result (Joins k a)
  near_joins said (Ok answer) words item = joins_near answer said false words item
  near_joins said (Err error) words item = tt

  pub told_joins : {E : Type 0} (business : Bool) (r : Refusal) (result : Result GivenAnswer E)
      → IfOk result (IsTold k a business r) → IfOk result (Joins k a)
  told_joins business r result =
      IfOk-weaker result (IsTold k a business r) (Joins k a) (joins_told business r)

-- ---- a request

-- whether the id is new, where it joins
is_new : (b has : Bool) → (b && has) ≡ false → b ≡ true → has ≡ false
is_new true has e is = e
is_new false has e is = absurd cc

module _ (k : GivenKnown) (a : GivenAsked) (split : IsSplit a) (of_client : a.side ≡ Client)
    (m : Message) (is : message_of Client a.body.now ≡ Ok m)
    (typed_by : a.msg_type.now ≡ m.letter ∷ []) (new : is_used (known_in k) m ≡ false) where
  letter_out : is_one_of joining m.letter ≡ true
      → is_source (record { side = Client; number = a.number; raw = a.body.now }) Venue m.letter
      ≡ true
  letter_out join =
      let listed : list_any (λ b. m.letter == b) (codes "DFGH") ≡ true =
      among (λ l. list_any (λ b. l == b) (codes "DFGH")) joining m.letter refl join in
      let has : has_letter m.letter a.body.now ≡ true =
      typed m.letter a.body.now split.body.writable.begins (sym split.msg_type ∙ typed_by) in
      λ i. listed i && has i

  source_out : is_one_of joining m.letter ≡ true
      → is_source (took_in k a) (other a.side) m.letter ≡ true
  source_out join =
      ap (λ (side : Side). is_source
      (record { side = side; number = a.number; raw = a.body.now }) (other side) m.letter)
      of_client ∙ letter_out join

  item_joined : is_one_of joining m.letter ≡ true
      → item_by k.chains.now (took_in k a) (Some m.letter) ≡ joined a.number m
  item_joined join =
      let item : ChainItem = item_of a.number m in
      ap (λ (x : ChainItem). if_new k.chains.now (Some x))
      (sym (request_said a.body.now m is join a.number))
      ∙ ap (λ (b : Bool). if b then None else Some item)
      (is_new (is_one_of joining m.letter) (has_id k.chains.now (text_in m.cells 11)) new join)
      ∙ ap (λ (b : Bool). if b then Some item else None) (sym join)

  joins_forwarded : (resend : Bool) (content : List ℕ) (answer : GivenAnswer)
      → IsForwarded a (m.letter ∷ []) resend content (joined a.number m) answer → Joins k a answer
  joins_forwarded resend content answer (Long long refused) = joins_refused k a _ answer refused
  joins_forwarded resend content answer (Sent sent) = by (is_one_of joining m.letter) refl
    where
      by : (b : Bool) → is_one_of joining m.letter ≡ b → Joins k a answer
      by false fails = joins_other k a answer _ m.letter sent.words refl fails
          (sent.item ∙ ap (λ (b : Bool). if b then Some (item_of a.number m) else None) fails)
      by true join = joins_one k a answer _ (joined a.number m) sent.words sent.item
          (λ entry number. one_out k.chains.now entry (took_in k a)
          (out_of (other a.side) number resend
          (record { msg_type = m.letter ∷ []; content = content; admin = false }))
          (Some m.letter)
          (joins_letter (is_source (took_in k a) (other a.side) m.letter) a.number m.letter
          (source_out join) join)
          ∙ item_joined join)

  -- THE REQUEST THAT GOES ON joins, where its id is new.
  pub joins_request : (lack : Option ℕ) (answer : GivenAnswer)
      → IsSpelled a Client None m lack (joined a.number m) answer → Joins k a answer
  joins_request lack answer (Lacks tag at refused) = joins_refused k a _ answer refused
  joins_request lack answer (Goes written none goes forwarded) =
      joins_forwarded m.resend (body_of written) answer forwarded

-- A report joins nothing.
pub joins_report : (k : GivenKnown) (a : GivenAsked) (original : Option (List ℕ)) (m : Message)
    (lack : Option ℕ) (answer : GivenAnswer) → is_one_of joining m.letter ≡ false
    → IsSpelled a Venue original m lack None answer → Joins k a answer
joins_report k a original m lack answer fails (Lacks tag at refused) =
    joins_refused k a _ answer refused
joins_report k a original m lack answer fails (Goes written none goes (Sent sent)) =
    joins_other k a answer _ m.letter sent.words refl fails sent.item
joins_report k a original m lack answer fails (Goes written none goes (Long long refused)) =
    joins_refused k a _ answer refused
