-- What is asked of the application at a frame, and what joins by the answer.
use Rattle.std.proofs.Common.{◌≡◌, ℕ, Bool, true, false, List, [], ◌∷◌, Option, Some, None}
use Rattle.std.proofs.Common.{refl, sym, ap, subst, ◌∙◌, unwrap_or, Result, Ok, Err, IfOk}
use Rattle.std.specs.declared.alloc.AllocError.{AllocError}
use Rattle.order_chains.specs.declared.item.ChainItem.{ChainItem}
use Rattle.session_core.specs.declared.act.Act.{Act}
use Rattle.session_core.specs.declared.act.Act.TheVariants.{Take, Skip, Say, Resend, HangUp}
use Rattle.session_core.specs.declared.head.Head.{Head}
use Rattle.session_core.specs.declared.head.What.{What}
use Rattle.session_core.specs.Table as session
use Rattle.pair_entries.specs.declared.entry.Took.{Took}
use Rattle.pair_entries.specs.declared.entry.Entry.{Entry}
use Rattle.kept_entries.specs.Given.{source_of}
use Rattle.event_decisions.specs.Decide.{Asked, Words, Heard, says_of, takes, took_if, asks}
use Rattle.event_decisions.specs.Decide.{asked_if, is_active}
use Rattle.event_decisions.specs.Laws.{AreWords}
use Rattle.message_answers.specs.declared.answer.Answer.{Answer as GivenAnswer}
use Rattle.message_answers.specs.declared.asking.Asked.{Asked as GivenAsked}
use Rattle.message_answers.specs.Answer.{Answers, AnswersBy}
use Rattle.message_answers.specs.Chains.{new_item}
use Rattle.message_answers.specs.Known.{Known, known_of}
use Rattle.message_answers.specs.Seen.{asked_in}
use Rattle.gateway_core.specs.Planning.{asked_took, is_asked, words_by, known_by, IsAnswered}
use Rattle.gateway_core.specs.Planning.{JoinsWith}
use Rattle.gateway_core.specs.State.{CoreState, Stand}
use Rattle.gateway_core.proofs.Planned.{session_joins_nothing}

abbrev known_with : List ChainItem → (journal : List Entry) → Known
known_with chains journal =
    record { chains = chains; source = λ side number. source_of side number journal }

-- ---- the number of a message

number_by : (number comp time : Option ℕ) (dup : Bool) (w : What) → unwrap_or number 0
    ≡ session.number_of (session.Message (record {
      number = number;
      dup = dup;
      comp = comp;
      time = time;
      what = w;
    }))
number_by None comp time dup w = refl
number_by (Some n) comp time dup w = refl

pub number_is : (head : Head)
    → unwrap_or head.number 0 ≡ session.number_of (session.Message head)
number_is head = number_by head.number head.comp head.time head.dup head.what

-- ---- where it is asked

-- acts at which the application is asked
asks_take : (head : Head) (acts : List Act) → asks (session.Message head) acts ≡ true
    → acts ≡ Take ∷ []
asks_take head (Take ∷ []) is = refl
asks_take head [] is = absurd (cc is)
asks_take head (Take ∷ act ∷ acts) is = absurd (cc is)
asks_take head (Skip ∷ acts) is = absurd (cc is)
asks_take head (Say a ∷ acts) is = absurd (cc is)
asks_take head (Resend from to ∷ acts) is = absurd (cc is)
asks_take head (HangUp ∷ acts) is = absurd (cc is)

-- a message that was taken under this number
abbrev took_at : GivenAsked → ℕ → Took
took_at a number = record { side = a.side; number = number; raw = a.body.now }

-- what was taken where it is asked
module _ (a : GivenAsked) (head : Head) (acts : List Act)
    (number : a.number ≡ session.number_of (session.Message head)) where
  took_by : (t : Bool) (n : Option ℕ) → a.number ≡ unwrap_or n 0
      → is_asked (took_if t a.side a.body.now n) (session.Message head) acts ≡ true
      → took_if t a.side a.body.now n ≡ Some (asked_took a)
  took_by false n same is = absurd (cc is)
  took_by true None same is = absurd (cc is)
  took_by true (Some n) same is = ap (λ (k : ℕ). Some (took_at a k)) (sym same)

  pub took_is : is_asked (took_if (takes acts) a.side a.body.now head.number)
      (session.Message head) acts ≡ true
      → took_if (takes acts) a.side a.body.now head.number ≡ Some (asked_took a)
  took_is is = took_by (takes acts) head.number (number ∙ sym (number_is head)) is

  asks_by : (t : Bool) (n : Option ℕ)
      → is_asked (took_if t a.side a.body.now n) (session.Message head) acts ≡ true
      → asks (session.Message head) acts ≡ true
  asks_by false n is = absurd (cc is)
  asks_by true None is = absurd (cc is)
  asks_by true (Some n) is = is

  pub acts_are : is_asked (took_if (takes acts) a.side a.body.now head.number)
      (session.Message head) acts ≡ true → acts ≡ Take ∷ []
  acts_are is = asks_take head acts (asks_by (takes acts) head.number is)

  -- it is asked about what was taken
  asked_then : (b : Bool) (took : Option Took) → b ≡ true → took ≡ Some (asked_took a)
      → asked_if b took ≡ Some (asked_in a)
  asked_then b took so is =
      ap (λ (x : Bool). asked_if x took) so ∙ ap (asked_if true) is

  not_asked : (b : Bool) → asked_if b None ≡ None
  not_asked true = refl
  not_asked false = refl

  asked_else : (took : Option Took) → is_asked took (session.Message head) acts ≡ false
      → asked_if (asks (session.Message head) acts) took ≡ None
  asked_else None not_so = not_asked (asks (session.Message head) acts)
  asked_else (Some took) not_so = ap (λ (b : Bool). asked_if b (Some took)) not_so

  pub asked_true : is_asked (took_if (takes acts) a.side a.body.now head.number)
      (session.Message head) acts ≡ true
      → asked_if (asks (session.Message head) acts)
      (took_if (takes acts) a.side a.body.now head.number) ≡ Some (asked_in a)
  asked_true is = asked_then (asks (session.Message head) acts)
      (took_if (takes acts) a.side a.body.now head.number)
      (asks_by (takes acts) head.number is) (took_is is)

  -- ---- what the code answered

  -- behind entries that have these chains and sources
  pub answers_as : (core : CoreState) (journal entries : List Entry) (b : Bool)
      (answer : GivenAnswer) → Stand core journal entries
      → b ≡ is_asked (took_if (takes acts) a.side a.body.now head.number)
      (session.Message head) acts
      → IsAnswered core journal a b answer
      → Answers entries (is_active core.venue.link) (asked_if (asks (session.Message head) acts)
      (took_if (takes acts) a.side a.body.now head.number)) (words_by answer.words)
  answers_as core journal entries false answer stand not_so is =
      subst (λ (x : Option Asked). Answers entries (is_active core.venue.link) x
      (words_by answer.words))
      (sym (asked_else (took_if (takes acts) a.side a.body.now head.number) (sym not_so))) is.0
  answers_as core journal entries true answer stand so is =
      let known : known_by core journal ≡ known_of entries = λ i. record {
        chains = sym stand.chains i;
        source = λ side number. sym (stand.sources side number) i;
      } in
      subst (λ (x : Option Asked). Answers entries (is_active core.venue.link) x
      (words_by answer.words)) (sym (asked_true (sym so)))
      (subst (λ (k : Known). AnswersBy k (is_active core.venue.link) (Some (asked_in a))
      (words_by answer.words)) known is.0)

  -- and what joins
  pub joins_as : (core : CoreState) (journal : List Entry) (b : Bool) (answer : GivenAnswer)
      (heart : ℕ) (h : Heard) (n : ℕ)
      → b ≡ is_asked (took_if (takes acts) a.side a.body.now head.number)
      (session.Message head) acts
      → IsAnswered core journal a b answer
      → JoinsWith core.chains (took_if (takes acts) a.side a.body.now head.number)
      (says_of a.side heart h n acts) (words_by answer.words) answer.item
  joins_as core journal false answer heart h n not_so is =
      let nothing = session_joins_nothing core.chains a.side a.body.now (takes acts) head.number
      heart h n acts in
      subst (λ (w : Option Words). JoinsWith core.chains
      (took_if (takes acts) a.side a.body.now head.number) (says_of a.side heart h n acts) w
      answer.item) (sym is.0)
      (subst (λ (i : Option ChainItem). JoinsWith core.chains
      (took_if (takes acts) a.side a.body.now head.number) (says_of a.side heart h n acts) None i)
      (sym is.1) nothing)
  joins_as core journal true answer heart h n so is =
      subst (λ (t : Option Took). JoinsWith core.chains t (says_of a.side heart h n acts)
      (words_by answer.words) answer.item) (sym (took_is (sym so)))
      (subst (λ (own : List Act). JoinsWith core.chains (Some (asked_took a))
      (says_of a.side heart h n own) (words_by answer.words) answer.item)
      (sym (acts_are (sym so)))
      (λ at next added are. is.1 (record {
        at = at;
        reset = false;
        took = Some (asked_took a);
        next = next;
        outs = added;
      }) refl are))

-- ---- what the code answers

pub answered_is : (core : CoreState) (journal : List Entry) (a : GivenAsked) (b : Bool)
    (chains : List ChainItem) (active : Bool) (r : Result GivenAnswer AllocError) → b ≡ true
    → chains ≡ core.chains → active ≡ is_active core.venue.link
    → IfOk r (λ x. AnswersBy (known_with chains journal) active (Some (asked_in a))
    (words_by x.words))
    → IfOk r (λ x. (entry : Entry) → entry.took ≡ Some (asked_took a)
    → AreWords (words_by x.words) entry.outs → x.item ≡ new_item chains entry)
    → IfOk r (IsAnswered core journal a b)
answered_is core journal a b chains active (Err error) so same is answers joins = tt
answered_is core journal a b chains active (Ok answer) so same is answers joins =
    subst (λ (x : Bool). IsAnswered core journal a x answer) (sym so) (
      subst (λ (x : Bool). AnswersBy (known_by core journal) x (Some (asked_in a))
          (words_by answer.words)) is
          (subst (λ (x : List ChainItem). AnswersBy (known_with x journal) active
          (Some (asked_in a)) (words_by answer.words)) same answers),
      λ entry took words. joins entry took words
          ∙ ap (λ (x : List ChainItem). new_item x entry) same,
    )
