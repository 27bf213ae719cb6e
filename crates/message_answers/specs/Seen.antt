-- Inside: how the code keeps what is asked, what is known and what is answered; no clause of a
-- public call rests on it.
use Rattle.std.specs.Prelude.{◌≡◌, ◌≤◌, ◌<◌, ℕ, Bool, true, false, List, [], ◌∷◌, codes}
use Rattle.std.specs.Prelude.{length, Option, Some, None, Result, if◌then◌else◌}
use Rattle.std.specs.Prelude.{IfSome}
use Rattle.std.specs.Option.{option_map}
use Rattle.frame_grammar.specs.Frame.{IsBody}
use Rattle.field_groups.specs.Field.{Field, body_of}
use Rattle.message_tables.specs.Tables.{Tag, Message, is_one_of, said_at, text_in}
use Rattle.order_meaning.specs.declared.Side.{Side}
use Rattle.order_meaning.specs.declared.fault.Fault.{Fault}
use Rattle.order_meaning.specs.declared.fault.Fault.TheVariants.{NoCounterpart}
use Rattle.order_meaning.specs.declared.fault.Lack.{Lack}
use Rattle.order_meaning.specs.declared.fault.Lack.TheVariants as lacks
use Rattle.order_meaning.specs.declared.refusal.Refusal.{Refusal}
use Rattle.order_chains.specs.declared.item.ChainItem.{ChainItem}
use Rattle.session_core.specs.declared.said.Said.{Said}
use Rattle.pair_entries.specs.declared.TheConstants.{MAX_CONTENT, MAX_TYPE}
use Rattle.pair_entries.specs.declared.entry.Entry.{Entry}
use Rattle.kept_entries.specs.Given.{source_of}
use Rattle.kept_entries.specs.Days.{last_day}
use Rattle.refusal_parts.specs.Said.{business_reject_says, session_reject_says}
use Rattle.reject_rules.specs.Refusals.{refusal_of}
use Rattle.reject_rules.specs.Renumbered.{renumbered}
use Rattle.message_answers.specs.declared.answer.Answer.{Answer as GivenAnswer}
use Rattle.message_answers.specs.declared.asking.Asked.{Asked as GivenAsked}
use Rattle.message_answers.specs.declared.asking.Known.{Known as GivenKnown}
use Rattle.event_decisions.specs.Body.{reading_of, type_of}
use Rattle.event_decisions.specs.Decide.{Asked, Words}
use Rattle.event_decisions.specs.Laws.{AreWords}
use Rattle.message_answers.specs.Answer.{AnswersBy, other, to_near, too_long}
use Rattle.message_answers.specs.Chains.{joining, new_item}
use Rattle.message_answers.specs.Known.{Known, named}
use Rattle.message_answers.specs.Message.{said_by}
use Rattle.message_answers.specs.Translated.{GoesOn}

abbrev pub asked_in : GivenAsked → Asked
asked_in a = record { side = a.side; number = a.number; body = a.body.now }

-- it is the body of a frame, the fields are those of the body, and the type is theirs
pub record IsSplit (a : GivenAsked) : Type 0 where
  pub body : IsBody a.body.now
  pub fields : a.split.now.fields ≡ (reading_of a.body.now).fields
  pub fault : a.split.now.fault ≡ (reading_of a.body.now).fault
  pub msg_type : a.msg_type.now ≡ type_of a.body.now

-- what is asked as a message, or its first fault
abbrev pub message_in : GivenAsked → Result Message Fault
message_in a = said_by a.side a.msg_type.now a.split.now.fields a.split.now.fault

abbrev pub known_in : GivenKnown → Known
known_in k = record {
  chains = k.chains.now;
  source = λ side number. source_of side number (last_day k.journal.now.entries);
}

abbrev pub words_in : GivenAnswer → Option Words
words_in a = option_map (λ w. record { to = w.to; said = w.said; resend = w.resend }) a.words

-- what a request with this number says of an order
abbrev pub item_of : ℕ → Message → ChainItem
item_of number m = record {
  id = text_in m.cells 11;
  orig = said_at m.cells (Tag 41);
  number = number;
  letter = m.letter;
}

-- the request of a message with this number, as it joins the chains
abbrev pub joined : ℕ → Message → Option ChainItem
joined number m = if is_one_of joining m.letter then Some (item_of number m) else None

-- THE ANSWER to what is asked
abbrev pub IsAnswer : GivenKnown → GivenAsked → GivenAnswer → Type 0
IsAnswer known asked answer =
    AnswersBy (known_in known) known.active (Some (asked_in asked)) (words_in answer)

-- THE REQUEST THAT JOINS by an answer: that which an entry forwards that took what is asked and
-- gives out these words
abbrev pub Joins : GivenKnown → GivenAsked → GivenAnswer → Type 0
Joins known asked answer =
    (entry : Entry)
    → entry.took
    ≡ Some (record { side = asked.side; number = asked.number; raw = asked.body.now })
    → AreWords (words_in answer) entry.outs → answer.item ≡ new_item known.chains.now entry

-- a message whose type and content may stand in an entry
pub record IsFit (said : Said) : Type 0 where
  pub typed : 1 ≤ length said.msg_type
  pub short : length said.msg_type ≤ MAX_TYPE
  pub bounded : length said.content ≤ MAX_CONTENT

abbrev pub IsFitAnswer : GivenAnswer → Type 0
IsFitAnswer answer = IfSome answer.words (λ w. IsFit w.said)

-- ---- refusals

-- what is asked is refused for a fault
pub record IsRefused (a : GivenAsked) (fault : Fault) (answer : GivenAnswer) : Type 0 where
  pub said : Said
  pub is : refusal_of a.side a.number a.msg_type.now fault ≡ Some said
  pub words : words_in answer ≡ to_near (asked_in a) said
  pub item : answer.item ≡ None

-- the type of a refusal, which is a BusinessMessageReject(j) or a Reject(3)
abbrev pub refusal_type : Bool → List ℕ
refusal_type true = codes "j"
refusal_type false = codes "3"

-- what it says, as a message
abbrev pub refusal_says : Bool → Refusal → Message
refusal_says true r = business_reject_says r
refusal_says false r = session_reject_says r

-- what is told to the other side of its own message of this number and letter, which a side refused
abbrev pub told_words : Side → Bool → Refusal → Option (ℕ × ℕ) → Option Words
told_words side business r None = None
told_words side business r (Some (number, letter)) = Some (record {
  to = other side;
  said = renumbered (other side) business r number (letter ∷ []);
  resend = false;
})

pub record IsTold (known : GivenKnown) (a : GivenAsked) (business : Bool) (r : Refusal)
    (answer : GivenAnswer) : Type 0 where
  pub words : words_in answer ≡ told_words a.side business r (named (known_in known) a.side r)
  pub item : answer.item ≡ None

-- what is asked is refused for what it lacks; want of memory is no answer
abbrev pub IsLacking : GivenAsked → Lack → GivenAnswer → Type 0
IsLacking a lacks.NoMemory answer = ⊥
IsLacking a (lacks.Tag tag) answer = IsRefused a (NoCounterpart tag) answer

-- ---- what goes on

-- a message with this type, PossResend(97) and content goes on, and its request joins
pub record IsSent (a : GivenAsked) (msg_type : List ℕ) (resend : Bool) (content : List ℕ)
    (joins : Option ChainItem) (answer : GivenAnswer) : Type 0 where
  pub short : length content ≤ MAX_CONTENT
  pub words : words_in answer ≡ Some (record {
    to = other a.side;
    said = record { msg_type = msg_type; content = content; admin = false };
    resend = resend;
  })
  pub item : answer.item ≡ joins

-- it goes on, or is too long
pub data IsForwarded (a : GivenAsked) (msg_type : List ℕ) (resend : Bool) (content : List ℕ)
    (item : Option ChainItem) (answer : GivenAnswer) : Type 0 where
  Sent : IsSent a msg_type resend content item answer
      → IsForwarded a msg_type resend content item answer
  Long : MAX_CONTENT < length content → IsRefused a (NoCounterpart too_long) answer
      → IsForwarded a msg_type resend content item answer

-- a message of a side lacks a counterpart at a tag, or is forwarded
pub data IsSpelled (a : GivenAsked) (side : Side) (original : Option (List ℕ)) (m : Message)
    (lack : Option ℕ) (item : Option ChainItem) (answer : GivenAnswer) : Type 0 where
  Lacks : (tag : ℕ) → lack ≡ Some tag → IsRefused a (NoCounterpart tag) answer
      → IsSpelled a side original m lack item answer
  Goes : (written : List Field) → lack ≡ None → GoesOn side original m written
      → IsForwarded a (m.letter ∷ []) m.resend (body_of written) item answer
      → IsSpelled a side original m lack item answer
