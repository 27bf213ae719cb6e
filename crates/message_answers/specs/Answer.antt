-- Standard: FIX 4.2 and FIX 5.0 SP2, "Order Messages", Reject and Business Message Reject: a
-- message is refused by its first fault, and else its sense goes on.
-- Own: the order of the answers; docs/DECISIONS.md, "The core".
--
-- What the gateway answers to a message of the application. At most one message is given out: to
-- the side that sent it, or to the other one.
use Rattle.std.specs.Prelude.{◌≡◌, ℕ, Bool, true, false, ◌==◌, ◌&&◌, not, nat_lt, is_none}
use Rattle.std.specs.Prelude.{List, [], ◌∷◌, length, Option, Some, None, Result, Ok, Err}
use Rattle.std.specs.Prelude.{if◌then◌else◌}
use Rattle.field_groups.specs.Field.{Field, body_of}
use Rattle.message_tables.specs.Tables.{Tag, Message, said_at, text_in, is_one_of}
use Rattle.order_meaning.specs.declared.Side.{Side}
use Rattle.order_meaning.specs.declared.Side.TheVariants.{Client, Venue}
use Rattle.order_meaning.specs.declared.fault.Fault.{Fault}
use Rattle.order_meaning.specs.declared.fault.Fault.TheVariants.{NoCounterpart}
use Rattle.order_chains.specs.Chains.{has_id, orig_of}
use Rattle.session_core.specs.declared.said.Said.{Said}
use Rattle.pair_entries.specs.declared.TheConstants.{MAX_CONTENT}
use Rattle.pair_entries.specs.declared.entry.Entry.{Entry}
use Rattle.reject_rules.specs.Refusals.{refusal_of, used_refusal, away_refusal}
use Rattle.reject_rules.specs.Renumbered.{renumbered}
use Rattle.reports_fix50.specs.Sense.{report50}
use Rattle.request_rules.specs.Lack.{lack42}
use Rattle.event_decisions.specs.Body.{type_of}
use Rattle.event_decisions.specs.Decide.{Asked, Words}
use Rattle.message_answers.specs.Chains.{joining}
use Rattle.message_answers.specs.Known.{Known, known_of, named}
use Rattle.message_answers.specs.Message.{message_of, is_business, is_refusal, refusal_in}
use Rattle.message_answers.specs.Translated.{GoesOn}

abbrev pub other : Side → Side
other Client = Venue
other Venue = Client

-- What is answered: nothing; a message to the side that asked; what was refused, to the side whose
-- message it was; or the message goes on, with what is known of the original order.
pub data Answer : Type 0 where
  Nothing : Answer
  Near : (said : Said) → Answer
  Far : (said : Said) → Answer
  Forward : (original : Option (List ℕ)) → (m : Message) → Answer

abbrev pub near_if : Option Said → Answer
near_if None = Nothing
near_if (Some said) = Near said

-- the refusal of a message for a fault
abbrev pub refused : Asked → Fault → Answer
refused asked fault = near_if (refusal_of asked.side asked.number (type_of asked.body) fault)

-- ---- a request of the client: the first of five that applies

-- a New Order (D), a Cancel (F) or a Cancel/Replace (G) has the ClOrdID(11) of one that went on
-- before
abbrev pub is_used : Known → Message → Bool
is_used known m = is_one_of joining m.letter && has_id known.chains (text_in m.cells 11)

abbrev pub used : Asked → Bool → Answer
used asked true = Nothing
used asked false = Near (used_refusal asked.number (type_of asked.body))

abbrev pub spelled : Asked → Option (List ℕ) → Message → Option ℕ → Answer
spelled asked original m (Some tag) = refused asked (NoCounterpart tag)
spelled asked original m None = Forward original m

abbrev pub requested : Known → (active : Bool) → Asked → Message → Answer
requested known active asked m =
    if is_used known m then used asked m.resend else
    (if not active then Near (away_refusal asked.number (type_of asked.body)) else
    spelled asked None m (lack42 m))

-- ---- a report of the venue

-- OrigClOrdID(41) of the order that a report speaks of, as far as it is known
abbrev pub original_of : Known → Message → Option (List ℕ)
original_of known m = orig_of known.chains (text_in m.cells 11)

-- a cancel reject from which it is not known which order was to be canceled or replaced
abbrev pub lacks_original : Known → Message → Bool
lacks_original known m =
    m.letter == 57 && (is_none (said_at m.cells (Tag 41)) && is_none (original_of known m))

-- the tag without counterpart: ExecType(150) of a report that means nothing in FIX 4.2, or 41
abbrev pub lack_of_report : Known → Message → Option ℕ
lack_of_report known m =
    if is_none (report50 m) then Some 150 else
    (if lacks_original known m then Some 41 else None)

abbrev pub reported : Known → Asked → Message → Answer
reported known asked m = spelled asked (original_of known m) m (lack_of_report known m)

-- ---- a refusal: it is told to the other side where it names a message of that side that went on

abbrev pub told : Asked → Message → Option (ℕ × ℕ) → Answer
told asked m None = Nothing
told asked m (Some (number, letter)) =
    Far (renumbered (other asked.side) (is_business m) (refusal_in m) number (letter ∷ []))

-- ---- all messages

abbrev pub in_order : Side → Known → (active : Bool) → Asked → Message → Answer
in_order Client known active asked m = requested known active asked m
in_order Venue known active asked m = reported known asked m

abbrev pub answered : Known → (active : Bool) → Asked → Result Message Fault → Answer
answered known active asked (Err fault) = refused asked fault
answered known active asked (Ok m) =
    if is_refusal m then told asked m (named known asked.side (refusal_in m)) else
    in_order asked.side known active asked m

-- THE ANSWER to a message, where this is known of the journal and the venue's session is active or
-- not
abbrev pub answer_to : Known → (active : Bool) → Asked → Answer
answer_to known active asked = answered known active asked (message_of asked.side asked.body)

-- ---- what is given out

-- what goes on has its type, its PossResend(97) and the content that means the same; one that is
-- too long is refused, by BodyLength(9)
abbrev pub forwarded : Asked → Message → (written : List Field) → Option Words
forwarded asked m written = Some (record {
  to = other asked.side;
  said = record { msg_type = m.letter ∷ []; content = body_of written; admin = false };
  resend = m.resend;
})

abbrev pub to_near : Asked → Said → Option Words
to_near asked said = Some (record { to = asked.side; said = said; resend = false })

abbrev pub too_long : ℕ
too_long = 9

abbrev pub near_words : Asked → Option Said → Option Words
near_words asked None = None
near_words asked (Some said) = to_near asked said

abbrev pub words_of : Asked → Message → List Field → Option Words
words_of asked m written =
    if nat_lt MAX_CONTENT (length (body_of written))
    then near_words asked
    (refusal_of asked.side asked.number (type_of asked.body) (NoCounterpart too_long))
    else forwarded asked m written

-- the message that is given out for an answer
abbrev pub Gives : Asked → Answer → Option Words → Type 0
Gives asked Nothing words = words ≡ None
Gives asked (Near said) words = words ≡ to_near asked said
Gives asked (Far said) words =
    words ≡ Some (record { to = other asked.side; said = said; resend = false })
Gives asked (Forward original m) words = (written : List Field)
    × GoesOn asked.side original m written × (words ≡ words_of asked m written)

-- what is given out where a message was asked, or none was
abbrev pub AnswersBy : Known → (active : Bool) → Option Asked → Option Words → Type 0
AnswersBy known active None words = words ≡ None
AnswersBy known active (Some asked) words = Gives asked (answer_to known active asked) words

-- the same behind the entries of a journal
abbrev pub Answers : List Entry → (active : Bool) → Option Asked → Option Words → Type 0
Answers before active asked words = AnswersBy (known_of before) active asked words
