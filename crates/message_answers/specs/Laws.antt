-- Own: what holds of each answer, whatever it answers.
use Rattle.std.specs.Prelude.{◌≡◌, ◌≤◌, ◌==◌, false, Bool, List, [], ◌∷◌, ℕ, IfSome, Some, None}
use Rattle.std.specs.Prelude.{codes, length}
use Rattle.std.specs.List.{list_any}
use Rattle.std.specs.Str.{bytes_eq}
use Rattle.std.specs.declared.option.Option.{Option}
use Rattle.field_groups.specs.Field.{Field, AreFields, body_of, is_soh}
use Rattle.message_tables.specs.Tables.{Message}
use Rattle.order_meaning.specs.declared.Side.{Side}
use Rattle.order_meaning.specs.declared.Side.TheVariants.{Client, Venue}
use Rattle.order_meaning.specs.Book.{Book}
use Rattle.session_core.specs.declared.said.Said.{Said}
use Rattle.pair_entries.specs.declared.TheConstants.{MAX_CONTENT, MAX_NUMBER, MAX_TYPE}
use Rattle.pair_entries.specs.declared.entry.Entry.{Entry}
use Rattle.dict_fix42.specs.Sense.{request42}
use Rattle.dict_fix50.specs.Sense.{request50}
use Rattle.request_rules.specs.Canonical.{IsRequest}
use Rattle.report_rules.specs.Rules.{written}
use Rattle.reports_fix42.specs.Step.{step42}
use Rattle.reports_fix50.specs.Step.{step50}
use Rattle.event_decisions.specs.Decide.{Asked, Words}
use Rattle.message_answers.specs.Answer.{Answers, AnswersBy}
use Rattle.message_answers.specs.Known.{Known}
use Rattle.message_answers.specs.Translated.{GoesOn}

-- the content of a message to the side that is not this one
abbrev pub IsContent : Side → Message → List Field → Type 0
IsContent Client out fields = IsRequest out fields
IsContent Venue out fields = fields ≡ written out

-- A message of a side and the one of the other version in which it goes on carry the same: a
-- request means the same order, and a report changes each book alike.
abbrev pub Carries : Side → Message → Message → Type 0
Carries Client m out = request42 m ≡ request50 out
Carries Venue m out = (book : Book) → step50 book m ≡ step42 book out

pub record IsCarried (side : Side) (m : Message) (text : List Field) : Type 0 where
  pub out : Message
  pub content : IsContent side out text
  pub carries : Carries side m out

-- what goes on is carried
abbrev pub ForwardedMessagesCarry : Type 0
ForwardedMessagesCarry = (side : Side) (original : Option (List ℕ)) (m : Message)
    (text : List Field) → GoesOn side original m text → IsCarried side m text

-- no answer is a message of a session: each is repeated where messages are resent
abbrev pub AnswersAreOfTheApplication : Type 0
AnswersAreOfTheApplication = (known : Known) (active : Bool) (asked : Option Asked)
    (words : Option Words) → AnswersBy known active asked words
    → IfSome words (λ w. w.said.admin ≡ false)

-- ---- what is given out

-- the tags of the header that is put before a content: MsgType, SenderCompID, TargetCompID,
-- MsgSeqNum, PossDupFlag, PossResend, SendingTime, OrigSendingTime
abbrev pub header_tags : List ℕ
header_tags = 35 ∷ 49 ∷ 56 ∷ 34 ∷ 43 ∷ 97 ∷ 52 ∷ 122 ∷ []

abbrev pub is_in_header : Field → Bool
is_in_header f = list_any (λ tag. tag == f.0) header_tags

-- the types of the messages of a session, but for its Reject(3), which is sent again like a message
-- of the application
abbrev pub session_types : List (List ℕ)
session_types =
    codes "0" ∷ codes "1" ∷ codes "2" ∷ codes "4" ∷ codes "5" ∷ codes "A" ∷ []

-- a type within its bounds that ends no field, and none of those of a session
pub record IsGivenType (msg_type : List ℕ) : Type 0 where
  pub typed : 1 ≤ length msg_type
  pub short : length msg_type ≤ MAX_TYPE
  pub plain : list_any is_soh msg_type ≡ false
  pub no_reset : bytes_eq msg_type (codes "4") ≡ false
  pub no_session : list_any (bytes_eq msg_type) session_types ≡ false

-- A message that can be sent: with its header it is at most 256 fields, which are read again as
-- they are written, and its content says nothing that its header says.
pub record IsGivenOut (said : Said) : Type 0 where
  pub fields : List Field
  pub content : said.content ≡ body_of fields
  pub good : AreFields None fields
  pub few : length fields ≤ 248
  pub bounded : length said.content ≤ MAX_CONTENT
  pub msg_type : IsGivenType said.msg_type
  pub no_header : list_any is_in_header fields ≡ false
  pub plain : said.admin ≡ false

-- each message that these entries took has a number that it may have
abbrev pub IsNumbered : Entry → Type 0
IsNumbered entry = IfSome entry.took (λ took. took.number ≤ MAX_NUMBER)

abbrev pub AreNumbered : List Entry → Type 0
AreNumbered [] = Unit {0}
AreNumbered (entry ∷ entries) = IsNumbered entry × AreNumbered entries

-- each answer can be sent
abbrev pub AnswersAreGivenOut : Type 0
AnswersAreGivenOut = (before : List Entry) (active : Bool) (asked : Option Asked) (words : Words)
    → AreNumbered before → IfSome asked (λ a. a.number ≤ MAX_NUMBER)
    → Answers before active asked (Some words) → IsGivenOut words.said
