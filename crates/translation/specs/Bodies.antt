-- Own: what a translation makes of a body, and why it makes nothing of it, whatever its direction.
use Rattle.std.specs.Prelude.{◌≡◌, ◌≤◌, ◌<◌, ℕ, List, length, Option, Some, None, Result, Ok, Err}
use Rattle.frame_grammar.specs.declared.frame.Kind.{Kind}
use Rattle.frame_grammar.specs.declared.frame.TheConstants.{MAX_BODY}
use Rattle.frame_grammar.specs.Frame.{IsFrame, frame_of}
use Rattle.field_groups.specs.declared.fault.SplitFault.{SplitFault}
use Rattle.field_groups.specs.Field.{Field, body_of}
use Rattle.field_groups.specs.Fields.{SplitsInto}
use Rattle.message_tables.specs.Tables.{Message}
use Rattle.order_meaning.specs.declared.fault.Fault.{Fault}
use Rattle.translation.specs.declared.error.TranslateError.{TranslateError}
use Rattle.translation.specs.declared.error.TranslateError.TheVariants as errors
use Rattle.translation.specs.declared.lengths.TheConstants.{MAX_CONTENT}
use Rattle.translation.specs.Header.{type_of, with_content}

-- A DIRECTION: the kind of the frames that it writes; the header fields that it carries; what
-- fields are read as, by MsgType and with the fault that stopped them; what a message becomes, or
-- the tag that it lacks; the content that is written; and what the fields of a body, its message
-- and what that becomes have in common.
pub record Direction : Type 1 where
  pub kind : Kind
  pub head : List Field → List Field
  pub source : List ℕ → List Field → Option SplitFault → Result Message Fault
  pub goes : Message → Result Message ℕ
  pub content : (m w : Message) → List Field
  pub Kept : (fields : List Field) → (m w : Message) → Type 0

module _ (d : Direction) where
  -- the fields that stand for these: those of the header, and then the content
  abbrev pub others : List Field → (m w : Message) → List Field
  others fields m w = with_content (d.head fields) (d.content m w)

  -- a body that is read as a message, at no fault
  pub record IsRead (body : List ℕ) (fields : List Field) : Type 0 where
    pub message : Message
    pub split : SplitsInto body fields None
    pub read : d.source (type_of fields) fields None ≡ Ok message

  -- A BODY THAT GOES: it is read as a message, which becomes this one.
  pub record Goes (body : List ℕ) (fields : List Field) : Type 0 where
    pub read : IsRead body fields
    pub other : Message
    pub goes : d.goes read.message ≡ Ok other
    pub kept : d.Kept fields read.message other

  abbrev pub written : (body : List ℕ) (fields : List Field) → Goes body fields → List Field
  written body fields g = d.content g.read.message g.other

  -- A BODY THAT STANDS FOR A BODY: the header fields, and then the content, into which it is split
  -- again.
  pub record IsOther (body other : List ℕ) : Type 0 where
    pub fields : List Field
    pub stands : Goes body fields
    pub bytes : other ≡ body_of (with_content (d.head fields) (written body fields stands))
    pub content_fits : length (body_of (written body fields stands)) ≤ MAX_CONTENT
    pub body_fits : length other ≤ MAX_BODY
    pub again : SplitsInto other (with_content (d.head fields) (written body fields stands)) None

  -- a frame whose body stands for a body
  pub record IsTranslation (body text : List ℕ) : Type 0 where
    pub other : List ℕ
    pub stands : IsOther body other
    pub written : text ≡ frame_of d.kind other
    pub frame : IsFrame d.kind other text

  -- a body that has this first fault, or whose type is not translated
  pub record IsFaulty (body : List ℕ) (fault : Fault) : Type 0 where
    pub fields : List Field
    pub stopped : Option SplitFault
    pub split : SplitsInto body fields stopped
    pub read : d.source (type_of fields) fields stopped ≡ Err fault

  -- a body whose message lacks what stands, or does not stand, at this tag
  pub record IsLacking (body : List ℕ) (tag : ℕ) : Type 0 where
    pub fields : List Field
    pub read : IsRead body fields
    pub lack : d.goes read.message ≡ Err tag

  -- a body that goes, whose translation is longer than a content, or a body, may be
  pub record IsTooLong (body : List ℕ) : Type 0 where
    pub fields : List Field
    pub stands : Goes body fields
    pub long : length (body_of (written body fields stands)) ≤ MAX_CONTENT
        → MAX_BODY < length (body_of (with_content (d.head fields) (written body fields stands)))

  -- THE OUTCOME of a body: the text of a frame, or why there is none. Want of memory is no outcome.
  abbrev pub IsOutcome : List ℕ → Result (List ℕ) TranslateError → Type 0
  IsOutcome body (Ok text) = IsTranslation body text
  IsOutcome body (Err (errors.Faulty fault)) = IsFaulty body fault
  IsOutcome body (Err (errors.Lacking tag)) = IsLacking body tag
  IsOutcome body (Err errors.TooLong) = IsTooLong body
  IsOutcome body (Err errors.NoMemory) = ⊥

  -- why a body was refused; want of memory says nothing of it
  abbrev pub IsRefused : List ℕ → TranslateError → Type 0
  IsRefused body errors.NoMemory = Unit {0}
  IsRefused body error = IsOutcome body (Err error)

  -- the outcome of a check, which judges no length
  abbrev pub IsChecked : List ℕ → Option TranslateError → Type 0
  IsChecked body None = (fields : List Field) × Goes body fields
  IsChecked body (Some errors.TooLong) = ⊥
  IsChecked body (Some error) = IsOutcome body (Err error)

  abbrev pub IsRefusedByCheck : List ℕ → TranslateError → Type 0
  IsRefusedByCheck body errors.NoMemory = Unit {0}
  IsRefusedByCheck body error = IsChecked body (Some error)

  -- A body has one outcome.
  abbrev pub HasOneOutcome : Type 0
  HasOneOutcome = (body : List ℕ) (a b : Result (List ℕ) TranslateError)
      → IsOutcome body a → IsOutcome body b → a ≡ b
