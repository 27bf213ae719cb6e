-- Inside: what is known on the way from a body to its translation, whatever its direction.
use Rattle.std.specs.Prelude.{◌≡◌, ◌++◌, ℕ, List, [], ◌∷◌, Option, None, Ok, Err}
use Rattle.field_groups.specs.declared.fault.SplitFault.{SplitFault}
use Rattle.field_groups.specs.Field.{AreFields, Field, body_of}
use Rattle.field_groups.specs.Fields.{SplitsInto}
use Rattle.message_tables.specs.Tables.{Message}
use Rattle.translation.specs.declared.error.TranslateError.{TranslateError}
use Rattle.translation.specs.declared.error.TranslateError.TheVariants as errors
use Rattle.translation.specs.Bodies.{Direction, others}
use Rattle.translation.specs.Header.{type_of}
use Rattle.translation.specs.Writing.{IsUnwritten, IsWritten}

-- a type of one byte, which is not SOH
pub data IsType (msg_type : List ℕ) : Type 0 where
  One : (byte : ℕ) → (byte ≡ 1 → ⊥) → msg_type ≡ byte ∷ [] → IsType msg_type

module _ (d : Direction) where
  -- WHAT A DIRECTION OWES of fields whose message becomes another: what they have in common, that
  -- what is written is split again, and that its type has one byte
  pub record Keeps (fields : List Field) (m w : Message) : Type 0 where
    pub kept : d.Kept fields m w
    pub again : SplitsInto (body_of (others d fields m w)) (others d fields m w) None
    pub typed : IsType (type_of (d.head fields))

  abbrev pub IsFair : Type 0
  IsFair = (fields : List Field) → AreFields None fields → (m w : Message)
      → d.source (type_of fields) fields None ≡ Ok m → d.goes m ≡ Ok w → Keeps fields m w

  -- fields of a whole body are read as this message
  pub record AreRead (fields : List Field) (stopped : Option SplitFault) (m : Message)
      : Type 0 where
    pub whole : stopped ≡ None
    pub read : d.source (type_of fields) fields None ≡ Ok m

  -- and it becomes a message
  pub record AreGone (fields : List Field) (stopped : Option SplitFault) : Type 0 where
    pub m : Message
    pub w : Message
    pub read : AreRead fields stopped m
    pub goes : d.goes m ≡ Ok w

  -- or why there is none
  abbrev pub StayBack : List Field → Option SplitFault → TranslateError → Type 0
  StayBack fields stopped errors.NoMemory = Unit {0}
  StayBack fields stopped errors.TooLong = ⊥
  StayBack fields stopped (errors.Faulty fault) =
      d.source (type_of fields) fields stopped ≡ Err fault
  StayBack fields stopped (errors.Lacking tag) =
      (m : Message) × AreRead fields stopped m × (d.goes m ≡ Err tag)

  -- the content of what fields become is appended
  pub record Appends (fields : List Field) (stopped : Option SplitFault) (before after : List ℕ)
      : Type 0 where
    pub gone : AreGone fields stopped
    pub bytes : after ≡ before ++ body_of (d.content gone.m gone.w)

  -- a body that stands for the fields of a body
  pub record IsOtherOf (fields : List Field) (stopped : Option SplitFault) (other : List ℕ) : Type 0
    where
      pub gone : AreGone fields stopped
      pub written : IsWritten (d.head fields) (d.content gone.m gone.w) other

  -- fields whose translation is too long
  pub record IsLongOf (fields : List Field) (stopped : Option SplitFault) : Type 0 where
    pub gone : AreGone fields stopped
    pub long : IsUnwritten (d.head fields) (d.content gone.m gone.w) errors.TooLong

  -- why no body stands for them
  abbrev pub Refuses : List Field → Option SplitFault → TranslateError → Type 0
  Refuses fields stopped errors.TooLong = IsLongOf fields stopped
  Refuses fields stopped error = StayBack fields stopped error
