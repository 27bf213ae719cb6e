-- Own: what holds of the translations of requests.
use Rattle.std.specs.Prelude.{◌≡◌, ℕ, List, [], ◌∷◌, None, Ok, IfSome}
use Rattle.frame_grammar.specs.declared.frame.Kind.TheVariants.{Fix42, Fixt11}
use Rattle.frame_grammar.specs.Frame.{IsFrame}
use Rattle.field_groups.specs.Field.{Field, AreFields}
use Rattle.dict_fix42.specs.Content.{content42}
use Rattle.dict_fix42.specs.Message.{message42}
use Rattle.dict_fix42.specs.Said.{says as says42}
use Rattle.dict_fix42.specs.declared.requests.Msg42.{Msg42}
use Rattle.dict_fix50.specs.Content.{content50}
use Rattle.dict_fix50.specs.Message.{message50}
use Rattle.dict_fix50.specs.Said.{says as says50}
use Rattle.dict_fix50.specs.declared.requests.Msg50.{Msg50}
use Rattle.dict_fix50.specs.Requests.{items50}
use Rattle.dict_fix50.specs.Sense.{request50, sense50}
use Rattle.message_tables.specs.Content.{content}
use Rattle.message_tables.specs.Tables.{Item, Message}
use Rattle.order_meaning.specs.Request.{RequestKind}
use Rattle.row_values.specs.Asked.{letter_of}
use Rattle.row_values.specs.Kinds.{Kind}
use Rattle.rows_fix50.specs.Header.{table}
use Rattle.sound_laws.specs.Sound.{without_resend}
use Rattle.request_rules.specs.Canonical.{IsCanonical}
use Rattle.request_rules.specs.Up.{IsRequest42}
use Rattle.translation.specs.Bodies.{HasOneOutcome}
use Rattle.request_translate.specs.Lack.{lack_of}
use Rattle.request_translate.specs.Translation.{IsTranslation, KeepSense, up}
use Rattle.request_translate.specs.Up.{IsRequest50, IsSound42, IsSound50}

-- what a message of FIX 5.0 SP2 means lacks nothing there
abbrev pub LacksNothing : Type 0
LacksNothing = (msg_type : List ℕ) (fields : List Field)
    → IfSome (sense50 msg_type fields) (λ request. lack_of request ≡ None)

-- canonical requests of a type that mean the same have the same content
abbrev pub HaveOneContent : ℕ → List (Item Kind) → Type 0
HaveOneContent letter items =
    (m n : Message) → IsCanonical letter items m → IsCanonical letter items n →
    request50 m ≡ request50 n → content (table letter items) m ≡ content (table letter items) n

abbrev pub RequestsHaveOneContent : Type 0
RequestsHaveOneContent = (kind : RequestKind) → HaveOneContent (letter_of kind) (items50 kind)

-- a body has one outcome
abbrev pub OneOutcome : Type 0
OneOutcome = HasOneOutcome up

-- A frame of FIX 4.2 and one of FIXT 1.1 that is its translation mean the same, whatever bodies
-- they are read as.
abbrev pub FramesKeepSense : Type 0
FramesKeepSense = (body input text : List ℕ) → IsFrame Fix42 body input → IsTranslation body text
    → (other sent : List ℕ) → IsFrame Fix42 other input → IsFrame Fixt11 sent text
    → KeepSense other sent

-- what is written of a sound message is read again: its content, under its type, is at no fault and
-- says what the message says
abbrev pub IsReadAgain42 : Msg42 → Type 0
IsReadAgain42 m = IsSound42 m
    → message42 ((says42 m).letter ∷ []) (content42 m) None ≡ Ok (without_resend (says42 m))

abbrev pub IsReadAgain50 : Msg50 → Type 0
IsReadAgain50 m = IsSound50 m
    → message50 ((says50 m).letter ∷ []) (content50 m) None ≡ Ok (without_resend (says50 m))

pub record WrittenIsReadAgain : Type 0 where
  pub fix42 : (m : Msg42) → IsReadAgain42 m
  pub fix50 : (m : Msg50) → IsReadAgain50 m

-- what is read of the fields of a body is sound, in each version
pub record ReadIsSound : Type 0 where
  pub fix42 : (msg_type : List ℕ) (fields : List Field) (m : Message) → AreFields None fields
      → message42 msg_type fields None ≡ Ok m → IsRequest42 m
  pub fix50 : (msg_type : List ℕ) (fields : List Field) (m : Message) → AreFields None fields
      → message50 msg_type fields None ≡ Ok m → IsRequest50 m
