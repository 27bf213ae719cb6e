-- Own: what holds of requests that go up.
use Rattle.std.specs.Prelude.{◌≡◌, ◌==◌, ℕ, List, [], ◌∷◌, length, false, None, Ok, IfSome}
use Rattle.std.specs.Str.Parse.{digits_value}
use Rattle.value_kinds.specs.ValueKind.{number_of_two}
use Rattle.field_groups.specs.Field.{Field, AreFields}
use Rattle.message_tables.specs.Tables.{Message, ◌>>=◌, code_of}
use Rattle.row_values.specs.Kinds.{judge}
use Rattle.dict_fix42.specs.Message.{message42}
use Rattle.dict_fix42.specs.Sense.{request42, request_of}
use Rattle.dict_fix42.specs.Requests.{asked42}
use Rattle.order_meaning.specs.Request.{RequestKind}
use Rattle.dict_fix50.specs.Message.{message50}
use Rattle.dict_fix50.specs.Sense.{request50}
use Rattle.sound_laws.specs.Sound.{IsSound, without_resend}
use Rattle.request_rules.specs.Canonical.{IsRequest}
use Rattle.request_rules.specs.Lack.{lack42, lack_of}
use Rattle.request_rules.specs.Rules.{at, up_content, up_lack, up_message}

-- What the tables of FIX 4.2 ask of the values that FIX 5.0 SP2 says otherwise: a month of six
-- digits, a day of two, and no TimeInForce of 7.
pub record IsOrdinary (m : Message) : Type 0 where
  pub month : IfSome (at m 200) (λ text. length text ≡ 6)
  pub day : IfSome (at m 205) (λ text. digits_value 10 text ≡ number_of_two text)
  pub time : IfSome (at m 59 >>= code_of) (λ code. (code == 55) ≡ false)

-- What goes up of a message that lacks nothing means what the message means, whatever its type is.
abbrev pub KeepsSense : Type 0
KeepsSense = (m : Message) → IsOrdinary m → lack42 m ≡ None
    → request50 (up_message m) ≡ request42 m

-- The lack of a request is that of the first rule that has one.
abbrev pub LacksByRules : Type 0
LacksByRules = (kind : RequestKind) (m : Message) → lack_of (request_of kind m) ≡ up_lack m

-- a sound request of FIX 4.2
pub record IsRequest42 (m : Message) : Type 0 where
  pub kind : RequestKind
  pub sound : IsSound judge (asked42 kind) m

-- WHAT GOES UP STANDS FOR A MESSAGE: it is a canonical request with the content that the rules
-- write, it means what the message means, and its content is read again as itself, but for
-- PossResend, which stands in the header.
pub record StandsFor (m : Message) : Type 0 where
  pub request : IsRequest (up_message m) (up_content m)
  pub means : request50 (up_message m) ≡ request42 m
  pub again : message50 (m.letter ∷ []) (up_content m) None ≡ Ok (without_resend (up_message m))

abbrev pub GoUp : Type 0
GoUp = (m : Message) → IsRequest42 m → lack42 m ≡ None → StandsFor m

-- and of what fields at no fault are read as
abbrev pub ReadGoUp : Type 0
ReadGoUp = (msg_type : List ℕ) (fields : List Field) (m : Message) → AreFields None fields
    → message42 msg_type fields None ≡ Ok m → lack42 m ≡ None → StandsFor m
