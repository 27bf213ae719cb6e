-- Own: what `check` finds of a frame; docs/DECISIONS.md, "Commands". The types are those of FIX 4.2
-- and FIXT 1.1, MsgType.
use Rattle.std.specs.Prelude.{◌≡◌, ◌⊎◌, ℕ, Bool, ◌||◌, List, codes, Some, None, MatchBool}
use Rattle.std.specs.declared.option.Option.{Option}
use Rattle.std.specs.Str.{bytes_eq}
use Rattle.order_meaning.specs.declared.Side.{Side}
use Rattle.order_meaning.specs.declared.Side.TheVariants.{Client, Venue}
use Rattle.order_meaning.specs.declared.fault.Fault.TheVariants as faults
use Rattle.translation.specs.declared.error.TranslateError.{TranslateError}
use Rattle.translation.specs.declared.error.TranslateError.TheVariants as errors
use Rattle.dict_fix44.specs.Message.{refusal44}
use Rattle.request_translate.specs.Translation as up
use Rattle.report_translate.specs.Translation as down
use Rattle.report_translate.specs.Reading.{refusal_message}
use Rattle.report_translate.specs.Refusals.{IsCheckedRefusal}
use Rattle.translate_fix44.specs.Translation as fix44
use Rattle.gateway_top.specs.MsgType.{type_in}
use Rattle.gateway_top.specs.declared.finding.Finding.{Finding}
use Rattle.gateway_top.specs.declared.finding.Finding.TheVariants.{Session, Good, Reason}
use Rattle.gateway_top.specs.declared.finding.Finding.TheVariants.{NoCounterpart, NotSupported}

-- Heartbeat, TestRequest, ResendRequest, SequenceReset, Logout and Logon
abbrev pub is_session : List ℕ → Bool
is_session msg_type =
    bytes_eq msg_type (codes "0") || bytes_eq msg_type (codes "1")
    || bytes_eq msg_type (codes "2") || bytes_eq msg_type (codes "4")
    || bytes_eq msg_type (codes "5") || bytes_eq msg_type (codes "A")

-- Reject and BusinessMessageReject
abbrev pub is_refusal : List ℕ → Bool
is_refusal msg_type = bytes_eq msg_type (codes "3") || bytes_eq msg_type (codes "j")

-- What is found of a body that is read, where a check of it has these outcomes: it is good; its
-- first fault; the first tag that has no counterpart; or a type that is not the side's.
abbrev pub IsRead : (Option TranslateError → Type 0) → Finding → Type 0
IsRead checked Good = checked None
IsRead checked (Reason tag reason) = checked (Some (errors.Faulty (faults.Session tag reason)))
IsRead checked (NoCounterpart tag) =
    checked (Some (errors.Faulty (faults.NoCounterpart tag))) ⊎ checked (Some (errors.Lacking tag))
IsRead checked NotSupported = checked (Some (errors.Faulty faults.NotSupported))
IsRead checked Session = ⊥

-- the outcome of a check of what a side sends besides refusals: requests, or reports
abbrev pub IsCheckedMessage : Side → List ℕ → Option TranslateError → Type 0
IsCheckedMessage Client body checked = up.IsChecked body checked
IsCheckedMessage Venue body checked = down.IsChecked body checked

-- what is found of a body of a session, where these are the outcomes of a check of a refusal, and
-- of any other message
abbrev pub IsFoundBy : (refusal message : Option TranslateError → Type 0) → List ℕ → Finding
    → Type 0
IsFoundBy refusal message body finding =
    MatchBool (is_session (type_in body)) (finding ≡ Session)
    (MatchBool (is_refusal (type_in body)) (IsRead refusal finding) (IsRead message finding))

-- what is found of a body of a side's session, and of that of a client of FIX 4.4
abbrev pub IsFound : Side → List ℕ → Finding → Type 0
IsFound side body finding =
    IsFoundBy (IsCheckedRefusal (refusal_message side) body) (IsCheckedMessage side body) body
    finding

abbrev pub IsFound44 : List ℕ → Finding → Type 0
IsFound44 body finding =
    IsFoundBy (IsCheckedRefusal refusal44 body) (fix44.IsChecked body) body finding

-- where a frame that begins here is refused for what is found of it
abbrev pub refusal_at : Finding → ℕ → Option ℕ
refusal_at Session at = None
refusal_at Good at = None
refusal_at other at = Some at
