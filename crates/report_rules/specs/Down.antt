-- Own: what holds of reports that go down.
use Rattle.std.specs.Prelude.{◌≡◌, ◌++◌, ◌==◌, ℕ, List, [], ◌∷◌, true, false, IfSome, drop}
use Rattle.std.specs.Prelude.{Option, Some, None, Ok, Err}
use Rattle.std.specs.Option.{option_map}
use Rattle.std.specs.Str.Parse.{digits_value}
use Rattle.value_kinds.specs.ValueKind.{Id, number_of_two}
use Rattle.field_groups.specs.Field.{AreFields, Field, body_of}
use Rattle.message_tables.specs.Tables.{Message, Said, Spells, Table, code_if}
use Rattle.message_tables.specs.FirstFault.{first_fault}
use Rattle.row_values.specs.Kinds.{Kind, Value, judge}
use Rattle.order_meaning.specs.Book.{Book}
use Rattle.order_meaning.specs.declared.fault.Lack.{Lack}
use Rattle.order_meaning.specs.declared.fault.Lack.TheVariants as lacks
use Rattle.order_meaning.specs.Report.{filled}
use Rattle.rows_fix42.specs.Meaning.{is_on_close}
use Rattle.reports_fix42.specs.Message as tables42
use Rattle.reports_fix42.specs.Message.{message42}
use Rattle.reports_fix42.specs.Sense.{report42}
use Rattle.reports_fix42.specs.Step.{step42}
use Rattle.reports_fix50.specs.Message as tables50
use Rattle.reports_fix50.specs.Message.{message50}
use Rattle.reports_fix50.specs.Sense.{report50}
use Rattle.reports_fix50.specs.Step.{step50}
use Rattle.sound_laws.specs.Complete.{IsComplete}
use Rattle.sound_laws.specs.Sound.{IsClear, IsSound, without_resend}
use Rattle.rule_rows.specs.ByRules.{content_by}
use Rattle.report_rules.specs.Rules.{at, at_close, down_message, kinds, rules_for, written}

-- What the tables of FIX 5.0 SP2 ask of the values that FIX 4.2 says otherwise: the last two digits
-- of a date are a day, no OrdType is one on close, TimeInForce 7 stands beside OrdType 1 or 2; and
-- the reasons are those of the type.
pub record IsOrdinary (m : Message) : Type 0 where
  pub day : IfSome (at m 541) (λ date. number_of_two (drop 6 date) ≡ digits_value 10 (drop 6 date))
  pub plain : is_on_close (code_if m.cells 40) ≡ false
  pub close : IfSome (code_if m.cells 40) (λ type. IfSome (code_if m.cells 59)
      (λ time. (time == 55) ≡ at_close (Some type) (Some time)))
  pub report : (m.letter == 56) ≡ true → at m 102 ≡ None
  pub reject : (m.letter == 57) ≡ true → (at m 103 ≡ None) × (at m 378 ≡ None)

-- (1) What goes down keeps its sense; a cancel reject that does not say the original id of its
-- order says the one that is known.
abbrev pub KeepsSense : Type 0
KeepsSense = (known : Said) (m w : Message) → IsOrdinary m → down_message known m ≡ Ok w
    → report42 w ≡ option_map (filled known) (report50 m)

-- (2) And it changes each book alike.
abbrev pub KeepsBooks : Type 0
KeepsBooks = (known : Said) (m w : Message) → IsOrdinary m → down_message known m ≡ Ok w
    → (book : Book) → step42 book w ≡ step50 book m

-- ---- what is written

-- a report of FIX 5.0 SP2, as it is read
pub data IsReport50 (m : Message) : Type 0 where
  Reports50 : IsComplete tables50.report_table m → IsReport50 m
  Rejects50 : IsComplete tables50.cancel_reject_table m → IsReport50 m

-- a report of FIX 4.2
pub data IsReport42 (m : Message) : Type 0 where
  Reports42 : IsSound judge tables42.execution_report_table m → IsReport42 m
  Rejects42 : IsSound judge tables42.cancel_reject_table m → IsReport42 m

-- an id that can be written
abbrev pub IsId : List ℕ → Type 0
IsId text = (judge [] (Value Id) text ≡ Spells text) × IsClear text

-- What goes down of a report stands for it: it is a report of FIX 4.2, means the same, changes each
-- book alike, is what the rules write of it, and is read again of its content, but for PossResend,
-- which stands in the header.
pub record StandsFor (known : Said) (m w : Message) : Type 0 where
  pub sound : IsReport42 w
  pub means : report42 w ≡ option_map (filled known) (report50 m)
  pub books : (book : Book) → step42 book w ≡ step50 book m
  pub by_rules : written w ≡ content_by kinds (rules_for known m) m
  pub again : message42 (w.letter ∷ []) (written w) None ≡ Ok (without_resend w)

-- (3) What goes down of a report stands for it.
abbrev pub GoDown : Type 0
GoDown = (known : Said) → IfSome known IsId → (m w : Message) → IsReport50 m
    → down_message known m ≡ Ok w → StandsFor known m w

-- the type of a report
pub data IsReportType (msg_type : List ℕ) : Type 0 where
  Type8 : msg_type ≡ 56 ∷ [] → IsReportType msg_type
  Type9 : msg_type ≡ 57 ∷ [] → IsReportType msg_type

-- (4) Of fields at no fault, whose message lacks nothing, what goes down stands for that message.
abbrev pub WritesDown : Type 0
WritesDown = (known : Said) → IfSome known IsId → (msg_type : List ℕ) (fields : List Field)
    (m w : Message) → AreFields None fields → IsReportType msg_type
    → message50 msg_type fields None ≡ Ok m → down_message known m ≡ Ok w → StandsFor known m w

-- ---- lacks

-- Why a report does not go down: its ExecType means no report; or it is a cancel reject, and
-- neither it nor anyone else tells which order was to be canceled or replaced.
pub data Lacks (known : Said) (m : Message) (tag : ℕ) : Type 0 where
  NoSense : tag ≡ 150 → report50 m ≡ None → Lacks known m tag
  NoOriginal : tag ≡ 41 → at m 41 ≡ None → known ≡ None → Lacks known m tag

abbrev pub LacksMean : Type 0
LacksMean = (known : Said) (m : Message) → IsReport50 m → (tag : ℕ)
    → down_message known m ≡ Err tag → Lacks known m tag

-- ---- the code

-- fields at no fault beside the table of their type
abbrev pub IsGoodBy : Option (Table Kind) → List Field → Type 0
IsGoodBy None fields = ⊥
IsGoodBy (Some table) fields = first_fault judge table fields ≡ None

-- (5) What is appended of a report: the content of the message that goes down of it.
pub record IsPut (known : Said) (m : Message) (before after : List ℕ) : Type 0 where
  pub w : Message
  pub down : down_message known m ≡ Ok w
  pub bytes : after ≡ before ++ body_of (written w)

abbrev pub PutsDown : List ℕ → Said → List Field → List ℕ → List ℕ → Type 0
PutsDown msg_type known fields before after =
    (m : Message) → message50 msg_type fields None ≡ Ok m → IsPut known m before after

-- and why nothing is: exactly its lack; want of memory is free
abbrev pub LacksDown : List ℕ → Said → List Field → Lack → Type 0
LacksDown msg_type known fields lacks.NoMemory = Unit {0}
LacksDown msg_type known fields (lacks.Tag tag) =
    (m : Message) → message50 msg_type fields None ≡ Ok m → down_message known m ≡ Err tag
