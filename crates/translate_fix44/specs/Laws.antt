-- Own: what holds of requests of FIX 4.4 that go up to FIX 5.0 SP2, and of reports that go down.
use Rattle.std.specs.Prelude.{◌≡◌, ℕ, List, [], ◌∷◌, None, Ok, IfSome}
use Rattle.std.specs.Option.{option_map}
use Rattle.field_groups.specs.Field.{AreFields, Field}
use Rattle.message_tables.specs.Content.{content}
use Rattle.message_tables.specs.Tables.{Message, Said}
use Rattle.order_meaning.specs.Book.{Book}
use Rattle.order_meaning.specs.Report.{filled}
use Rattle.order_meaning.specs.Request.{RequestKind}
use Rattle.rows_fix42.specs.Header.{table}
use Rattle.dict_fix44.specs.Message.{report_message44, request_message44}
use Rattle.dict_fix44.specs.Reports.{cancel_reject, execution_report}
use Rattle.dict_fix44.specs.Requests.{asked44}
use Rattle.dict_fix44.specs.Sense.{report44, request44}
use Rattle.dict_fix44.specs.Step.{step44}
use Rattle.dict_fix50.specs.Message.{message50}
use Rattle.dict_fix50.specs.Sense.{request50}
use Rattle.reports_fix50.specs.Sense.{report50}
use Rattle.reports_fix50.specs.Step.{step50}
use Rattle.sound_laws.specs.Complete.{IsComplete}
use Rattle.sound_laws.specs.Sound.{without_resend}
use Rattle.request_rules.specs.Canonical.{IsRequest}
use Rattle.report_rules.specs.Down.{IsId, IsReport50}
use Rattle.translate_fix44.specs.Rules.{down_content, down_message, up_content, up_message}

-- ---- requests

-- a request of FIX 4.4, as it is read
pub record IsRequest44 (m : Message) : Type 0 where
  pub kind : RequestKind
  pub complete : IsComplete (asked44 kind) m

-- WHAT GOES UP STANDS FOR A MESSAGE: it is a canonical request with the content that the rules
-- write, it means what the message means, and its content is read again as itself, but for
-- PossResend, which stands in the header.
pub record StandsUp (m w : Message) : Type 0 where
  pub request : IsRequest w (up_content m)
  pub means : request50 w ≡ request44 m
  pub again : message50 (w.letter ∷ []) (up_content m) None ≡ Ok (without_resend w)

abbrev pub GoUp : Type 0
GoUp = (m w : Message) → IsRequest44 m → up_message m ≡ Ok w → StandsUp m w

-- and of what fields at no fault are read as
abbrev pub ReadGoUp : Type 0
ReadGoUp = (msg_type : List ℕ) (fields : List Field) (m w : Message) → AreFields None fields
    → request_message44 msg_type fields None ≡ Ok m → up_message m ≡ Ok w → StandsUp m w

-- ---- reports

-- a report of FIX 4.4, and its content
pub data IsReport44 (w : Message) (fields : List Field) : Type 0 where
  Reports : IsComplete (table 56 execution_report) w
      → fields ≡ content (table 56 execution_report) w → IsReport44 w fields
  Rejects : IsComplete (table 57 cancel_reject) w
      → fields ≡ content (table 57 cancel_reject) w → IsReport44 w fields

-- WHAT GOES DOWN STANDS FOR A REPORT: it is a report of FIX 4.4 with the content that the rules
-- write, means the same, changes each book alike, and its content is read again as itself, but for
-- PossResend. A cancel reject that does not name its order names the one that is known.
pub record StandsDown (known : Said) (m w : Message) : Type 0 where
  pub report : IsReport44 w (down_content known m)
  pub means : report44 w ≡ option_map (filled known) (report50 m)
  pub books : (book : Book) → step44 book w ≡ step50 book m
  pub again : report_message44 (w.letter ∷ []) (down_content known m) None ≡ Ok (without_resend w)

abbrev pub GoDown : Type 0
GoDown = (known : Said) → IfSome known IsId → (m w : Message) → IsReport50 m
    → down_message known m ≡ Ok w → StandsDown known m w
