-- Bodies and events that are worked through from the definitions alone, with `|` for SOH. The names
-- are GATE to the client CLNT and GATE to the venue VENU; it is 2 January 2024, 10:00:00.
use Rattle.std.proofs.Common.{◌≡◌, ℕ, ◌+◌, ◌-◌, ◌*◌, true, false, List, [], ◌∷◌, map, codes, Some}
use Rattle.std.proofs.Common.{None, Option, refl, if◌then◌else◌}
use Rattle.std.specs.Prelude.{◌==◌, Result, Ok, Err}
use Rattle.std.specs.Fmt.{digits}
use Rattle.jiff_core.specs.Calendar.{days_from_civil, day_count, days_of_years, days_of_months}
use Rattle.typed_fields.specs.Digits.{are_digits, number_of, has_pattern}
use Rattle.field_groups.specs.declared.fault.SplitFault.{SplitFault}
use Rattle.field_groups.specs.declared.fault.SplitFault.TheVariants.{NoTag, BadTag, NoEnd}
use Rattle.field_groups.specs.declared.fault.SplitFault.TheVariants.{DataLength}
use Rattle.field_groups.specs.Field.{Field, field_bytes}
use Rattle.field_groups.specs.Data.{is_data_pair}
use Rattle.field_groups.specs.Fields.{has_tag, is_tag_good}
use Rattle.field_groups.specs.HeadValues.{number_in}
use Rattle.order_meaning.specs.declared.Side.{Side}
use Rattle.order_meaning.specs.declared.Side.TheVariants.{Client, Venue}
use Rattle.session_core.specs.declared.session.LinkState.{LinkState}
use Rattle.session_core.specs.declared.session.LinkState.TheVariants.{Down}
use Rattle.session_core.specs.declared.session.LinkState.TheVariants.{Active}
use Rattle.session_core.specs.declared.session.Session.{Session}
use Rattle.pair_entries.specs.declared.entry.Out.{Out}
use Rattle.pair_entries.specs.declared.entry.Entry.{Entry}
use Rattle.order_meaning.specs.declared.names.Names.{Names}
use Rattle.event_decisions.specs.Body.{reading_of}
use Rattle.event_decisions.specs.Event.{Event, Opened, Frame}
use Rattle.event_decisions.specs.Decide.{Decision, Repeat, decide}
use Rattle.event_decisions.specs.Days.{day_ms, is_due}

-- a text with SOH for `|`
abbrev pub soh : List ℕ → List ℕ
soh text = map (λ byte. if byte == 124 then 1 else byte) text

-- ---- bodies

abbrev reads : List ℕ → List Field → Option SplitFault → Type 0
reads body fields fault = reading_of (soh body) ≡ record { fields = fields; fault = fault }

pub record Bodies : Type 0 where
  -- raw data has as many bytes as its length says, of which one is SOH
  pub worked_data : reads (codes "35=D|354=8|355=x|10=070|58=t|")
      ((35, codes "D") ∷ (354, codes "8") ∷ (355, soh (codes "x|10=070")) ∷ (58, codes "t") ∷ [])
      None
  pub worked_length : reads (codes "35=D|354=99|355=x|")
      ((35, codes "D") ∷ (354, codes "99") ∷ []) (Some (DataLength 355))
  pub worked_no_end : reads (codes "35=0|58=t") ((35, codes "0") ∷ []) (Some (NoEnd 5))
  pub worked_no_tag : reads (codes "35=0|=t|") ((35, codes "0") ∷ []) (Some (NoTag 5))
  pub worked_bad_tag : reads (codes "35=0|058=t|") ((35, codes "0") ∷ []) (Some (BadTag 5))
  pub worked_empty : reads (codes "35=0|58=|") ((35, codes "0") ∷ (58, []) ∷ []) None

pub worked_bodies : Bodies
unfolding reading_of is_data_pair has_tag is_tag_good number_in
worked_bodies = record {
  worked_data = refl;
  worked_length = refl;
  worked_no_end = refl;
  worked_no_tag = refl;
  worked_bad_tag = refl;
  worked_empty = refl;
}

-- ---- events

abbrev pub moment : ℕ
moment = 1_704_189_600_000

abbrev pub names : Names
names = record {
  client_our = codes "GATE";
  client_peer = codes "CLNT";
  venue_our = codes "GATE";
  venue_peer = codes "VENU";
}

-- a session with these next numbers
abbrev pub session_at : Side → LinkState → ℕ → ℕ → Session
session_at side link next_in next_out = record {
  side = side;
  link = link;
  numbers = record { next_in = next_in; next_out = next_out };
  heart = 30;
  seen = moment;
  said = moment;
  tested = None;
  ask = None;
}

abbrev pub entry_of : Result Decision Side → Option Entry
entry_of (Ok decision) = decision.entry
entry_of (Err side) = None

abbrev pub spent_of : Result Decision Side → Option Side
spent_of (Ok decision) = None
spent_of (Err side) = Some side

abbrev pub repeat_in : Result Decision Side → Option Repeat
repeat_in (Ok decision) = decision.repeat
repeat_in (Err side) = None

-- a message of a session
abbrev admin_out : Side → ℕ → List ℕ → List ℕ → Out
admin_out side number msg_type content = record {
  side = side;
  number = number;
  admin = true;
  resend = false;
  msg_type = msg_type;
  content = soh content;
}

abbrev decided : Session → Session → Event → Result Decision Side
decided client venue event =
    decide names 120 (record { client = client; venue = venue }) event moment None

-- the first event of a day: the venue's connection opens
pub worked_logon :
    entry_of (decided (session_at Client Down 1 1) (session_at Venue Down 1 1) (Opened Venue))
    ≡ Some (record {
      at = moment;
      reset = false;
      took = None;
      next = (1, 1, 1, 2);
      outs = admin_out Venue 1 (codes "A") (codes "98=0|108=30|1137=9|") ∷ [];
    })
unfolding digits field_bytes
worked_logon = refl

-- a Heartbeat is taken: an entry with no out
abbrev heartbeat : List ℕ
heartbeat = soh (codes "35=0|49=CLNT|56=GATE|34=2|52=20240102-10:00:00|")

abbrev logged_on : ℕ → ℕ → Session
logged_on next_in next_out = session_at Client Active next_in next_out

abbrev away : Session
away = session_at Venue Down 1 1

pub worked_heartbeat : entry_of (decided (logged_on 2 2) away (Frame Client heartbeat))
    ≡ Some (record {
      at = moment;
      reset = false;
      took = Some (record { side = Client; number = 2; raw = heartbeat });
      next = (3, 2, 1, 1);
      outs = [];
    })
unfolding reading_of is_data_pair has_tag is_tag_good are_digits number_of has_pattern
    days_from_civil day_count days_of_years days_of_months
worked_heartbeat = refl

-- the same again with PossDupFlag: it is passed over, and no number changes
pub worked_passed_over :
    entry_of
    (decided (logged_on 3 2) away
    (Frame Client (soh (codes "35=0|49=CLNT|56=GATE|34=2|43=Y|52=20240102-10:00:00|"))))
    ≡ None
unfolding reading_of is_data_pair has_tag is_tag_good are_digits number_of has_pattern
    days_from_civil day_count days_of_years days_of_months
worked_passed_over = refl

-- a SequenceReset to the very number that is expected is taken, and makes no entry
pub worked_reset_to_expected :
    entry_of
    (decided (logged_on 3 2) away
    (Frame Client (soh (codes "35=4|49=CLNT|56=GATE|34=9|52=20240102-10:00:00|36=3|"))))
    ≡ None
unfolding reading_of is_data_pair has_tag is_tag_good are_digits number_of has_pattern
    days_from_civil day_count days_of_years days_of_months
worked_reset_to_expected = refl

-- a TestRequest where all numbers to the client are used
abbrev test_request : List ℕ
test_request = soh (codes "35=1|49=CLNT|56=GATE|34=2|52=20240102-10:00:00|112=x|")

pub worked_spent :
    spent_of (decided (logged_on 2 1_000_000_000) away (Frame Client test_request)) ≡ Some Client
unfolding reading_of is_data_pair has_tag is_tag_good are_digits number_of has_pattern
    days_from_civil day_count days_of_years days_of_months
worked_spent = refl

-- and the last number goes to its answer
pub worked_last_number :
    entry_of (decided (logged_on 2 999_999_999) away (Frame Client test_request)) ≡ Some (record {
      at = moment;
      reset = false;
      took = Some (record { side = Client; number = 2; raw = test_request });
      next = (3, 1_000_000_000, 1, 1);
      outs = admin_out Client 999_999_999 (codes "0") (codes "112=x|") ∷ [];
    })
unfolding reading_of is_data_pair has_tag is_tag_good are_digits number_of has_pattern
    days_from_civil day_count days_of_years days_of_months field_bytes digits
worked_last_number = refl

-- a ResendRequest with a number that is too high: it is answered first, and then the gap is asked
-- for
abbrev early_request : List ℕ
early_request = soh (codes "35=2|49=CLNT|56=GATE|34=9|52=20240102-10:00:00|7=2|16=3|")

pub worked_early_request :
    repeat_in (decided (logged_on 5 4) away (Frame Client early_request))
    ≡ Some (record { side = Client; from = 2; to = 3 })
unfolding reading_of is_data_pair has_tag is_tag_good are_digits number_of has_pattern
    days_from_civil day_count days_of_years days_of_months
worked_early_request = refl

pub worked_gap : entry_of (decided (logged_on 5 4) away (Frame Client early_request))
    ≡ Some (record {
      at = moment;
      reset = false;
      took = None;
      next = (5, 5, 1, 1);
      outs = admin_out Client 4 (codes "2") (codes "7=5|16=0|") ∷ [];
    })
unfolding reading_of is_data_pair has_tag is_tag_good are_digits number_of has_pattern
    days_from_civil day_count days_of_years days_of_months field_bytes digits
worked_gap = refl

-- ---- when a day begins, where days do at minute 600, which is 10:00:00

pub record DaysBegin : Type 0 where
  pub worked_at_its_minute : is_due (Some 600) (Some (moment - day_ms)) moment ≡ true
  pub worked_not_before : is_due (Some 600) (Some (moment - day_ms)) (moment - 1) ≡ false
  pub worked_once : is_due (Some 600) (Some moment) (moment + day_ms - 1) ≡ false
  -- a gateway that was down at the minute begins the day later
  pub worked_later : is_due (Some 600) (Some (moment - 1)) (moment + 3 * day_ms + 1) ≡ true
  -- a clock that falls behind the minute ends no day
  pub worked_set_back : is_due (Some 600) (Some moment) (moment - 1) ≡ false
  pub worked_unborn : is_due (Some 600) None moment ≡ false
  pub worked_never : is_due None (Some (moment - day_ms)) moment ≡ false

pub worked_days : DaysBegin
worked_days = record {
  worked_at_its_minute = refl;
  worked_not_before = refl;
  worked_once = refl;
  worked_later = refl;
  worked_set_back = refl;
  worked_unborn = refl;
  worked_never = refl;
}
