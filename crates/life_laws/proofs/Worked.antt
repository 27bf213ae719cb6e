-- Events that are worked through from the definitions alone, with `|` for SOH. The names are GATE
-- to the client CLNT and GATE to the venue VENU; it is 2 January 2024, 10:00:00.
use Rattle.std.proofs.Common.{◌≡◌, ℕ, ◌-◌, Bool, true, false, List, [], ◌∷◌, ◌++◌, map, codes, take}
use Rattle.std.proofs.Common.{Some, None, Option, refl, inl, inr, if◌then◌else◌}
use Rattle.std.specs.Prelude.{◌==◌, Result, Ok, Err}
use Rattle.std.specs.Fmt.{digits}
use Rattle.jiff_core.specs.Calendar.{days_from_civil, day_count, days_of_years, days_of_months}
use Rattle.typed_fields.specs.Digits.{are_digits, number_of, has_pattern, zero_padded}
use Rattle.typed_fields.specs.Day.{date_of, counted_off}
use Rattle.field_groups.specs.Field.{field_bytes}
use Rattle.field_groups.specs.Data.{is_data_pair}
use Rattle.field_groups.specs.Fields.{has_tag, is_tag_good}
use Rattle.order_meaning.specs.declared.Side.{Side}
use Rattle.order_meaning.specs.declared.Side.TheVariants.{Client, Venue}
use Rattle.order_meaning.specs.declared.names.Names.{Names}
use Rattle.session_core.specs.declared.session.LinkState.{LinkState}
use Rattle.session_core.specs.declared.session.LinkState.TheVariants.{Down, Active}
use Rattle.session_core.specs.declared.session.Session.{Session}
use Rattle.pair_entries.specs.declared.entry.Out.{Out}
use Rattle.pair_entries.specs.declared.entry.Entry.{Entry}
use Rattle.event_decisions.specs.Body.{reading_of}
use Rattle.event_decisions.specs.Event.{Opened, Frame, Tick}
use Rattle.event_decisions.specs.Decide.{Asked, Words, Sessions, Decision, decide}
use Rattle.wires.specs.Wire.{WireCall, Send, Poll, HangUp, Bytes, Connection}
use Rattle.wires.specs.Wire as wire
use Rattle.life_laws.specs.Forms.{Form, First, Again, Fill, placed_at, form_frame}
use Rattle.life_laws.specs.Taken.{Message, GapFill, Reset, Other, take_more}
use Rattle.life_laws.specs.Repeats.{repeat_forms}
use Rattle.life_laws.specs.Happens.{World, both_standing, firsts_to, Happens}
use Rattle.life_laws.specs.Turn.{counts}
use Rattle.life_laws.specs.Days.{after_days}

-- a text with SOH for `|`
abbrev soh : List ℕ → List ℕ
soh text = map (λ byte. if byte == 124 then 1 else byte) text

abbrev moment : ℕ
moment = 1_704_189_600_000

abbrev names : Names
names = record {
  client_our = codes "GATE";
  client_peer = codes "CLNT";
  venue_our = codes "GATE";
  venue_peer = codes "VENU";
}

-- a session with these next numbers
abbrev session_at : Side → LinkState → ℕ → ℕ → Session
session_at side link next_in next_out = record {
  side = side;
  link = link;
  numbers = record { next_in = next_in; next_out = next_out };
  heart = 30;
  seen = moment;
  said = moment;
  tested = None;
  ask = None;
}

abbrev away : Sessions
away = record { client = session_at Client Down 1 1; venue = session_at Venue Down 1 1 }

abbrev decision_in : Result Decision Side → Decision
decision_in (Ok decision) = decision
decision_in (Err side) = record { entry = None; sessions = away; repeat = None; hang_up = None }

-- no message is answered
abbrev silent : List Entry → Bool → Option Asked → Option Words → Type 0
silent before active asked words = words ≡ None

abbrev out_to : Side → ℕ → Bool → List ℕ → List ℕ → Out
out_to side number admin msg_type content = record {
  side = side;
  number = number;
  admin = admin;
  resend = false;
  msg_type = msg_type;
  content = soh content;
}

abbrev call : Side → Form → WireCall
call side form = Send (form_frame names side form) (form_frame names side form) true

-- ---- the first event of a day: the venue's connection opens

abbrev logon : Out
logon = out_to Venue 1 true (codes "A") (codes "98=0|108=30|1137=9|")

abbrev first_decision : Decision
first_decision = decision_in (decide names 120 away (Opened Venue) moment None)

pub worked_first_event : Happens silent names 120
    (record { entries = []; sessions = away; client_up = false; venue_up = true })
    (Opened Venue) moment
    (record { client = []; venue = call Venue (First (placed_at moment logon)) ∷ [] })
    (record {
      entries = record {
        at = moment;
        reset = false;
        took = None;
        next = (1, 1, 1, 2);
        outs = logon ∷ [];
      } ∷ [];
      sessions = both_standing false true first_decision.sessions;
      client_up = false;
      venue_up = true;
    })
unfolding digits field_bytes
worked_first_event = record {
  decision = first_decision;
  decides = record { words = None; answer = refl; decided = refl };
  entries = refl;
  client = record { sent = []; still = false; sends = (refl, refl); all = refl; ends = refl };
  venue = record {
    sent = call Venue (First (placed_at moment logon)) ∷ [];
    still = true;
    sends = inl ([], refl, (refl, refl));
    all = refl;
    ends = refl;
  };
  sessions = refl;
}

-- and this is its frame
pub worked_first_frame : form_frame names Venue (First (placed_at moment logon))
    ≡ soh (codes "8=FIXT.1.1|9=70|35=A|49=GATE|56=VENU|34=1|52=20240102-10:00:00.000|"
    ++ codes "98=0|108=30|1137=9|10=201|")
unfolding form_frame digits field_bytes zero_padded date_of counted_off
worked_first_frame = refl

-- ---- a request with a number that is too high: the client was sent a Logon, a report and a
-- Heartbeat, and asks for the last two

abbrev report : Out
report = out_to Client 2 false (codes "8") (codes "37=O1|")

abbrev heartbeat : Out
heartbeat = out_to Client 3 true (codes "0") []

abbrev entry_with : ℕ → ℕ → Out → Entry
entry_with at next out =
    record { at = at; reset = false; took = None; next = (5, next, 1, 1); outs = out ∷ [] }

abbrev journal : List Entry
journal =
    entry_with (moment - 3) 2 (out_to Client 1 true (codes "A") (codes "98=0|108=30|"))
    ∷ entry_with (moment - 2) 3 report ∷ entry_with (moment - 1) 4 heartbeat ∷ []

abbrev request : List ℕ
request = soh (codes "35=2|49=CLNT|56=GATE|34=9|52=20240102-10:00:00|7=2|16=3|")

abbrev asks_for_gap : Out
asks_for_gap = out_to Client 4 true (codes "2") (codes "7=5|16=0|")

-- the report again, a gap fill for the Heartbeat, and the request for what is missing
abbrev repeated : Form
repeated = Again (placed_at (moment - 2) report) moment

abbrev filled : Form
filled = Fill 3 4 (moment - 1) moment

abbrev asked : Form
asked = First (placed_at moment asks_for_gap)

abbrev logged_on : Sessions
logged_on = record { client = session_at Client Active 5 4; venue = session_at Venue Down 1 1 }

abbrev early_decision : Decision
early_decision = decision_in (decide names 120 logged_on (Frame Client request) moment None)

abbrev before_request : World
before_request =
    record { entries = journal; sessions = logged_on; client_up = true; venue_up = false }

abbrev after_request : Bool → World
after_request up = record {
  entries = journal ++ record {
    at = moment;
    reset = false;
    took = None;
    next = (5, 5, 1, 1);
    outs = asks_for_gap ∷ [];
  } ∷ [];
  sessions = both_standing up false early_decision.sessions;
  client_up = up;
  venue_up = false;
}

pub worked_request_too_high : Happens silent names 120 before_request (Frame Client request) moment
    (record {
      client = call Client repeated ∷ call Client filled ∷ call Client asked ∷ [];
      venue =
          [];
    })
    (after_request true)
unfolding reading_of is_data_pair has_tag is_tag_good are_digits number_of has_pattern
    days_from_civil day_count days_of_years days_of_months field_bytes digits
worked_request_too_high = record {
  decision = early_decision;
  decides = record { words = None; answer = refl; decided = refl };
  entries = refl;
  client = record {
    sent = call Client repeated ∷ call Client filled ∷ call Client asked ∷ [];
    still = true;
    sends = inl (
      call Client filled ∷ call Client asked ∷ [],
      refl,
      inl (call Client asked ∷ [], refl, inl ([], refl, (refl, refl))),
    );
    all = refl;
    ends = refl;
  };
  venue = record { sent = []; still = false; sends = (refl, refl); all = refl; ends = refl };
  sessions = refl;
}

-- the same where the second send fails after ten bytes: the third is not sent, and the session is
-- down
abbrev cut_call : WireCall
cut_call = Send (form_frame names Client filled) (take 10 (form_frame names Client filled)) false

pub worked_failed_send : Happens silent names 120 before_request (Frame Client request) moment
    (record { client = call Client repeated ∷ cut_call ∷ []; venue = [] })
    (after_request false)
unfolding reading_of is_data_pair has_tag is_tag_good are_digits number_of has_pattern
    days_from_civil day_count days_of_years days_of_months field_bytes digits
worked_failed_send = record {
  decision = early_decision;
  decides = record { words = None; answer = refl; decided = refl };
  entries = refl;
  client = record {
    sent = call Client repeated ∷ cut_call ∷ [];
    still = false;
    sends = inl (cut_call ∷ [], refl, inr (10, refl, refl));
    all = refl;
    ends = refl;
  };
  venue = record { sent = []; still = false; sends = (refl, refl); all = refl; ends = refl };
  sessions = refl;
}

-- the link of a session whose connection ended
pub worked_is_down : (after_request false).sessions.client.link ≡ Down
unfolding reading_of is_data_pair has_tag is_tag_good are_digits number_of has_pattern
    days_from_civil day_count days_of_years days_of_months
worked_is_down = refl

-- and these are the frames
pub worked_repeated_frame : form_frame names Client repeated
    ≡ soh (codes "8=FIX.4.2|9=88|35=8|49=GATE|56=CLNT|34=2|43=Y|52=20240102-10:00:00.000|"
    ++ codes "122=20240102-09:59:59.998|37=O1|10=083|")
unfolding form_frame digits field_bytes zero_padded date_of counted_off
worked_repeated_frame = refl

pub worked_filled_frame : form_frame names Client filled
    ≡ soh (codes "8=FIX.4.2|9=93|35=4|49=GATE|56=CLNT|34=3|43=Y|52=20240102-10:00:00.000|"
    ++ codes "122=20240102-09:59:59.999|123=Y|36=4|10=045|")
unfolding form_frame digits field_bytes zero_padded date_of counted_off
worked_filled_frame = refl

-- ---- what is sent again, and what is not sent

-- administrative outs in a row have one gap fill, before an out that is sent again or at the end
pub worked_runs :
    repeat_forms
    (entry_with 1 2 (out_to Client 1 true (codes "A") [])
    ∷ entry_with 2 3 (out_to Client 2 true (codes "0") [])
    ∷ entry_with 3 4 (out_to Client 3 false (codes "8") [])
    ∷ entry_with 4 5 (out_to Client 4 true (codes "0") []) ∷ [])
    Client 1 4 9
    ≡ Fill 1 3 1 9 ∷ Again (placed_at 3 (out_to Client 3 false (codes "8") [])) 9 ∷ Fill 4 5 4 9
    ∷ []
worked_runs = refl

-- an out to the far side stands in the journal, and is not sent while that session is not active
pub worked_away :
    firsts_to Venue (Tick Client) (record {
      entry = Some (entry_with moment 2 (out_to Venue 1 false (codes "D") []));
      sessions = away;
      repeat = None;
      hang_up = None;
    })
    ≡ []
worked_away = refl

-- a frame of a connection that has ended is passed over
pub worked_passed_over : counts (after_request false) (Frame Client request) ≡ false
worked_passed_over = refl

-- ---- what a receiver takes

abbrev message : ℕ → Message
message number = record { number = number; msg_type = codes "8"; resend = false; fields = [] }

-- a gap fill counts where it is expected, and what was taken is not taken again
pub worked_taken :
    take_more 1
    (GapFill 1 3 ∷ GapFill 2 9 ∷ Other (message 3) false ∷ Other (message 3) false ∷ Reset
    ∷ Other (message 4) true ∷ [])
    ≡ record { next = 5; taken = message 3 ∷ [] }
worked_taken = refl

-- ---- connections by days

abbrev read_on : List ℕ → Connection
read_on bytes = record { read = bytes; written = [] }

-- a connection of the day before is of that day, and what comes on the next one of the next
pub worked_days :
    after_days (record { ended = []; present = read_on (codes "8=") ∷ [] })
    ((Poll (Bytes (codes "FIX")) ∷ HangUp ∷ []) ∷ (Poll wire.Opened ∷ HangUp ∷ []) ∷ [])
    (Poll wire.Opened ∷ Poll (Bytes (codes "8")) ∷ [])
    ≡ record {
      ended = (read_on (codes "8=FIX") ∷ []) ∷ (read_on [] ∷ []) ∷ [];
      present = read_on (codes "8") ∷ [];
    }
worked_days = refl
