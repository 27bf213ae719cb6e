-- What is heard in messages, which of them went on, and what a side has learned of them, worked
-- through from the definitions alone, with `|` for SOH.
use Rattle.std.proofs.Common.{◌≡◌, ℕ, Bool, true, false, List, [], ◌∷◌, ◌++◌, map, codes, Option}
use Rattle.std.proofs.Common.{Some, None, refl, if◌then◌else◌}
use Rattle.std.specs.Option.{option_map}
use Rattle.std.specs.Prelude.{◌==◌, is_some, pos}
use Rattle.std.specs.Fmt.{digits}
use Rattle.typed_fields.specs.Digits.{are_digits, number_of, has_pattern, zero_padded}
use Rattle.typed_fields.specs.Digits.{without_leading_zeros, without_trailing_zeros}
use Rattle.field_groups.specs.Data.{is_data_pair}
use Rattle.field_groups.specs.Fields.{has_tag, is_tag_good}
use Rattle.field_groups.specs.HeadValues.{number_in}
use Rattle.message_tables.specs.Tables.{code_in, first_of}
use Rattle.message_tables.specs.FirstFault.{first_fault, message_of}
use Rattle.value_kinds.specs.ValueKind.{spelling, units_of_text}
use Rattle.row_values.specs.Kinds.{judge}
use Rattle.order_meaning.specs.declared.Side.{Side}
use Rattle.order_meaning.specs.declared.Side.TheVariants.{Client, Venue}
use Rattle.order_meaning.specs.Book.{Order, in_phase}
use Rattle.order_meaning.specs.Report.{Phase, New, PendingCancel}
use Rattle.order_meaning.specs.Request as orders
use Rattle.pair_entries.specs.declared.entry.Entry.{Entry}
use Rattle.dict_fix42.specs.Message.{message42}
use Rattle.dict_fix50.specs.Message.{message50 as request50}
use Rattle.reports_fix42.specs.Message.{message42 as report42}
use Rattle.reports_fix42.specs.Sense as sense42
use Rattle.reports_fix42.specs.Step.{step42}
use Rattle.reports_fix50.specs.Message.{message50 as report50}
use Rattle.reports_fix50.specs.Step.{step50}
use Rattle.event_decisions.specs.Body.{reading_of}
use Rattle.life_laws.specs.Taken as receiver
use Rattle.book_laws.specs.Heard.{Sort, Request, Report, Refusal, FaultyRefusal, Plain}
use Rattle.book_laws.specs.Heard.{Heard, heard_body, heard_out}
use Rattle.book_laws.specs.Learned.{learned_of_said, learned_of_taken, said_below}

abbrev pub soh : List ℕ → List ℕ
soh text = map (λ byte. if byte == 124 then 1 else byte) text

-- the sort, the number and the id that a refusal names, and ClOrdID(11)
abbrev Shown : Type 0
Shown = Sort × Option ℕ × Option (List ℕ) × Option (List ℕ)

abbrev shown : Heard → Shown
shown h = (h.sort, h.number_named, h.id_named, h.cl_ord_id)

abbrev body : Side → List ℕ → Shown
body side text = shown (heard_body side 7 (soh text))

-- whether a message repeats another, and whether it is read
abbrev out : Side → List ℕ → List ℕ → Shown × Bool × Bool
out side msg_type text =
    let h = heard_out (record {
      side = side;
      number = 3;
      admin = false;
      resend = true;
      msg_type = msg_type;
      content = soh text;
    }) in
    (shown h, h.resend, is_some h.said)

abbrev order_fields : List ℕ
order_fields = codes "21=1|55=IBM|54=1|60=20240102-10:00:00|38=100|40=1|"

pub record Bodies : Type 0 where
  pub worked_order : body Client (codes "35=D|11=A1|" ++ order_fields)
      ≡ (Request, None, None, Some (codes "A1"))
  -- a status request has no id that counts
  pub worked_status : body Client (codes "35=H|11=A1|55=IBM|54=1|") ≡ (Request, None, None, None)
  pub worked_business : body Venue (codes "35=j|45=3|372=D|379=A1|380=1|")
      ≡ (Refusal, Some 3, Some (codes "A1"), None)
  pub worked_by_id : body Venue (codes "35=j|372=D|379=A1|380=1|")
      ≡ (Refusal, None, Some (codes "A1"), None)
  pub worked_reject : body Client (codes "35=3|45=004|371=55|") ≡ (Refusal, Some 4, None, None)
  -- in FIX 4.2 a refusal has a number
  pub worked_faulty : body Client (codes "35=j|372=8|379=A1|380=1|")
      ≡ (FaultyRefusal, None, None, None)
  pub worked_report : body Venue (codes "35=8|45=3|") ≡ (Report, None, None, None)
  pub worked_heartbeat : body Venue (codes "35=0|") ≡ (Plain, None, None, None)

pub worked_bodies : Bodies
unfolding reading_of is_data_pair has_tag is_tag_good message42 report42 report50 message_of
    first_fault first_of number_in judge spelling are_digits number_of has_pattern units_of_text
    without_leading_zeros without_trailing_zeros zero_padded digits
worked_bodies = record {
  worked_order = refl;
  worked_status = refl;
  worked_business = refl;
  worked_by_id = refl;
  worked_reject = refl;
  worked_faulty = refl;
  worked_report = refl;
  worked_heartbeat = refl;
}

pub record Outs : Type 0 where
  pub worked_order : out Venue (codes "D") (codes "11=A1|" ++ order_fields)
      ≡ ((Request, None, None, Some (codes "A1")), true, true)
  -- a refusal names its message, whether it is read or not
  pub worked_refusal : out Client (codes "j") (codes "45=7|372=D|380=0|58=no|")
      ≡ ((Refusal, Some 7, None, None), true, true)
  pub worked_faulty : out Client (codes "j") (codes "45=7|380=0|58=no|")
      ≡ ((FaultyRefusal, Some 7, None, None), true, false)

pub worked_outs : Outs
unfolding reading_of is_data_pair has_tag is_tag_good request50 report42 message_of first_fault
    first_of number_in judge spelling are_digits number_of has_pattern units_of_text
    without_leading_zeros without_trailing_zeros zero_padded digits
worked_outs = record { worked_order = refl; worked_refusal = refl; worked_faulty = refl }

-- ---- what a side has learned

-- an entry that took a body of a side, and gave a message to a side
abbrev entry : Side → List ℕ → (to : Side) (number : ℕ) (msg_type : List ℕ) → Entry
entry side body to number msg_type = record {
  at = 0;
  reset = false;
  took = Some (record { side = side; number = 2; raw = soh body });
  next = (0, 0, 0, 0);
  outs = record {
    side = to;
    number = number;
    admin = false;
    resend = false;
    msg_type = msg_type;
    content = [];
  } ∷ [];
}

-- a message with number 4 as it was taken
abbrev taken : (msg_type : List ℕ) → List (ℕ × List ℕ) → receiver.Message
taken msg_type fields =
    record { number = 4; msg_type = msg_type; resend = false; fields = fields }

-- BusinessMessageReject (j), of which neither side learns anything
abbrev refusal : receiver.Message
refusal = taken (codes "j") ((45, codes "2") ∷ (372, codes "D") ∷ (380, codes "0") ∷ [])

-- ---- the client, of a report

abbrev rejected : List ℕ
rejected = codes "35=9|37=O1|11=A2|39=6|434=1|"

-- the states of the orders, OrdStatus(39), in the reports below a number
abbrev states : ℕ → List Entry → List (Option ℕ)
states n entries = map (option_map (λ m. code_in m.cells 39)) (said_below Client n entries)

-- an order in a state
abbrev order : Phase → Order
order phase = record {
  order_id = codes "O1";
  ids = [];
  current = None;
  phase = phase;
  qty = None;
  price = None;
  cum = record { units = pos 0 };
  leaves = record { units = pos 0 };
  avg = record { units = pos 0 };
  seen = [];
  execs = [];
}

pub record Reports : Type 0 where
  pub worked_below : states 5 (entry Venue rejected Client 4 (codes "9") ∷ []) ≡ Some 54 ∷ []
  pub worked_later : states 4 (entry Venue rejected Client 4 (codes "9") ∷ []) ≡ []
  -- a refusal of it is no report, and the client said none
  pub worked_refused : states 9 (entry Venue rejected Venue 4 (codes "j") ∷ []) ≡ []
  pub worked_of_client : states 9 (entry Client rejected Client 4 (codes "9") ∷ []) ≡ None ∷ []
  pub worked_taken :
      learned_of_taken Client (order New ∷ [])
      (refusal ∷ taken (codes "9") ((37, codes "O1") ∷ (11, codes "A2") ∷ (41, codes "A1")
      ∷ (39, codes "6") ∷ (434, codes "1") ∷ []) ∷ [])
      ≡ order PendingCancel ∷ []
  pub worked_told :
      learned_of_said Client (order New ∷ [])
      (said_below Client 5 (entry Venue rejected Client 4 (codes "9") ∷ []))
      ≡ order PendingCancel ∷ []

pub worked_reports : Reports
unfolding reading_of is_data_pair has_tag is_tag_good report42 report50 message_of first_fault
    first_of number_in judge spelling are_digits number_of has_pattern units_of_text
    without_leading_zeros without_trailing_zeros zero_padded digits step42 step50 in_phase
    sense42.phase_of
worked_reports = record {
  worked_below = refl;
  worked_later = refl;
  worked_refused = refl;
  worked_of_client = refl;
  worked_taken = refl;
  worked_told = refl;
}

-- ---- the venue, of a request

-- an order of an agency, Rule80A(47), which is OrderCapacity(528) at the venue
abbrev ordered : List ℕ
ordered = codes "35=D|11=A1|" ++ order_fields ++ codes "47=A|"

-- kind, ClOrdID(11) and capacity of what each request means
abbrev Asked : Type 0
Asked = List (Option (orders.RequestKind × List ℕ × Option ℕ))

abbrev asked : List (Option orders.Request) → Asked
asked meanings = map (option_map (λ r. (r.kind, r.cl_ord_id, r.capacity))) meanings

-- what the venue would have learned of these entries below a number
abbrev said : ℕ → List Entry → Asked
said n entries = asked (learned_of_said Venue [] (said_below Venue n entries))

pub record Requests : Type 0 where
  pub worked_said : said 5 (entry Client ordered Venue 4 (codes "D") ∷ [])
      ≡ Some (orders.New, codes "A1", Some 65) ∷ []
  pub worked_later : said 4 (entry Client ordered Venue 4 (codes "D") ∷ []) ≡ []
  -- a refusal of it is no request
  pub worked_refused : said 9 (entry Client ordered Client 4 (codes "j") ∷ []) ≡ []
  pub worked_taken :
      asked (learned_of_taken Venue []
      (refusal ∷ taken (codes "D") ((11, codes "A1") ∷ (21, codes "1") ∷ (55, codes "IBM")
      ∷ (54, codes "1") ∷ (60, codes "20240102-10:00:00") ∷ (38, codes "100") ∷ (40, codes "1")
      ∷ (528, codes "A") ∷ []) ∷ []))
      ≡ Some (orders.New, codes "A1", Some 65) ∷ []
  -- one that is at fault means nothing, and counts
  pub worked_faulty :
      asked (learned_of_taken Venue [] (taken (codes "D") ((11, codes "A1") ∷ []) ∷ []))
      ≡ None ∷ []

pub worked_requests : Requests
unfolding reading_of is_data_pair has_tag is_tag_good message42 request50 report42 report50
    message_of first_fault first_of number_in judge spelling are_digits number_of has_pattern
    units_of_text without_leading_zeros without_trailing_zeros zero_padded digits
worked_requests = record {
  worked_said = refl;
  worked_later = refl;
  worked_refused = refl;
  worked_taken = refl;
  worked_faulty = refl;
}
