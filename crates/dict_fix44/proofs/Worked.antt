-- Worked messages of FIX 4.4: what they say and mean, and how a book changes by them.
use Rattle.std.specs.Prelude.{◌≡◌, ℕ, ◌*◌, pos, List, [], ◌∷◌, ◌++◌, codes}
use Rattle.std.specs.Prelude.{Option, Some, None}
use Rattle.std.specs.Option.{option_map}
use Rattle.std.specs.Result.{result_err, result_ok}
use Rattle.std.specs.Fmt.{digits}
use Rattle.value_kinds.specs.ValueKind.{spelling, units_of_text}
use Rattle.typed_fields.specs.Digits.{are_digits, number_of, has_pattern, zero_padded}
use Rattle.typed_fields.specs.Digits.{without_leading_zeros, without_trailing_zeros}
use Rattle.field_groups.specs.Field.{Field}
use Rattle.field_groups.specs.HeadValues.{number_in}
use Rattle.message_tables.specs.Tables.{Tag, Said, ◌>>=◌, first_of, said_at}
use Rattle.message_tables.specs.FirstFault.{first_fault, message_of}
use Rattle.order_meaning.specs.Book.{Book, Order}
use Rattle.order_meaning.specs.Book.{reported, changed, in_phase}
use Rattle.order_meaning.specs.Report.{Phase, New, Rejected, Trade, Status}
use Rattle.order_meaning.specs.Report.{ExecutionReport, Executed, Report}
use Rattle.order_meaning.specs.Request.{Request, Market, MarketOnClose}
use Rattle.order_meaning.specs.declared.fault.Fault.{Fault}
use Rattle.order_meaning.specs.declared.fault.Fault.TheVariants as faults
use Rattle.row_values.specs.Kinds.{judge}
use Rattle.dict_fix44.specs.Message.{report_message44, request_message44}
use Rattle.dict_fix44.specs.Sense.{exec_of, phase_of, report_sense44, sense44}
use Rattle.dict_fix44.specs.Step.{change_of, step44}

-- ---- requests

-- a market order with these fields behind its ClOrdID, and at its end
abbrev order : List Field → List Field → List Field
order between last =
    (11, codes "A1") ∷ between ++ (55, codes "IBM") ∷ (54, codes "1")
    ∷ (60, codes "20240102-10:00:00") ∷ (38, codes "100") ∷ last

abbrev asked : {A : Type 0} → (Request → A) → List Field → List Field → Option A
asked field between last = option_map field (sense44 (codes "D") (order between last))

abbrev said_in : ℕ → List Field → List Field → Said
said_in tag between last = result_ok (request_message44 (codes "D") (order between last) None)
    >>= (λ m. said_at m.cells (Tag tag))

abbrev fault_of : List Field → List Field → Option Fault
fault_of between last = result_err (request_message44 (codes "D") (order between last) None)

abbrev party : List ℕ → List ℕ → List Field
party id role = (448, id) ∷ (452, role) ∷ []

abbrev market : List Field
market = (40, codes "1") ∷ []

pub record Requests : Type 0 where
  -- HandlInst is 1 where an order says none
  pub no_inst : asked (λ r. r.hand_inst) [] market ≡ Some (Some 49)
  pub inst : asked (λ r. r.hand_inst) ((21, codes "3") ∷ []) market ≡ Some (Some 51)
  -- at the close (7), and MaxFloor
  pub at_close : asked (λ r. r.ord_type) [] (market ++ (59, codes "7") ∷ [])
      ≡ Some (Some MarketOnClose)
  pub plain : asked (λ r. r.ord_type) [] market ≡ Some (Some Market)
  pub floor : asked (λ r. r.max_floor) [] (market ++ (111, codes "50.0") ∷ [])
      ≡ Some (Some (record { units = pos (50 * 100_000_000) }))
  -- the first party of a role counts, and any other role is passed over
  pub first_of_role : asked (λ r. r.exec_broker) ((453, codes "3") ∷ party (codes "B0") (codes "17")
      ++ party (codes "B1") (codes "1") ++ party (codes "B2") (codes "1")) market
      ≡ Some (Some (codes "B1"))
  -- a month is that of its date
  pub month : said_in 200 ((200, codes "202301") ∷ (541, codes "20240630") ∷ []) market
      ≡ Some (codes "202406")
  -- what is read, though FIX 5.0 SP2 lacks it
  pub on_close : said_in 40 [] ((40, codes "5") ∷ []) ≡ Some (codes "5")
  pub capacity : said_in 528 [] (market ++ (528, codes "R") ∷ []) ≡ Some (codes "R")
  -- fields of FIX 4.2 and of FIX 5.0 SP2 are outside the profile, and so is a month that is none
  pub day : fault_of ((205, codes "30") ∷ []) market
      ≡ Some (faults.NoCounterpart 205)
  pub display : fault_of [] (market ++ (1138, codes "5") ∷ []) ≡ Some (faults.NoCounterpart 1138)
  pub no_month : fault_of ((200, codes "x") ∷ []) market ≡ Some (faults.NoCounterpart 200)

requests : Requests
unfolding sense44 request_message44 message_of first_fault first_of judge number_in spelling
    units_of_text are_digits number_of has_pattern without_leading_zeros without_trailing_zeros
    digits zero_padded
requests = search

-- ---- reports

-- a report of nothing done on the order O1
abbrev told : List Field → List Field → List Field
told exec last =
    (37, codes "O1") ∷ (11, codes "A1") ∷ exec ++ (55, codes "IBM") ∷ (54, codes "1")
    ∷ (151, codes "100") ∷ (14, codes "0") ∷ (6, codes "0") ∷ last

abbrev exec : (id exec_type ord_status : List ℕ) → List Field
exec id exec_type ord_status = (17, id) ∷ (150, exec_type) ∷ (39, ord_status) ∷ []

abbrev of_report : {A : Type 0} → (ExecutionReport → A) → Option Report → Option A
of_report field (Some (Executed r)) = Some (field r)
of_report field other = None

abbrev meant : {A : Type 0} → (ExecutionReport → A) → List Field → List Field → Option A
meant field fields last = of_report field (report_sense44 (codes "8") (told fields last))

pub record Reports : Type 0 where
  pub trade : meant (λ r. r.exec) (exec (codes "E2") (codes "F") (codes "1"))
      ((32, codes "40") ∷ (31, codes "10.5") ∷ []) ≡ Some Trade
  pub status : meant (λ r. r.exec) (exec (codes "E9") (codes "I") (codes "0")) [] ≡ Some Status
  pub status_id : meant (λ r. r.exec_id) (exec (codes "E9") (codes "I") (codes "0")) []
      ≡ Some None
  -- a reason and a text are what they say
  pub reason : meant (λ r. r.rej_reason) (exec (codes "E5") (codes "8") (codes "8"))
      ((103, codes "99") ∷ []) ≡ Some (Some 99)
  pub text : meant (λ r. r.text) (exec (codes "E5") (codes "8") (codes "8"))
      ((103, codes "99") ∷ (58, codes "no") ∷ []) ≡ Some (Some (codes "no"))
  -- of FIX 5.0 SP2 alone
  pub triggered : meant (λ r. r.exec) (exec (codes "E9") (codes "L") (codes "0")) [] ≡ None
  pub replaced : meant (λ r. r.exec) (exec (codes "E9") (codes "5") (codes "5")) [] ≡ None

reports : Reports
unfolding report_sense44 phase_of exec_of units_of_text report_message44 message_of first_fault
    first_of judge number_in spelling are_digits number_of has_pattern without_leading_zeros
    without_trailing_zeros digits zero_padded
reports = search

-- ---- books

abbrev after : Book → List Field → List Field → Option Book
after book fields last =
    option_map (step44 book) (result_ok (report_message44 (codes "8") (told fields last) None))

abbrev whole : ℕ → ℕ → List (List ℕ) → Phase → Order
whole leaves cum seen phase = record {
  order_id = codes "O1";
  ids = codes "A1" ∷ [];
  current = Some (codes "A1");
  phase = phase;
  qty = None;
  price = None;
  cum = record { units = pos (cum * 100_000_000) };
  leaves = record { units = pos (leaves * 100_000_000) };
  avg = record { units = pos 0 };
  seen = seen;
  execs = [];
}

pub record Books : Type 0 where
  pub taken : after [] (exec (codes "E1") (codes "0") (codes "0")) []
      ≡ Some (whole 100 0 (codes "E1" ∷ []) New ∷ [])
  -- a status has no ExecID
  pub status : after [] (exec (codes "E9") (codes "I") (codes "8")) []
      ≡ Some (whole 100 0 [] Rejected ∷ [])

books : Books
unfolding step44 change_of reported changed in_phase phase_of units_of_text report_message44
    message_of first_fault first_of judge number_in spelling are_digits number_of has_pattern
    without_leading_zeros without_trailing_zeros digits zero_padded
books = search
