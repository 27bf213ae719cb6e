-- What is set aside, and both books, worked through from the definitions alone, with `|` for SOH.
use Rattle.std.proofs.Common.{List, [], ap, codes, false, map, true, ℕ, ◌++◌, ◌∷◌, ◌≡◌, ◌<◌, ◌≤◌}
use Rattle.std.proofs.Common.{◌-◌, Some, None, arith, refl, subst, sym, length, if◌then◌else◌}
use Rattle.std.specs.Prelude.{◌==◌, IsSomeAnd, IsTrue, slice_get}
use Rattle.std.specs.Fmt.{digits}
use Rattle.typed_fields.specs.Digits.{are_digits, number_of, has_pattern, zero_padded}
use Rattle.typed_fields.specs.Digits.{without_leading_zeros, without_trailing_zeros}
use Rattle.field_groups.specs.Data.{is_data_pair}
use Rattle.field_groups.specs.Fields.{has_tag, is_tag_good}
use Rattle.field_groups.specs.HeadValues.{number_in}
use Rattle.message_tables.specs.Tables.{first_of}
use Rattle.message_tables.specs.FirstFault.{first_fault, message_of}
use Rattle.value_kinds.specs.ValueKind.{spelling, units_of_text}
use Rattle.row_values.specs.Kinds.{judge}
use Rattle.order_meaning.specs.declared.Side.{Side}
use Rattle.order_meaning.specs.declared.Side.TheVariants.{Client, Venue}
use Rattle.order_meaning.specs.Book.{at_execution, changed, in_phase, reported}
use Rattle.row_values.specs.Phases.{phase_of}
use Rattle.pair_entries.specs.declared.entry.Entry.{Entry}
use Rattle.dict_fix42.specs.Message.{message42}
use Rattle.dict_fix50.specs.Message.{message50 as request50}
use Rattle.reports_fix42.specs.Message.{message42 as report42}
use Rattle.reports_fix42.specs.Step.{change_of as change42, step42}
use Rattle.reports_fix50.specs.Message.{message50 as report50}
use Rattle.reports_fix50.specs.Step.{change_of as change50, step50}
use Rattle.event_decisions.specs.Body.{reading_of}
use Rattle.life_laws.specs.Receiver.{is_administrative}
use Rattle.life_laws.specs.Taken as receiver
use Rattle.life_laws.specs.Taken.{GapFill, Other, Reset}
use Rattle.book_laws.specs.Heard.{Sort, Request, Report, Refusal, FaultyRefusal, Heard}
use Rattle.book_laws.specs.SetAside.{Conversation, is_answered_off, is_refused, sent_by, took_of}
use Rattle.book_laws.specs.Books.{Books, book42, book50}
use Rattle.book_laws.specs.Pairs.{pair}
use Rattle.book_laws.specs.Keeps.{AreNumbered, KeepsFrame}

-- ---- what is set aside

abbrev message : Sort → ℕ → Heard
message sort number = record {
  number = number;
  resend = false;
  sort = sort;
  number_named = None;
  id_named = None;
  cl_ord_id = None;
  said = None;
}

abbrev order : ℕ → List ℕ → Heard
order number id = record (message Request number) { cl_ord_id = Some id }

abbrev by_number : Sort → ℕ → ℕ → Heard
by_number sort number named = record (message sort number) { number_named = Some named }

abbrev by_id : ℕ → List ℕ → Heard
by_id number id = record (message Refusal number) { id_named = Some id }

abbrev took : List Heard → Conversation
took messages = record { sent = []; took = messages }

abbrev numbers : List Heard → List ℕ
numbers messages = map (λ m. m.number) messages

-- a venue took orders 3 and 5, and refuses the first by its number and the second by its id
abbrev venue : Conversation
venue = record {
  sent = by_number Refusal 2 3 ∷ by_id 3 (codes "A2") ∷ by_number Refusal 4 7 ∷ [];
  took = order 3 (codes "A1") ∷ order 5 (codes "A2") ∷ order 7 (codes "A3")
      ∷ by_number Refusal 8 4 ∷ [];
}

pub record Aside : Type 0 where
  -- what took a Reject of its number is answered off, be the Reject read or at fault
  pub worked_off : is_answered_off (by_number FaultyRefusal 2 3 ∷ []) (message Request 3) ≡ true
  pub worked_other : is_answered_off (by_number Refusal 2 3 ∷ []) (message Request 4) ≡ false
  pub worked_by_number : is_refused venue (order 3 (codes "A1")) ≡ true
  pub worked_by_id : is_refused venue (order 5 (codes "A2")) ≡ true
  -- a refusal that is answered off refuses nothing
  pub worked_kept : is_refused venue (order 7 (codes "A3")) ≡ false
  pub worked_took : numbers (took_of Client venue) ≡ 7 ∷ []
  -- 45 counts where it stands, whatever 379 says
  pub worked_both : is_refused (record {
    sent = record (by_number Refusal 2 3) { id_named = Some (codes "A2") } ∷ [];
    took = [];
  }) (order 5 (codes "A2")) ≡ false
  -- neither a repeat counts, nor a report among a client's messages
  pub worked_sent : numbers (sent_by Client (record {
    sent = order 2 (codes "A1") ∷ record (order 3 (codes "A1")) { resend = true }
        ∷ message Report 4 ∷ order 5 (codes "A2") ∷ [];
    took = by_number Refusal 2 5 ∷ [];
  })) ≡ 2 ∷ []

pub worked_aside : Aside
worked_aside = record {
  worked_off = refl;
  worked_other = refl;
  worked_by_number = refl;
  worked_by_id = refl;
  worked_kept = refl;
  worked_took = refl;
  worked_both = refl;
  worked_sent = refl;
}

-- ---- a peer that keeps its numbers

abbrev own : ℕ → List ℕ → receiver.Message
own number msg_type =
    record { number = number; msg_type = msg_type; resend = false; fields = [] }

-- a Logon, an order, and a heartbeat
abbrev kept : List receiver.Message
kept = own 1 (codes "A") ∷ own 2 (codes "D") ∷ own 3 (codes "0") ∷ []

pub record Kept : Type 0 where
  pub worked_numbered : AreNumbered 1 kept
  pub worked_message : KeepsFrame kept (Other (own 2 (codes "D")) false)
  -- another order under that number
  pub worked_other : KeepsFrame kept (Other (own 2 (codes "F")) false) → ⊥
  -- a gap fill for the heartbeat, and one for the order
  pub worked_fill : KeepsFrame kept (GapFill 3 4)
  pub worked_no_fill : KeepsFrame kept (GapFill 2 3) → ⊥
  pub worked_no_reset : KeepsFrame kept Reset → ⊥

abbrev Passed : ℕ → Type 0
Passed n =
    IsSomeAnd (slice_get kept (n - 1)) (λ m. IsTrue (is_administrative m.msg_type))

initial : List ℕ → ℕ
initial [] = 0
initial (x ∷ _) = x

third : (n : ℕ) → 3 ≤ n → n < 4 → n ≡ 3
third n low high = omega (arith, low, high)

pub worked_kept : Kept
unfolding initial
worked_kept = record {
  worked_numbered = (refl, (refl, (refl, tt)));
  worked_message = (omega arith, (refl, refl, refl));
  worked_other = λ keeps. let apart : 70 ≡ 68 = ap initial keeps.1.0 in omega (arith, apart);
  worked_fill = (
    omega arith,
    omega arith,
    λ n low high. subst Passed (sym (third n low high)) refl,
  );
  worked_no_fill = λ keeps. absurd (cc (keeps.2 2 (omega arith) (omega arith)));
  worked_no_reset = λ keeps. keeps;
}

-- ---- both books of a journal

abbrev soh : List ℕ → List ℕ
soh text = map (λ byte. if byte == 124 then 1 else byte) text

-- an entry that took a body of a side, and gave a message to a side
abbrev entry : Side → (number : ℕ) → List ℕ → (to : Side) (out : ℕ) (msg_type : List ℕ) → List ℕ
    → Entry
entry side number body to out msg_type text = record {
  at = 0;
  reset = false;
  took = Some (record { side = side; number = number; raw = soh body });
  next = (0, 0, 0, 0);
  outs = record {
    side = to;
    number = out;
    admin = false;
    resend = false;
    msg_type = msg_type;
    content = soh text;
  } ∷ [];
}

abbrev client_head : List ℕ
client_head = codes "|49=CLNT|56=GATE|52=20240102-10:00:00|34="

abbrev venue_head : List ℕ
venue_head = codes "|49=VENU|56=GATE|52=20240102-10:00:00|34="

abbrev ordered : List ℕ
ordered = codes "|11=A1|21=1|55=IBM|54=1|60=20240102-10:00:00|38=100|40=2|44=10.5|"

-- an order goes on, and two reports of it, the second a fill
abbrev day : List Entry
day =
    entry Client 2 (codes "35=D" ++ client_head ++ codes "2" ++ ordered)
    Venue 2 (codes "D")
    (codes "11=A1|21=1|55=IBM|54=1|60=20240102-10:00:00|38=100|40=2|44=10.5|")
    ∷ entry Venue 2 (codes "35=8" ++ venue_head
    ++ codes "2|37=O1|11=A1|17=E1|150=0|39=0|55=IBM|54=1|151=100|14=0|6=0|")
    Client 2 (codes "8")
    (codes "37=O1|11=A1|17=E1|20=0|150=0|39=0|55=IBM|54=1|151=100|14=0|6=0|")
    ∷ entry Venue 3 (codes "35=8" ++ venue_head
    ++ codes "3|37=O1|11=A1|17=E2|150=F|39=2|55=IBM|54=1|32=100|31=10.5|151=0|14=100|6=10.5|")
    Client 3 (codes "8")
    (codes "37=O1|11=A1|17=E2|20=0|150=2|39=2|55=IBM|54=1|32=100|31=10.5|151=0|14=100|6=10.5|")
    ∷ []

-- the client refuses the fill by its number, and the venue the order by its id alone
abbrev refused : List Entry
refused = day
    ++ entry Client 3 (codes "35=j" ++ client_head ++ codes "3|45=3|372=8|380=0|58=no|")
    Venue 3 (codes "j") (codes "45=3|372=8|380=0|58=no|")
    ∷ entry Venue 4 (codes "35=j" ++ venue_head ++ codes "4|372=D|379=A1|380=1|")
    Client 4 (codes "j") (codes "45=2|372=D|379=A1|380=1|")
    ∷ []

-- the ids of the requests; each order of the book, and how many executions it has
abbrev shown : Books → List (List ℕ) × List (List ℕ × ℕ)
shown b = (
  map (λ r. r.cl_ord_id) b.requests,
  map (λ o. (o.order_id, length o.execs)) b.book,
)

pub record Pairs : Type 0 where
  pub worked_client : shown (book42 (pair Client day)) ≡ (codes "A1" ∷ [], (codes "O1", 1) ∷ [])
  pub worked_venue : shown (book50 (pair Venue day)) ≡ (codes "A1" ∷ [], (codes "O1", 1) ∷ [])
  pub worked_client_refused : shown (book42 (pair Client refused)) ≡ ([], (codes "O1", 0) ∷ [])
  pub worked_venue_refused : shown (book50 (pair Venue refused)) ≡ ([], (codes "O1", 0) ∷ [])

pub worked_pairs : Pairs
unfolding reading_of is_data_pair has_tag is_tag_good message42 request50 report42 report50
    message_of first_fault first_of number_in judge spelling are_digits number_of has_pattern
    units_of_text without_leading_zeros without_trailing_zeros zero_padded digits step42 change42
    change50 step50 in_phase reported changed at_execution phase_of
worked_pairs = record {
  worked_client = refl;
  worked_venue = refl;
  worked_client_refused = refl;
  worked_venue_refused = refl;
}
