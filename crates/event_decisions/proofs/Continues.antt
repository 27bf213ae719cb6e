-- What an event decides goes on from the sessions before it.
use Rattle.std.proofs.Common.{◌≡◌, ℕ, ◌+◌, ◌-◌, ◌≤◌, ◌==◌, ◌&&◌, Bool, true, false, List}
use Rattle.std.proofs.Common.{◌++◌, Option, Some, None, refl, sym, ap, arith}
use Rattle.std.proofs.Common.{if◌then◌else◌, subst, Ok, Err, nat_le}
use Rattle.std.specs.Prelude.{Result, codes}
use Rattle.std.specs.Str.{bytes_eq}
use Rattle.std.proofs.lemmas.Bool.{eqb-true, leb-true}
use Rattle.order_meaning.specs.declared.Side.{Side}
use Rattle.order_meaning.specs.declared.Side.TheVariants.{Client, Venue}
use Rattle.order_meaning.specs.declared.names.Names.{Names}
use Rattle.field_groups.specs.Field.{Field}
use Rattle.typed_fields.specs.declared.fault.FieldFault.{FieldFault}
use Rattle.typed_fields.specs.declared.number.Number.{Number}
use Rattle.typed_fields.specs.Number.{read_number}
use Rattle.typed_fields.specs.declared.fault.FieldFault.TheVariants.{Range}
use Rattle.session_core.specs.declared.numbers.TheConstants.{MAX_MSG_SEQ_NUM, ALL_USED}
use Rattle.session_core.specs.declared.tag.TheConstants.{BEGIN_SEQ_NO, END_SEQ_NO, NEW_SEQ_NO}
use Rattle.session_core.specs.declared.tag.TheConstants.{GAP_FILL_FLAG, TEST_REQ_ID}
use Rattle.session_logon.specs.declared.logon.LogonFault.{LogonFault}
use Rattle.session_logon.specs.declared.logon.LogonFault.TheVariants.{Tag}
use Rattle.session_logon.specs.Logon.{is_yes, logon_of}
use Rattle.session_core.specs.declared.head.What.{What}
use Rattle.session_core.specs.declared.head.What.TheVariants as what
use Rattle.session_core.specs.declared.session.Spent.{Spent}
use Rattle.session_core.specs.declared.session.Step.{Step}
use Rattle.session_core.specs.Laws.{AsksFrom}
use Rattle.session_core.specs.Table as session
use Rattle.session_logon.specs.Head.{kind_of, resend_request_kind, end_kind, sequence_reset_kind}
use Rattle.session_logon.specs.Head.{test_request_kind, logon_kind}
use Rattle.session_logon.specs.Reasons.{required, read_between, between, or_reason}
use Rattle.session_logon.specs.Reasons.{read_zero_or_from, text_fault}
use Rattle.message_tables.specs.Tables.{value_at}
use Rattle.pair_entries.specs.declared.entry.Out.{Out}
use Rattle.pair_entries.specs.declared.entry.Entry.{Entry}
use Rattle.kept_entries.specs.Numbers.{OutsGoOn, InStays, GoesOn, next_out}
use Rattle.pair_entries.specs.Payload.{Next}
use Rattle.event_decisions.specs.Event.{Event, Opened, Frame, Closed, Tick, End, side_of}
use Rattle.event_decisions.specs.Body.{type_of, fields_of}
use Rattle.event_decisions.specs.Decide.{Sessions, session_of, with_session, numbers_of}
use Rattle.event_decisions.specs.Decide.{same_numbers, says_of, Words, Given, give, Decision}
use Rattle.event_decisions.specs.Decide.{Repeat}
use Rattle.event_decisions.specs.Decide.{decide, decide_by, concluded, stepped, input_of, heard_in}
use Rattle.event_decisions.specs.Decide.{entry_if, took_of, took_if, takes, repeat_of}
use Rattle.event_decisions.specs.Laws.{Continues, DecisionsContinue, IsTookOf}
use Rattle.event_decisions.proofs.Acts.{Repeats}
use Rattle.event_decisions.proofs.Steps.{IsStep, is_step, what_in}
use Rattle.event_decisions.proofs.Goes.{Goes, goes-append, says_go, IsGiven, given_as, event_stays}
use Rattle.event_decisions.proofs.Goes.{with_sides, same_ok}

-- ---- the parts of a decision

abbrev pub next_sessions : Event → Step → Sessions → Sessions
next_sessions event t s = with_session (side_of event) t.next s

abbrev pub own_outs : Names → ℕ → Sessions → Event → ℕ → Step → List Out
own_outs names window s event now t =
    says_of (side_of event) t.next.heart (heard_in event (input_of names window event now))
    (session_of (side_of event) s).numbers.next_out t.acts

abbrev pub entry_by : Names → ℕ → Sessions → Event → ℕ → Step → Given → Entry
entry_by names window s event now t g = record {
  at = now;
  reset = false;
  took = took_of event (input_of names window event now) t.acts;
  next = numbers_of g.sessions;
  outs = own_outs names window s event now t ++ g.outs;
}

-- a decision is that of a step and of what is given out
pub record IsBy (names : Names) (window : ℕ) (s : Sessions) (event : Event) (now : ℕ)
    (words : Option Words) (d : Decision) : Type 0 where
  pub step : Step
  pub given : Given
  pub stepped : stepped names window s event now ≡ Ok step
  pub is_step : IsStep (session_of (side_of event) s) (input_of names window event now) step
  pub is_given : IsGiven (next_sessions event step s) words given
  pub is : concluded names window s event now step (Ok given) ≡ Ok d

pub by : (names : Names) (window : ℕ) (s : Sessions) (event : Event) (now : ℕ)
    (words : Option Words) (d : Decision) → decide names window s event now words ≡ Ok d
    → IsBy names window s event now words d
by names window s event now words d decided =
    step_by (stepped names window s event now) refl decided
  where
    given_by : (t : Step) → stepped names window s event now ≡ Ok t → (g : Result Given Side)
        → give now (next_sessions event t s) words ≡ g
        → concluded names window s event now t g ≡ Ok d → IsBy names window s event now words d
    given_by t at (Err side) given is = absurd (cc is)
    given_by t at (Ok g) given is = record {
      step = t;
      given = g;
      stepped = at;
      is_step = is_step (session_of (side_of event) s) (input_of names window event now) now t at;
      is_given = given_as (next_sessions event t s) words now g given;
      is = is;
    }

    step_by : (r : Result Step Spent) → stepped names window s event now ≡ r
        → decide_by names window s event now words r ≡ Ok d → IsBy names window s event now words d
    step_by (Err spent) at is = absurd (cc is)
    step_by (Ok t) at is =
        given_by t at (give now (next_sessions event t s) words) refl is

-- ---- its entry

pub entry_is : (before : Next) (e entry : Entry) → entry_if before e ≡ Some entry → e ≡ entry
entry_is before e entry is = by (same_numbers before e.next) is
  where
    by : (b : Bool) → (if b then None else Some e) ≡ Some entry → e ≡ entry
    by true is = absurd (cc is)
    by false is = cc is

-- numbers that are equal by their tests
both_true : (a b : Bool) → (a && b) ≡ true → (a ≡ true) × (b ≡ true)
both_true true b is = (refl, is)
both_true false b is = absurd (cc is)

same_next : (after before : Next) → same_numbers before after ≡ true → after ≡ before
same_next after before is =
    let first : ((before.0 == after.0) ≡ true) × ((before.1 == after.1 && (before.2 == after.2
    && before.3 == after.3)) ≡ true) = both_true _ _ is in
    let second : ((before.1 == after.1) ≡ true) × ((before.2 == after.2 && before.3 == after.3)
    ≡ true) = both_true _ _ first.1 in
    let third : ((before.2 == after.2) ≡ true) × ((before.3 == after.3) ≡ true) =
    both_true _ _ second.1 in
    let a : before.0 ≡ after.0 = eqb-true before.0 after.0 first.0 in
    let b : before.1 ≡ after.1 = eqb-true before.1 after.1 second.0 in
    let c : before.2 ≡ after.2 = eqb-true before.2 after.2 third.0 in
    let d : before.3 ≡ after.3 = eqb-true before.3 after.3 third.1 in
    sym (λ i. (a i, b i, c i, d i))

no_entry : (before : Next) (e : Entry) → entry_if before e ≡ None → e.next ≡ before
no_entry before e is = by (same_numbers before e.next) refl is
  where
    by : (b : Bool) → same_numbers before e.next ≡ b → (if b then None else Some e) ≡ None
        → e.next ≡ before
    by false at is = absurd (cc is)
    by true at is = same_next e.next before at

-- ---- what is taken is the frame

is_frame : (event : Event) (input : session.Input) (t : Step)
    → IsTookOf event (took_of event input t.acts)
is_frame (Frame side body) (session.Message head) t = by (takes t.acts) head.number
  where
    by : (b : Bool) (number : Option ℕ)
        → IsTookOf (Frame side body) (took_if b side body number)
    by true (Some n) = refl
    by true None = tt
    by false number = tt
is_frame (Frame side body) other t = tt
is_frame (Opened side) input t = tt
is_frame (Closed side) input t = tt
is_frame (Tick side) input t = tt
is_frame (End side) input t = tt

-- ---- a ResendRequest asks from 1 on at least

abbrev FromOne : What → Type 0
FromOne (what.ResendRequest from to) = 1 ≤ from
FromOne other = Unit {0}

end_from : (from : ℕ) (r : Result ℕ ℕ) → 1 ≤ from → FromOne (end_kind from r)
end_from from (Ok to) some = some
end_from from (Err reason) some = tt

-- a number that is read between 1 and another is 1 at least
between_one : (most : ℕ) (r : Result Number FieldFault) (n : ℕ)
    → or_reason (between 1 most r) ≡ Ok n → 1 ≤ n
between_one most (Err fault) n is = absurd (cc is)
between_one most (Ok read) n is = by (nat_le 1 read.value) (nat_le read.value most) refl is
  where
    by : (a b : Bool) → nat_le 1 read.value ≡ a
        → or_reason (if a && b then Ok read.value else Err Range) ≡ Ok n → 1 ≤ n
    by true true least is =
        let same : read.value ≡ n = cc is in omega (arith, same, leb-true 1 read.value least)
    by true false least is = absurd (cc is)
    by false b least is = absurd (cc is)

asks_one : (value : Option (List ℕ)) (fields : List Field) → FromOne
    (resend_request_kind (required (read_between 1 MAX_MSG_SEQ_NUM) value) fields)
asks_one value fields = by (required (read_between 1 MAX_MSG_SEQ_NUM) value) (reads value)
  where
    reads : (value : Option (List ℕ)) (n : ℕ)
        → required (read_between 1 MAX_MSG_SEQ_NUM) value ≡ Ok n → 1 ≤ n
    reads None n is = absurd (cc is)
    reads (Some value) n is = between_one MAX_MSG_SEQ_NUM (read_number value) n is

    by : (r : Result ℕ ℕ) → ((n : ℕ) → r ≡ Ok n → 1 ≤ n) → FromOne (resend_request_kind r fields)
    by (Ok from) least =
        end_from from (required (read_zero_or_from from) (value_at END_SEQ_NO fields))
        (least from refl)
    by (Err reason) least = tt

logon_one : (r : Result (ℕ × Bool) LogonFault) → FromOne (logon_kind r)
logon_one (Ok said) = tt
logon_one (Err (Tag tag)) = tt

test_one : (fault : Option ℕ) → FromOne (test_request_kind fault)
test_one None = tt
test_one (Some reason) = tt

reset_one : (fills : Bool) (r : Result ℕ ℕ) → FromOne (sequence_reset_kind fills r)
reset_one true (Ok to) = tt
reset_one true (Err reason) = tt
reset_one false (Ok to) = tt
reset_one false (Err reason) = tt

-- by the types, one after another
by_type : (a b c d e f g : Bool) (logon test asks reset : What) → FromOne logon → FromOne test
    → FromOne asks → FromOne reset
    → FromOne (if a then logon else (if b then what.Heartbeat else (if c then test
    else (if d then asks else (if e then what.Reject else (if f then reset
    else (if g then what.Logout else what.App)))))))
by_type true b c d e f g logon test asks reset one two three four = one
by_type false true c d e f g logon test asks reset one two three four = tt
by_type false false true d e f g logon test asks reset one two three four = two
by_type false false false true e f g logon test asks reset one two three four = three
by_type false false false false true f g logon test asks reset one two three four = tt
by_type false false false false false true g logon test asks reset one two three four = four
by_type false false false false false false true logon test asks reset one two three four = tt
by_type false false false false false false false logon test asks reset one two three four = tt

from_one : (side : Side) (msg_type : List ℕ) (fields : List Field)
    → FromOne (kind_of side msg_type fields)
from_one side msg_type fields =
    by_type (bytes_eq msg_type (codes "A")) (bytes_eq msg_type (codes "0"))
    (bytes_eq msg_type (codes "1")) (bytes_eq msg_type (codes "2")) (bytes_eq msg_type (codes "3"))
    (bytes_eq msg_type (codes "4")) (bytes_eq msg_type (codes "5"))
    (logon_kind (logon_of side fields))
    (test_request_kind (text_fault (value_at TEST_REQ_ID fields)))
    (resend_request_kind (required (read_between 1 MAX_MSG_SEQ_NUM) (value_at BEGIN_SEQ_NO fields))
    fields)
    (sequence_reset_kind (is_yes (value_at GAP_FILL_FLAG fields))
    (required (read_between 1 ALL_USED) (value_at NEW_SEQ_NO fields)))
    (logon_one (logon_of side fields)) (test_one (text_fault (value_at TEST_REQ_ID fields)))
    (asks_one (value_at BEGIN_SEQ_NO fields) fields)
    (reset_one (is_yes (value_at GAP_FILL_FLAG fields))
    (required (read_between 1 ALL_USED) (value_at NEW_SEQ_NO fields)))

asks_from : (w : What) (from : ℕ) → FromOne w → AsksFrom w from → 1 ≤ from
asks_from (what.ResendRequest begin end) from one asks = subst (λ (n : ℕ). 1 ≤ n) asks one
asks_from other from one asks = absurd asks

input_from : (names : Names) (window : ℕ) (event : Event) (now : ℕ)
    → FromOne (what_in (input_of names window event now))
input_from names window (Frame side body) now = from_one side (type_of body) (fields_of body)
input_from names window (Opened side) now = tt
input_from names window (Closed side) now = tt
input_from names window (Tick side) now = tt
input_from names window (End side) now = tt

-- what is sent again
repeat_facts : (side : Side) (w : What) (next_out : ℕ) (o : Option Repeat) (r : Repeat)
    → Repeats side w next_out o → o ≡ Some r
    → (r.side ≡ side) × AsksFrom w r.from × (r.to ≤ next_out - 1)
repeat_facts side w next_out None r is some = absurd (cc some)
repeat_facts side w next_out (Some x) r is some =
    subst (Repeats side w next_out) some is

-- ---- the whole

out_of_side : (side : Side) (s : Sessions)
    → next_out side (numbers_of s) ≡ (session_of side s).numbers.next_out
out_of_side Client s = refl
out_of_side Venue s = refl

outs_go_on : (x : Side) (before : Next) (e : Entry) → Goes x before e.outs e.next
    → OutsGoOn x before e
outs_go_on x before e goes = record { numbered = goes.numbered; next = goes.next }

pub decisions_continue : DecisionsContinue
decisions_continue names window s event now words d are decided =
    let b : IsBy names window s event now words d = by names window s event now words d decided in
    let side : Side = side_of event in
    let t : Step = b.step in
    let e : Entry = entry_by names window s event now t b.given in
    let goes : (x : Side) → Goes x (numbers_of s) e.outs e.next = λ x.
    goes-append x (numbers_of s) (numbers_of (next_sessions event t s)) e.next
    (own_outs names window s event now t) b.given.outs
    (says_go x side t.next.heart (heard_in event (input_of names window event now)) t.acts s
    t.next b.is_step.next_out) (b.is_given.goes x) in
    let stays : (x : Side) → InStays x (numbers_of s) e = λ x.
    event_stays names window x s event now t e.next b.is_step (b.is_given.stays x) in
    let whole : GoesOn (numbers_of s) e = record {
      client_out = outs_go_on Client (numbers_of s) e (goes Client);
      venue_out = outs_go_on Venue (numbers_of s) e (goes Venue);
      client_in = stays Client;
      venue_in = stays Venue;
    } in
    let repeats = b.is_step.repeats side in
    subst (Continues s event) (same_ok _ d b.is) (record {
      goes_on = λ entry is.
          subst (GoesOn (numbers_of s)) (entry_is (numbers_of s) e entry is) whole;
      next = λ entry is. ap (λ (x : Entry). x.next) (sym (entry_is (numbers_of s) e entry is));
      same_day = λ entry is. ap (λ (x : Entry). x.reset) (sym (entry_is (numbers_of s) e entry is));
      same = λ is. no_entry (numbers_of s) e is;
      took = λ entry is. subst (λ (x : Entry). IsTookOf event x.took)
          (entry_is (numbers_of s) e entry is)
          (is_frame event (input_of names window event now) t);
      sides = b.is_given.sides (with_sides side t.next s b.is_step.side are);
      from = λ r is. asks_from (what_in (input_of names window event now)) r.from
          (input_from names window event now)
          (repeat_facts side _ _ (repeat_of side t.acts) r repeats is).1;
      to = λ r is. let facts = repeat_facts side _ _ (repeat_of side t.acts) r repeats is in
          omega (
            arith,
            facts.2,
            out_of_side side s,
            ap (λ (x : Side). next_out x (numbers_of s)) facts.0,
          );
    })
