-- What holds of each row with its premise holds of each step.
use Rattle.std.proofs.Common.{◌≡◌, ℕ, Bool, true, false, None, refl, nat_lt, ap, ◌∙◌, List, ◌++◌}
use Rattle.std.proofs.Common.{if◌then◌else◌, IfOk}
use Rattle.std.specs.List.{Contains, list_any}
use Rattle.std.proofs.lemmas.List.Folds.{list_any_at}
use Rattle.order_meaning.specs.declared.Side.{Side}
use Rattle.order_meaning.specs.declared.Side.TheVariants.{Client, Venue}
use Rattle.session_core.specs.declared.tick.TheConstants.{LOGON_WAIT}
use Rattle.session_core.specs.declared.session.LinkState.{LinkState}
use Rattle.session_core.specs.declared.session.LinkState.TheVariants.{Down, Wait, Asked, Active}
use Rattle.session_core.specs.declared.session.Session.{Session}
use Rattle.session_core.specs.declared.session.Step.{Step}
use Rattle.session_core.specs.declared.head.Head.{Head}
use Rattle.session_core.specs.declared.head.What.TheVariants as what
use Rattle.session_core.specs.declared.act.Admin.TheVariants as admin
use Rattle.session_core.specs.declared.act.Act.{Act}
use Rattle.session_core.specs.declared.act.Act.TheVariants.{Say}
use Rattle.session_core.specs.Table.{Input, Opened, Closed, Message, Tick, End, Row, S3, S32, S33}
use Rattle.session_core.specs.Table.{S34, Quiet, number_of, message_row, opened_row, tick_row}
use Rattle.session_core.specs.Table.{end_row, is_unanswered, elapsed, effect_of, counted, says}
use Rattle.session_core.specs.Table.{does, heard, step, only, asking, tick_acts, is_test_due}
use Rattle.session_core.specs.Table.{is_heartbeat_due, is_ask_due}
use Rattle.session_core.proofs.Premise.{Premise, message_premise}
use Rattle.session_core.proofs.Kept.{if_settled}

-- ---- the premise of the row of any input. Where there is no message, the row speaks of none.

abbrev pub no_message : Head
no_message = record { number = None; dup = false; comp = None; time = None; what = what.Heartbeat }

pub opened_premise : (side : Side) (expected : ℕ) → Premise (opened_row side) expected no_message
opened_premise Client expected = tt
opened_premise Venue expected = tt

pub late_premise : (b : Bool) (expected : ℕ)
    → Premise (if b then S32 else Quiet) expected no_message
late_premise true expected = tt
late_premise false expected = tt

pub unanswered_premise : (b : Bool) (expected : ℕ)
    → Premise (if b then S33 else S34) expected no_message
unanswered_premise true expected = tt
unanswered_premise false expected = tt

pub tick_premise : (link : LinkState) (now : ℕ) (s : Session)
    → Premise (tick_row link now s) s.numbers.next_in no_message
tick_premise Down now s = tt
tick_premise Wait now s = late_premise (nat_lt LOGON_WAIT (elapsed now s.seen)) s.numbers.next_in
tick_premise Asked now s = late_premise (nat_lt LOGON_WAIT (elapsed now s.seen)) s.numbers.next_in
tick_premise Active now s =
    unanswered_premise (is_unanswered s.tested now s.heart) s.numbers.next_in

pub end_premise : (link : LinkState) (expected : ℕ) → Premise (end_row link) expected no_message
end_premise Down expected = tt
end_premise Wait expected = tt
end_premise Asked expected = tt
end_premise Active expected = tt

-- what a row's effect makes of the session before, once its messages are counted
abbrev pub After : (Session → ℕ → ℕ → Step → Type 0) → Row → ℕ → Session → Head → Type 0
After P r now s head = let t = effect_of r (number_of (Message head)) now s in
    P s (number_of (Message head)) now (does t.acts (counted now (says t.acts) t.next))

-- what holds of each row with its premise holds of each step; it may speak of the number and of the
-- session that heard
pub by_rows : (P : Session → ℕ → ℕ → Step → Type 0)
    → ((r : Row) (now : ℕ) (s : Session) (head : Head)
    → Premise r s.numbers.next_in head → After P r now s head)
    → (s : Session) (input : Input) (now : ℕ)
    → IfOk (step s input now) (P (heard input now s) (number_of input) now)
by_rows P each s Opened now =
    if_settled now (effect_of (opened_row s.side) 0 now s) (P s 0 now)
    (each (opened_row s.side) now s no_message (opened_premise s.side s.numbers.next_in))
by_rows P each s Closed now =
    if_settled now (effect_of S3 0 now s) (P s 0 now) (each S3 now s no_message tt)
by_rows P each s (Message head) now =
    let h : Session = heard (Message head) now s in
    if_settled now (effect_of (message_row h.link head h) (number_of (Message head)) now h)
    (P h (number_of (Message head)) now)
    (each (message_row h.link head h) now h head (message_premise h.link head h))
by_rows P each s Tick now =
    if_settled now (effect_of (tick_row s.link now s) 0 now s)
    (P s 0 now) (each (tick_row s.link now s) now s no_message (tick_premise s.link now s))
by_rows P each s End now =
    if_settled now (effect_of (end_row s.link) 0 now s)
    (P s 0 now) (each (end_row s.link) now s no_message (end_premise s.link s.numbers.next_in))

-- the same, of a fact that speaks of the numbers, the link and the request of the session before,
-- which hearing leaves alone
abbrev pub ByRows : (Session → Step → Type 0) → Type 0
ByRows P = (r : Row) (now : ℕ) (s : Session) (head : Head)
    → Premise r s.numbers.next_in head → After (λ s n now t. P s t) r now s head

-- ---- an act of a list is found by a test

pub found : (test : Act → Bool) (acts : List Act) (act : Act)
    → test act ≡ true → Contains acts act → list_any test acts ≡ true
found test acts act passes c = list_any_at test acts c.0 act c.1 (ap test c.2 ∙ passes)

-- an act that may be missing is none that the test finds, where it is none itself
pub only_other : (test : Act → Bool) (b : Bool) (act : Act)
    → test act ≡ false → list_any test (only b act) ≡ false
only_other test true act h = rw h refl
only_other test false act h = refl

pub tick_other : (test : Act → Bool) (now : ℕ) (s : Session)
    → test (Say admin.TestRequest) ≡ false → test (Say (admin.Heartbeat false)) ≡ false
    → test (asking s) ≡ false → list_any test (tick_acts now s) ≡ false
tick_other test now s a b c =
    three (is_test_due now s) (is_heartbeat_due now s) (is_ask_due s.ask now s.heart)
  where
    three : (x y z : Bool) → list_any test (only x (Say admin.TestRequest)
        ++ only y (Say (admin.Heartbeat false)) ++ only z (asking s)) ≡ false
    three true true true = rw (a, b, c) refl
    three true true false = rw (a, b) refl
    three true false true = rw (a, c) refl
    three true false false = rw a refl
    three false true true = rw (b, c) refl
    three false true false = rw b refl
    three false false true = rw c refl
    three false false false = refl
