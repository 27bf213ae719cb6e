-- What each step of a session is.
use Rattle.std.proofs.Common.{◌≡◌, ℕ, ◌+◌, Bool, true, false, Option, Some, None, refl}
use Rattle.std.proofs.Common.{sym, ap, ◌∙◌, if◌then◌else◌, subst, Ok, Err}
use Rattle.order_meaning.specs.declared.Side.{Side}
use Rattle.session_core.specs.declared.session.Session.{Session}
use Rattle.session_core.specs.declared.session.Step.{Step}
use Rattle.session_core.specs.declared.head.Head.{Head}
use Rattle.session_core.specs.declared.head.What.{What}
use Rattle.session_core.specs.declared.head.What.TheVariants as what
use Rattle.session_core.specs.Table.{Input, Opened, Closed, Message, Tick, End, Row, S3, step}
use Rattle.session_core.specs.Table.{effect_of, settled, is_spent, says, does, counted, spent}
use Rattle.session_core.specs.Table.{heard}
use Rattle.session_core.specs.Table.{message_row, opened_row, tick_row, end_row, number_of}
use Rattle.event_decisions.specs.Decide.{takes, repeat_of}
use Rattle.event_decisions.proofs.Picked.{Picked, PickedBy, message_picks, opened_idle}
use Rattle.event_decisions.proofs.Picked.{tick_idle, end_idle}
use Rattle.event_decisions.proofs.Acts.{Keeps, rows_keep, rows_stay, Repeats, rows_repeat, Tells}
use Rattle.event_decisions.proofs.Acts.{rows_tell, idle_takes, idle_picks, WasExpected, rows_take}

-- what an input is
abbrev pub what_in : Input → What
what_in (Message head) = head.what
what_in other = what.Heartbeat

abbrev pub number_in : Input → Option ℕ
number_in (Message head) = head.number
number_in other = None

-- what is taken has a number, and was expected
abbrev pub TakesExpected : What → Option ℕ → (before : ℕ) → Step → Type 0
TakesExpected w None before t = takes t.acts ≡ false
TakesExpected w (Some n) before t =
    takes t.acts ≡ true → WasExpected w n before t.next.numbers.next_in t.acts

pub record IsStep (s : Session) (input : Input) (t : Step) : Type 0 where
  pub side : t.next.side ≡ s.side
  pub next_out : t.next.numbers.next_out ≡ s.numbers.next_out + says t.acts
  pub stays : takes t.acts ≡ false → t.next.numbers.next_in ≡ s.numbers.next_in
  pub repeats : (side : Side)
      → Repeats side (what_in input) s.numbers.next_out (repeat_of side t.acts)
  pub tells : Tells (what_in input) t.acts
  pub expected : TakesExpected (what_in input) (number_in input) s.numbers.next_in t

-- the step that is answered
counts : (now : ℕ) (e : Step) (b : Bool) (t : Step)
    → (if b then Err spent else Ok (does e.acts (counted now (says e.acts) e.next))) ≡ Ok t
    → does e.acts (counted now (says e.acts) e.next) ≡ t
counts now e true t is = absurd (cc is)
counts now e false t is = cc is

settles : (now : ℕ) (e t : Step) → settled now e ≡ Ok t
    → does e.acts (counted now (says e.acts) e.next) ≡ t
settles now e t is = counts now e (is_spent e.next.numbers.next_out (says e.acts)) t is

-- by the row, where it was picked
expected_by : (r : Row) (w : What) (number : Option ℕ) (m now : ℕ) (s : Session)
    → PickedBy r w number s.numbers.next_in → ((n : ℕ) → number ≡ Some n → m ≡ n)
    → let e = effect_of r m now s in
    TakesExpected w number s.numbers.next_in (does e.acts (counted now (says e.acts) e.next))
expected_by r w None m now s p same = idle_takes r m now s p
expected_by r w (Some n) m now s p same = λ some.
    subst (λ (k : ℕ). takes (effect_of r k now s).acts ≡ true
    → WasExpected w n s.numbers.next_in (effect_of r k now s).next.numbers.next_in
    (effect_of r k now s).acts) (sym (same n refl)) (rows_take r w n now s p) some

picked_as : (r : Row) (w : What) (number : Option ℕ) (expected : ℕ)
    → PickedBy r w number expected → (n : ℕ) × Picked r w n expected
picked_as r w None expected p = (0, idle_picks r w 0 expected p)
picked_as r w (Some n) expected p = (n, p)

by_row : (r : Row) (w : What) (number : Option ℕ) (m now : ℕ) (s : Session)
    → PickedBy r w number s.numbers.next_in → ((n : ℕ) → number ≡ Some n → m ≡ n)
    → (input : Input) → what_in input ≡ w → number_in input ≡ number
    → let e = effect_of r m now s in
    IsStep s input (does e.acts (counted now (says e.acts) e.next))
by_row r w number m now s p same input is numbered =
    let keeps : Keeps s (effect_of r m now s).next = rows_keep r m now s in
    let picked : (n : ℕ) × Picked r w n s.numbers.next_in =
    picked_as r w number s.numbers.next_in p in
    record {
      side = keeps.side;
      next_out = ap (λ n. n + says (effect_of r m now s).acts) keeps.next_out;
      stays = rows_stay r m now s;
      repeats = λ side. subst (λ (v : What). Repeats side v s.numbers.next_out
          (repeat_of side (effect_of r m now s).acts)) (sym is)
          (rows_repeat side r w picked.0 m now s picked.1);
      tells = subst (λ (v : What). Tells v (effect_of r m now s).acts) (sym is)
          (rows_tell r w picked.0 m now s picked.1);
      expected = rw (is, numbered) (expected_by r w number m now s p same);
    }

of_message : (number : Option ℕ) (head : Head) → head.number ≡ number
    → (n : ℕ) → number ≡ Some n → number_of (Message head) ≡ n
of_message number head is n some = rw (is ∙ some) refl

no_number : (m n : ℕ) → None ≡ Some n → m ≡ n
no_number m n is = absurd (cc is)

-- of every step that is answered
pub is_step : (s : Session) (input : Input) (now : ℕ) (t : Step)
    → step s input now ≡ Ok t → IsStep s input t
is_step s Opened now t is = subst (IsStep s Opened)
    (settles now (effect_of (opened_row s.side) 0 now s) t is)
    (by_row (opened_row s.side) what.Heartbeat None 0 now s (opened_idle s.side) (no_number 0)
    Opened refl refl)
is_step s Closed now t is = subst (IsStep s Closed) (settles now (effect_of S3 0 now s) t is)
    (by_row S3 what.Heartbeat None 0 now s tt (no_number 0) Closed refl refl)
is_step s (Message head) now t is =
    let h : Session = heard (Message head) now s in
    let m : ℕ = number_of (Message head) in
    let r : Row = message_row h.link head h in
    let at_h : IsStep h (Message head) t = subst (IsStep h (Message head))
    (settles now (effect_of r m now h) t is)
    (by_row r head.what head.number m now h (message_picks h.link head h)
    (of_message head.number head refl) (Message head) refl refl) in
    record {
      side = at_h.side;
      next_out = at_h.next_out;
      stays = at_h.stays;
      repeats = at_h.repeats;
      tells = at_h.tells;
      expected = at_h.expected;
    }
is_step s Tick now t is = subst (IsStep s Tick)
    (settles now (effect_of (tick_row s.link now s) 0 now s) t is)
    (by_row (tick_row s.link now s) what.Heartbeat None 0 now s (tick_idle s.link now s)
    (no_number 0) Tick refl refl)
is_step s End now t is = subst (IsStep s End)
    (settles now (effect_of (end_row s.link) 0 now s) t is)
    (by_row (end_row s.link) what.Heartbeat None 0 now s (end_idle s.link) (no_number 0) End refl
    refl)
