-- What is known of a message where a row of the session table applies to it.
use Rattle.std.proofs.Common.{◌≡◌, ℕ, ◌≤◌, ◌<◌, arith, Bool, true, false, Some, None, refl}
use Rattle.std.proofs.Common.{nat_lt, nat_le}
use Rattle.std.proofs.lemmas.Bool.Decides.{nat_tests}
use Rattle.std.proofs.Common.{if◌then◌else◌, subst}
use Rattle.std.proofs.lemmas.Bool.{leb-true}
use Rattle.std.specs.declared.option.Option.{Option}
use Rattle.std.specs.declared.cmp.Ordering.{Ordering}
use Rattle.std.specs.declared.cmp.Ordering.TheVariants.{Less, Equal, Greater}
use Rattle.std.specs.Ordering.{nat_cmp}
use Rattle.std.proofs.lemmas.Map.Lookups.{exact_unsigned}
use Rattle.session_core.specs.declared.session.LinkState.{LinkState}
use Rattle.session_core.specs.declared.session.LinkState.TheVariants.{Down, Wait, Asked, Active}
use Rattle.session_core.specs.declared.session.Session.{Session}
use Rattle.session_core.specs.declared.head.Head.{Head}
use Rattle.session_core.specs.declared.head.What.{What}
use Rattle.session_core.specs.declared.head.What.TheVariants as what
use Rattle.order_meaning.specs.declared.Side.{Side}
use Rattle.order_meaning.specs.declared.Side.TheVariants.{Client, Venue}
use Rattle.session_core.specs.Table.{Row, S1, S2, S3, S4, S5, S6, S9, S11, S13, S16, S17}
use Rattle.session_core.specs.Table.{S22, S24, S25, S26, S27, S28, S29, S30, S31, S32, S33, S34}
use Rattle.session_core.specs.Table.{S35, S36, Quiet, early_row, expected_row, numbered_row}
use Rattle.session_core.specs.Table.{active_case, logon_row, waiting_case, message_row, is_fresh}
use Rattle.session_core.specs.Table.{opened_row, tick_row, end_row, is_unanswered, elapsed}
use Rattle.kept_entries.specs.Numbers.{Counts}
use Rattle.event_decisions.specs.Decide.{is_for_application}
use Rattle.event_decisions.specs.Laws.{taking_by}

-- a message of a session that counts one
pub record IsPlain (w : What) : Type 0 where
  pub counts : taking_by w ≡ Counts
  pub session : is_for_application w ≡ false

-- what is known where this row applies to such a message with this number, at this expected number
abbrev pub Picked : Row → What → ℕ → ℕ → Type 0
Picked (S6 tag) w n expected = IsPlain w
Picked (S9 heart reset) w n expected = IsPlain w × (n ≡ expected)
Picked S11 w n expected = IsPlain w × (n ≡ expected)
Picked (S16 to) w n expected = (w ≡ what.Reset to) × (expected ≤ to)
Picked (S22 from to dup) w n expected = w ≡ what.ResendRequest from to
Picked S24 w n expected = IsPlain w × (n ≡ expected)
Picked S25 w n expected = IsPlain w × (n ≡ expected)
Picked (S26 from to) w n expected = (w ≡ what.ResendRequest from to) × (n ≡ expected)
Picked (S27 to) w n expected = (w ≡ what.GapFill to) × (n ≡ expected) × (n < to)
Picked S28 w n expected = (to : ℕ) × (w ≡ what.GapFill to) × (n ≡ expected)
Picked (S29 tag reason) w n expected = (w ≡ what.Faulty tag reason) × (n ≡ expected)
Picked S30 w n expected = IsPlain w × (n ≡ expected)
Picked S31 w n expected =
    (taking_by w ≡ Counts) × (is_for_application w ≡ true) × (n ≡ expected)
Picked other w n expected = Unit {0}

-- ---- each part of the table

plain : {w : What} → taking_by w ≡ Counts → is_for_application w ≡ false → IsPlain w
plain counts session = record { counts = counts; session = session }

logon_picks : (link : LinkState) (w : What) (fresh : Bool) (place : Ordering) (dup : Bool)
    (n expected : ℕ) → (place ≡ Equal → n ≡ expected)
    → Picked (logon_row link w fresh place dup) w n expected
logon_picks link (what.BadLogon tag) fresh place dup n expected same = plain refl refl
logon_picks link (what.Logon heart true) false place dup n expected same = plain refl refl
logon_picks link (what.Logon heart true) true Less true n expected same = tt
logon_picks link (what.Logon heart true) true Less false n expected same = tt
logon_picks link (what.Logon heart false) fresh Less true n expected same = tt
logon_picks link (what.Logon heart false) fresh Less false n expected same = tt
logon_picks Wait (what.Logon heart true) true Equal dup n expected same =
    (plain refl refl, same refl)
logon_picks Wait (what.Logon heart false) fresh Equal dup n expected same =
    (plain refl refl, same refl)
logon_picks link (what.Logon heart true) true Equal dup n expected same =
    (plain refl refl, same refl)
logon_picks link (what.Logon heart false) fresh Equal dup n expected same =
    (plain refl refl, same refl)
logon_picks Wait (what.Logon heart true) true Greater dup n expected same = tt
logon_picks Wait (what.Logon heart false) fresh Greater dup n expected same = tt
logon_picks link (what.Logon heart true) true Greater dup n expected same = tt
logon_picks link (what.Logon heart false) fresh Greater dup n expected same = tt
logon_picks link other fresh place dup n expected same = tt

-- a SequenceReset that is no gap fill is never expected by its number
abbrev GoesByNumber : What → Type 0
GoesByNumber (what.Reset to) = ⊥
GoesByNumber (what.FaultyReset tag reason) = ⊥
GoesByNumber other = Unit {0}

expected_picks : (w : What) (n : ℕ) → GoesByNumber w → Picked (expected_row w n) w n n
expected_picks (what.Reset to) n by = absurd by
expected_picks (what.FaultyReset tag reason) n by = absurd by
expected_picks (what.GapFill to) n by = fill (nat_lt n to) refl
  where
    fill : (b : Bool) → nat_lt n to ≡ b
        → Picked (if b then S27 to else S28) (what.GapFill to) n n
    fill true above = (refl, refl, let more : n < to = grind (arith, nat_tests) in more)
    fill false above = (to, refl, refl)
expected_picks (what.ResendRequest from to) n by = (refl, refl)
expected_picks (what.Faulty tag reason) n by = (refl, refl)
expected_picks what.Reject n by = (refl, refl, refl)
expected_picks what.App n by = (refl, refl, refl)
expected_picks other n by = (plain refl refl, refl)

early_picks : (w : What) (dup : Bool) (n expected : ℕ) → Picked (early_row w dup) w n expected
early_picks (what.ResendRequest from to) dup n expected = refl
early_picks other dup n expected = tt

at_expected : (w : What) (n expected : ℕ) → n ≡ expected → GoesByNumber w
    → Picked (expected_row w n) w n expected
at_expected w n expected same by =
    subst (λ (m : ℕ). Picked (expected_row w n) w n m) same (expected_picks w n by)

numbered_picks : (w : What) (place : Ordering) (dup : Bool) (n expected : ℕ)
    → (place ≡ Equal → n ≡ expected)
    → Picked (numbered_row w place dup n expected) w n expected
numbered_picks (what.Reset to) place dup n expected same =
    elim (nat_le expected to) as (λ b. nat_le expected to ≡ b
    → Picked (if b then S16 to else S17) (what.Reset to) n expected)
    [ true ↦ λ h. (refl, leb-true expected to h) | false ↦ λ h. tt ] refl
numbered_picks (what.FaultyReset tag reason) place dup n expected same = tt
numbered_picks other Less false n expected same = tt
numbered_picks other Less true n expected same = tt
numbered_picks other Greater dup n expected same = early_picks other dup n expected
numbered_picks other Equal dup n expected same = at_expected other n expected (same refl) tt

equal : (n expected : ℕ) → nat_cmp n expected ≡ Equal → n ≡ expected
equal n expected h = exact_unsigned n expected h

-- a row by which nothing is taken, sent again or rejected
abbrev pub IsIdle : Row → Type 0
IsIdle S1 = Unit {0}
IsIdle S2 = Unit {0}
IsIdle S3 = Unit {0}
IsIdle (S4 skips) = Unit {0}
IsIdle S5 = Unit {0}
IsIdle S13 = Unit {0}
IsIdle S32 = Unit {0}
IsIdle S33 = Unit {0}
IsIdle S34 = Unit {0}
IsIdle S35 = Unit {0}
IsIdle S36 = Unit {0}
IsIdle Quiet = Unit {0}
IsIdle other = ⊥

-- what is known of a message with a number, or with none
abbrev pub PickedBy : Row → What → Option ℕ → ℕ → Type 0
PickedBy row w None expected = IsIdle row
PickedBy row w (Some n) expected = Picked row w n expected

active_picks : (number comp time : Option ℕ) (w : What) (dup : Bool) (s : Session)
    → PickedBy (active_case number comp time w dup s) w number s.numbers.next_in
active_picks None comp time w dup s = tt
active_picks (Some n) (Some tag) time w dup s = tt
active_picks (Some n) None (Some reason) w dup s = tt
active_picks (Some n) None None w dup s = numbered_picks w (nat_cmp n s.numbers.next_in) dup n
    s.numbers.next_in (equal n s.numbers.next_in)

waiting_picks : (number comp time : Option ℕ) (w : What) (dup : Bool) (s : Session)
    → PickedBy (waiting_case number comp time w dup s) w number s.numbers.next_in
waiting_picks None comp time w dup s = tt
waiting_picks (Some n) (Some tag) time w dup s = tt
waiting_picks (Some n) None (Some reason) w dup s = tt
waiting_picks (Some n) None None w dup s = logon_picks s.link w (is_fresh n s)
    (nat_cmp n s.numbers.next_in) dup n s.numbers.next_in (equal n s.numbers.next_in)

down_picks : (number : Option ℕ) (w : What) (expected : ℕ) → PickedBy (S4 true) w number expected
down_picks None w expected = tt
down_picks (Some n) w expected = tt

-- of the row of a message
pub message_picks : (link : LinkState) (head : Head) (s : Session)
    → PickedBy (message_row link head s) head.what head.number s.numbers.next_in
message_picks Down head s = down_picks head.number head.what s.numbers.next_in
message_picks Wait head s =
    waiting_picks head.number head.comp head.time head.what head.dup s
message_picks Asked head s =
    waiting_picks head.number head.comp head.time head.what head.dup s
message_picks Active head s = active_picks head.number head.comp head.time head.what head.dup s

-- ---- the rows of what is no message

pub opened_idle : (side : Side) → IsIdle (opened_row side)
opened_idle Client = tt
opened_idle Venue = tt

late_idle : (b : Bool) → IsIdle (if b then S32 else Quiet)
late_idle true = tt
late_idle false = tt

unanswered_idle : (b : Bool) → IsIdle (if b then S33 else S34)
unanswered_idle true = tt
unanswered_idle false = tt

pub tick_idle : (link : LinkState) (now : ℕ) (s : Session) → IsIdle (tick_row link now s)
tick_idle Down now s = tt
tick_idle Wait now s = late_idle (nat_lt 10_000 (elapsed now s.seen))
tick_idle Asked now s = late_idle (nat_lt 10_000 (elapsed now s.seen))
tick_idle Active now s = unanswered_idle (is_unanswered s.tested now s.heart)

pub end_idle : (link : LinkState) → IsIdle (end_row link)
end_idle Down = tt
end_idle Wait = tt
end_idle Asked = tt
end_idle Active = tt
