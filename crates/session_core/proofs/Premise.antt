-- What is known of a message where a row of the table applies to it.
use Rattle.std.proofs.Common.{◌≡◌, ℕ, ◌≤◌, ◌<◌, Bool, true, false, Some, None, refl, nat_lt, nat_le}
use Rattle.std.proofs.Common.{ap, sym, ◌∙◌, if◌then◌else◌, subst}
use Rattle.std.proofs.lemmas.Bool.{ltb-true, leb-true}
use Rattle.std.specs.declared.option.Option.{Option}
use Rattle.std.specs.declared.cmp.Ordering.{Ordering}
use Rattle.std.specs.declared.cmp.Ordering.TheVariants.{Less, Equal, Greater}
use Rattle.std.specs.Ordering.{nat_cmp}
use Rattle.std.proofs.lemmas.Map.Lookups.{exact_unsigned}
use Rattle.session_core.specs.declared.session.LinkState.{LinkState}
use Rattle.session_core.specs.declared.session.LinkState.TheVariants.{Down, Wait, Asked, Active}
use Rattle.session_core.specs.declared.session.Session.{Session}
use Rattle.session_core.specs.declared.head.Head.{Head}
use Rattle.session_core.specs.declared.head.What.{What}
use Rattle.session_core.specs.declared.head.What.TheVariants as what
use Rattle.session_core.specs.Laws.{IsSequenceReset}
use Rattle.session_core.specs.Table.{Message, Row, S6, S9, S11, S14, S15, S16, S17, S18, S22, S24}
use Rattle.session_core.specs.Table.{S25, S26, S27, S28, S29, S30, S31, number_of, early_row}
use Rattle.session_core.specs.Table.{expected_row, numbered_row, active_case, logon_row}
use Rattle.session_core.specs.Table.{waiting_case, message_row, is_fresh}

-- the message has the number n
abbrev pub Numbered : ℕ → Head → Type 0
Numbered n head = head.number ≡ Some n

-- what is known of a message and of the expected number where this row applies
abbrev pub Premise : Row → ℕ → Head → Type 0
Premise (S6 tag) expected head = (n : ℕ) × Numbered n head
Premise (S9 heart reset) expected head = Numbered expected head
Premise S11 expected head = Numbered expected head
Premise (S14 tag) expected head = (n : ℕ) × Numbered n head × (head.comp ≡ Some tag)
Premise (S15 reason) expected head = (n : ℕ) × Numbered n head × (head.time ≡ Some reason)
Premise (S16 to) expected head = (head.what ≡ what.Reset to) × (expected ≤ to)
Premise S17 expected head = IsSequenceReset head.what
Premise (S18 reason) expected head = IsSequenceReset head.what
Premise (S22 from to dup) expected head = head.what ≡ what.ResendRequest from to
Premise S24 expected head = Numbered expected head
Premise S25 expected head = Numbered expected head
Premise (S26 from to) expected head =
    Numbered expected head × (head.what ≡ what.ResendRequest from to)
Premise (S27 to) expected head =
    (head.what ≡ what.GapFill to) × Numbered expected head × (expected < to)
Premise S28 expected head = Numbered expected head × IsSequenceReset head.what
Premise (S29 tag reason) expected head =
    Numbered expected head × (head.what ≡ what.Faulty tag reason)
Premise S30 expected head = Numbered expected head
Premise S31 expected head = Numbered expected head
Premise other expected head = Unit {0}

pub number_of-Message : (n : ℕ) (head : Head) → Numbered n head → number_of (Message head) ≡ n
number_of-Message n head e = rw e refl

-- the number of a message that has the number n, where n is the expected number
at : (n expected : ℕ) (head : Head) → Numbered n head → n ≡ expected → Numbered expected head
at n expected head e same = e ∙ ap Some same

expected_premise : (w : What) (n : ℕ) (head : Head)
    → head.what ≡ w → Numbered n head → Premise (expected_row w n) n head
expected_premise (what.GapFill to) n head is e =
    elim (nat_lt n to) as (λ b. nat_lt n to ≡ b → Premise (if b then S27 to else S28) n head) [
      | true ↦
          λ h. (is, e, ltb-true n to h)
      | false ↦ λ h. (e, subst IsSequenceReset (sym is) tt)
    ] refl
expected_premise (what.ResendRequest from to) n head is e = (e, is)
expected_premise (what.Faulty tag reason) n head is e = (e, is)
expected_premise other n head is e = e

early_premise : (w : What) (dup : Bool) (expected : ℕ) (head : Head)
    → head.what ≡ w → Premise (early_row w dup) expected head
early_premise (what.ResendRequest from to) dup expected head is = is
early_premise other dup expected head is = tt

numbered_premise : (w : What) (place : Ordering) (dup : Bool) (n expected : ℕ) (head : Head)
    → head.what ≡ w → Numbered n head
    → (place ≡ Equal → n ≡ expected) → Premise (numbered_row w place dup n expected) expected head
numbered_premise (what.Reset to) place dup n expected head is e same =
    elim (nat_le expected to) as (λ b. nat_le expected to ≡ b
    → Premise (if b then S16 to else S17) expected head) [
      | true ↦
          λ h. (is, leb-true expected to h)
      | false ↦ λ h. subst IsSequenceReset (sym is) tt
    ] refl
numbered_premise (what.FaultyReset tag reason) place dup n expected head is e same =
    subst IsSequenceReset (sym is) tt
numbered_premise other Less false n expected head is e same = tt
numbered_premise other Less true n expected head is e same = tt
numbered_premise other Greater dup n expected head is e same =
    early_premise other dup expected head is
numbered_premise other Equal dup n expected head is e same =
    let P : ℕ → Type 0 = λ m. Premise (expected_row other n) m head
    in subst P (same refl) (expected_premise other n head is e)

-- what `cmp` says of a number that is equal
equal : (n expected : ℕ) → nat_cmp n expected ≡ Equal → n ≡ expected
equal n expected h = exact_unsigned n expected h

active_premise : (number comp time : Option ℕ) (w : What) (dup : Bool) (s : Session) (head : Head)
    → head.number ≡ number → head.comp ≡ comp
    → head.time ≡ time
    → head.what ≡ w → Premise (active_case number comp time w dup s) s.numbers.next_in head
active_premise None comp time w dup s head e named timed is = tt
active_premise (Some n) (Some tag) time w dup s head e named timed is = (n, e, named)
active_premise (Some n) None (Some reason) w dup s head e named timed is = (n, e, timed)
active_premise (Some n) None None w dup s head e named timed is =
    numbered_premise w
    (nat_cmp n s.numbers.next_in) dup n s.numbers.next_in head is e (equal n s.numbers.next_in)

logon_premise : (link : LinkState) (w : What)
    (fresh : Bool) (place : Ordering) (dup : Bool) (n expected : ℕ) (head : Head) → Numbered n head
    → (place ≡ Equal → n ≡ expected) → Premise (logon_row link w fresh place dup) expected head
logon_premise link (what.BadLogon tag) fresh place dup n expected head e same = (n, e)
logon_premise link (what.Logon heart true) false place dup n expected head e same = (n, e)
logon_premise link (what.Logon heart true) true Less true n expected head e same = tt
logon_premise link (what.Logon heart true) true Less false n expected head e same = tt
logon_premise link (what.Logon heart false) fresh Less true n expected head e same = tt
logon_premise link (what.Logon heart false) fresh Less false n expected head e same = tt
logon_premise Wait (what.Logon heart true) true Equal dup n expected head e same =
    at n expected head e (same refl)
logon_premise Wait (what.Logon heart false) fresh Equal dup n expected head e same =
    at n expected head e (same refl)
logon_premise link (what.Logon heart true) true Equal dup n expected head e same =
    at n expected head e (same refl)
logon_premise link (what.Logon heart false) fresh Equal dup n expected head e same =
    at n expected head e (same refl)
logon_premise Wait (what.Logon heart true) true Greater dup n expected head e same = tt
logon_premise Wait (what.Logon heart false) fresh Greater dup n expected head e same = tt
logon_premise link (what.Logon heart true) true Greater dup n expected head e same = tt
logon_premise link (what.Logon heart false) fresh Greater dup n expected head e same = tt
logon_premise link other fresh place dup n expected head e same = tt

waiting_premise : (number comp time : Option ℕ) (w : What) (dup : Bool) (s : Session) (head : Head)
    → head.number ≡ number
    → Premise (waiting_case number comp time w dup s) s.numbers.next_in head
waiting_premise (Some n) None None w dup s head e =
    logon_premise s.link w (is_fresh n s)
    (nat_cmp n s.numbers.next_in) dup n s.numbers.next_in head e (equal n s.numbers.next_in)
waiting_premise (Some n) (Some tag) time w dup s head e = tt
waiting_premise (Some n) None (Some reason) w dup s head e = tt
waiting_premise None comp time w dup s head e = tt

-- the premise of the row of a message
pub message_premise : (link : LinkState) (head : Head) (s : Session)
    → Premise (message_row link head s) s.numbers.next_in head
message_premise Down head s = tt
message_premise Wait head s =
    waiting_premise head.number head.comp head.time head.what head.dup s head refl
message_premise Asked head s =
    waiting_premise head.number head.comp head.time head.what head.dup s head refl
message_premise Active head s =
    active_premise head.number head.comp head.time head.what head.dup s head refl refl refl refl
