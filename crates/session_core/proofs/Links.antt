-- The laws on the link, on what is sent again and on Rejects, each by its rows.
use Rattle.std.proofs.Common.{◌≡◌, ℕ, ◌-◌, ◌≤◌, ◌<◌, ◌==◌, ◌⊎◌, Bool, true, false, Some, None, refl}
use Rattle.std.proofs.Common.{nat_lt, nat_le, ◌∙◌, sym, List, [], ◌∷◌, ◌++◌, if◌then◌else◌, subst}
use Rattle.std.proofs.Common.{inl, inr, arith, min}
use Rattle.std.specs.List.{All, Contains, list_any, Any}
use Rattle.std.proofs.lemmas.List.Elements.{All-nil, All-cons, All-contains}
use Rattle.std.proofs.lemmas.Bool.{ltb-true, ltb-false}
use Rattle.std.specs.Cmp.{nat_cmp_is}
use Rattle.order_meaning.specs.declared.Side.{Side}
use Rattle.order_meaning.specs.declared.Side.TheVariants.{Client, Venue}
use Rattle.session_core.specs.declared.tag.TheConstants.{NEW_SEQ_NO, SENDING_TIME}
use Rattle.session_core.specs.declared.reason.TheConstants.{COMP_ID_PROBLEM}
use Rattle.session_core.specs.declared.tick.TheConstants.{LOGON_WAIT}
use Rattle.std.proofs.lemmas.List.Folds.{Any-from_list_any}
use Rattle.std.specs.declared.option.Option.{Option}
use Rattle.std.specs.declared.cmp.Ordering.{Ordering}
use Rattle.std.specs.declared.cmp.Ordering.TheVariants.{Less, Equal, Greater}
use Rattle.std.specs.Ordering.{nat_cmp}
use Rattle.session_core.specs.declared.session.LinkState.{LinkState}
use Rattle.session_core.specs.declared.session.LinkState.TheVariants.{Down, Wait, Asked, Active}
use Rattle.session_core.specs.declared.session.Session.{Session}
use Rattle.session_core.specs.declared.session.Step.{Step}
use Rattle.session_core.specs.declared.head.Head.{Head}
use Rattle.session_core.specs.declared.head.What.{What}
use Rattle.session_core.specs.declared.head.What.TheVariants as what
use Rattle.session_core.specs.declared.act.Why.{Why}
use Rattle.session_core.specs.declared.act.Why.TheVariants as why
use Rattle.session_core.specs.declared.act.Admin.TheVariants as admin
use Rattle.session_core.specs.declared.act.Act.{Act}
use Rattle.session_core.specs.declared.act.Act.TheVariants.{Take, Skip, Say, Resend, HangUp}
use Rattle.session_core.specs.Table.{Input, Opened, Closed, Message, Tick, End, Row, S1, S2, S3, S4}
use Rattle.session_core.specs.Table.{S5, S6, S7, S8, S9, S10, S11, S12, S13, S14, S15, S16, S17}
use Rattle.session_core.specs.Table.{S18, S19, S20, S21, S22, S23, S24, S25, S26, S27, S28, S29}
use Rattle.session_core.specs.Table.{S30, S31, S32, S33, S34, S35, S36, Quiet, number_of}
use Rattle.session_core.specs.Table.{message_row, waiting_case, active_case, numbered_row}
use Rattle.session_core.specs.Table.{early_row, expected_row, logon_row, opened_row, tick_row}
use Rattle.session_core.specs.Table.{end_row, is_unanswered, elapsed, effect_of, take_or_skip}
use Rattle.session_core.specs.Table.{heard, only, asking, is_asked_for, is_fresh, resend_end}
use Rattle.session_core.specs.Table.{is_test_due, is_heartbeat_due, is_ask_due, logout, reject}
use Rattle.session_core.specs.Laws.{Always, IsForApplication, IsOfApplication, LogsOn, IsGoodLogon}
use Rattle.session_core.specs.Laws.{IsDownBy, AsksFrom, IsRequestFrom, FaultOf, RejectsFor}
use Rattle.session_core.specs.Laws.{IsRejectedFor}
use Rattle.session_core.proofs.Premise.{Premise, message_premise}
use Rattle.session_core.proofs.Kept.{if_settled}
use Rattle.session_core.proofs.Always.{is_take, is_hang_up}
use Rattle.session_core.proofs.ByRows.{no_message, opened_premise, tick_premise, end_premise, found}
use Rattle.session_core.proofs.ByRows.{only_other}

-- the act that a test finds stands in the list
stands : (test : Act → Bool) (act : Act) → ((a : Act) → test a ≡ true → a ≡ act)
    → (acts : List Act) → list_any test acts ≡ true → Contains acts act
stands test act is acts h =
    let c : Any (λ a. test a ≡ true) acts = Any-from_list_any test acts h in
    let P : Act → Type 0 = Contains acts in
    subst P (is c.1 c.4) (c.0, c.2, c.3)

is_the_hang_up : (a : Act) → is_hang_up a ≡ true → a ≡ HangUp
is_the_hang_up HangUp h = refl
is_the_hang_up other h = absurd (cc h)

hangs_up : (acts : List Act) → list_any is_hang_up acts ≡ true → Contains acts HangUp
hangs_up acts h = stands is_hang_up HangUp is_the_hang_up acts h

hangs_after : (n : ℕ) (s : Session) (acts : List Act)
    → list_any is_hang_up acts ≡ true → list_any is_hang_up (take_or_skip n s ∷ acts) ≡ true
hangs_after n s acts h = elim (n == s.numbers.next_in) as (λ b.
    list_any is_hang_up ((if b then Take else Skip) ∷ acts) ≡ true) [ true ↦ h | false ↦ h ]

-- ---- Down comes by a hang up or a loss

-- the row is not that of a lost connection
abbrev IsNoLoss : Row → Type 0
IsNoLoss S3 = ⊥
IsNoLoss other = Unit {0}

logon_no_loss : (link : LinkState) (w : What) (fresh : Bool) (place : Ordering) (dup : Bool)
    → IsNoLoss (logon_row link w fresh place dup)
logon_no_loss link (what.BadLogon tag) fresh place dup = tt
logon_no_loss link (what.Logon heart true) false place dup = tt
logon_no_loss link (what.Logon heart true) true Less true = tt
logon_no_loss link (what.Logon heart true) true Less false = tt
logon_no_loss link (what.Logon heart false) fresh Less true = tt
logon_no_loss link (what.Logon heart false) fresh Less false = tt
logon_no_loss Wait (what.Logon heart true) true Equal dup = tt
logon_no_loss Wait (what.Logon heart false) fresh Equal dup = tt
logon_no_loss link (what.Logon heart true) true Equal dup = tt
logon_no_loss link (what.Logon heart false) fresh Equal dup = tt
logon_no_loss Wait (what.Logon heart true) true Greater dup = tt
logon_no_loss Wait (what.Logon heart false) fresh Greater dup = tt
logon_no_loss link (what.Logon heart true) true Greater dup = tt
logon_no_loss link (what.Logon heart false) fresh Greater dup = tt
logon_no_loss link other fresh place dup = tt

waiting_no_loss : (number comp time : Option ℕ) (w : What) (dup : Bool) (s : Session)
    → IsNoLoss (waiting_case number comp time w dup s)
waiting_no_loss (Some n) None None w dup s =
    logon_no_loss s.link w (is_fresh n s) (nat_cmp n s.numbers.next_in) dup
waiting_no_loss (Some n) (Some tag) time w dup s = tt
waiting_no_loss (Some n) None (Some reason) w dup s = tt
waiting_no_loss None comp time w dup s = tt

expected_no_loss : (w : What) (n : ℕ) → IsNoLoss (expected_row w n)
expected_no_loss (what.GapFill to) n =
    elim (nat_lt n to) as (λ b. IsNoLoss (if b then S27 to else S28)) [ true ↦ tt | false ↦ tt ]
expected_no_loss other n = tt

early_no_loss : (w : What) (dup : Bool) → IsNoLoss (early_row w dup)
early_no_loss what.Logout dup = tt
early_no_loss other dup = tt

numbered_no_loss : (w : What) (place : Ordering) (dup : Bool) (n expected : ℕ)
    → IsNoLoss (numbered_row w place dup n expected)
numbered_no_loss (what.Reset to) place dup n expected =
    elim (nat_le expected to) as (λ b. IsNoLoss (if b then S16 to else S17))
    [ true ↦ tt | false ↦ tt ]
numbered_no_loss (what.FaultyReset tag reason) place dup n expected = tt
numbered_no_loss other Less false n expected = tt
numbered_no_loss other Less true n expected = tt
numbered_no_loss other Greater dup n expected = early_no_loss other dup
numbered_no_loss other Equal dup n expected = expected_no_loss other n

active_no_loss : (number comp time : Option ℕ) (w : What) (dup : Bool) (s : Session)
    → IsNoLoss (active_case number comp time w dup s)
active_no_loss None comp time w dup s = tt
active_no_loss (Some n) (Some tag) time w dup s = tt
active_no_loss (Some n) None (Some reason) w dup s = tt
active_no_loss (Some n) None None w dup s =
    numbered_no_loss w (nat_cmp n s.numbers.next_in) dup n s.numbers.next_in

message_no_loss : (link : LinkState) (head : Head) (s : Session)
    → IsNoLoss (message_row link head s)
message_no_loss Down head s = tt
message_no_loss Wait head s = waiting_no_loss head.number head.comp head.time head.what head.dup s
message_no_loss Asked head s = waiting_no_loss head.number head.comp head.time head.what head.dup s
message_no_loss Active head s = active_no_loss head.number head.comp head.time head.what head.dup s

tick_no_loss : (link : LinkState) (now : ℕ) (s : Session) → IsNoLoss (tick_row link now s)
tick_no_loss Down now s = tt
tick_no_loss Wait now s = elim (nat_lt LOGON_WAIT (elapsed now s.seen)) as (λ b.
    IsNoLoss (if b then S32 else Quiet)) [ true ↦ tt | false ↦ tt ]
tick_no_loss Asked now s = elim (nat_lt LOGON_WAIT (elapsed now s.seen)) as (λ b.
    IsNoLoss (if b then S32 else Quiet)) [ true ↦ tt | false ↦ tt ]
tick_no_loss Active now s = elim (is_unanswered s.tested now s.heart) as (λ b.
    IsNoLoss (if b then S33 else S34)) [ true ↦ tt | false ↦ tt ]

end_no_loss : (link : LinkState) → IsNoLoss (end_row link)
end_no_loss Down = tt
end_no_loss Wait = tt
end_no_loss Asked = tt
end_no_loss Active = tt

opened_no_loss : (side : Side) → IsNoLoss (opened_row side)
opened_no_loss Client = tt
opened_no_loss Venue = tt

down_row : (r : Row) (n now : ℕ) (s : Session) → IsNoLoss r → (effect_of r n now s).next.link ≡ Down
    → (s.link ≡ Down) ⊎ (list_any is_hang_up (effect_of r n now s).acts ≡ true)
down_row S1 n now s fits e = absurd (cc e)
down_row S2 n now s fits e = absurd (cc e)
down_row S3 n now s fits e = absurd fits
down_row S5 n now s fits e = inr refl
down_row (S6 tag) n now s fits e = inr (hangs_after n s (logout (why.Logon tag) ∷ HangUp ∷ []) refl)
down_row S8 n now s fits e = inr refl
down_row (S9 heart reset) n now s fits e = absurd (cc e)
down_row (S10 heart) n now s fits e = absurd (cc e)
down_row S11 n now s fits e = absurd (cc e)
down_row S12 n now s fits e = absurd (cc e)
down_row S13 n now s fits e = inr refl
down_row (S14 tag) n now s fits e =
    inr (hangs_after n s (reject tag COMP_ID_PROBLEM ∷ logout why.CompId ∷ HangUp ∷ []) refl)
down_row (S15 reason) n now s fits e =
    inr (hangs_after n s (reject SENDING_TIME reason ∷ logout why.Clock ∷ HangUp ∷ []) refl)
down_row S19 n now s fits e = inr refl
down_row S21 n now s fits e = inr refl
down_row S30 n now s fits e = inr refl
down_row S32 n now s fits e = inr refl
down_row S33 n now s fits e = inr refl
down_row S35 n now s fits e = inr refl
down_row S36 n now s fits e = inr refl
down_row other n now s fits e = inl e

down_by_row : (r : Row) (n now : ℕ) (s : Session)
    → IsNoLoss r → (effect_of r n now s).next.link ≡ Down
    → (s.link ≡ Down) ⊎ Contains (effect_of r n now s).acts HangUp
down_by_row r n now s fits e = elim (down_row r n now s fits e)
    [ inl d ↦ inl d | inr h ↦ inr (hangs_up (effect_of r n now s).acts h) ]

abbrev IsDownIf : Session → Step → Type 0
IsDownIf s t = t.next.link ≡ Down → (s.link ≡ Down) ⊎ Contains t.acts HangUp

pub is_down_by : Always (λ s input now t. t.next.link ≡ Down → IsDownBy s input t.acts)
is_down_by s Opened now = if_settled now (effect_of (opened_row s.side) 0 now s)
    (IsDownIf s) (down_by_row (opened_row s.side) 0 now s (opened_no_loss s.side))
is_down_by s Closed now =
    if_settled now (effect_of S3 0 now s) (λ t. t.next.link ≡ Down → Unit {0}) (λ _. tt)
is_down_by s (Message head) now =
    let h : Session = heard (Message head) now s in
    if_settled
    now (effect_of (message_row h.link head h) (number_of (Message head)) now h) (IsDownIf s)
    (down_by_row (message_row h.link head h)
    (number_of (Message head)) now h (message_no_loss h.link head h))
is_down_by s Tick now = if_settled now (effect_of (tick_row s.link now s) 0 now s)
    (IsDownIf s) (down_by_row (tick_row s.link now s) 0 now s (tick_no_loss s.link now s))
is_down_by s End now = if_settled now (effect_of (end_row s.link) 0 now s)
    (IsDownIf s) (down_by_row (end_row s.link) 0 now s (end_no_loss s.link))

-- ---- Active comes by a good Logon

-- the row is none of a Logon that is accepted
abbrev IsNoLogon : Row → Type 0
IsNoLogon (S9 heart reset) = ⊥
IsNoLogon (S10 heart) = ⊥
IsNoLogon S11 = ⊥
IsNoLogon S12 = ⊥
IsNoLogon other = Unit {0}

stays_row : (r : Row) (n now : ℕ) (s : Session)
    → IsNoLogon r → (effect_of r n now s).next.link ≡ Active → s.link ≡ Active
stays_row S1 n now s fits e = absurd (cc e)
stays_row S2 n now s fits e = absurd (cc e)
stays_row S3 n now s fits e = absurd (cc e)
stays_row S5 n now s fits e = absurd (cc e)
stays_row (S6 tag) n now s fits e = absurd (cc e)
stays_row S8 n now s fits e = absurd (cc e)
stays_row (S9 heart reset) n now s fits e = absurd fits
stays_row (S10 heart) n now s fits e = absurd fits
stays_row S11 n now s fits e = absurd fits
stays_row S12 n now s fits e = absurd fits
stays_row S13 n now s fits e = absurd (cc e)
stays_row (S14 tag) n now s fits e = absurd (cc e)
stays_row (S15 reason) n now s fits e = absurd (cc e)
stays_row S19 n now s fits e = absurd (cc e)
stays_row S21 n now s fits e = absurd (cc e)
stays_row S30 n now s fits e = absurd (cc e)
stays_row S32 n now s fits e = absurd (cc e)
stays_row S33 n now s fits e = absurd (cc e)
stays_row S35 n now s fits e = absurd (cc e)
stays_row S36 n now s fits e = absurd (cc e)
stays_row other n now s fits e = e

tick_no_logon : (link : LinkState) (now : ℕ) (s : Session) → IsNoLogon (tick_row link now s)
tick_no_logon Down now s = tt
tick_no_logon Wait now s = elim (nat_lt LOGON_WAIT (elapsed now s.seen)) as (λ b.
    IsNoLogon (if b then S32 else Quiet)) [ true ↦ tt | false ↦ tt ]
tick_no_logon Asked now s = elim (nat_lt LOGON_WAIT (elapsed now s.seen)) as (λ b.
    IsNoLogon (if b then S32 else Quiet)) [ true ↦ tt | false ↦ tt ]
tick_no_logon Active now s = elim (is_unanswered s.tested now s.heart) as (λ b.
    IsNoLogon (if b then S33 else S34)) [ true ↦ tt | false ↦ tt ]

end_no_logon : (link : LinkState) → IsNoLogon (end_row link)
end_no_logon Down = tt
end_no_logon Wait = tt
end_no_logon Asked = tt
end_no_logon Active = tt

opened_no_logon : (side : Side) → IsNoLogon (opened_row side)
opened_no_logon Client = tt
opened_no_logon Venue = tt

-- what a Logon is that is accepted: whether it is fresh, and its number's place, are as they should
-- be
abbrev IsGood : What → Bool → Ordering → Type 0
IsGood w fresh place = (heart : ℕ) × (reset : Bool)
    × (w ≡ what.Logon heart reset) × (place ≡ Less → ⊥) × (reset ≡ true → fresh ≡ true)

good : (link : LinkState) (w : What)
    (fresh : Bool) (place : Ordering) (dup : Bool) (n now : ℕ) (s : Session) → (s.link ≡ Active → ⊥)
    → (effect_of (logon_row link w fresh place dup) n now s).next.link ≡ Active
    → IsGood w fresh place
good link (what.BadLogon tag) fresh place dup n now s a e = absurd (cc e)
good link (what.Logon heart true) false place dup n now s a e = absurd (cc e)
good link (what.Logon heart true) true Less true n now s a e = absurd (a e)
good link (what.Logon heart true) true Less false n now s a e = absurd (cc e)
good link (what.Logon heart false) fresh Less true n now s a e = absurd (a e)
good link (what.Logon heart false) fresh Less false n now s a e = absurd (cc e)
good link (what.Logon heart true) true Equal dup n now s a e =
    (heart, true, refl, λ l. absurd (cc l), λ _. refl)
good link (what.Logon heart false) fresh Equal dup n now s a e =
    (heart, false, refl, λ l. absurd (cc l), λ f. absurd (cc f))
good link (what.Logon heart true) true Greater dup n now s a e =
    (heart, true, refl, λ l. absurd (cc l), λ _. refl)
good link (what.Logon heart false) fresh Greater dup n now s a e =
    (heart, false, refl, λ l. absurd (cc l), λ f. absurd (cc f))
good link other fresh place dup n now s a e = absurd (cc e)

not_less : (n expected : ℕ) → (nat_cmp n expected ≡ Less → ⊥) → expected ≤ n
not_less n expected fits =
    elim (nat_lt n expected) as (λ b. nat_lt n expected ≡ b → expected ≤ n) [
      | true ↦ λ h. absurd (fits (sym (nat_cmp_is n expected Less (ltb-true n expected h))))
      | false ↦
          λ h. ltb-false n expected h
    ] refl

abbrev IsAwaited : Session → Type 0
IsAwaited s = (s.link ≡ Wait) ⊎ (s.link ≡ Asked)

not_active : (s : Session) → IsAwaited s → s.link ≡ Active → ⊥
not_active s a e = elim a [ inl w ↦ absurd (cc (w, e)) | inr w ↦ absurd (cc (w, e)) ]

waits : (number comp time : Option ℕ) (w : What)
    (dup : Bool) (n now : ℕ) (s : Session) (head : Head) → head.number ≡ number → head.comp ≡ comp
    → head.time ≡ time → head.what ≡ w → IsAwaited s
    → (effect_of (waiting_case number comp time w dup s) n now s).next.link ≡ Active
    → LogsOn s head
waits None comp time w dup n now s head numbered named timed is a e = absurd (cc e)
waits (Some m) (Some tag) time w dup n now s head numbered named timed is a e = absurd (cc e)
waits (Some m) None (Some reason) w dup n now s head numbered named timed is a e = absurd (cc e)
waits (Some m) None None w dup n now s head numbered named timed is a e =
    let g : IsGood w (is_fresh m s) (nat_cmp m s.numbers.next_in) =
    good s.link w (is_fresh m s) (nat_cmp m s.numbers.next_in) dup n now s (not_active s a) e in
    record {
      n = m;
      heart = g.0;
      reset = g.1;
      awaited = a;
      number = numbered;
      not_old = not_less m s.numbers.next_in g.3;
      comp = named;
      time = timed;
      what = is ∙ g.2;
      fresh = g.4;
    }

message_active : (link : LinkState) (head : Head) (now : ℕ) (s : Session) → s.link ≡ link
    → (effect_of (message_row link head s) (number_of (Message head)) now s).next.link ≡ Active
    → (s.link ≡ Active) ⊎ LogsOn s head
message_active Down head now s l e = inl e
message_active Wait head now s l e =
    inr (waits head.number head.comp head.time
    head.what head.dup (number_of (Message head)) now s head refl refl refl refl (inl l) e)
message_active Asked head now s l e =
    inr (waits head.number head.comp head.time
    head.what head.dup (number_of (Message head)) now s head refl refl refl refl (inr l) e)
message_active Active head now s l e = inl l

-- hearing changes nothing that a Logon is judged by
unheard : (s : Session) (head : Head) (now : ℕ)
    → LogsOn (heard (Message head) now s) head → LogsOn s head
unheard s head now l = record {
  n = l.n;
  heart = l.heart;
  reset = l.reset;
  awaited = l.awaited;
  number = l.number;
  not_old = l.not_old;
  comp = l.comp;
  time = l.time;
  what = l.what;
  fresh = l.fresh;
}

or_unheard : (s : Session) (head : Head) (now : ℕ) → (s.link ≡ Active)
    ⊎ LogsOn (heard (Message head) now s) head → (s.link ≡ Active) ⊎ LogsOn s head
or_unheard s head now either = elim either [ inl e ↦ inl e | inr l ↦ inr (unheard s head now l) ]

pub is_active_by : Always
    (λ s input now t. t.next.link ≡ Active → (s.link ≡ Active) ⊎ IsGoodLogon s input)
is_active_by s Opened now =
    if_settled now
    (effect_of (opened_row s.side) 0 now s) (λ t. t.next.link ≡ Active → (s.link ≡ Active) ⊎ ⊥)
    (λ e. inl (stays_row (opened_row s.side) 0 now s (opened_no_logon s.side) e))
is_active_by s Closed now = if_settled now
    (effect_of S3 0 now s) (λ t. t.next.link ≡ Active → (s.link ≡ Active) ⊎ ⊥) (λ e. absurd (cc e))
is_active_by s (Message head) now =
    let h : Session = heard (Message head) now s in
    if_settled now (effect_of (message_row h.link head h) (number_of (Message head)) now h)
    (λ t. t.next.link ≡ Active → (s.link ≡ Active) ⊎ LogsOn s head)
    (λ e. or_unheard s head now (message_active h.link head now h refl e))
is_active_by s Tick now =
    if_settled now (effect_of (tick_row s.link now s) 0 now s)
    (λ t. t.next.link ≡ Active → (s.link ≡ Active) ⊎ ⊥)
    (λ e. inl (stays_row (tick_row s.link now s) 0 now s (tick_no_logon s.link now s) e))
is_active_by s End now =
    if_settled
    now (effect_of (end_row s.link) 0 now s) (λ t. t.next.link ≡ Active → (s.link ≡ Active) ⊎ ⊥)
    (λ e. inl (stays_row (end_row s.link) 0 now s (end_no_logon s.link) e))

-- ---- the application gets its message, or the session ends

abbrev TakenOrEnds : List Act → Type 0
TakenOrEnds acts = list_any is_take acts ≡ true → (acts ≡ Take ∷ []) ⊎ Contains acts HangUp

early_expected : (dup : Bool) (n now : ℕ) (s : Session)
    → TakenOrEnds (effect_of (S23 dup) n now s).acts
early_expected dup n now s h =
    let none : list_any is_take (only (is_asked_for dup s.ask) (asking s)) ≡ false =
    only_other is_take (is_asked_for dup s.ask) (asking s) refl in absurd (cc (none, h))

numbered_expected : (w : What) (place : Ordering) (dup : Bool) (m n now : ℕ) (s : Session)
    → IsForApplication w
    → TakenOrEnds (effect_of (numbered_row w place dup m s.numbers.next_in) n now s).acts
numbered_expected what.App Less true m n now s a h = absurd (cc h)
numbered_expected what.App Less false m n now s a h = absurd (cc h)
numbered_expected what.App Greater dup m n now s a h = early_expected dup n now s h
numbered_expected what.App Equal dup m n now s a h = inl refl
numbered_expected what.Reject Less true m n now s a h = absurd (cc h)
numbered_expected what.Reject Less false m n now s a h = absurd (cc h)
numbered_expected what.Reject Greater dup m n now s a h = early_expected dup n now s h
numbered_expected what.Reject Equal dup m n now s a h = inl refl
numbered_expected other place dup m n now s a h = absurd a

-- a wrong head ends the session
ends_expected : (n : ℕ) (s : Session) (rejects : Act) (w : Why)
    → (take_or_skip n s ∷ rejects ∷ logout w ∷ HangUp ∷ [] ≡ Take ∷ [])
    ⊎ Contains (take_or_skip n s ∷ rejects ∷ logout w ∷ HangUp ∷ []) HangUp
ends_expected n s rejects w =
    let acts : List Act = rejects ∷ logout w ∷ HangUp ∷ []
    in inr (hangs_up (take_or_skip n s ∷ acts) (hangs_after n s acts (found_last rejects w)))
  where
    found_last : (a : Act) (w : Why) → list_any is_hang_up (a ∷ logout w ∷ HangUp ∷ []) ≡ true
    found_last (Say x) w = refl
    found_last Take w = refl
    found_last Skip w = refl
    found_last HangUp w = refl
    found_last (Resend from to) w = refl

active_expected : (number comp time : Option ℕ) (w : What) (dup : Bool) (n now : ℕ) (s : Session)
    → IsForApplication w
    → TakenOrEnds (effect_of (active_case number comp time w dup s) n now s).acts
active_expected None comp time w dup n now s a h = absurd (cc h)
active_expected (Some m) (Some tag) time w dup n now s a h =
    ends_expected n s (reject tag COMP_ID_PROBLEM) why.CompId
active_expected (Some m) None (Some reason) w dup n now s a h =
    ends_expected n s (reject SENDING_TIME reason) why.Clock
active_expected (Some m) None None w dup n now s a h =
    numbered_expected w (nat_cmp m s.numbers.next_in) dup m n now s a h

waiting_expected : (number comp time : Option ℕ) (w : What) (dup : Bool) (n now : ℕ) (s : Session)
    → IsForApplication w
    → TakenOrEnds (effect_of (waiting_case number comp time w dup s) n now s).acts
waiting_expected None comp time w dup n now s a h = absurd (cc h)
waiting_expected (Some m) (Some tag) time w dup n now s a h = absurd (cc h)
waiting_expected (Some m) None (Some reason) w dup n now s a h = absurd (cc h)
waiting_expected (Some m) None None what.App dup n now s a h = absurd (cc h)
waiting_expected (Some m) None None what.Reject dup n now s a h = absurd (cc h)
waiting_expected (Some m) None None other dup n now s a h = absurd a

message_expected : (link : LinkState) (head : Head) (now : ℕ) (s : Session)
    → IsForApplication head.what
    → TakenOrEnds (effect_of (message_row link head s) (number_of (Message head)) now s).acts
message_expected Down head now s a h = absurd (cc h)
message_expected Wait head now s a h = waiting_expected
    head.number head.comp head.time head.what head.dup (number_of (Message head)) now s a h
message_expected Asked head now s a h = waiting_expected
    head.number head.comp head.time head.what head.dup (number_of (Message head)) now s a h
message_expected Active head now s a h = active_expected
    head.number head.comp head.time head.what head.dup (number_of (Message head)) now s a h

abbrev TakesOnly : Input → Step → Type 0
TakesOnly input t =
    IsOfApplication input → Contains t.acts Take → (t.acts ≡ Take ∷ []) ⊎ Contains t.acts HangUp

pub taken_or_ends : Always (λ s input now t. IsOfApplication input
    → Contains t.acts Take → (t.acts ≡ Take ∷ []) ⊎ Contains t.acts HangUp)
taken_or_ends s (Message head) now =
    let h : Session = heard (Message head) now s in
    if_settled now (effect_of (message_row h.link head h) (number_of (Message head)) now h)
    (TakesOnly (Message head))
    (λ a c. message_expected h.link head now h a (found is_take _ Take refl c))
taken_or_ends s Opened now =
    if_settled now (effect_of (opened_row s.side) 0 now s) (TakesOnly Opened) (λ a. absurd a)
taken_or_ends s Closed now =
    if_settled now (effect_of S3 0 now s) (TakesOnly Closed) (λ a. absurd a)
taken_or_ends s Tick now =
    if_settled now (effect_of (tick_row s.link now s) 0 now s) (TakesOnly Tick) (λ a. absurd a)
taken_or_ends s End now =
    if_settled now (effect_of (end_row s.link) 0 now s) (TakesOnly End) (λ a. absurd a)

-- ---- what holds of each act of a step

abbrev Each : (Act → Type 0) → List Act → Type 0
Each P [] = Unit {0}
Each P (act ∷ acts) = P act × Each P acts

all_of : (P : Act → Type 0) (acts : List Act) → Each P acts → All P acts
all_of P [] h = All-nil P
all_of P (act ∷ acts) h = All-cons P act acts h.0 (all_of P acts h.1)

-- what may be sent again to a session that knew this much of a message, and what may be rejected in
-- it
abbrev MayDo : Session → Head → Act → Type 0
MayDo s head (Resend from to) =
    (1 ≤ s.numbers.next_out) → AsksFrom head.what from × (to < s.numbers.next_out)
MayDo s head (Say (admin.Reject tag reason)) = RejectsFor head tag reason
MayDo s head other = Unit {0}

may_take_or_skip : (n : ℕ) (s : Session) (head : Head) (acts : List Act)
    → Each (MayDo s head) acts → Each (MayDo s head) (take_or_skip n s ∷ acts)
may_take_or_skip n s head acts h = elim (n == s.numbers.next_in) as (λ b.
    Each (MayDo s head) ((if b then Take else Skip) ∷ acts)) [ true ↦ (tt, h) | false ↦ (tt, h) ]

may_ask : (b : Bool) (s : Session) (head : Head) → Each (MayDo s head) (only b (asking s))
may_ask true s head = (tt, tt)
may_ask false s head = tt

may_tick : (x y z : Bool) (s : Session) (head : Head) → Each (MayDo s head)
    (only x (Say admin.TestRequest) ++ only y (Say (admin.Heartbeat false)) ++ only z (asking s))
may_tick true true true s head = (tt, (tt, (tt, tt)))
may_tick true true false s head = (tt, (tt, tt))
may_tick true false true s head = (tt, (tt, tt))
may_tick true false false s head = (tt, tt)
may_tick false true true s head = (tt, (tt, tt))
may_tick false true false s head = (tt, tt)
may_tick false false true s head = (tt, tt)
may_tick false false false s head = tt

ends_before : (to : ℕ) (s : Session) → 1 ≤ s.numbers.next_out → resend_end to s < s.numbers.next_out
ends_before to s h =
    elim (to == 0) as (λ b. (if b then s.numbers.next_out - 1 else min to (s.numbers.next_out - 1))
    < s.numbers.next_out)
    [ true ↦ before s.numbers.next_out h | false ↦ below to s.numbers.next_out h ]
  where
    before : (n : ℕ) → 1 ≤ n → n - 1 < n
    before n h = omega arith

    below : (to n : ℕ) → 1 ≤ n → min to (n - 1) < n
    below to n h = omega arith

may_resend : (from to : ℕ) (s : Session) (head : Head)
    → head.what ≡ what.ResendRequest from to → MayDo s head (Resend from (resend_end to s))
may_resend from to s head is h = (subst (λ w. AsksFrom w from) (sym is) refl, ends_before to s h)

may_row : (r : Row) (now : ℕ) (s : Session) (head : Head) → Premise r s.numbers.next_in head
    → Each (MayDo s head) (effect_of r (number_of (Message head)) now s).acts
may_row S1 now s head p = tt
may_row S2 now s head p = (tt, tt)
may_row S3 now s head p = tt
may_row (S4 true) now s head p = (tt, tt)
may_row (S4 false) now s head p = tt
may_row S5 now s head p = (tt, tt)
may_row (S6 tag) now s head p = may_take_or_skip
    (number_of (Message head)) s head (logout (why.Logon tag) ∷ HangUp ∷ []) (tt, (tt, tt))
may_row S7 now s head p = (tt, tt)
may_row S8 now s head p = (tt, (tt, (tt, tt)))
may_row (S9 heart reset) now s head p = (tt, (tt, tt))
may_row (S10 heart) now s head p = (tt, (tt, (tt, tt)))
may_row S11 now s head p = (tt, tt)
may_row S12 now s head p = (tt, (tt, tt))
may_row S13 now s head p = (tt, (tt, (tt, tt)))
may_row (S14 tag) now s head p =
    may_take_or_skip (number_of (Message head)) s head (reject tag COMP_ID_PROBLEM
    ∷ logout why.CompId ∷ HangUp ∷ []) (inl (p.2, refl), (tt, (tt, tt)))
may_row (S15 reason) now s head p =
    may_take_or_skip (number_of (Message head)) s head (reject SENDING_TIME reason
    ∷ logout why.Clock ∷ HangUp ∷ []) (inr (inl (refl, p.2)), (tt, (tt, tt)))
may_row (S16 to) now s head p = (tt, tt)
may_row S17 now s head p = (tt, (inr (inr (inl (refl, p))), tt))
may_row (S18 reason) now s head p = (tt, (inr (inr (inl (refl, p))), tt))
may_row S19 now s head p = (tt, (tt, (tt, tt)))
may_row S20 now s head p = (tt, tt)
may_row S21 now s head p = (tt, (tt, (tt, tt)))
may_row (S22 from to dup) now s head p =
    (tt, (may_resend from to s head p, may_ask (is_asked_for dup s.ask) s head))
may_row (S23 dup) now s head p = (tt, may_ask (is_asked_for dup s.ask) s head)
may_row S24 now s head p = (tt, tt)
may_row S25 now s head p = (tt, (tt, tt))
may_row (S26 from to) now s head p = (tt, (may_resend from to s head p.1, tt))
may_row (S27 to) now s head p = (tt, tt)
may_row S28 now s head p = (tt, (inr (inr (inl (refl, p.1))), tt))
may_row (S29 tag reason) now s head p =
    (tt, (inr (inr (inr (subst (λ w. FaultOf w tag reason) (sym p.1) (refl, refl)))), tt))
may_row S30 now s head p = (tt, (tt, (tt, tt)))
may_row S31 now s head p = (tt, tt)
may_row S32 now s head p = (tt, tt)
may_row S33 now s head p = (tt, tt)
may_row S34 now s head p =
    may_tick (is_test_due now s) (is_heartbeat_due now s) (is_ask_due s.ask now s.heart) s head
may_row Quiet now s head p = tt
may_row S35 now s head p = (tt, (tt, tt))
may_row S36 now s head p = (tt, tt)

may_each : (r : Row) (now : ℕ) (s : Session) (head : Head) (act : Act)
    → Premise r s.numbers.next_in head
    → Contains (effect_of r (number_of (Message head)) now s).acts act → MayDo s head act
may_each r now s head act p c =
    let acts : List Act = (effect_of r (number_of (Message head)) now s).acts in
    All-contains (MayDo s head) acts act (all_of (MayDo s head) acts (may_row r now s head p)) c

-- of an input that is fits message nothing is sent again, and nothing is rejected
none_resent : (s : Session) (from to : ℕ)
    → 1 ≤ s.numbers.next_out → MayDo s no_message (Resend from to) → ⊥
none_resent s from to h may = let m : ⊥ × (to < s.numbers.next_out) = may h in m.0

none_rejected : (s : Session) (tag reason : ℕ)
    → MayDo s no_message (Say (admin.Reject tag reason)) → ⊥
none_rejected s tag reason may =
    elim may [ inl named ↦ absurd (cc named.0) | inr other ↦ rest other ]
  where
    last : (((tag ≡ NEW_SEQ_NO) × ⊥) ⊎ ⊥) → ⊥
    last h = elim h [ inl reset ↦ reset.1 | inr fault ↦ fault ]

    rest : (((tag ≡ SENDING_TIME) × (None ≡ Some reason)) ⊎ ((tag ≡ NEW_SEQ_NO) × ⊥) ⊎ ⊥) → ⊥
    rest h = elim h [ inl timed ↦ absurd (cc timed.1) | inr other ↦ last other ]

abbrev ResendsGiven : Session → Input → Step → Type 0
ResendsGiven s input t = (from : ℕ) (to : ℕ) → Contains t.acts (Resend from to)
    → 1 ≤ s.numbers.next_out → IsRequestFrom input from × (to < s.numbers.next_out)

no_resend : (r : Row) (now : ℕ) (s : Session) → Premise r s.numbers.next_in no_message
    → (from to : ℕ) → Contains (effect_of r 0 now s).acts (Resend from to)
    → 1 ≤ s.numbers.next_out → ⊥
no_resend r now s p from to c h =
    none_resent s from to h (may_each r now s no_message (Resend from to) p c)

pub resends_given : Always (λ s input now t. (from : ℕ) (to : ℕ)
    → Contains t.acts (Resend from to) → 1 ≤ s.numbers.next_out
    → IsRequestFrom input from × (to < s.numbers.next_out))
resends_given s Opened now =
    if_settled now (effect_of (opened_row s.side) 0 now s) (ResendsGiven s Opened)
    (λ from to c h. absurd
    (no_resend (opened_row s.side) now s (opened_premise s.side s.numbers.next_in) from to c h))
resends_given s Closed now = if_settled now (effect_of S3 0 now s)
    (ResendsGiven s Closed) (λ from to c h. absurd (no_resend S3 now s tt from to c h))
resends_given s (Message head) now =
    let k : Session = heard (Message head) now s in
    if_settled now (effect_of (message_row k.link head k) (number_of (Message head)) now k)
    (ResendsGiven s (Message head))
    (λ from to c h. may_each
    (message_row k.link head k) now k head (Resend from to) (message_premise k.link head k) c h)
resends_given s Tick now =
    if_settled now (effect_of (tick_row s.link now s) 0 now s) (ResendsGiven s Tick)
    (λ from to c h.
    absurd (no_resend (tick_row s.link now s) now s (tick_premise s.link now s) from to c h))
resends_given s End now =
    if_settled now (effect_of (end_row s.link) 0 now s) (ResendsGiven s End)
    (λ from to c h. absurd
    (no_resend (end_row s.link) now s (end_premise s.link s.numbers.next_in) from to c h))

abbrev RejectsWell : Input → Step → Type 0
RejectsWell input t = (tag : ℕ) (reason : ℕ)
    → Contains t.acts (Say (admin.Reject tag reason)) → IsRejectedFor input tag reason

no_reject : (r : Row) (now : ℕ) (s : Session) → Premise r s.numbers.next_in no_message
    → (tag reason : ℕ) → Contains (effect_of r 0 now s).acts (Say (admin.Reject tag reason)) → ⊥
no_reject r now s p tag reason c =
    none_rejected s tag reason (may_each r now s no_message (Say (admin.Reject tag reason)) p c)

pub rejects_well : Always (λ s input now t. (tag : ℕ) (reason : ℕ)
    → Contains t.acts (Say (admin.Reject tag reason)) → IsRejectedFor input tag reason)
rejects_well s Opened now =
    if_settled now (effect_of (opened_row s.side) 0 now s) (RejectsWell Opened)
    (no_reject (opened_row s.side) now s (opened_premise s.side s.numbers.next_in))
rejects_well s Closed now =
    if_settled now (effect_of S3 0 now s) (RejectsWell Closed) (no_reject S3 now s tt)
rejects_well s (Message head) now =
    let k : Session = heard (Message head) now s in
    if_settled now (effect_of (message_row k.link head k) (number_of (Message head)) now k)
    (RejectsWell (Message head))
    (λ tag reason c. may_each (message_row k.link head k)
    now k head (Say (admin.Reject tag reason)) (message_premise k.link head k) c)
rejects_well s Tick now =
    if_settled now (effect_of (tick_row s.link now s) 0 now s)
    (RejectsWell Tick) (no_reject (tick_row s.link now s) now s (tick_premise s.link now s))
rejects_well s End now =
    if_settled now (effect_of (end_row s.link) 0 now s)
    (RejectsWell End) (no_reject (end_row s.link) now s (end_premise s.link s.numbers.next_in))
