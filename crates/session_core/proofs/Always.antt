-- The laws of the session table, each by its rows.
use Rattle.std.proofs.Common.{◌≡◌, ℕ, ◌≤◌, length, arith, ◌+◌, ◌==◌, ◌⊎◌, Bool, true, false, Some}
use Rattle.std.proofs.Common.{None, refl, nat_lt, nat_le, ap, ◌∙◌, sym, List, [], ◌∷◌, ◌++◌}
use Rattle.std.proofs.Common.{if◌then◌else◌, subst, IfOk, inl, inr, IsSome, is_none}
use Rattle.std.specs.List.{Contains, list_any, Any}
use Rattle.std.proofs.lemmas.List.Folds.{Any-from_list_any}
use Rattle.std.proofs.lemmas.Bool.{eqb-true}
use Rattle.std.specs.declared.option.Option.{Option}
use Rattle.std.specs.declared.cmp.Ordering.{Ordering}
use Rattle.std.specs.declared.cmp.Ordering.TheVariants.{Less, Equal, Greater}
use Rattle.std.specs.Ordering.{nat_cmp}
use Rattle.std.proofs.lemmas.Map.Lookups.{exact_unsigned}
use Rattle.session_core.specs.declared.tag.TheConstants.{SENDING_TIME}
use Rattle.session_core.specs.declared.reason.TheConstants.{COMP_ID_PROBLEM}
use Rattle.session_core.specs.declared.session.LinkState.{LinkState}
use Rattle.session_core.specs.declared.session.LinkState.TheVariants.{Down, Wait, Asked, Active}
use Rattle.session_core.specs.declared.session.Ask.{Ask}
use Rattle.session_core.specs.declared.session.Session.{Session}
use Rattle.session_core.specs.declared.session.Step.{Step}
use Rattle.session_core.specs.declared.head.Head.{Head}
use Rattle.session_core.specs.declared.head.What.{What}
use Rattle.session_core.specs.declared.head.What.TheVariants as what
use Rattle.session_core.specs.declared.act.Why.TheVariants as why
use Rattle.session_core.specs.declared.act.Admin.TheVariants as admin
use Rattle.session_core.specs.declared.act.Act.{Act}
use Rattle.session_core.specs.declared.act.Act.TheVariants.{Take, Skip, Say, HangUp}
use Rattle.session_core.specs.Table.{Opened, Closed, Message, Tick, End, Row, S3, S4, S5, S6, S8}
use Rattle.session_core.specs.Table.{S9, S11, S13, S14, S15, S16, S17, S19, S21, S22, S23, S24, S25}
use Rattle.session_core.specs.Table.{S26, S27, S28, S29, S30, S31, S32, S33, S34, S35, S36}
use Rattle.session_core.specs.Table.{number_of, message_row, waiting_case, opened_row, tick_row}
use Rattle.session_core.specs.Table.{end_row, effect_of, taken_or_skipped, take_or_skip, expects}
use Rattle.session_core.specs.Table.{counted, says, does, heard, step, numbered_row, early_row}
use Rattle.session_core.specs.Table.{expected_row, active_case, only, asking, logout, reject}
use Rattle.session_core.specs.Table.{is_asked_for, tick_acts, is_test_due, is_heartbeat_due}
use Rattle.session_core.specs.Table.{is_ask_due}
use Rattle.session_core.specs.Laws.{Always, IsExpected, ResetsFrom, IsReset, HangsUpAfterLogout}
use Rattle.session_core.specs.Laws.{AreInOrder, AreResendAndSays, AreSays, RaisesTo, SetsExpected}
use Rattle.session_core.specs.Laws.{IsForApplication}
use Rattle.session_core.proofs.Premise.{Premise, Numbered, number_of-Message, message_premise}
use Rattle.session_core.proofs.Kept.{if_settled}
use Rattle.session_core.proofs.ByRows.{no_message, opened_premise, tick_premise, end_premise}
use Rattle.session_core.proofs.ByRows.{by_rows, ByRows, found, only_other, tick_other}

-- ---- a message that is taken was expected

abbrev pub is_take : Act → Bool
is_take Take = true
is_take act = false

abbrev WasExpected : Session → Head → Type 0
WasExpected s head = Numbered s.numbers.next_in head ⊎ ResetsFrom s.numbers.next_in head.what

-- the number is the expected one where it is not passed over
taken_number : (n : ℕ) (s : Session)
    → list_any is_take (take_or_skip n s ∷ []) ≡ true → n ≡ s.numbers.next_in
taken_number n s h =
    elim (n == s.numbers.next_in) as (λ b. (n == s.numbers.next_in) ≡ b
    → list_any is_take ((if b then Take else Skip) ∷ []) ≡ true → n ≡ s.numbers.next_in)
    [ true ↦ λ e _. eqb-true n s.numbers.next_in e | false ↦ λ e h'. absurd (cc h') ] refl h

taken_head : (head : Head) (s : Session) → ((n : ℕ) × Numbered n head)
    → list_any is_take (take_or_skip (number_of (Message head)) s ∷ []) ≡ true → WasExpected s head
taken_head head s p h =
    let same : number_of (Message head) ≡ s.numbers.next_in =
    taken_number (number_of (Message head)) s h in
    inl (p.1 ∙ ap Some (sym (number_of-Message p.0 head p.1) ∙ same))

taken_row : (r : Row) (now : ℕ) (s : Session) (head : Head) → Premise r s.numbers.next_in head
    → list_any is_take (effect_of r (number_of (Message head)) now s).acts ≡ true
    → WasExpected s head
taken_row (S4 true) now s head p h = absurd (cc h)
taken_row (S4 false) now s head p h = absurd (cc h)
taken_row (S6 tag) now s head p h = taken_head head s p h
taken_row (S9 heart reset) now s head p h = inl p
taken_row S11 now s head p h = inl p
taken_row (S14 tag) now s head p h = taken_head head s (p.0, p.1) h
taken_row (S15 reason) now s head p h = taken_head head s (p.0, p.1) h
taken_row (S16 to) now s head p h = inr (subst (ResetsFrom s.numbers.next_in) (sym p.0) p.1)
taken_row (S22 from to dup) now s head p h =
    let none : list_any is_take (only (is_asked_for dup s.ask) (asking s)) ≡ false =
    only_other is_take (is_asked_for dup s.ask) (asking s) refl in absurd (cc (none, h))
taken_row (S23 dup) now s head p h =
    let none : list_any is_take (only (is_asked_for dup s.ask) (asking s)) ≡ false =
    only_other is_take (is_asked_for dup s.ask) (asking s) refl in absurd (cc (none, h))
taken_row S24 now s head p h = inl p
taken_row S25 now s head p h = inl p
taken_row (S26 from to) now s head p h = inl p.0
taken_row (S27 to) now s head p h = inl p.1
taken_row S28 now s head p h = inl p.0
taken_row (S29 tag reason) now s head p h = inl p.0
taken_row S30 now s head p h = inl p
taken_row S31 now s head p h = inl p
taken_row S34 now s head p h = let none : list_any is_take (tick_acts now s) ≡ false =
    tick_other is_take now s refl refl refl in absurd (cc (none, h))
taken_row other now s head p h = absurd (cc h)

-- where there is no message nothing is taken
none_taken : (s : Session) → WasExpected s no_message → ⊥
none_taken s h = elim h [ inl e ↦ absurd (cc e) | inr e ↦ e ]

pub takes_expected : Always
    (λ s input now t. Contains t.acts Take → IsExpected s input ⊎ IsReset s input)
takes_expected s Opened now =
    if_settled now (effect_of (opened_row s.side) 0 now s) (λ t. Contains t.acts Take → ⊥ ⊎ ⊥)
    (λ c. absurd (none_taken s (taken_row (opened_row s.side)
    now s no_message (opened_premise s.side s.numbers.next_in) (found is_take _ Take refl c))))
takes_expected s Closed now = if_settled now (effect_of S3 0 now s)
    (λ t. Contains t.acts Take → ⊥ ⊎ ⊥) (λ c. absurd (cc (found is_take [] Take refl c)))
takes_expected s (Message head) now =
    let h : Session = heard (Message head) now s in
    if_settled now (effect_of (message_row h.link head h) (number_of (Message head)) now h)
    (λ t. Contains t.acts Take → WasExpected s head)
    (λ c. taken_row (message_row h.link head h)
    now h head (message_premise h.link head h) (found is_take _ Take refl c))
takes_expected s Tick now =
    if_settled now (effect_of (tick_row s.link now s) 0 now s) (λ t. Contains t.acts Take → ⊥ ⊎ ⊥)
    (λ c. absurd (none_taken s (taken_row (tick_row s.link now s)
    now s no_message (tick_premise s.link now s) (found is_take _ Take refl c))))
takes_expected s End now =
    if_settled now (effect_of (end_row s.link) 0 now s) (λ t. Contains t.acts Take → ⊥ ⊎ ⊥)
    (λ c. absurd (none_taken s (taken_row (end_row s.link)
    now s no_message (end_premise s.link s.numbers.next_in) (found is_take _ Take refl c))))

-- ---- only a taken message counts

-- what the test finds stands in the list
take_found : (act : Act) → is_take act ≡ true → act ≡ Take
take_found Take h = refl
take_found other h = absurd (cc h)

is_found : (acts : List Act) → list_any is_take acts ≡ true → Contains acts Take
is_found acts h =
    let c : Any (λ act. is_take act ≡ true) acts = Any-from_list_any is_take acts h in
    let P : Act → Type 0 = Contains acts in
    subst P (take_found c.1 c.4) (c.0, c.2, c.3)

-- what does not stand in the list is not found
not_found : (acts : List Act) → ¬ Contains acts Take → list_any is_take acts ≡ false
not_found acts none = elim (list_any is_take acts) as (λ b. list_any is_take acts ≡ b → b ≡ false)
    [ true ↦ λ h. absurd (none (is_found acts h)) | false ↦ λ h. refl ] refl

taken_or_skipped-skipped : (n : ℕ) (s : Session) → list_any is_take (take_or_skip n s ∷ []) ≡ false
    → (taken_or_skipped n s).numbers.next_in ≡ s.numbers.next_in
taken_or_skipped-skipped n s =
    elim (n == s.numbers.next_in) as (λ b. list_any is_take ((if b then Take else Skip) ∷ [])
    ≡ false → (if b then expects (n + 1) s else s).numbers.next_in ≡ s.numbers.next_in)
    [ true ↦ λ h. absurd (cc h) | false ↦ λ h. refl ]

skipped_row : (r : Row) (n now : ℕ) (s : Session) → list_any is_take (effect_of r n now s).acts
    ≡ false → (effect_of r n now s).next.numbers.next_in ≡ s.numbers.next_in
skipped_row (S6 tag) n now s h = taken_or_skipped-skipped n s h
skipped_row (S9 heart reset) n now s h = absurd (cc h)
skipped_row S11 n now s h = absurd (cc h)
skipped_row (S14 tag) n now s h = taken_or_skipped-skipped n s h
skipped_row (S15 reason) n now s h = taken_or_skipped-skipped n s h
skipped_row (S16 to) n now s h = absurd (cc h)
skipped_row S24 n now s h = absurd (cc h)
skipped_row S25 n now s h = absurd (cc h)
skipped_row (S26 from to) n now s h = absurd (cc h)
skipped_row (S27 to) n now s h = absurd (cc h)
skipped_row S28 n now s h = absurd (cc h)
skipped_row (S29 tag reason) n now s h = absurd (cc h)
skipped_row S30 n now s h = absurd (cc h)
skipped_row S31 n now s h = absurd (cc h)
skipped_row other n now s h = refl

abbrev SkippedStays : Session → Step → Type 0
SkippedStays s t = ¬ Contains t.acts Take → t.next.numbers.next_in ≡ s.numbers.next_in

skipped_each : ByRows SkippedStays
skipped_each r now s head p none =
    skipped_row r (number_of (Message head))
    now s (not_found (effect_of r (number_of (Message head)) now s).acts none)

pub only_taken_counts : Always (λ s input now t. SkippedStays s t)
only_taken_counts s (Message head) now =
    by_rows (λ s n now t. SkippedStays s t) skipped_each s (Message head) now
only_taken_counts s other now = by_rows (λ s n now t. SkippedStays s t) skipped_each s other now

-- ---- a hang up ends

abbrev pub is_hang_up : Act → Bool
is_hang_up HangUp = true
is_hang_up act = false

abbrev IsEnded : Session → Type 0
IsEnded s = (s.link ≡ Down) × (s.tested ≡ None) × (s.ask ≡ None)

ended_row : (r : Row) (n now sent : ℕ) (s : Session) → list_any is_hang_up
    (effect_of r n now s).acts ≡ true → IsEnded (counted now sent (effect_of r n now s).next)
ended_row S5 n now sent s h = (refl, refl, refl)
ended_row (S6 tag) n now sent s h = (refl, refl, refl)
ended_row S8 n now sent s h = (refl, refl, refl)
ended_row S13 n now sent s h = (refl, refl, refl)
ended_row (S14 tag) n now sent s h = (refl, refl, refl)
ended_row (S15 reason) n now sent s h = (refl, refl, refl)
ended_row S19 n now sent s h = (refl, refl, refl)
ended_row S21 n now sent s h = (refl, refl, refl)
ended_row S30 n now sent s h = (refl, refl, refl)
ended_row S32 n now sent s h = (refl, refl, refl)
ended_row S33 n now sent s h = (refl, refl, refl)
ended_row S35 n now sent s h = (refl, refl, refl)
ended_row S36 n now sent s h = (refl, refl, refl)
ended_row (S4 true) n now sent s h = absurd (cc h)
ended_row (S4 false) n now sent s h = absurd (cc h)
ended_row (S22 from to dup) n now sent s h =
    let none : list_any is_hang_up (only (is_asked_for dup s.ask) (asking s)) ≡ false =
    only_other is_hang_up (is_asked_for dup s.ask) (asking s) refl in absurd (cc (none, h))
ended_row (S23 dup) n now sent s h =
    let none : list_any is_hang_up (only (is_asked_for dup s.ask) (asking s)) ≡ false =
    only_other is_hang_up (is_asked_for dup s.ask) (asking s) refl in absurd (cc (none, h))
ended_row S34 n now sent s h =
    let none : list_any is_hang_up (tick_acts now s) ≡ false =
    tick_other is_hang_up now s refl refl refl in absurd (cc (none, h))
ended_row other n now sent s h = absurd (cc h)

abbrev Ends : Session → Step → Type 0
Ends s t = Contains t.acts HangUp → IsEnded t.next

ends_row : ByRows Ends
ends_row r now s head p c =
    let acts : List Act = (effect_of r (number_of (Message head)) now s).acts in
    ended_row r (number_of (Message head)) now (says acts) s (found is_hang_up acts HangUp refl c)

pub hang_up_ends : Always (λ s input now t. Contains t.acts HangUp
    → (t.next.link ≡ Down) × (t.next.tested ≡ None) × (t.next.ask ≡ None))
hang_up_ends s (Message head) now = by_rows (λ s n now t. Ends s t) ends_row s (Message head) now
hang_up_ends s other now = by_rows (λ s n now t. Ends s t) ends_row s other now

-- what three answers hold, each way
each_choice : (P : Bool → Bool → Bool → Type 0)
    → P true true true → P true true false → P true false true → P true false false
    → P false true true → P false true false → P false false true → P false false false
    → (x y z : Bool) → P x y z
each_choice P a b c d e f g h true true true = a
each_choice P a b c d e f g h true true false = b
each_choice P a b c d e f g h true false true = c
each_choice P a b c d e f g h true false false = d
each_choice P a b c d e f g h false true true = e
each_choice P a b c d e f g h false true false = f
each_choice P a b c d e f g h false false true = g
each_choice P a b c d e f g h false false false = h

-- what a tick says, as a test, a Heartbeat and a request are due
abbrev tick_says : Session → Bool → Bool → Bool → List Act
tick_says s x y z =
    only x (Say admin.TestRequest) ++ only y (Say (admin.Heartbeat false)) ++ only z (asking s)

-- ---- a Logout hangs up

logout_after : (n : ℕ) (s : Session) (acts : List Act)
    → HangsUpAfterLogout acts → HangsUpAfterLogout (take_or_skip n s ∷ acts)
logout_after n s acts h = elim (n == s.numbers.next_in) as (λ b.
    HangsUpAfterLogout ((if b then Take else Skip) ∷ acts)) [ true ↦ h | false ↦ h ]

only_asks : (b : Bool) (s : Session) → HangsUpAfterLogout (only b (asking s))
only_asks true s = tt
only_asks false s = tt

tick_logout : (now : ℕ) (s : Session) → HangsUpAfterLogout (tick_acts now s)
tick_logout now s =
    each_choice (λ x y z. HangsUpAfterLogout (tick_says s x y z)) tt tt tt tt tt tt tt tt
    (is_test_due now s) (is_heartbeat_due now s) (is_ask_due s.ask now s.heart)

abbrev HangsUp : Session → Step → Type 0
HangsUp s t = HangsUpAfterLogout t.acts

logout_row : ByRows HangsUp
logout_row (S4 true) now s head p = tt
logout_row (S4 false) now s head p = tt
logout_row (S6 tag) now s head p =
    logout_after (number_of (Message head)) s (logout (why.Logon tag) ∷ HangUp ∷ []) refl
logout_row S8 now s head p = refl
logout_row S13 now s head p = refl
logout_row (S14 tag) now s head p = logout_after
    (number_of (Message head)) s (reject tag COMP_ID_PROBLEM ∷ logout why.CompId ∷ HangUp ∷ []) refl
logout_row (S15 reason) now s head p = logout_after
    (number_of (Message head)) s (reject SENDING_TIME reason ∷ logout why.Clock ∷ HangUp ∷ []) refl
logout_row S19 now s head p = refl
logout_row S21 now s head p = refl
logout_row (S22 from to dup) now s head p = only_asks (is_asked_for dup s.ask) s
logout_row (S23 dup) now s head p = only_asks (is_asked_for dup s.ask) s
logout_row S30 now s head p = refl
logout_row S34 now s head p = tick_logout now s
logout_row S35 now s head p = refl
logout_row other now s head p = tt

pub logout_hangs_up : Always (λ s input now t. HangsUpAfterLogout t.acts)
logout_hangs_up s (Message head) now =
    by_rows (λ s n now t. HangsUp s t) logout_row s (Message head) now
logout_hangs_up s other now = by_rows (λ s n now t. HangsUp s t) logout_row s other now

-- ---- one request at a time

abbrev is_request : Act → Bool
is_request (Say (admin.ResendRequest from)) = true
is_request act = false

unasked : (s : Session) → is_none s.ask ≡ false
    → list_any is_request (only (is_asked_for false s.ask) (asking s)) ≡ false
unasked s unclosed = rw unclosed refl

early_request : (w : What) (n now : ℕ) (s : Session) → is_none s.ask ≡ false
    → list_any is_request (effect_of (early_row w false) n now s).acts ≡ false
early_request what.Logout n now s unclosed = refl
early_request (what.ResendRequest from to) n now s unclosed = unasked s unclosed
early_request other n now s unclosed = unasked s unclosed

expected_request : (w : What) (m n now : ℕ) (s : Session)
    → list_any is_request (effect_of (expected_row w m) n now s).acts ≡ false
expected_request (what.GapFill to) m n now s =
    elim (nat_lt m to) as (λ b. list_any is_request
    (effect_of (if b then S27 to else S28) n now s).acts ≡ false) [ true ↦ refl | false ↦ refl ]
expected_request other m n now s = refl

numbered_request : (w : What) (place : Ordering) (m n now : ℕ) (s : Session) → is_none s.ask ≡ false
    → list_any is_request (effect_of (numbered_row w place false m s.numbers.next_in) n now s).acts
    ≡ false
numbered_request (what.Reset to) place m n now s unclosed =
    elim (nat_le s.numbers.next_in to) as (λ b. list_any is_request
    (effect_of (if b then S16 to else S17) n now s).acts ≡ false) [ true ↦ refl | false ↦ refl ]
numbered_request (what.FaultyReset tag reason) place m n now s unclosed = refl
numbered_request other Less m n now s unclosed = refl
numbered_request other Greater m n now s unclosed = early_request other n now s unclosed
numbered_request other Equal m n now s unclosed = expected_request other m n now s

taken_no_request : (n : ℕ) (s : Session) → list_any is_request (take_or_skip n s ∷ []) ≡ false
taken_no_request n s = elim (n == s.numbers.next_in) as (λ b.
    list_any is_request ((if b then Take else Skip) ∷ []) ≡ false) [ true ↦ refl | false ↦ refl ]

active_request : (number comp time : Option ℕ) (w : What) (dup : Bool) (n now : ℕ) (s : Session)
    → dup ≡ false → is_none s.ask ≡ false
    → list_any is_request (effect_of (active_case number comp time w dup s) n now s).acts ≡ false
active_request None comp time w dup n now s first unclosed = refl
active_request (Some m) (Some tag) time w dup n now s first unclosed = taken_no_request n s
active_request (Some m) None (Some reason) w dup n now s first unclosed = taken_no_request n s
active_request (Some m) None None w dup n now s first unclosed =
    rw first (numbered_request w (nat_cmp m s.numbers.next_in) m n now s unclosed)

abbrev AsksForNothing : Step → Type 0
AsksForNothing t = (from : ℕ) → ¬ Contains t.acts (Say (admin.ResendRequest from))

asks_for_nothing : (t : Step) → list_any is_request t.acts ≡ false → AsksForNothing t
asks_for_nothing t none from c =
    let some : list_any is_request t.acts ≡ true =
    found is_request t.acts (Say (admin.ResendRequest from)) refl c in absurd (cc (none, some))

is_open : (ask : Option Ask) → IsSome ask → is_none ask ≡ false
is_open None h = absurd (cc h)
is_open (Some ask) h = refl

message_request : (link : LinkState) (head : Head) (now : ℕ) (s : Session)
    → link ≡ Active → head.dup ≡ false → is_none s.ask ≡ false
    → list_any is_request
    (effect_of (message_row link head s) (number_of (Message head)) now s).acts ≡ false
message_request link head now s active first unclosed =
    rw active (active_request head.number
    head.comp head.time head.what head.dup (number_of (Message head)) now s first unclosed)

pub one_request : (s : Session) (head : Head) (now : ℕ)
    → s.link ≡ Active → IsSome s.ask → head.dup ≡ false
    → IfOk (step s (Message head) now)
    (λ t. (from : ℕ) → ¬ Contains t.acts (Say (admin.ResendRequest from)))
one_request s head now active unclosed first =
    let h : Session = heard (Message head) now s in
    let t : Step = effect_of (message_row h.link head h) (number_of (Message head)) now h in
    if_settled now t AsksForNothing
    (asks_for_nothing (does t.acts (counted now (says t.acts) t.next))
    (message_request h.link head now h active first (is_open s.ask unclosed)))

-- ---- the acts stand in the order in which they are done

in_order_after : (n : ℕ) (s : Session) (acts : List Act)
    → AreResendAndSays acts → AreInOrder (take_or_skip n s ∷ acts)
in_order_after n s acts h = elim (n == s.numbers.next_in) as (λ b.
    AreInOrder ((if b then Take else Skip) ∷ acts)) [ true ↦ h | false ↦ h ]

asks_in_order : (b : Bool) (s : Session) → AreSays (only b (asking s))
asks_in_order true s = tt
asks_in_order false s = tt

asks_after_skip : (b : Bool) (s : Session) → AreResendAndSays (only b (asking s))
asks_after_skip true s = tt
asks_after_skip false s = tt

tick_in_order : (now : ℕ) (s : Session) → AreInOrder (tick_acts now s)
tick_in_order now s =
    each_choice (λ x y z. AreInOrder (tick_says s x y z)) tt tt tt tt tt tt tt tt
    (is_test_due now s) (is_heartbeat_due now s) (is_ask_due s.ask now s.heart)

abbrev InOrder : Session → Step → Type 0
InOrder s t = AreInOrder t.acts

in_order_row : ByRows InOrder
in_order_row (S4 true) now s head p = tt
in_order_row (S4 false) now s head p = tt
in_order_row (S6 tag) now s head p =
    in_order_after (number_of (Message head)) s (logout (why.Logon tag) ∷ HangUp ∷ []) tt
in_order_row (S14 tag) now s head p = in_order_after
    (number_of (Message head)) s (reject tag COMP_ID_PROBLEM ∷ logout why.CompId ∷ HangUp ∷ []) tt
in_order_row (S15 reason) now s head p = in_order_after
    (number_of (Message head)) s (reject SENDING_TIME reason ∷ logout why.Clock ∷ HangUp ∷ []) tt
in_order_row (S22 from to dup) now s head p = asks_in_order (is_asked_for dup s.ask) s
in_order_row (S23 dup) now s head p = asks_after_skip (is_asked_for dup s.ask) s
in_order_row S34 now s head p = tick_in_order now s
in_order_row other now s head p = tt

pub acts_in_order : Always (λ s input now t. AreInOrder t.acts)
acts_in_order s (Message head) now =
    by_rows (λ s n now t. InOrder s t) in_order_row s (Message head) now
acts_in_order s other now = by_rows (λ s n now t. InOrder s t) in_order_row s other now

-- ---- a taken message makes the expected number one more, or its NewSeqNo

one_more : (w : What) (expected next : ℕ) → next ≡ expected + 1 → RaisesTo w expected next
one_more (what.Reset to) expected next h = inr h
one_more (what.GapFill to) expected next h = inr h
one_more other expected next h = h

next_of : (head : Head) (expected : ℕ)
    → Numbered expected head → number_of (Message head) + 1 ≡ expected + 1
next_of head expected p = ap (λ m. m + 1) (number_of-Message expected head p)

taken_next : (n : ℕ) (s : Session) → list_any is_take (take_or_skip n s ∷ []) ≡ true
    → (taken_or_skipped n s).numbers.next_in ≡ s.numbers.next_in + 1
taken_next n s h =
    elim (n == s.numbers.next_in) as (λ b. (n == s.numbers.next_in) ≡ b
    → list_any is_take ((if b then Take else Skip) ∷ []) ≡ true
    → (if b then expects (n + 1) s else s).numbers.next_in ≡ s.numbers.next_in + 1) [
      | true ↦ λ e _. ap (λ m. m + 1) (eqb-true n s.numbers.next_in e)
      | false ↦
          λ e h'. absurd (cc h')
    ] refl h

counts_row : (r : Row) (now : ℕ) (s : Session) (head : Head) → Premise r s.numbers.next_in head
    → list_any is_take (effect_of r (number_of (Message head)) now s).acts ≡ true
    → RaisesTo head.what
    s.numbers.next_in (effect_of r (number_of (Message head)) now s).next.numbers.next_in
counts_row (S4 true) now s head p h = absurd (cc h)
counts_row (S4 false) now s head p h = absurd (cc h)
counts_row (S6 tag) now s head p h =
    one_more head.what s.numbers.next_in _ (taken_next (number_of (Message head)) s h)
counts_row (S9 heart reset) now s head p h =
    one_more head.what s.numbers.next_in _ (next_of head s.numbers.next_in p)
counts_row S11 now s head p h =
    one_more head.what s.numbers.next_in _ (next_of head s.numbers.next_in p)
counts_row (S14 tag) now s head p h =
    one_more head.what s.numbers.next_in _ (taken_next (number_of (Message head)) s h)
counts_row (S15 reason) now s head p h =
    one_more head.what s.numbers.next_in _ (taken_next (number_of (Message head)) s h)
counts_row (S16 to) now s head p h =
    subst (λ w. RaisesTo w s.numbers.next_in to) (sym p.0) (inl refl)
counts_row (S22 from to dup) now s head p h =
    let none : list_any is_take (only (is_asked_for dup s.ask) (asking s)) ≡ false =
    only_other is_take (is_asked_for dup s.ask) (asking s) refl in absurd (cc (none, h))
counts_row (S23 dup) now s head p h =
    let none : list_any is_take (only (is_asked_for dup s.ask) (asking s)) ≡ false =
    only_other is_take (is_asked_for dup s.ask) (asking s) refl in absurd (cc (none, h))
counts_row S24 now s head p h =
    one_more head.what s.numbers.next_in _ (next_of head s.numbers.next_in p)
counts_row S25 now s head p h =
    one_more head.what s.numbers.next_in _ (next_of head s.numbers.next_in p)
counts_row (S26 from to) now s head p h =
    one_more head.what s.numbers.next_in _ (next_of head s.numbers.next_in p.0)
counts_row (S27 to) now s head p h =
    subst (λ w. RaisesTo w s.numbers.next_in to) (sym p.0) (inl (refl, p.2))
counts_row S28 now s head p h =
    one_more head.what s.numbers.next_in _ (next_of head s.numbers.next_in p.0)
counts_row (S29 tag reason) now s head p h =
    one_more head.what s.numbers.next_in _ (next_of head s.numbers.next_in p.0)
counts_row S30 now s head p h =
    one_more head.what s.numbers.next_in _ (next_of head s.numbers.next_in p)
counts_row S31 now s head p h =
    one_more head.what s.numbers.next_in _ (next_of head s.numbers.next_in p)
counts_row S34 now s head p h = let none : list_any is_take (tick_acts now s) ≡ false =
    tick_other is_take now s refl refl refl in absurd (cc (none, h))
counts_row other now s head p h = absurd (cc h)

pub taken_counts : Always
    (λ s input now t. Contains t.acts Take → SetsExpected s input t.next.numbers.next_in)
taken_counts s Opened now =
    if_settled now (effect_of (opened_row s.side) 0 now s) (λ t. Contains t.acts Take → ⊥)
    (λ c. none_taken s (taken_row (opened_row s.side)
    now s no_message (opened_premise s.side s.numbers.next_in) (found is_take _ Take refl c)))
taken_counts s Closed now = if_settled now (effect_of S3 0 now s)
    (λ t. Contains t.acts Take → ⊥) (λ c. absurd (cc (found is_take [] Take refl c)))
taken_counts s (Message head) now =
    let h : Session = heard (Message head) now s in
    if_settled now (effect_of (message_row h.link head h) (number_of (Message head)) now h)
    (λ t. Contains t.acts Take → RaisesTo head.what s.numbers.next_in t.next.numbers.next_in)
    (λ c. counts_row (message_row h.link head h)
    now h head (message_premise h.link head h) (found is_take _ Take refl c))
taken_counts s Tick now =
    if_settled now (effect_of (tick_row s.link now s) 0 now s) (λ t. Contains t.acts Take → ⊥)
    (λ c. none_taken s (taken_row (tick_row s.link now s)
    now s no_message (tick_premise s.link now s) (found is_take _ Take refl c)))
taken_counts s End now =
    if_settled now (effect_of (end_row s.link) 0 now s) (λ t. Contains t.acts Take → ⊥)
    (λ c. none_taken s (taken_row (end_row s.link)
    now s no_message (end_premise s.link s.numbers.next_in) (found is_take _ Take refl c)))

-- ---- without a connection a message is passed over

skips_row : (link : LinkState) (head : Head) (now : ℕ) (s : Session) → link ≡ Down
    → (effect_of (message_row link head s) (number_of (Message head)) now s).acts ≡ Skip ∷ []
skips_row link head now s down = rw down refl

pub skips : (s : Session) (head : Head) (now : ℕ)
    → s.link ≡ Down → IfOk (step s (Message head) now) (λ t. t.acts ≡ Skip ∷ [])
skips s head now down =
    let h : Session = heard (Message head) now s in
    if_settled now (effect_of (message_row h.link head h) (number_of (Message head)) now h)
    (λ t. t.acts ≡ Skip ∷ []) (skips_row h.link head now h down)

-- ---- the application gets what was expected alone

place_of : (w : What) (place : Ordering) (dup : Bool) (m n now : ℕ) (s : Session)
    → IsForApplication w
    → (effect_of (numbered_row w place dup m s.numbers.next_in) n now s).acts ≡ Take ∷ []
    → place ≡ Equal
place_of what.App Less true m n now s a h = absurd (cc h)
place_of what.App Less false m n now s a h = absurd (cc h)
place_of what.App Greater dup m n now s a h = absurd (cc h)
place_of what.App Equal dup m n now s a h = refl
place_of what.Reject Less true m n now s a h = absurd (cc h)
place_of what.Reject Less false m n now s a h = absurd (cc h)
place_of what.Reject Greater dup m n now s a h = absurd (cc h)
place_of what.Reject Equal dup m n now s a h = refl
place_of other place dup m n now s a h = absurd a

active_expected : (number comp time : Option ℕ) (w : What) (dup : Bool) (n now : ℕ) (s : Session)
    → IsForApplication w
    → (effect_of (active_case number comp time w dup s) n now s).acts ≡ Take ∷ []
    → (comp ≡ None) × (time ≡ None) × (number ≡ Some s.numbers.next_in)
active_expected None comp time w dup n now s a h = absurd (cc h)
active_expected (Some m) (Some tag) time w dup n now s a h = absurd (cc h)
active_expected (Some m) None (Some reason) w dup n now s a h = absurd (cc h)
active_expected (Some m) None None w dup n now s a h =
    let at_it : nat_cmp m s.numbers.next_in ≡ Equal =
    place_of w (nat_cmp m s.numbers.next_in) dup m n now s a h in
    (refl, refl, ap Some (exact_unsigned m s.numbers.next_in at_it))

waiting_expected : (number comp time : Option ℕ) (w : What) (dup : Bool) (n now : ℕ) (s : Session)
    → IsForApplication w
    → (effect_of (waiting_case number comp time w dup s) n now s).acts ≡ Take ∷ [] → ⊥
waiting_expected None comp time w dup n now s a h = absurd (cc h)
waiting_expected (Some m) (Some tag) time w dup n now s a h = absurd (cc h)
waiting_expected (Some m) None (Some reason) w dup n now s a h = absurd (cc h)
waiting_expected (Some m) None None what.App dup n now s a h = absurd (cc h)
waiting_expected (Some m) None None what.Reject dup n now s a h = absurd (cc h)
waiting_expected (Some m) None None other dup n now s a h = absurd a

message_expected : (link : LinkState) (head : Head) (now : ℕ) (s : Session)
    → IsForApplication head.what
    → (effect_of (message_row link head s) (number_of (Message head)) now s).acts ≡ Take ∷ []
    → (link ≡ Active)
    × (head.comp ≡ None) × (head.time ≡ None) × (head.number ≡ Some s.numbers.next_in)
message_expected Down head now s a h = absurd (cc h)
message_expected Wait head now s a h = absurd (waiting_expected
    head.number head.comp head.time head.what head.dup (number_of (Message head)) now s a h)
message_expected Asked head now s a h = absurd (waiting_expected
    head.number head.comp head.time head.what head.dup (number_of (Message head)) now s a h)
message_expected Active head now s a h =
    let is : (head.comp ≡ None) × (head.time ≡ None) × (head.number ≡ Some s.numbers.next_in) =
    active_expected
    head.number head.comp head.time head.what head.dup (number_of (Message head)) now s a h in
    (refl, is.0, is.1, is.2)

pub was_expected : (s : Session) (head : Head) (now : ℕ) → IsForApplication head.what
    → IfOk (step s (Message head) now) (λ t. t.acts ≡ Take ∷ []
    → (s.link ≡ Active)
    × (head.comp ≡ None) × (head.time ≡ None) × (head.number ≡ Some s.numbers.next_in))
was_expected s head now a =
    let h : Session = heard (Message head) now s in
    if_settled now (effect_of (message_row h.link head h) (number_of (Message head)) now h)
    (λ t. t.acts ≡ Take ∷ [] → (s.link ≡ Active)
    × (head.comp ≡ None) × (head.time ≡ None) × (head.number ≡ Some s.numbers.next_in))
    (message_expected h.link head now h a)

-- ---- five acts at most

abbrev Few : Session → Step → Type 0
Few s t = length t.acts ≤ 5

few_ticks : (x y z : Bool) (s : Session) → length (only x (Say admin.TestRequest)
    ++ only y (Say (admin.Heartbeat false)) ++ only z (asking s)) ≤ 5
few_ticks true true true s = omega arith
few_ticks true true false s = omega arith
few_ticks true false true s = omega arith
few_ticks true false false s = omega arith
few_ticks false true true s = omega arith
few_ticks false true false s = omega arith
few_ticks false false true s = omega arith
few_ticks false false false s = omega arith

few_asks : (b : Bool) (s : Session) → length (only b (asking s)) ≤ 1
few_asks true s = omega arith
few_asks false s = omega arith

few_row : ByRows Few
few_row (S4 true) now s head p = omega arith
few_row (S4 false) now s head p = omega arith
few_row (S22 from to dup) now s head p = let few : length (only (is_asked_for dup s.ask) (asking s))
    ≤ 1 = few_asks (is_asked_for dup s.ask) s in omega arith
few_row (S23 dup) now s head p = let few : length (only (is_asked_for dup s.ask) (asking s)) ≤ 1 =
    few_asks (is_asked_for dup s.ask) s in omega arith
few_row S34 now s head p =
    few_ticks (is_test_due now s) (is_heartbeat_due now s) (is_ask_due s.ask now s.heart) s
few_row other now s head p = omega arith

pub five_acts : Always (λ s input now t. length t.acts ≤ 5)
five_acts s (Message head) now = by_rows (λ s n now t. Few s t) few_row s (Message head) now
five_acts s other now = by_rows (λ s n now t. Few s t) few_row s other now
