-- A Heartbeat with a TestReqID(112) answers a TestRequest alone, whose TestReqID is no longer than
-- a text may be.
use Rattle.std.proofs.Common.{◌≡◌, ℕ, ◌≤◌, ◌==◌, Bool, true, false, List, [], ◌∷◌, ◌++◌}
use Rattle.std.proofs.Common.{length, Option, Some, None, refl, sym, ap, subst, ◌∙◌, arith, codes}
use Rattle.std.proofs.Common.{unwrap_or, if◌then◌else◌, Ok, Err, nat_lt, nat_le}
use Rattle.std.specs.Prelude.{Result}
use Rattle.std.specs.Str.{bytes_eq}
use Rattle.std.proofs.lemmas.Bool.{leb-true}
use Rattle.std.specs.declared.cmp.Ordering.{Ordering}
use Rattle.std.specs.declared.cmp.Ordering.TheVariants.{Less, Equal, Greater}
use Rattle.std.specs.Ordering.{nat_cmp}
use Rattle.order_meaning.specs.declared.Side.{Side}
use Rattle.field_groups.specs.Field.{Field}
use Rattle.message_tables.specs.Tables.{value_at}
use Rattle.session_core.specs.declared.session.LinkState.{LinkState}
use Rattle.session_core.specs.declared.session.LinkState.TheVariants.{Down, Wait, Asked, Active}
use Rattle.session_core.specs.declared.session.Session.{Session}
use Rattle.session_core.specs.declared.session.Step.{Step}
use Rattle.session_core.specs.declared.numbers.TheConstants.{MAX_MSG_SEQ_NUM, ALL_USED}
use Rattle.session_core.specs.declared.tag.TheConstants.{BEGIN_SEQ_NO, NEW_SEQ_NO, GAP_FILL_FLAG}
use Rattle.session_core.specs.declared.tag.TheConstants.{TEST_REQ_ID, SENDING_TIME}
use Rattle.session_core.specs.declared.head.Head.{Head}
use Rattle.session_core.specs.declared.head.What.{What}
use Rattle.session_core.specs.declared.head.What.TheVariants as what
use Rattle.session_core.specs.declared.act.Act.{Act}
use Rattle.session_core.specs.declared.act.Act.TheVariants.{Take, Skip, Say, Resend, HangUp}
use Rattle.session_core.specs.declared.act.Why.TheVariants as why
use Rattle.session_core.specs.declared.reason.TheConstants.{COMP_ID_PROBLEM}
use Rattle.session_core.specs.declared.act.Admin.TheVariants as admin
use Rattle.session_core.specs.Table.{Row, S4, S6, S14, S15, S16, S17, S22, S23, S25, S27, S28, S34}
use Rattle.session_core.specs.Table.{effect_of, only, asking, resend_end, is_asked_for, logout}
use Rattle.session_core.specs.Table.{reject}
use Rattle.session_core.specs.Table.{is_test_due, is_heartbeat_due, is_ask_due, early_row}
use Rattle.session_core.specs.Table.{expected_row, numbered_row, active_case, logon_row}
use Rattle.session_core.specs.Table.{waiting_case, message_row, is_fresh, Message, heard, step}
use Rattle.session_core.specs.Table.{settled, is_spent, says, does, counted, spent, number_of}
use Rattle.session_logon.specs.declared.logon.LogonFault.{LogonFault}
use Rattle.session_logon.specs.declared.logon.LogonFault.TheVariants.{Tag}
use Rattle.session_logon.specs.Logon.{is_yes, logon_of}
use Rattle.session_logon.specs.Head.{kind_of, resend_request_kind, end_kind, sequence_reset_kind}
use Rattle.session_logon.specs.Head.{test_request_kind, logon_kind}
use Rattle.session_logon.specs.Reasons.{required, read_between, text_fault, read_zero_or_from}
use Rattle.gateway_core.specs.Planning.{echoes, IsEcho}

-- ---- the one row

abbrev IsS25 : Row → Type 0
IsS25 S25 = Unit {0}
IsS25 other = ⊥

no_skip : (b : Bool) → echoes (only b Skip) ≡ false
no_skip true = refl
no_skip false = refl

not_either : (b : Bool) (acts : List Act) → echoes acts ≡ false
    → echoes ((if b then Take else Skip) ∷ acts) ≡ true → ⊥
not_either true acts none is = absurd (cc (none, is))
not_either false acts none is = absurd (cc (none, is))

asked_once : (b : Bool) (s : Session) → echoes (Skip ∷ only b (asking s)) ≡ false
asked_once true s = refl
asked_once false s = refl

asked_behind : (from to : ℕ) (b : Bool) (s : Session)
    → echoes (Skip ∷ Resend from to ∷ only b (asking s)) ≡ false
asked_behind from to true s = refl
asked_behind from to false s = refl

ticked : (x y z : Bool) (s : Session) → echoes (only x (Say admin.TestRequest)
    ++ only y (Say (admin.Heartbeat false)) ++ only z (asking s)) ≡ false
ticked true true true s = refl
ticked true true false s = refl
ticked true false true s = refl
ticked true false false s = refl
ticked false true true s = refl
ticked false true false s = refl
ticked false false true s = refl
ticked false false false s = refl

row_echoes : (r : Row) (n now : ℕ) (s : Session) → echoes (effect_of r n now s).acts ≡ true
    → IsS25 r
row_echoes S25 n now s is = tt
row_echoes (S4 skips) n now s is = absurd (cc (no_skip skips, is))
row_echoes (S6 tag) n now s is = absurd (not_either (n == s.numbers.next_in)
    (logout (why.Logon tag) ∷ HangUp ∷ []) refl is)
row_echoes (S14 tag) n now s is = absurd (not_either (n == s.numbers.next_in)
    (reject tag COMP_ID_PROBLEM ∷ logout why.CompId ∷ HangUp ∷ []) refl is)
row_echoes (S15 reason) n now s is = absurd (not_either (n == s.numbers.next_in)
    (reject SENDING_TIME reason ∷ logout why.Clock ∷ HangUp ∷ []) refl is)
row_echoes (S22 from to dup) n now s is =
    absurd (cc (asked_behind from (resend_end to s) (is_asked_for dup s.ask) s, is))
row_echoes (S23 dup) n now s is =
    absurd (cc (asked_once (is_asked_for dup s.ask) s, is))
row_echoes S34 n now s is = absurd (cc (
  ticked (is_test_due now s) (is_heartbeat_due now s)
      (is_ask_due s.ask now s.heart) s,
  is,
))
row_echoes other n now s is = absurd (cc is)

-- ---- where it is picked

expected_asks : (w : What) (n : ℕ) → IsS25 (expected_row w n) → w ≡ what.TestRequest
expected_asks what.TestRequest n is = refl
expected_asks (what.GapFill to) n is = absurd (by (nat_lt n to) is)
  where
    by : (b : Bool) → IsS25 (if b then S27 to else S28) → ⊥
    by true is = is
    by false is = is
expected_asks other n is = absurd is

early_asks : (w : What) (dup : Bool) → IsS25 (early_row w dup) → w ≡ what.TestRequest
early_asks (what.ResendRequest from to) dup is = absurd is
early_asks what.Logout dup is = absurd is
early_asks other dup is = absurd is

reset_asks : (b : Bool) (to : ℕ) → IsS25 (if b then S16 to else S17) → ⊥
reset_asks true to is = is
reset_asks false to is = is

numbered_asks : (w : What) (place : Ordering) (dup : Bool) (n expected : ℕ)
    → IsS25 (numbered_row w place dup n expected) → w ≡ what.TestRequest
numbered_asks (what.Reset to) place dup n expected is =
    absurd (reset_asks (nat_le expected to) to is)
numbered_asks (what.FaultyReset tag reason) place dup n expected is = absurd is
numbered_asks other Less false n expected is = absurd is
numbered_asks other Less true n expected is = absurd is
numbered_asks other Greater dup n expected is = early_asks other dup is
numbered_asks other Equal dup n expected is = expected_asks other n is

active_asks : (number comp time : Option ℕ) (w : What) (dup : Bool) (s : Session)
    → IsS25 (active_case number comp time w dup s) → w ≡ what.TestRequest
active_asks None comp time w dup s is = absurd is
active_asks (Some n) (Some tag) time w dup s is = absurd is
active_asks (Some n) None (Some reason) w dup s is = absurd is
active_asks (Some n) None None w dup s is =
    numbered_asks w (nat_cmp n s.numbers.next_in) dup n s.numbers.next_in is

logon_asks : (link : LinkState) (w : What) (fresh : Bool) (place : Ordering) (dup : Bool)
    → IsS25 (logon_row link w fresh place dup) → ⊥
logon_asks link (what.BadLogon tag) fresh place dup is = is
logon_asks link (what.Logon heart true) false place dup is = is
logon_asks link (what.Logon heart true) true Less true is = is
logon_asks link (what.Logon heart true) true Less false is = is
logon_asks link (what.Logon heart false) fresh Less true is = is
logon_asks link (what.Logon heart false) fresh Less false is = is
logon_asks Wait (what.Logon heart true) true Equal dup is = is
logon_asks Wait (what.Logon heart false) fresh Equal dup is = is
logon_asks link (what.Logon heart true) true Equal dup is = is
logon_asks link (what.Logon heart false) fresh Equal dup is = is
logon_asks Wait (what.Logon heart true) true Greater dup is = is
logon_asks Wait (what.Logon heart false) fresh Greater dup is = is
logon_asks link (what.Logon heart true) true Greater dup is = is
logon_asks link (what.Logon heart false) fresh Greater dup is = is
logon_asks link other fresh place dup is = is

waiting_asks : (number comp time : Option ℕ) (w : What) (dup : Bool) (s : Session)
    → IsS25 (waiting_case number comp time w dup s) → ⊥
waiting_asks None comp time w dup s is = is
waiting_asks (Some n) (Some tag) time w dup s is = is
waiting_asks (Some n) None (Some reason) w dup s is = is
waiting_asks (Some n) None None w dup s is =
    logon_asks s.link w (is_fresh n s) (nat_cmp n s.numbers.next_in) dup is

message_asks : (link : LinkState) (head : Head) (s : Session)
    → IsS25 (message_row link head s) → head.what ≡ what.TestRequest
message_asks Down head s is = absurd is
message_asks Wait head s is =
    absurd (waiting_asks head.number head.comp head.time head.what head.dup s is)
message_asks Asked head s is =
    absurd (waiting_asks head.number head.comp head.time head.what head.dup s is)
message_asks Active head s is =
    active_asks head.number head.comp head.time head.what head.dup s is

-- the acts of a step are those of its row
settled_acts : (now : ℕ) (e t : Step) → settled now e ≡ Ok t → e.acts ≡ t.acts
settled_acts now e t is = by (is_spent e.next.numbers.next_out (says e.acts)) is
  where
    by : (b : Bool)
        → (if b then Err spent else Ok (does e.acts (counted now (says e.acts) e.next))) ≡ Ok t
        → e.acts ≡ t.acts
    by true is = absurd (cc is)
    by false is = let same : does e.acts (counted now (says e.acts) e.next) ≡ t = cc is in
        ap (λ (x : Step). x.acts) same

step_asks : (s : Session) (head : Head) (now : ℕ) (t : Step) → step s (Message head) now ≡ Ok t
    → echoes t.acts ≡ true → head.what ≡ what.TestRequest
step_asks s head now t is echo =
    let h : Session = heard (Message head) now s in
    let r : Row = message_row h.link head h in
    let e : Step = effect_of r (number_of (Message head)) now h in
    message_asks h.link head h (row_echoes r (number_of (Message head)) now h
    (ap echoes (settled_acts now e t is) ∙ echo))

-- ---- a TestRequest is one by its TestReqID(112)

-- a kind is no TestRequest, or the echo is short
abbrev Short : List ℕ → What → Type 0
Short echo what.TestRequest = length echo ≤ 2048
Short echo other = Unit {0}

end_short : (echo : List ℕ) (from : ℕ) (r : Result ℕ ℕ) → Short echo (end_kind from r)
end_short echo from (Ok to) = tt
end_short echo from (Err reason) = tt

asks_short : (echo : List ℕ) (r : Result ℕ ℕ) (fields : List Field)
    → Short echo (resend_request_kind r fields)
asks_short echo (Ok from) fields = end_short echo from
    (required (read_zero_or_from from) (value_at 16 fields))
asks_short echo (Err reason) fields = tt

logon_short : (echo : List ℕ) (r : Result (ℕ × Bool) LogonFault) → Short echo (logon_kind r)
logon_short echo (Ok said) = tt
logon_short echo (Err (Tag tag)) = tt

reset_short : (echo : List ℕ) (fills : Bool) (r : Result ℕ ℕ)
    → Short echo (sequence_reset_kind fills r)
reset_short echo true (Ok to) = tt
reset_short echo true (Err reason) = tt
reset_short echo false (Ok to) = tt
reset_short echo false (Err reason) = tt

test_short : (value : Option (List ℕ))
    → Short (unwrap_or value []) (test_request_kind (text_fault value))
test_short None = tt
test_short (Some value) = by (length value == 0) (nat_le (length value) 2048) refl
  where
    by : (a b : Bool) → nat_le (length value) 2048 ≡ b
        → Short value (test_request_kind (if a then Some 4 else (if b then None else Some 5)))
    by true b is = tt
    by false false is = tt
    by false true is = leb-true (length value) 2048 is

-- by the types, one after another
by_type : (echo : List ℕ) (a b c d e f g : Bool) (logon test asks reset : What)
    → Short echo logon → Short echo test → Short echo asks → Short echo reset
    → Short echo (if a then logon else (if b then what.Heartbeat else (if c then test
    else (if d then asks else (if e then what.Reject else (if f then reset
    else (if g then what.Logout else what.App)))))))
by_type echo true b c d e f g logon test asks reset one two three four = one
by_type echo false true c d e f g logon test asks reset one two three four = tt
by_type echo false false true d e f g logon test asks reset one two three four = two
by_type echo false false false true e f g logon test asks reset one two three four = three
by_type echo false false false false true f g logon test asks reset one two three four = tt
by_type echo false false false false false true g logon test asks reset one two three four = four
by_type echo false false false false false false true logon test asks reset one two three four =
    tt
by_type echo false false false false false false false logon test asks reset one two three four =
    tt

kind_short : (side : Side) (msg_type : List ℕ) (fields : List Field)
    → Short (unwrap_or (value_at TEST_REQ_ID fields) []) (kind_of side msg_type fields)
kind_short side msg_type fields =
    let echo : List ℕ = unwrap_or (value_at TEST_REQ_ID fields) [] in
    by_type echo (bytes_eq msg_type (codes "A")) (bytes_eq msg_type (codes "0"))
    (bytes_eq msg_type (codes "1")) (bytes_eq msg_type (codes "2")) (bytes_eq msg_type (codes "3"))
    (bytes_eq msg_type (codes "4")) (bytes_eq msg_type (codes "5"))
    (logon_kind (logon_of side fields))
    (test_request_kind (text_fault (value_at TEST_REQ_ID fields)))
    (resend_request_kind (required (read_between 1 MAX_MSG_SEQ_NUM) (value_at BEGIN_SEQ_NO fields))
    fields)
    (sequence_reset_kind (is_yes (value_at GAP_FILL_FLAG fields))
    (required (read_between 1 ALL_USED) (value_at NEW_SEQ_NO fields)))
    (logon_short echo (logon_of side fields)) (test_short (value_at TEST_REQ_ID fields))
    (asks_short echo (required (read_between 1 MAX_MSG_SEQ_NUM) (value_at BEGIN_SEQ_NO fields))
    fields)
    (reset_short echo (is_yes (value_at GAP_FILL_FLAG fields))
    (required (read_between 1 ALL_USED) (value_at NEW_SEQ_NO fields)))

fits : (echo : List ℕ) (w : What) → Short echo w → w ≡ what.TestRequest → IsEcho echo
fits echo w short is =
    let few : length echo ≤ 2048 = subst (Short echo) is short in omega (arith, few)

-- what a Heartbeat repeats fits its content
pub echo_fits : (side : Side) (msg_type : List ℕ) (fields : List Field) (s : Session) (head : Head)
    (now : ℕ) (t : Step) → head.what ≡ kind_of side msg_type fields
    → step s (Message head) now ≡ Ok t → echoes t.acts ≡ true
    → IsEcho (unwrap_or (value_at TEST_REQ_ID fields) [])
echo_fits side msg_type fields s head now t kind is echo =
    fits (unwrap_or (value_at TEST_REQ_ID fields) []) (kind_of side msg_type fields)
    (kind_short side msg_type fields) (sym kind ∙ step_asks s head now t is echo)
