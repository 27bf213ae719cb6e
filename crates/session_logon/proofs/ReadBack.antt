-- What is written is read as it was meant.
use Rattle.std.proofs.Common.{◌≡◌, ℕ, ◌*◌, ◌≤◌, ◌==◌, ◌∙◌, Bool, true, false, List, [], ◌∷◌, ◌++◌}
use Rattle.std.proofs.Common.{Some, None, Ok, refl, ap, find, length, codes, nat_le, nat_eq, arith}
use Rattle.std.proofs.Common.{subst, if◌then◌else◌}
use Rattle.std.specs.declared.option.Option.{Option}
use Rattle.std.specs.Option.{option_map, option_or}
use Rattle.std.specs.Result.{result_ok}
use Rattle.std.specs.Fmt.{decimal, digits}
use Rattle.std.specs.Str.{bytes_eq}
use Rattle.std.proofs.Common.{eq-eqb}
use Rattle.std.proofs.lemmas.Bool.{le-leb, eqb-true}
use Rattle.std.proofs.lemmas.Fmt.{length-decimal-le}
use Rattle.std.proofs.lemmas.List.Folds.{find-append}
use Rattle.order_meaning.specs.declared.Side.{Side}
use Rattle.order_meaning.specs.declared.Side.TheVariants.{Client, Venue}
use Rattle.order_meaning.specs.declared.names.Names.{Names}
use Rattle.typed_fields.specs.declared.stamp.Stamp.{Stamp}
use Rattle.typed_fields.specs.Number.{read_number}
use Rattle.typed_fields.specs.Stamp.{stamp_text, IsStamp}
use Rattle.typed_fields.proofs.NumberLaws.{number_reads_back}
use Rattle.typed_fields.proofs.StampLaws.{fine_reads_back, stamp_reads_back}
use Rattle.field_groups.specs.Field.{Field}
use Rattle.session_core.specs.Numbers.{IsMsgSeqNum, IsNextNumber}
use Rattle.session_core.specs.declared.numbers.TheConstants.{MAX_MSG_SEQ_NUM, ALL_USED}
use Rattle.session_core.specs.declared.tag.TheConstants.{BEGIN_SEQ_NO, END_SEQ_NO, NEW_SEQ_NO, TEXT}
use Rattle.session_core.specs.declared.tag.TheConstants.{ENCRYPT_METHOD, HEART_BT_INT, TEST_REQ_ID}
use Rattle.session_core.specs.declared.tag.TheConstants.{GAP_FILL_FLAG, RESET_SEQ_NUM_FLAG}
use Rattle.session_core.specs.declared.tag.TheConstants.{DEFAULT_APPL_VER_ID}
use Rattle.session_core.specs.declared.tag.TheConstants.{MSG_TYPE, MSG_SEQ_NUM, POSS_DUP_FLAG}
use Rattle.session_core.specs.declared.tag.TheConstants.{SENDER_COMP_ID, SENDING_TIME}
use Rattle.session_core.specs.declared.tag.TheConstants.{TARGET_COMP_ID, POSS_RESEND}
use Rattle.session_core.specs.declared.tag.TheConstants.{ORIG_SENDING_TIME}
use Rattle.session_core.specs.declared.act.Admin.{Admin}
use Rattle.session_core.specs.declared.act.Admin.TheVariants as admin
use Rattle.session_core.specs.declared.head.Head.{Head}
use Rattle.session_core.specs.declared.head.What.{What}
use Rattle.session_core.specs.declared.head.What.TheVariants as what
use Rattle.session_logon.specs.declared.head.TheConstants.{SECOND}
use Rattle.session_logon.specs.declared.logon.TheConstants.{MAX_HEART}
use Rattle.session_logon.specs.declared.reasons.TheConstants.{MAX_TEXT}
use Rattle.session_core.specs.Reason.{session_reason, session_text}
use Rattle.message_tables.specs.Tables.{value_at}
use Rattle.session_logon.specs.Reasons.{required, read_between, text_fault}
use Rattle.session_logon.specs.Logon.{is_yes}
use Rattle.session_logon.specs.Head.{number_in, wrong_name, wrong_time, time_fault, distance}
use Rattle.session_logon.specs.Head.{kind_of, read_moment, test_request_kind}
use Rattle.session_logon.specs.Content.{type_of, fields_of, logon_fields, logout_fields}
use Rattle.session_logon.specs.Content.{logout_text, heartbeat_fields, test_request_fields}
use Rattle.session_logon.specs.Content.{resend_request_fields, rejected_fields, reason_fields}
use Rattle.session_logon.specs.Content.{reason_field, text_field, gap_fill_fields}
use Rattle.session_logon.specs.Laws.{Heading, header_fields, turned, meant, IsSayable, IsReadAs}

-- ---- values that are read back

-- a number within the bounds
between_back : (least greatest n : ℕ)
    → least ≤ n → n ≤ greatest → n ≤ 1000000000 → read_between least greatest (decimal n) ≡ Ok n
between_back least greatest n low high bound =
    let read : read_number (decimal n) ≡ Ok (record { value = n }) =
    number_reads_back (record { value = n }) bound in
    rw (read, le-leb least n low, le-leb n greatest high) refl

-- a text is itself
same_text : (xs : List ℕ) → bytes_eq xs xs ≡ true
same_text [] = refl
same_text (x ∷ xs) = rw (eq-eqb x x refl, same_text xs) refl

-- ---- the fields of the header, and what stands behind them

-- the test that a field has a tag
abbrev has : ℕ → Field → Bool
has tag field = field.0 == tag

-- no field of the header has this tag
header_lacks : (tag : ℕ) (side : Side) (names : Names)
    (msg_type : List ℕ) (number : ℕ) (dup resend : Bool) (sent : Stamp) (first : Option Stamp)
    → nat_eq MSG_TYPE tag ≡ false → nat_eq SENDER_COMP_ID tag ≡ false
    → nat_eq TARGET_COMP_ID tag ≡ false → nat_eq MSG_SEQ_NUM tag ≡ false
    → nat_eq POSS_DUP_FLAG tag ≡ false → nat_eq POSS_RESEND tag ≡ false
    → nat_eq SENDING_TIME tag ≡ false → nat_eq ORIG_SENDING_TIME tag ≡ false
    → find (has tag) (header_fields side names msg_type
    (record { number = number; dup = dup; resend = resend; sent = sent; first = first })) ≡ None
header_lacks tag side names msg_type number true true sent None a b c d e f g h =
    rw (a, b, c, d, e, f, g) refl
header_lacks tag side names msg_type number true true sent (Some x) a b c d e f g h =
    rw (a, b, c, d, e, f, g, h) refl
header_lacks tag side names msg_type number true false sent None a b c d e f g h =
    rw (a, b, c, d, e, g) refl
header_lacks tag side names msg_type number true false sent (Some x) a b c d e f g h =
    rw (a, b, c, d, e, g, h) refl
header_lacks tag side names msg_type number false true sent None a b c d e f g h =
    rw (a, b, c, d, f, g) refl
header_lacks tag side names msg_type number false true sent (Some x) a b c d e f g h =
    rw (a, b, c, d, f, g, h) refl
header_lacks tag side names msg_type number false false sent None a b c d e f g h =
    rw (a, b, c, d, g) refl
header_lacks tag side names msg_type number false false sent (Some x) a b c d e f g h =
    rw (a, b, c, d, g, h) refl

-- a tag that is none of the header's
abbrev IsOutside : ℕ → Type 0
IsOutside tag = (nat_eq MSG_TYPE tag ≡ false)
    × (nat_eq SENDER_COMP_ID tag ≡ false) × (nat_eq TARGET_COMP_ID tag ≡ false)
    × (nat_eq MSG_SEQ_NUM tag ≡ false)
    × (nat_eq POSS_DUP_FLAG tag ≡ false) × (nat_eq POSS_RESEND tag ≡ false)
    × (nat_eq SENDING_TIME tag ≡ false) × (nat_eq ORIG_SENDING_TIME tag ≡ false)

-- its first field is that of what stands behind the header
behind : (tag : ℕ) → IsOutside tag
    → (side : Side) (names : Names) (msg_type : List ℕ) (h : Heading) (content : List Field)
    → value_at tag (header_fields side names msg_type h ++ content) ≡ value_at tag content
behind tag o side names msg_type h content =
    let header : List Field = header_fields side names msg_type h in
    let lacks : find (has tag) header ≡ None =
    header_lacks tag side
    names msg_type h.number h.dup h.resend h.sent h.first o.0 o.1 o.2 o.3 o.4 o.5 o.6 o.7 in
    ap (λ f. option_map (λ x. x.1) f) (find-append (has tag) header content
    ∙ ap (λ f. option_or f (find (has tag) content)) lacks)

-- PossDupFlag(43) of the header, where nothing behind it has one
dup_back : (side : Side) (names : Names) (msg_type : List ℕ)
    (number : ℕ) (dup resend : Bool) (sent : Stamp) (first : Option Stamp) (content : List Field)
    → value_at POSS_DUP_FLAG content ≡ None
    → is_yes (value_at POSS_DUP_FLAG (header_fields side names msg_type (record {
      number = number;
      dup = dup;
      resend = resend;
      sent = sent;
      first = first;
    }) ++ content)) ≡ dup
dup_back side names msg_type number true resend sent first content none = refl
dup_back side names msg_type number false true sent None content none = rw none refl
dup_back side names msg_type number false true sent (Some x) content none = rw none refl
dup_back side names msg_type number false false sent None content none = rw none refl
dup_back side names msg_type number false false sent (Some x) content none = rw none refl

time_back : (side : Side) (names : Names) (msg_type : List ℕ)
    (number : ℕ) (dup resend : Bool) (sent : Stamp) (first : Option Stamp) (content : List Field)
    → value_at SENDING_TIME (header_fields side names msg_type (record {
      number = number;
      dup = dup;
      resend = resend;
      sent = sent;
      first = first;
    }) ++ content)
    ≡ Some (stamp_text sent)
time_back side names msg_type number true true sent first content = refl
time_back side names msg_type number true false sent first content = refl
time_back side names msg_type number false true sent first content = refl
time_back side names msg_type number false false sent first content = refl

-- ---- the head

abbrev made : Option ℕ → Bool → Option ℕ → Option ℕ → What → Head
made number dup comp time w =
    record { number = number; dup = dup; comp = comp; time = time; what = w }

same_head : (n m : Option ℕ) (d e : Bool) (c t : Option ℕ) (v w : What)
    → n ≡ m → d ≡ e → c ≡ None → t ≡ None → v ≡ w
    → made n d c t v ≡ made m e None None w
same_head n m d e c t v w p q r s u = cc

number_good : (n : ℕ) → IsMsgSeqNum n
    → result_ok (required (read_between 1 MAX_MSG_SEQ_NUM) (Some (decimal n))) ≡ Some n
number_good n is = rw (between_back 1 MAX_MSG_SEQ_NUM n is.0 is.1 (omega (arith, is.1))) refl

names_good : (side : Side) (names : Names) (msg_type : List ℕ) (h : Heading) (content : List Field)
    → wrong_name side (turned names) (header_fields side names msg_type h ++ content) ≡ None
names_good Client names msg_type h content =
    rw (same_text names.client_our, same_text names.client_peer) refl
names_good Venue names msg_type h content =
    rw (same_text names.venue_our, same_text names.venue_peer) refl

moment_back : (side : Side) (sent : Stamp) → IsStamp sent
    → read_moment side (stamp_text sent) ≡ Ok sent
moment_back Client sent is = stamp_reads_back sent is
moment_back Venue sent is = fine_reads_back sent is.fine

time_good : (side : Side) (window now : ℕ) (sent : Stamp) (value : Option (List ℕ))
    → IsStamp sent → distance now sent ≤ SECOND * window → value ≡ Some (stamp_text sent)
    → time_fault window now (required (read_moment side) value) ≡ None
time_good side window now sent value is near e =
    rw (e, moment_back side sent is, le-leb (distance now sent) (SECOND * window) near) refl

head_back : (side : Side) (msg_type : List ℕ) (content : List Field) (w : What)
    → value_at POSS_DUP_FLAG content ≡ None
    → ((names : Names) (h : Heading)
    → kind_of side msg_type (header_fields side names msg_type h ++ content) ≡ w)
    → IsReadAs side msg_type content w
head_back side msg_type content w none kind names window h now timely =
    let fields : List Field = header_fields side names msg_type h ++ content in
    same_head (number_in fields) (Some h.number) (is_yes (value_at POSS_DUP_FLAG fields)) h.dup
    (wrong_name side (turned names) fields)
    (wrong_time side window now fields) (kind_of side msg_type fields) w
    (number_good h.number timely.number)
    (dup_back side names msg_type h.number h.dup h.resend h.sent h.first content none)
    (names_good side names msg_type h content)
    (time_good side window now h.sent (value_at SENDING_TIME fields) timely.stamp timely.near
    (time_back side names msg_type h.number h.dup h.resend h.sent h.first content))
    (kind names h)

-- ---- the kinds

logon_good : (side : Side) (reset : Bool) (heart : ℕ) → heart ≤ MAX_HEART → (fields : List Field)
    → value_at ENCRYPT_METHOD fields ≡ value_at ENCRYPT_METHOD (logon_fields side reset heart)
    → value_at HEART_BT_INT fields ≡ value_at HEART_BT_INT (logon_fields side reset heart)
    → value_at DEFAULT_APPL_VER_ID fields
    ≡ value_at DEFAULT_APPL_VER_ID (logon_fields side reset heart)
    → value_at RESET_SEQ_NUM_FLAG fields
    ≡ value_at RESET_SEQ_NUM_FLAG (logon_fields side reset heart)
    → kind_of side (codes "A") fields ≡ meant side (admin.Logon reset) heart
logon_good Client true heart h fields a b c d =
    let read : read_between 0 MAX_HEART (decimal heart) ≡ Ok heart =
    between_back 0 MAX_HEART heart (omega arith) h (omega (arith, h)) in
    rw (a, b, read, d) refl
logon_good Client false heart h fields a b c d =
    let read : read_between 0 MAX_HEART (decimal heart) ≡ Ok heart =
    between_back 0 MAX_HEART heart (omega arith) h (omega (arith, h)) in
    rw (a, b, read, d) refl
logon_good Venue reset heart h fields a b c d =
    let read : read_between 0 MAX_HEART (decimal heart) ≡ Ok heart =
    between_back 0 MAX_HEART heart (omega arith) h (omega (arith, h)) in
    rw (a, b, read, c, d) refl

not_zero : (n : ℕ) → 1 ≤ n → nat_eq n 0 ≡ false
not_zero n h = elim (nat_eq n 0) as (λ b. nat_eq n 0 ≡ b → b ≡ false)
    [ true ↦ λ e. let z : n ≡ 0 = eqb-true n 0 e in absurd (omega arith) | false ↦ λ _. refl ] refl

text_good : (n : ℕ) → IsMsgSeqNum n → text_fault (Some (codes "T" ++ decimal n)) ≡ None
text_good n is =
    let short : length (decimal n) ≤ 10 =
    length-decimal-le 10 n (omega arith) (omega (arith, is.1)) (omega (arith, is.1)) in
    let small : nat_le (length (codes "T" ++ decimal n)) MAX_TEXT ≡ true =
    le-leb (length (codes "T" ++ decimal n)) MAX_TEXT (omega (arith, short)) in
    rw (not_zero (length (codes "T" ++ decimal n)) (omega arith), small) refl

test_good : (side : Side) (n : ℕ) → IsMsgSeqNum n
    → (fields : List Field) → value_at TEST_REQ_ID fields ≡ Some (codes "T" ++ decimal n)
    → kind_of side (codes "1") fields ≡ what.TestRequest
test_good side n is fields e = rw e (ap test_request_kind (text_good n is))

zero_back : read_number (codes "0") ≡ Ok (record { value = 0 })
unfolding digits
zero_back =
    let text : decimal 0 ≡ codes "0" = refl in
    let read : read_number (decimal 0) ≡ Ok (record { value = 0 }) =
    number_reads_back (record { value = 0 }) (omega arith) in
    subst (λ bytes. read_number bytes ≡ Ok (record { value = 0 })) text read

resend_good : (side : Side) (from : ℕ) → IsMsgSeqNum from
    → (fields : List Field) → value_at BEGIN_SEQ_NO fields ≡ Some (decimal from)
    → value_at END_SEQ_NO fields ≡ Some (codes "0")
    → kind_of side (codes "2") fields ≡ what.ResendRequest from 0
resend_good side from is fields a b =
    let read : read_between 1 MAX_MSG_SEQ_NUM (decimal from) ≡ Ok from =
    between_back 1 MAX_MSG_SEQ_NUM from is.0 is.1 (omega (arith, is.1)) in
    rw (a, read, b, zero_back) refl

gap_good : (side : Side) (to : ℕ)
    → IsNextNumber to → (fields : List Field) → value_at GAP_FILL_FLAG fields ≡ Some (codes "Y")
    → value_at NEW_SEQ_NO fields ≡ Some (decimal to)
    → kind_of side (codes "4") fields ≡ what.GapFill to
gap_good side to is fields a b =
    let read : read_between 1 ALL_USED (decimal to) ≡ Ok to =
    between_back 1 ALL_USED to is.0 is.1 is.1 in rw (a, b, read) refl

-- ---- what is said has no PossDupFlag(43) of its own

logon_undup : (side : Side) (reset : Bool) (heart : ℕ)
    → value_at POSS_DUP_FLAG (logon_fields side reset heart) ≡ None
logon_undup Client true heart = refl
logon_undup Client false heart = refl
logon_undup Venue reset heart = refl

logout_undup : (text : List ℕ) → value_at POSS_DUP_FLAG (logout_fields text) ≡ None
logout_undup text = elim (length text == 0) as (λ b. value_at
    POSS_DUP_FLAG (if b then [] else (TEXT, text) ∷ []) ≡ None) [ true ↦ refl | false ↦ refl ]

heartbeat_undup : (has : Bool) (echo : List ℕ)
    → value_at POSS_DUP_FLAG (heartbeat_fields has echo) ≡ None
heartbeat_undup true echo = refl
heartbeat_undup false echo = refl

text_undup : (text : Option (List ℕ)) → value_at POSS_DUP_FLAG (text_field text) ≡ None
text_undup None = refl
text_undup (Some text) = refl

reason_undup : (side : Side) (reason : ℕ)
    → value_at POSS_DUP_FLAG (reason_fields side reason) ≡ None
reason_undup side reason = here (session_reason side reason) (session_text side reason)
  where
    here : (number : Option ℕ) (text : Option (List ℕ))
        → value_at POSS_DUP_FLAG (reason_field number ++ text_field text) ≡ None
    here None text = text_undup text
    here (Some number) text = text_undup text

-- ---- each message

pub said_back : (side : Side) (a : Admin) (heart next_out number : ℕ) (msg_type echo : List ℕ)
    → IsSayable a heart next_out
    → IsReadAs
    side (type_of a) (fields_of side a heart next_out number msg_type echo) (meant side a heart)
said_back side (admin.Logon reset) heart next_out number msg_type echo is =
    let content : List Field = logon_fields side reset heart in
    head_back side
    (codes "A") content (meant side (admin.Logon reset) heart) (logon_undup side reset heart)
    (λ names h. logon_good side reset heart is (header_fields side names (codes "A") h ++ content)
    (behind ENCRYPT_METHOD
    (refl, refl, refl, refl, refl, refl, refl, refl) side names (codes "A") h content)
    (behind HEART_BT_INT
    (refl, refl, refl, refl, refl, refl, refl, refl) side names (codes "A") h content)
    (behind DEFAULT_APPL_VER_ID
    (refl, refl, refl, refl, refl, refl, refl, refl) side names (codes "A") h content)
    (behind RESET_SEQ_NUM_FLAG
    (refl, refl, refl, refl, refl, refl, refl, refl) side names (codes "A") h content))
said_back side (admin.Logout reason) heart next_out number msg_type echo is =
    head_back side (codes "5") (logout_fields (logout_text reason))
    what.Logout (logout_undup (logout_text reason)) (λ names h. refl)
said_back side (admin.Heartbeat has) heart next_out number msg_type echo is =
    head_back side (codes "0")
    (heartbeat_fields has echo) what.Heartbeat (heartbeat_undup has echo) (λ names h. refl)
said_back side admin.TestRequest heart next_out number msg_type echo is =
    let content : List Field = test_request_fields next_out in
    head_back side (codes "1") content what.TestRequest refl
    (λ names h. test_good side next_out is (header_fields side names (codes "1") h ++ content)
    (behind TEST_REQ_ID
    (refl, refl, refl, refl, refl, refl, refl, refl) side names (codes "1") h content))
said_back side (admin.ResendRequest from) heart next_out number msg_type echo is =
    let content : List Field = resend_request_fields from in
    head_back side (codes "2") content (what.ResendRequest from 0) refl
    (λ names h. resend_good side from is (header_fields side names (codes "2") h ++ content)
    (behind BEGIN_SEQ_NO
    (refl, refl, refl, refl, refl, refl, refl, refl) side names (codes "2") h content)
    (behind END_SEQ_NO
    (refl, refl, refl, refl, refl, refl, refl, refl) side names (codes "2") h content))
said_back side (admin.Reject tag reason) heart next_out number msg_type echo is =
    head_back side (codes "3") (rejected_fields tag number msg_type ++ reason_fields side reason)
    what.Reject (reason_undup side reason) (λ names h. refl)

pub gap_back : (side : Side) (to : ℕ)
    → IsNextNumber to → IsReadAs side (codes "4") (gap_fill_fields to) (what.GapFill to)
gap_back side to is =
    let content : List Field = gap_fill_fields to in
    head_back side (codes "4") content (what.GapFill to) refl
    (λ names h. gap_good side to is (header_fields side names (codes "4") h ++ content)
    (behind GAP_FILL_FLAG
    (refl, refl, refl, refl, refl, refl, refl, refl) side names (codes "4") h content)
    (behind NEW_SEQ_NO
    (refl, refl, refl, refl, refl, refl, refl, refl) side names (codes "4") h content))
