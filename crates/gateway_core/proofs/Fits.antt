-- What a session says may stand in an entry.
use Rattle.std.proofs.Common.{◌≡◌, ℕ, ◌+◌, ◌≤◌, ◌<◌, ◌^◌, Bool, true, false, List, [], ◌∷◌, ◌++◌}
use Rattle.std.proofs.Common.{length, codes, Option, Some, None, ap, refl, IfSome}
use Rattle.std.proofs.Common.{if◌then◌else◌, arith, length-append, lit≤, lit<}
use Rattle.std.specs.Prelude.{◌==◌}
use Rattle.std.specs.Fmt.{decimal, digits as decimal_digits}
use Rattle.std.proofs.lemmas.Fmt.{length-decimal-le}
use Rattle.std.proofs.lemmas.Grind.{flat_map-append}
use Rattle.std.proofs.lemmas.List.{length-take}
use Rattle.field_groups.specs.Field.{Field, field_bytes, body_of}
use Rattle.order_meaning.specs.declared.Side.{Side}
use Rattle.order_meaning.specs.declared.Side.TheVariants.{Client, Venue}
use Rattle.reject_rules.specs.Laws.{IsWord}
use Rattle.reject_rules.proofs.Lengths.{session_reason_word, session_text_len}
use Rattle.session_core.specs.declared.act.Admin.{Admin}
use Rattle.session_core.specs.declared.act.Admin.TheVariants as admin
use Rattle.session_core.specs.declared.act.Why.{Why}
use Rattle.session_core.specs.declared.act.Why.TheVariants as why
use Rattle.session_core.specs.Reason.{session_reason, session_text}
use Rattle.session_core.specs.Said.{ref_msg_type}
use Rattle.session_logon.specs.Content.{fields_of, logon_fields, logout_text}
use Rattle.session_logon.specs.Content.{reason_field, text_field}
use Rattle.session_logon.specs.Content.{type_of, said}
use Rattle.message_answers.specs.Seen.{IsFit}
use Rattle.gateway_core.specs.Planning.{HasWords, HasReasonWords, IsEcho}

digits : (n : ℕ) → n < 2 ^ 32 → length (decimal n) ≤ 10
digits n word = length-decimal-le 10 n (omega arith) (omega arith) (omega arith)

tag_digits : (tag : ℕ) → tag < 10_000 → length (decimal tag) ≤ 4
tag_digits tag small = length-decimal-le 4 tag (omega arith) (omega arith) (omega arith)

-- fields have at most so many bytes
record Bound (fields : List Field) (most : ℕ) : Type 0 where
  le : length (body_of fields) ≤ most

field_len : (tag : ℕ) (value : List ℕ) → tag < 10_000
    → length (field_bytes (tag, value)) ≤ length value + 6
unfolding field_bytes
field_len tag value small = omega (
  arith,
  tag_digits tag small,
  length-append (decimal tag ++ 61 ∷ value) (1 ∷ []),
  length-append (decimal tag) (61 ∷ value),
)

none : Bound [] 0
none = record { le = omega arith }

more : (tag : ℕ) (value : List ℕ) (most : ℕ) {fields : List Field} {n : ℕ} → tag < 10_000
    → length value ≤ most → Bound fields n → Bound ((tag, value) ∷ fields) (most + 6 + n)
more tag value most {fields} {n} small short rest = record {
  le = omega (
    arith,
    field_len tag value small,
    short,
    rest.le,
    length-append (field_bytes (tag, value)) (body_of fields),
  );
}

both : {a b : List Field} {m n : ℕ} → Bound a m → Bound b n → Bound (a ++ b) (m + n)
both {a} {b} {m} {n} first second = record {
  le = omega (
    arith,
    ap length (flat_map-append field_bytes a b),
    length-append (body_of a) (body_of b),
    first.le,
    second.le,
  );
}

-- ---- each message

logon_len : (side : Side) (reset : Bool) (heart : ℕ) → heart < 2 ^ 32
    → Bound (logon_fields side reset heart) 60
logon_len Client true heart word =
    let all = more 98 (codes "0") 1 (lit< tt) (lit≤ tt)
    (more 108 (decimal heart) 10 (lit< tt) (digits heart word)
    (more 141 (codes "Y") 1 (lit< tt) (lit≤ tt) none)) in record { le = omega (arith, all.le) }
logon_len Client false heart word =
    let all = more 98 (codes "0") 1 (lit< tt) (lit≤ tt)
    (more 108 (decimal heart) 10 (lit< tt) (digits heart word) none) in
    record { le = omega (arith, all.le) }
logon_len Venue reset heart word =
    let all = more 98 (codes "0") 1 (lit< tt) (lit≤ tt)
    (more 108 (decimal heart) 10 (lit< tt) (digits heart word)
    (more 1137 (codes "9") 1 (lit< tt) (lit≤ tt) none)) in record { le = omega (arith, all.le) }

reason_len : (reason : Why) → HasReasonWords reason → length (logout_text reason) ≤ 80
reason_len (why.TooLow expected got) words =
    let one : length (decimal expected) ≤ 10 = digits expected words.0 in
    let two : length (decimal got) ≤ 10 = digits got words.1 in
    simp length-append (omega arith)
reason_len (why.Logon tag) words =
    let one : length (decimal tag) ≤ 10 = digits tag words in simp length-append (omega arith)
reason_len why.NoNumber words = lit≤ tt
reason_len why.CompId words = lit≤ tt
reason_len why.Clock words = lit≤ tt
reason_len why.Answer words = lit≤ tt
reason_len why.End words = lit≤ tt

text_len : (empty : Bool) (text : List ℕ) → length text ≤ 80
    → Bound (if empty then [] else (58, text) ∷ []) 86
text_len true text short = record { le = omega arith }
text_len false text short = more 58 text 80 (lit< tt) short none

reason_field_len : (reason : Option ℕ) → IsWord reason → Bound (reason_field reason) 16
reason_field_len None word = record { le = omega arith }
reason_field_len (Some reason) word =
    more 373 (decimal reason) 10 (lit< tt) (digits reason word) none

text_field_len : (text : Option (List ℕ)) → IfSome text (λ t. length t ≤ 512)
    → Bound (text_field text) 518
text_field_len None short = record { le = omega arith }
text_field_len (Some text) short = more 58 text 512 (lit< tt) short none

type_len : (msg_type : List ℕ) → length (ref_msg_type msg_type) ≤ 8
type_len msg_type = omega (arith, length-take 8 msg_type)

echo_len : (echo : List ℕ) → length echo + 5 ≤ 7936 → length (body_of ((112, echo) ∷ [])) ≤ 7936
unfolding field_bytes decimal_digits
echo_len echo short = simp length-append (omega arith)

fields_len : (side : Side) (a : Admin) (heart next_out number : ℕ) (msg_type echo : List ℕ)
    → HasWords a → heart < 2 ^ 32 → next_out < 2 ^ 32 → number < 2 ^ 32
    → (a ≡ admin.Heartbeat true → IsEcho echo)
    → length (body_of (fields_of side a heart next_out number msg_type echo)) ≤ 7936
fields_len side (admin.Logon reset) heart next_out number msg_type echo words h n m fits =
    omega (arith, (logon_len side reset heart h).le)
fields_len side (admin.Logout reason) heart next_out number msg_type echo words h n m fits =
    omega (
      arith,
      (text_len (length (logout_text reason) == 0) (logout_text reason)
          (reason_len reason words)).le,
    )
fields_len side (admin.Heartbeat true) heart next_out number msg_type echo words h n m fits =
    echo_len echo (fits refl)
fields_len side (admin.Heartbeat false) heart next_out number msg_type echo words h n m fits =
    lit≤ tt
fields_len side admin.TestRequest heart next_out number msg_type echo words h n m fits =
    let short : length (codes "T" ++ decimal next_out) ≤ 11 =
    omega (arith, digits next_out n, length-append (codes "T") (decimal next_out)) in
    omega (arith, (more 112 (codes "T" ++ decimal next_out) 11 (lit< tt) short none).le)
fields_len side (admin.ResendRequest from) heart next_out number msg_type echo words h n m fits =
    omega (
      arith,
      (more 7 (decimal from) 10 (lit< tt) (digits from words)
          (more 16 (codes "0") 1 (lit< tt) (lit≤ tt) none)).le,
    )
fields_len side (admin.Reject tag reason) heart next_out number msg_type echo words h n m fits =
    omega (
      arith,
      (both (more 45 (decimal number) 10 (lit< tt) (digits number m)
          (more 371 (decimal tag) 10 (lit< tt) (digits tag words.0)
          (more 372 (ref_msg_type msg_type) 8 (lit< tt) (type_len msg_type) none)))
          (both (reason_field_len (session_reason side reason)
          (session_reason_word side reason words.1))
          (text_field_len (session_text side reason) (session_text_len side reason)))).le,
    )

one_letter : (a : Admin) → length (type_of a) ≡ 1
one_letter (admin.Logon reset) = refl
one_letter (admin.Logout reason) = refl
one_letter (admin.Heartbeat has) = refl
one_letter admin.TestRequest = refl
one_letter (admin.ResendRequest from) = refl
one_letter (admin.Reject tag reason) = refl

pub said_fits : (side : Side) (a : Admin) (heart next_out number : ℕ) (msg_type echo : List ℕ)
    → HasWords a → heart < 2 ^ 32 → next_out < 2 ^ 32 → number < 2 ^ 32
    → (a ≡ admin.Heartbeat true → IsEcho echo)
    → IsFit (said side a heart next_out number msg_type echo)
said_fits side a heart next_out number msg_type echo words h n m fits = record {
  typed = omega (arith, one_letter a);
  short = omega (arith, one_letter a);
  bounded = fields_len side a heart next_out number msg_type echo words h n m fits;
}
