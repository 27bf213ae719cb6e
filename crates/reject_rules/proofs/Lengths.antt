-- How long a refusal is at most.
use Rattle.std.proofs.Common.{◌≡◌, ℕ, ◌+◌, ◌≤◌, ◌<◌, ◌^◌, Bool, true, false, List, [], ◌∷◌, ◌++◌}
use Rattle.std.proofs.Common.{take, length, codes, Option, Some, None, IfSome, ap, ◌∙◌}
use Rattle.std.proofs.Common.{if◌then◌else◌, arith, length-append, lit<, lit≤}
use Rattle.std.specs.Prelude.{nat_le, ◌==◌}
use Rattle.std.specs.Option.{option_map}
use Rattle.std.specs.Fmt.{decimal}
use Rattle.std.proofs.lemmas.Fmt.{length-decimal-le}
use Rattle.std.proofs.lemmas.Grind.{flat_map-append}
use Rattle.std.proofs.lemmas.List.{length-take}
use Rattle.field_groups.specs.Field.{Field, field_bytes, body_of}
use Rattle.order_meaning.specs.declared.Side.{Side}
use Rattle.order_meaning.specs.declared.Side.TheVariants.{Client, Venue}
use Rattle.order_meaning.specs.declared.refusal.Refusal.{Refusal}
use Rattle.reject_rules.specs.Content.{field_if, number_if, reject, business_reject}
use Rattle.order_meaning.specs.declared.reasons.TheConstants.{MAX_REASON42}
use Rattle.order_meaning.specs.Reasons.{later_reason_words}
use Rattle.session_core.specs.Reason.{session_reason, session_text}
use Rattle.reject_rules.specs.Reasons.{reason_suffix, with_suffix}
use Rattle.reject_rules.specs.Reasons.{business_reason, business_text}
use Rattle.reject_rules.specs.Refusals.{no_counterpart}
use Rattle.reject_rules.specs.Renumbered.{refuser_of, words_if, quoted, quote_if, rejected_text}
use Rattle.reject_rules.specs.Laws.{IsWord}
use Rattle.reject_rules.proofs.Words.{by_three, session_text_by, suffix_by}

-- a number of 32 bits has at most ten digits
word_len : (n : ℕ) → n < 2 ^ 32 → length (decimal n) ≤ 10
word_len n word = length-decimal-le 10 n (omega arith) (omega arith) (omega arith)

tag_len : (tag : ℕ) → tag < 1000 → length (decimal tag) ≤ 3
tag_len tag small = length-decimal-le 3 tag (omega arith) (omega arith) (omega arith)

field_len : (tag : ℕ) (value : List ℕ) → tag < 1000 →
    length (body_of ((tag, value) ∷ [])) ≤ length value + 5
unfolding field_bytes
field_len tag value small =
    let digits : length (decimal tag) ≤ 3 = tag_len tag small in
    simp length-append (omega arith)

bytes_len : (tag : ℕ) (value : Option (List ℕ)) (most : ℕ) → tag < 1000 →
    IfSome value (λ v. length v ≤ most) →
    length (body_of (field_if tag value)) ≤ most + 5
bytes_len tag None most small short = omega arith
bytes_len tag (Some value) most small short =
    let long : length (body_of ((tag, value) ∷ [])) ≤ length value + 5 =
    field_len tag value small in
    let few : length value ≤ most = short in
    omega arith

number_len : (tag : ℕ) (number : Option ℕ) → tag < 1000 → IsWord number →
    length (body_of (number_if tag number)) ≤ 15
number_len tag None small word = omega arith
number_len tag (Some n) small word =
    let long : length (body_of ((tag, decimal n) ∷ [])) ≤ length (decimal n) + 5 =
    field_len tag (decimal n) small in
    let few : length (decimal n) ≤ 10 = word_len n word in
    omega arith

five_len : (a b c d e : List Field) (la lb lc ld le : ℕ) → length (body_of a) ≤ la →
    length (body_of b) ≤ lb → length (body_of c) ≤ lc →
    length (body_of d) ≤ ld → length (body_of e) ≤ le →
    length (body_of (a ++ b ++ c ++ d ++ e)) ≤ la + lb + lc + ld + le
five_len a b c d e la lb lc ld le ha hb hc hd he =
    simp (flat_map-append, length-append) (omega arith)

pub reject_len : (r : Refusal) (text : ℕ) → IsWord r.number → IsWord r.tag →
    IfSome r.msg_type (λ t. length t ≤ 8) →
    IsWord r.reason → IfSome r.text (λ t. length t ≤ text) → length (reject r).content ≤ 63 + text
unfolding reject
reject_len r text number tag msg_type reason short =
    let all = five_len (number_if 45 r.number) (number_if 371 r.tag) (field_if 372 r.msg_type)
    (number_if 373 r.reason) (field_if 58 r.text)
    15 15 13 15 (text + 5)
    (number_len 45 r.number (lit< tt) number) (number_len 371 r.tag (lit< tt) tag)
    (bytes_len 372 r.msg_type 8 (lit< tt) msg_type)
    (number_len 373 r.reason (lit< tt) reason) (bytes_len 58 r.text text (lit< tt) short) in
    omega (arith, all)

pub business_len : (r : Refusal) (text : ℕ) → IsWord r.number →
    IfSome r.msg_type (λ t. length t ≤ 8) →
    IfSome r.id (λ id. length id ≤ 128) → IsWord r.reason → IfSome r.text (λ t. length t ≤ text) →
    length (business_reject r).content ≤ 181 + text
unfolding business_reject
business_len r text number msg_type id reason short =
    let all = five_len (number_if 45 r.number) (field_if 372 r.msg_type) (field_if 379 r.id)
    (number_if 380 r.reason) (field_if 58 r.text)
    15 13 133 15 (text + 5)
    (number_len 45 r.number (lit< tt) number) (bytes_len 372 r.msg_type 8 (lit< tt) msg_type)
    (bytes_len 379 r.id 128 (lit< tt) id)
    (number_len 380 r.reason (lit< tt) reason) (bytes_len 58 r.text text (lit< tt) short) in
    omega (arith, all)

take_len : (most : ℕ) (text : List ℕ) → length (take most text) ≤ most
take_len most text = omega (arith, length-take most text)

take_shorter : (most : ℕ) (text : List ℕ) → length (take most text) ≤ length text
take_shorter most text = omega (arith, length-take most text)

words_len : (reason : ℕ) → IfSome (later_reason_words reason) (λ t. length t ≤ 512)
unfolding later_reason_words
words_len reason =
    by_three (λ t. length t ≤ 512) (reason == 13) (reason == 15) (reason == 16) _ _ _
    (lit≤ tt) (lit≤ tt) (lit≤ tt)

pub session_text_len : (side : Side) (reason : ℕ) →
    IfSome (session_text side reason) (λ t. length t ≤ 512)
session_text_len side reason = session_text_by (λ t. length t ≤ 512) words_len side reason

reason_by : (low : Bool) (reason : ℕ) → reason < 2 ^ 32 → IsWord (if low then Some reason else None)
reason_by true reason word = word
reason_by false reason word = tt

pub session_reason_word : (side : Side) (reason : ℕ) → reason < 2 ^ 32 →
    IsWord (session_reason side reason)
session_reason_word Client reason word = reason_by (nat_le reason MAX_REASON42) reason word
session_reason_word Venue reason word = word

pub no_counterpart_len : (tag : ℕ) → tag < 2 ^ 32 → length (no_counterpart tag) ≤ 512
unfolding no_counterpart
no_counterpart_len tag word =
    let digits : length (decimal tag) ≤ 10 = word_len tag word in
    let whole : length (no_counterpart tag) ≡ 4 + length (decimal tag) + 19 =
    length-append (codes "tag " ++ decimal tag) (codes " has no counterpart")
    ∙ ap (λ (n : ℕ). n + 19) (length-append (codes "tag ") (decimal tag)) in
    omega arith

words_if_len : (words : List ℕ) (number : Option ℕ) → IsWord number →
    length (words_if words number) ≤ length words + 10
words_if_len words None word = omega arith
words_if_len words (Some n) word =
    let digits : length (decimal n) ≤ 10 = word_len n word in
    omega (arith, length-append words (decimal n))

quote_len : (text : Option (List ℕ)) → length (quote_if text) ≤ 514
quote_len None = omega arith
quote_len (Some text) =
    let short : length (take 512 text) ≤ 512 = take_len 512 text in
    omega (arith, length-append (codes ": ") (take 512 text))

refuser_len : (side : Side) → length (refuser_of side) ≤ 6
refuser_len Client = lit≤ tt
refuser_len Venue = lit≤ tt

five_texts : (a b c d e : List ℕ) →
    length (a ++ b ++ c ++ d ++ e) ≡ length a + length b + length c + length d + length e
five_texts a b c d e = simp length-append

pub rejected_text_len : (side : Side) (r : Refusal) → IsWord r.tag → IsWord r.reason →
    length (rejected_text side r) ≤ 580
unfolding rejected_text
rejected_text_len side r tag reason =
    let whole = five_texts (codes "rejected by ") (refuser_of side) (words_if (codes " tag ") r.tag)
    (words_if (codes " reason ") r.reason) (quote_if r.text) in
    let who : length (refuser_of side) ≤ 6 = refuser_len side in
    let told : length (words_if (codes " tag ") r.tag) ≤ 15 =
    words_if_len (codes " tag ") r.tag tag in
    let why : length (words_if (codes " reason ") r.reason) ≤ 18 =
    words_if_len (codes " reason ") r.reason reason in
    let quote : length (quote_if r.text) ≤ 514 = quote_len r.text in
    omega (arith, whole)

pub quoted_len : (text : Option (List ℕ)) → IfSome (quoted text) (λ t. length t ≤ 512)
quoted_len None = tt
quoted_len (Some text) = take_len 512 text

suffix_len : (reason : ℕ) → reason < 2 ^ 32 → length (reason_suffix 380 5 reason) ≤ 17
suffix_len reason word =
    let tag : length (decimal 380) ≤ 3 = tag_len 380 (lit< tt) in
    let digits : length (decimal reason) ≤ 10 = word_len reason word in
    let whole = five_texts (codes " [") (decimal 380) (codes "=") (decimal reason) (codes "]") in
    suffix_by (λ t. length t ≤ 17) (nat_le reason 5)
    (codes " [" ++ decimal 380 ++ codes "=" ++ decimal reason ++ codes "]") (lit≤ tt)
    (omega (arith, whole))

longer : (text : Option (List ℕ)) (most more : ℕ) → IfSome text (λ t. length t ≤ most) →
    IfSome text (λ t. length t ≤ most + more)
longer None most more short = tt
longer (Some text) most more short = let few : length text ≤ most = short in omega arith

with_suffix_len : (text : Option (List ℕ)) (suffix : List ℕ) (most more : ℕ) →
    IfSome text (λ t. length t ≤ most) →
    length suffix ≤ more → IfSome (with_suffix text suffix) (λ t. length t ≤ most + more)
with_suffix_len text [] most more short few = longer text most more short
with_suffix_len None (space ∷ suffix) most more short few = omega arith
with_suffix_len (Some text) (space ∷ suffix) most more short few =
    let front : length (take 2000 text) ≤ length text = take_shorter 2000 text in
    let was : length text ≤ most = short in
    omega (arith, length-append (take 2000 text) (space ∷ suffix))

pub business_text_len : (side : Side) (reason : Option ℕ) (text : Option (List ℕ)) → IsWord reason →
    IfSome text (λ t. length t ≤ 512) →
    IfSome (business_text side reason text) (λ t. length t ≤ 512 + 17)
business_text_len Client (Some reason) text word short =
    with_suffix_len text (reason_suffix 380 5 reason) 512 17 short (suffix_len reason word)
business_text_len Client None text word short = longer text 512 17 short
business_text_len Venue reason text word short = longer text 512 17 short

within_by : (low : Bool) (reason : ℕ) → reason < 2 ^ 32 → (if low then reason else 0) < 2 ^ 32
within_by true reason word = word
within_by false reason word = lit< tt

pub business_reason_word : (side : Side) (reason : Option ℕ) → IsWord reason →
    IsWord (option_map (business_reason side) reason)
business_reason_word side None word = tt
business_reason_word Client (Some reason) word = within_by (nat_le reason 5) reason word
business_reason_word Venue (Some reason) word = word
