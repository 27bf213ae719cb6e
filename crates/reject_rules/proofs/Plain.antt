-- What a refusal says is fields that end at their SOH.
use Rattle.std.proofs.Common.{◌≡◌, ℕ, ◌<◌, ◌≤◌, ◌^◌, Bool, true, false, List, [], ◌∷◌, ◌++◌, take}
use Rattle.std.proofs.Common.{drop, length, length-append}
use Rattle.std.proofs.Common.{codes, Option, Some, None, IfSome, refl, sym, ap, subst, ◌∙◌}
use Rattle.std.proofs.Common.{arith, lit<}
use Rattle.std.specs.Prelude.{nat_le, ◌==◌, All}
use Rattle.std.specs.Option.{option_map}
use Rattle.std.specs.Fmt.{decimal}
use Rattle.std.specs.Int.{IsInRange}
use Rattle.std.specs.List.{list_any}
use Rattle.std.proofs.lemmas.Bool.{or_from, or_parts}
use Rattle.std.proofs.lemmas.Bool.Decides.{nat_tests}
use Rattle.std.proofs.lemmas.Fmt.{digits_decimal}
use Rattle.std.proofs.lemmas.Str.Parse.{IsDigitsTest, numerals_by_value}
use Rattle.std.proofs.lemmas.List.{take-append-drop}
use Rattle.std.proofs.lemmas.List.Elements.{All-append, All-cons, All-nil}
use Rattle.std.proofs.lemmas.List.Folds.{list_any-append}
use Rattle.field_groups.specs.Field.{Field, is_soh}
use Rattle.order_meaning.specs.declared.Side.{Side}
use Rattle.order_meaning.specs.declared.Side.TheVariants.{Client, Venue}
use Rattle.order_meaning.specs.declared.fault.Fault.{Fault}
use Rattle.order_meaning.specs.declared.fault.Fault.TheVariants.{Session, NoCounterpart}
use Rattle.order_meaning.specs.declared.fault.Fault.TheVariants.{NotSupported, NoMemory}
use Rattle.order_meaning.specs.declared.refusal.Refusal.{Refusal}
use Rattle.session_core.specs.declared.said.Said.{Said}
use Rattle.session_core.specs.Said.{ref_msg_type}
use Rattle.reject_rules.specs.Content.{field_if, number_if, reject, business_reject}
use Rattle.order_meaning.specs.Reasons.{later_reason_words}
use Rattle.session_core.specs.Reason.{session_reason, session_text}
use Rattle.reject_rules.specs.Reasons.{reason_suffix, with_suffix}
use Rattle.reject_rules.specs.Reasons.{business_reason, business_text}
use Rattle.reject_rules.specs.Refusals.{refusal_of, session_refusal, business_refusal}
use Rattle.reject_rules.specs.Refusals.{no_counterpart, used_refusal, away_refusal}
use Rattle.reject_rules.specs.Renumbered.{renumbered, refuser_of, words_if, quoted, quote_if}
use Rattle.reject_rules.specs.Renumbered.{rejected_text}
use Rattle.reject_rules.specs.Laws.{IsWord, HasWords, IsBounded, HasNoSoh, HasTexts, refusal_tags}
use Rattle.reject_rules.specs.Laws.{IsRefusalField, IsOf}
use Rattle.reject_rules.proofs.Lengths.{session_reason_word, business_reason_word}
use Rattle.reject_rules.proofs.Words.{by_three, session_text_by, suffix_by}

-- digits are no SOH
AreDigits : List ℕ → Type 0
AreDigits [] = Unit {0}
AreDigits (c ∷ cs) = IsInRange 48 57 c × AreDigits cs

is_digits_test : IsDigitsTest AreDigits
unfolding AreDigits
is_digits_test = record {
  empty = tt;
  parts = λ c cs h. h;
  more = λ c cs range h. (range, h);
}

no_soh_byte : (c : ℕ) → IsInRange 48 57 c → is_soh c ≡ false
no_soh_byte c range = grind (arith, nat_tests)

digits_plain : (ds : List ℕ) → AreDigits ds → HasNoSoh ds
unfolding AreDigits
digits_plain [] h = refl
digits_plain (c ∷ cs) h =
    or_from (is_soh c) (list_any is_soh cs) (no_soh_byte c h.0) (digits_plain cs h.1)

number_plain : (n : ℕ) → n < 2 ^ 32 → HasNoSoh (decimal n)
number_plain n word =
    digits_plain (decimal n) (digits_decimal (numerals_by_value AreDigits is_digits_test) n
    (omega arith))

both_plain : (a b : List ℕ) → HasNoSoh a → HasNoSoh b → HasNoSoh (a ++ b)
both_plain a b ha hb = list_any-append is_soh a b
    ∙ or_from (list_any is_soh a) (list_any is_soh b) ha hb

take_plain : (n : ℕ) (bytes : List ℕ) → HasNoSoh bytes → HasNoSoh (take n bytes)
take_plain n bytes h =
    let parts = or_parts (list_any is_soh (take n bytes)) (list_any is_soh (drop n bytes))
    (sym (list_any-append is_soh (take n bytes) (drop n bytes)) ∙ ap (list_any is_soh)
    (take-append-drop n bytes) ∙ h) in
    parts.0

five_plain : (a b c d e : List ℕ) → HasNoSoh a → HasNoSoh b → HasNoSoh c → HasNoSoh d → HasNoSoh e →
    HasNoSoh (a ++ b ++ c ++ d ++ e)
five_plain a b c d e ha hb hc hd he =
    both_plain (a ++ b ++ c ++ d) e (both_plain (a ++ b ++ c) d (both_plain (a ++ b) c
    (both_plain a b ha hb) hc) hd) he

-- ---- fields

field_plain : (tag : ℕ) (value : Option (List ℕ)) →
    list_any (λ t. t == tag) refusal_tags ≡ true → IfSome value HasNoSoh →
    All IsRefusalField (field_if tag value)
field_plain tag None listed plain = All-nil IsRefusalField
field_plain tag (Some value) listed plain =
    All-cons IsRefusalField (tag, value) [] (record { listed = listed; no_soh = plain })
    (All-nil IsRefusalField)

number_field : (tag : ℕ) (number : Option ℕ) → list_any (λ t. t == tag) refusal_tags ≡ true →
    IsWord number →
    All IsRefusalField (number_if tag number)
number_field tag None listed word = All-nil IsRefusalField
number_field tag (Some n) listed word =
    All-cons IsRefusalField (tag, decimal n) []
    (record { listed = listed; no_soh = number_plain n word }) (All-nil IsRefusalField)

four_fields : (b c d e : List Field) → All IsRefusalField b → All IsRefusalField c →
    All IsRefusalField d →
    All IsRefusalField e → All IsRefusalField (b ++ c ++ d ++ e)
four_fields b c d e hb hc hd he =
    All-append IsRefusalField (b ++ c ++ d) e (All-append IsRefusalField (b ++ c) d
    (All-append IsRefusalField b c hb hc) hd) he

one_field : (tag : ℕ) (value : Option (List ℕ)) → length (field_if tag value) ≤ 1
one_field tag None = omega arith
one_field tag (Some value) = omega arith

four_few : (b c d e : List Field) → length b ≤ 1 → length c ≤ 1 → length d ≤ 1 → length e ≤ 1
    → length (b ++ c ++ d ++ e) ≤ 4
four_few b c d e hb hc hd he = omega (
  arith,
  hb,
  hc,
  hd,
  he,
  length-append (b ++ c ++ d) e,
  length-append (b ++ c) d,
  length-append b c,
)

named : (number : ℕ) (more : List Field) → number < 2 ^ 32 → All IsRefusalField more →
    All IsRefusalField ((45, decimal number) ∷ more)
named number more word rest =
    All-cons IsRefusalField (45, decimal number) more
    (record { listed = refl; no_soh = number_plain number word }) rest

-- a refusal of a message by its number
abbrev refusing : ℕ → List ℕ → Option (List ℕ) → Option ℕ → Option ℕ → Option (List ℕ) → Refusal
refusing number msg_type id tag reason text = record {
  number = Some number;
  msg_type = Some (ref_msg_type msg_type);
  id = id;
  tag = tag;
  reason = reason;
  text = text;
}

of_reject : (number : ℕ) (msg_type : List ℕ) (tag reason : Option ℕ) (text : Option (List ℕ)) →
    number < 2 ^ 32 →
    HasNoSoh msg_type → IsWord tag → IsWord reason → IfSome text HasNoSoh →
    IsOf number (reject (refusing number msg_type None tag reason text))
unfolding reject
of_reject number msg_type tag reason text word plain which why saying = record {
  more = number_if 371 tag ++ field_if 372 (Some
      (ref_msg_type msg_type)) ++ number_if 373 reason ++ field_if 58 text;
  few = four_few (number_if 371 tag) (field_if 372 (Some (ref_msg_type msg_type)))
      (number_if 373 reason) (field_if 58 text) (one_field 371 (option_map decimal tag))
      (one_field 372 (Some (ref_msg_type msg_type))) (one_field 373 (option_map decimal reason))
      (one_field 58 text);
  written = refl;
  fields = named number (number_if 371 tag ++ field_if 372 (Some
      (ref_msg_type msg_type)) ++ number_if 373 reason ++ field_if 58 text) word
      (four_fields (number_if 371 tag) (field_if 372 (Some (ref_msg_type msg_type)))
      (number_if 373 reason) (field_if 58 text)
      (number_field 371 tag refl which) (field_plain 372 (Some (ref_msg_type msg_type)) refl
      (take_plain 8 msg_type plain))
      (number_field 373 reason refl why) (field_plain 58 text refl saying));
}

of_business : (number : ℕ) (msg_type : List ℕ) (id : Option (List ℕ)) (reason : Option ℕ)
    (text : Option (List ℕ)) →
    number < 2 ^ 32 → HasNoSoh msg_type → IfSome id HasNoSoh → IsWord reason →
    IfSome text HasNoSoh →
    IsOf number (business_reject (refusing number msg_type id None reason text))
unfolding business_reject
of_business number msg_type id reason text word plain what why saying = record {
  more = field_if 372 (Some
      (ref_msg_type msg_type)) ++ field_if 379 id ++ number_if 380 reason ++ field_if 58 text;
  few = four_few (field_if 372 (Some (ref_msg_type msg_type))) (field_if 379 id)
      (number_if 380 reason) (field_if 58 text) (one_field 372 (Some (ref_msg_type msg_type)))
      (one_field 379 id) (one_field 380 (option_map decimal reason)) (one_field 58 text);
  written = refl;
  fields = named number (field_if 372 (Some
      (ref_msg_type msg_type)) ++ field_if 379 id ++ number_if 380 reason ++ field_if 58 text) word
      (four_fields (field_if 372 (Some (ref_msg_type msg_type))) (field_if 379 id)
      (number_if 380 reason) (field_if 58 text)
      (field_plain 372 (Some (ref_msg_type msg_type)) refl (take_plain 8 msg_type plain))
      (field_plain 379 id refl what)
      (number_field 380 reason refl why) (field_plain 58 text refl saying));
}

-- ---- texts

words_plain : (reason : ℕ) → IfSome (later_reason_words reason) HasNoSoh
unfolding later_reason_words
words_plain reason =
    by_three HasNoSoh (reason == 13) (reason == 15) (reason == 16) _ _ _ refl refl refl

session_text_plain : (side : Side) (reason : ℕ) → IfSome (session_text side reason) HasNoSoh
session_text_plain side reason = session_text_by HasNoSoh words_plain side reason

no_counterpart_plain : (tag : ℕ) → tag < 2 ^ 32 → HasNoSoh (no_counterpart tag)
unfolding no_counterpart
no_counterpart_plain tag word =
    both_plain (codes "tag " ++ decimal tag) (codes " has no counterpart")
    (both_plain (codes "tag ") (decimal tag) refl (number_plain tag word)) refl

words_if_plain : (words : List ℕ) (number : Option ℕ) → HasNoSoh words → IsWord number →
    HasNoSoh (words_if words number)
words_if_plain words None plain word = refl
words_if_plain words (Some n) plain word = both_plain words (decimal n) plain (number_plain n word)

quote_plain : (text : Option (List ℕ)) → IfSome text HasNoSoh → HasNoSoh (quote_if text)
quote_plain None plain = refl
quote_plain (Some text) plain =
    both_plain (codes ": ") (take 512 text) refl (take_plain 512 text plain)

refuser_plain : (side : Side) → HasNoSoh (refuser_of side)
refuser_plain Client = refl
refuser_plain Venue = refl

rejected_text_plain : (side : Side) (r : Refusal) → IsWord r.tag → IsWord r.reason →
    IfSome r.text HasNoSoh →
    HasNoSoh (rejected_text side r)
unfolding rejected_text
rejected_text_plain side r tag reason text =
    five_plain (codes "rejected by ") (refuser_of side) (words_if (codes " tag ") r.tag)
    (words_if (codes " reason ") r.reason) (quote_if r.text) refl (refuser_plain side)
    (words_if_plain (codes " tag ") r.tag refl tag) (words_if_plain
    (codes " reason ") r.reason refl reason) (quote_plain r.text text)

quoted_plain : (text : Option (List ℕ)) → IfSome text HasNoSoh → IfSome (quoted text) HasNoSoh
quoted_plain None plain = tt
quoted_plain (Some text) plain = take_plain 512 text plain

suffix_plain : (reason : ℕ) → reason < 2 ^ 32 → HasNoSoh (reason_suffix 380 5 reason)
suffix_plain reason word =
    suffix_by HasNoSoh (nat_le reason 5)
    (codes " [" ++ decimal 380 ++ codes "=" ++ decimal reason ++ codes "]") refl
    (five_plain (codes " [") (decimal 380) (codes "=") (decimal reason) (codes "]") refl
    (number_plain 380 (lit< tt)) refl
    (number_plain reason word) refl)

with_suffix_plain : (text : Option (List ℕ)) (suffix : List ℕ) → IfSome text HasNoSoh →
    HasNoSoh suffix →
    IfSome (with_suffix text suffix) HasNoSoh
with_suffix_plain text [] plain end = plain
with_suffix_plain None (space ∷ suffix) plain end =
    let parts = or_parts (is_soh space) (list_any is_soh suffix) end in parts.1
with_suffix_plain (Some text) (space ∷ suffix) plain end =
    both_plain (take 2000 text) (space ∷ suffix) (take_plain 2000 text plain) end

business_text_plain : (side : Side) (reason : Option ℕ) (text : Option (List ℕ)) →
    IsWord reason → IfSome text HasNoSoh →
    IfSome (business_text side reason text) HasNoSoh
business_text_plain Client (Some reason) text word plain =
    with_suffix_plain text (reason_suffix 380 5 reason) plain (suffix_plain reason word)
business_text_plain Client None text word plain = plain
business_text_plain Venue reason text word plain = plain

-- ---- the refusals

pub fault_plain : (side : Side) (number : ℕ) (msg_type : List ℕ) (fault : Fault) (said : Said) →
    number < 2 ^ 32 → HasWords fault →
    HasNoSoh msg_type → refusal_of side number msg_type fault ≡ Some said → IsOf number said
fault_plain side number msg_type (Session tag reason) said word words plain is =
    let same : session_refusal side number msg_type tag reason ≡ said = cc in
    subst (IsOf number) same
    (of_reject number msg_type tag (session_reason side reason)
    (session_text side reason) word plain words.0
    (session_reason_word side reason words.1) (session_text_plain side reason))
fault_plain side number msg_type (NoCounterpart tag) said word words plain is =
    let same : business_refusal number msg_type 0 (no_counterpart tag) ≡ said = cc in
    subst (IsOf number) same
    (of_business number msg_type None (Some 0) (Some (no_counterpart tag)) word plain tt
    (lit< tt) (no_counterpart_plain tag words))
fault_plain side number msg_type NotSupported said word words plain is =
    let same : business_refusal number msg_type 3 (no_counterpart 35) ≡ said = cc in
    subst (IsOf number) same
    (of_business number msg_type None (Some 3) (Some (no_counterpart 35)) word plain tt
    (lit< tt) (no_counterpart_plain 35 (lit< tt)))
fault_plain side number msg_type NoMemory said word words plain is = cc

pub used_plain : (number : ℕ) (msg_type : List ℕ) → number < 2 ^ 32 → HasNoSoh msg_type →
    IsOf number (used_refusal number msg_type)
used_plain number msg_type word plain =
    of_business number msg_type None (Some 0) (Some
    (codes "tag 11 is already used")) word plain tt (lit< tt) refl

pub away_plain : (number : ℕ) (msg_type : List ℕ) → number < 2 ^ 32 → HasNoSoh msg_type →
    IsOf number (away_refusal number msg_type)
away_plain number msg_type word plain =
    of_business number msg_type None (Some 4) (Some
    (codes "venue is not connected")) word plain tt (lit< tt) refl

pub told_plain : (side : Side) (business : Bool) (r : Refusal) (far : ℕ) (far_type : List ℕ) →
    far < 2 ^ 32 → IsBounded r →
    HasTexts r → HasNoSoh far_type → IsOf far (renumbered side business r far far_type)
told_plain side true r far far_type word bounded texts plain =
    of_business far far_type r.id (option_map (business_reason side) r.reason)
    (business_text side r.reason (quoted r.text)) word plain
    texts.id (business_reason_word side r.reason bounded.reason)
    (business_text_plain side r.reason (quoted r.text) bounded.reason
    (quoted_plain r.text texts.text))
told_plain side false r far far_type word bounded texts plain =
    of_business far far_type None (Some 0) (Some (rejected_text side r)) word plain tt (lit< tt)
    (rejected_text_plain side r bounded.tag bounded.reason texts.text)
