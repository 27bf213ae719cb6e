-- What FIX 4.2 says otherwise than FIX 5.0 SP2 has a canonical spelling there: codes, ids, reasons
-- and texts.
use Rattle.std.proofs.Common.{◌≡◌, ◌≤◌, ◌<◌, ◌+◌, ◌^◌, ℕ, zero, suc, Bool, true, false, List, []}
use Rattle.std.proofs.Common.{◌∷◌, ◌++◌, codes, drop, length, take, Option, Some, None, refl, sym}
use Rattle.std.proofs.Common.{ap, subst, arith, nat_le, lit≤, length-append, unwrap_or, ◌∙◌}
use Rattle.std.specs.Prelude.{IsSome, IfSome, Ok, Err, Result, ◌==◌, if◌then◌else◌, not}
use Rattle.std.specs.Prelude.{is_some}
use Rattle.std.specs.Fmt.{decimal, digits}
use Rattle.std.specs.Str.{bytes_eq}
use Rattle.std.specs.List.{AllByRecursion, list_any}
use Rattle.std.proofs.lemmas.Bool.Decides.{nat_tests}
use Rattle.std.proofs.lemmas.List.{length-take}
use Rattle.std.proofs.lemmas.Fmt.{digits_decimal, length-decimal-le}
use Rattle.typed_fields.specs.declared.fault.FieldFault.{FieldFault}
use Rattle.typed_fields.specs.declared.fault.FieldFault.TheVariants.{Range}
use Rattle.typed_fields.specs.declared.number.Number.{Number as NumberValue}
use Rattle.typed_fields.specs.Digits.{are_digits, number_of}
use Rattle.typed_fields.specs.Number.{number_text, read_number}
use Rattle.typed_fields.proofs.DigitsLemmas.{numerals}
use Rattle.typed_fields.proofs.SpellingLemmas.{judged_ok}
use Rattle.field_groups.specs.Field.{Field, is_soh}
use Rattle.field_groups.specs.HeadValues.{number_in, is_number}
use Rattle.message_tables.specs.Tables.{Spells, Required, Optional, Said, Cell, Place, Tag, ◌>>=◌}
use Rattle.message_tables.specs.Tables.{first_of, is_one_of, is_place, or_else, party_in, said_at}
use Rattle.message_tables.specs.Tables.{Message, Table, Role, lines_of, text_in}
use Rattle.message_tables.specs.Content.{line_fields}
use Rattle.value_kinds.specs.ValueKind.{Id, Text, Reason, if_in_range, spelling, spelt}
use Rattle.value_kinds.specs.ValueKind.{ValueKind}
use Rattle.row_values.specs.Kinds.{Value, judge, row, verdict_of, Kind}
use Rattle.row_values.specs.Groups.{parties}
use Rattle.reports_fix50.specs.Sense.{reason_told, telling}
use Rattle.sound_laws.specs.Sound.{IsClear, IsSaid, IsLine, IsSound}
use Rattle.sound_laws.proofs.Each.{◌&◌, either, one_of}
use Rattle.sound_laws.proofs.RowsSaid.{optional_said, required_said, same_value}
use Rattle.sound_laws.proofs.PlainRows.{spelled}
use Rattle.sound_laws.proofs.SpelledAgain.{clear_front, clear_joined, digits_clear}
use Rattle.rule_rows.proofs.Said as source
use Rattle.rule_rows.proofs.Said.{IsSpelled}
use Rattle.rule_rows.specs.ByRules.{has_place, lack_if, outline_of}
use Rattle.rule_rows.specs.Rows.{group_at}
use Rattle.rule_rows.proofs.Looked.{none_at}
use Rattle.report_rules.specs.Down.{IsId}
use Rattle.report_rules.specs.Rules.{id_down, reason_down, within, at, party, told}
use Rattle.order_meaning.specs.Report.{or_known}

-- ---- ids

pub id_said : (before after : List Field) (status : Bool) (id : Said) → IsSome id
    → IsSpelled before (Value Id) id
    → IsSaid judge after (row Required 17 Id) (id_down status id)
unfolding judge spelling
id_said before after status None there h = absurd cc
id_said before after true (Some id) there h =
    required_said after 17 (Value Id) (Some (codes "0")) refl refl refl
id_said before after false (Some id) there h =
    required_said after 17 (Value Id) (Some id) refl
    (same_value before after Id (Some id) h.spelled) h.clear

-- the id of a line, which each line says
line_id : (line : List Cell) → IsLine judge parties.rows line → IsId (text_in line 448)
unfolding judge
line_id [] said = absurd said
line_id (cell ∷ cells) said =
    let fields = line_fields (cell ∷ cells) in
    let at : said_at (cell ∷ cells) (Tag 448) ≡ cell.1 =
    ap (λ (p : Place). if is_place p (Tag 448) then cell.1 else said_at cells (Tag 448)) said.0 in
    let P : Said → Type 0 = λ s. IsId (unwrap_or s []) in
    subst P (sym at) (by cell.1 (said.1.needed refl) said.1.spelled said.1.clear)
  where
    by : (s : Said) → IsSome s
        → IfSome s (λ text. judge (line_fields (cell ∷ cells)) (Value Id) text ≡ Spells text)
        → IfSome s IsClear → IsId (unwrap_or s [])
    by None there spelled clear = absurd cc
    by (Some text) there spelled clear = (spelled, clear)

party_id : (role : ℕ) (lines : List (List Cell))
    → AllByRecursion (IsLine judge parties.rows) lines → IfSome (party_in role lines) IsId
unfolding first_of
party_id role [] said = tt
party_id role (line ∷ lines) said =
    elim (bytes_eq (text_in line 452) (decimal role)) as (λ b. IfSome (or_else
    (if b then Some (text_in line 448) else None) (party_in role lines)) IsId)
    [ true ↦ line_id line said.0 | false ↦ party_id role lines said.1 ]

-- the id of the party of a role
pub role_id : (table : Table Kind) (m : Message) → IsSound judge table m
    → group_at 453 table.items ≡ Some parties → (role : ℕ) → IfSome (party m role) IsId
role_id table m sound there role =
    elim (has_place (outline_of table.items) (Role role)) as
    (λ b. has_place (outline_of table.items) (Role role) ≡ b → IfSome (party m role) IsId) [
      | true ↦ λ e. rw (source.role_is table m sound role e) (party_id role
          (lines_of 453 m.groups) (source.group_is table m sound 453 parties there).said)
      | false ↦ λ e. rw (none_at m.cells (Role role)
          (ap (λ o. has_place o (Role role)) (source.outline_is table m sound) ∙ e)) tt
    ] refl

pub ids_said : (fields : List Field) (tag : ℕ) (id : Said)
    → IfSome id IsId → IsSaid judge fields (row Optional tag Id) id
unfolding judge
ids_said fields tag None h = optional_said fields tag (Value Id) None tt tt
ids_said fields tag (Some id) h = optional_said fields tag (Value Id) (Some id) h.0 h.1

-- what is said, or else what is known
pub known_said : (before after : List Field) (tag : ℕ) (kind : ValueKind) (said known : Said)
    → IsSpelled before (Value kind) said
    → IfSome known (λ text. (judge [] (Value kind) text ≡ Spells text) × IsClear text)
    → lack_if (not (is_some (or_known said known))) tag ≡ None
    → IsSaid judge after (row Required tag kind) (or_known said known)
known_said before after tag kind (Some text) known h k lack =
    required_said after tag (Value kind) (Some text) refl
    (same_value before after kind (Some text) h.spelled) h.clear
known_said before after tag kind None (Some text) h k lack =
    required_said after tag (Value kind) (Some text) refl
    (same_value [] after kind (Some text) k.0) k.1
known_said before after tag kind None None h k lack = absurd cc

-- ---- reasons

-- the reasons that stand for later ones
abbrev pub is_other : List ℕ → Bool
is_other (code ∷ []) = is_one_of (codes "024") code
is_other other = false

abbrev IsReason : List ℕ → Type 0
IsReason text = (judge [] (Value Reason) text ≡ Spells text) × IsClear text

other_reason : (other : List ℕ) → is_other other ≡ true → IsReason other
unfolding judge spelling are_digits number_of digits
other_reason (code ∷ []) h =
    one_of (λ c. IsReason (c ∷ [])) (codes "024")
    ((refl, refl) & (refl, refl) & (refl, refl) & tt) code h
other_reason other h = absurd cc

pub reason_said : (before after : List Field) (tag last : ℕ) (other : List ℕ)
    → is_other other ≡ true → (reason : Said) → IsSpelled before (Value Reason) reason
    → IsSaid judge after (row Optional tag Reason) (reason_down last other reason)
unfolding judge
reason_said before after tag last other is None h =
    optional_said after tag (Value Reason) None tt tt
reason_said before after tag last other is (Some reason) h =
    optional_said after tag (Value Reason) (Some (within last other reason (number_in reason)))
    (by (number_in reason)).0 (by (number_in reason)).1
  where
    by : (n : Option ℕ) → IsReason (within last other reason n)
    by None = (h.spelled, h.clear)
    by (Some n) = elim (nat_le n last) as (λ b. IsReason (if b then reason else other))
        [ true ↦ (h.spelled, h.clear) | false ↦ other_reason other is ]

-- ---- the number of a reason

-- a reason is at most 9,999
in_range_of : (n : NumberValue) (text : List ℕ)
    → verdict_of (spelt number_text (if_in_range (λ m. nat_le m.value 9999) (Ok n))) ≡ Spells text
    → n.value ≤ 9999
in_range_of n text h =
    elim (nat_le n.value 9999) as (λ b. nat_le n.value 9999 ≡ b
    → verdict_of (spelt number_text (if b then Ok n else Err Range)) ≡ Spells text
    → n.value ≤ 9999)
    [ true ↦ λ e h. grind (arith, nat_tests) | false ↦ λ e h. absurd (cc h) ] refl h

small_by : (text : List ℕ) (r : Result NumberValue FieldFault) → read_number text ≡ r
    → verdict_of (spelt number_text (if_in_range (λ m. nat_le m.value 9999) r)) ≡ Spells text
    → number_of text ≤ 9999
small_by text (Ok n) e h =
    let low = in_range_of n text h in
    let is = (judged_ok text _ _ (record { value = number_of text }) n e).value in
    let P : ℕ → Type 0 = λ k. k ≤ 9999 in
    subst P (sym (ap (λ (x : NumberValue). x.value) is)) low
small_by text (Err fault) e h = absurd cc

pub small_reason : (fields : List Field) (text : List ℕ)
    → judge fields (Value Reason) text ≡ Spells text → IfSome (number_in text) (λ n. n ≤ 9999)
unfolding judge spelling number_in number_of
small_reason fields [] h = absurd cc
small_reason fields (b ∷ bs) h =
    elim (is_number (b ∷ bs)) as
    (λ good. IfSome (if good then Some (number_of (b ∷ bs)) else None) (λ n. n ≤ 9999))
    [ true ↦ small_by (b ∷ bs) (read_number (b ∷ bs)) refl h | false ↦ tt ]

-- ---- texts

-- nothing, or some bytes behind a first one
abbrev pub Begins : List ℕ → Type 0
Begins [] = Unit {0}
Begins (b ∷ []) = ⊥
Begins (b ∷ c ∷ bs) = Unit {0}

-- what a text tells of reasons, of at most so many bytes
pub record IsTold (most : ℕ) (told : List ℕ) : Type 0 where
  pub short : length told ≤ most
  pub clear : IsClear told
  pub begins : Begins told

one_told : (tag n : ℕ) → tag < 1000 → n ≤ 9999
    → IsTold 12 (codes " [" ++ decimal tag ++ codes "=" ++ decimal n ++ codes "]")
one_told tag n small few =
    let wide : n < 2 ^ 64 = omega (arith, few) in
    let wide_tag : tag < 2 ^ 64 = omega (arith, small) in
    let one = length-decimal-le 4 n (omega arith) (omega (arith, few)) wide in
    let two = length-decimal-le 3 tag (omega arith) (omega (arith, small)) wide_tag in
    let digits = digits_clear (decimal n) (digits_decimal numerals n wide) in
    let tags = digits_clear (decimal tag) (digits_decimal numerals tag wide_tag) in
    record {
      short = omega (
        arith,
        one,
        two,
        length-append (decimal tag ++ codes "=" ++ decimal n) (codes "]"),
        length-append (decimal tag ++ codes "=") (decimal n),
        length-append (decimal tag) (codes "="),
      );
      clear = clear_joined (decimal tag ++ codes "=" ++ decimal n) (codes "]")
          (clear_joined (decimal tag ++ codes "=") (decimal n)
          (clear_joined (decimal tag) (codes "=") tags refl) digits) refl;
      begins = tt;
    }

nothing_told : IsTold 12 []
nothing_told = record { short = lit≤ tt; clear = refl; begins = tt }

told_of : (tag last : ℕ) (reason : Option ℕ) → tag < 1000
    → IfSome reason (λ n. n ≤ 9999) → IsTold 12 (reason_told tag last reason)
told_of tag last None small h = nothing_told
told_of tag last (Some n) small h =
    elim (nat_le n last) as (λ b. IsTold 12 (if b then []
    else codes " [" ++ decimal tag ++ codes "=" ++ decimal n ++ codes "]"))
    [ true ↦ nothing_told | false ↦ one_told tag n small h ]

told_said : (fields : List Field) (tag last : ℕ) (reason : Said) → tag < 1000
    → IsSpelled fields (Value Reason) reason
    → IsTold 12 (reason_told tag last (reason >>= number_in))
told_said fields tag last None small h = told_of tag last None small tt
told_said fields tag last (Some text) small h =
    told_of tag last (number_in text) small (small_reason fields text h.spelled)

told_both : (p q : ℕ) (one two : List ℕ) → IsTold p one → IsTold q two
    → IsTold (p + q) (one ++ two)
told_both p q one two h k = record {
  short = let low = h.short in let also = k.short in omega (arith, low, also, length-append one two);
  clear = clear_joined one two h.clear k.clear;
  begins = by one h.begins;
}
  where
    by : (xs : List ℕ) → Begins xs → Begins (xs ++ two)
    by [] b = k.begins
    by (x ∷ []) b = absurd b
    by (x ∷ y ∷ ys) b = tt

-- WHAT THE REASONS of a report are told as
pub all_told : (fields : List Field) (m : Message) → IsSpelled fields (Value Reason) (at m 103)
    → IsSpelled fields (Value Reason) (at m 378) → IsSpelled fields (Value Reason) (at m 102)
    → IsTold 48 (told m)
all_told fields m rej restate cxl =
    let last = told_both 12 12 _ _ (told_said fields 378 5 (at m 378) (lit≤ tt) restate)
    (told_said fields 102 3 (at m 102) (lit≤ tt) cxl) in
    let all = told_both 12 24 _ _ (told_said fields 103 8 (at m 103) (lit≤ tt) rej) last in
    let low = all.short in
    record { short = omega (arith, low); clear = all.clear; begins = all.begins }

text_spelled : (text : List ℕ) → 1 ≤ length text → length text ≤ 2048
    → verdict_of (spelling Text text) ≡ Spells text
unfolding spelling
text_spelled [] some few = absurd (omega (arith, some))
text_spelled (b ∷ bs) some few =
    let low : nat_le (length (b ∷ bs)) 2048 ≡ true = grind (arith, nat_tests) in
    ap (λ (good : Bool). verdict_of (if good then Ok (Some (b ∷ bs)) else Err Range)) low

pub clear_back : (n : ℕ) (bytes : List ℕ) → IsClear bytes → IsClear (drop n bytes)
clear_back zero bytes h = h
clear_back (suc n) [] h = h
clear_back (suc n) (b ∷ bs) h = clear_back n bs (either (b == 1) (list_any is_soh bs) h).1

pub text_said : (before after : List Field) (text : Said) (told : List ℕ) → IsTold 48 told
    → IsSpelled before (Value Text) text
    → IsSaid judge after (row Optional 58 Text) (telling text told)
unfolding judge
text_said before after text [] h s =
    optional_said after 58 (Value Text) text (same_value before after Text text s.spelled) s.clear
text_said before after text (b ∷ []) h s = absurd h.begins
text_said before after None (b ∷ c ∷ bs) h s =
    let short = h.short in
    optional_said after 58 (Value Text) (Some (c ∷ bs))
    (text_spelled (c ∷ bs) (omega arith) (omega (arith, short)))
    (clear_back 1 (b ∷ c ∷ bs) h.clear)
text_said before after (Some text) (b ∷ c ∷ bs) h s =
    let short = h.short in
    let front = length-take 2000 text in
    let whole = length-append (take 2000 text) (b ∷ c ∷ bs) in
    optional_said after 58 (Value Text) (Some (take 2000 text ++ (b ∷ c ∷ bs)))
    (text_spelled (take 2000 text ++ (b ∷ c ∷ bs)) (omega (arith, whole))
    (omega (arith, whole, short, front)))
    (clear_joined (take 2000 text) (b ∷ c ∷ bs) (clear_front 2000 text s.clear) h.clear)
