-- What is sent is read as the fields of the header and of the content.
use Rattle.std.proofs.Common.{◌≡◌, ◌≢◌, ℕ, ◌+◌, ◌-◌, ◌^◌, ◌<◌, ◌≤◌, ◌||◌, Bool}
use Rattle.std.specs.Prelude.{◌&&◌, slice_index, if◌then◌else◌}
use Rattle.std.proofs.Common.{true, false, List, [], ◌∷◌, ◌++◌, length, get_or, take, Option, Some}
use Rattle.std.proofs.Common.{None, ◌%◌}
use Rattle.std.proofs.Common.{refl, sym, ap, subst, ◌∙◌, arith, append_assoc, append-nil}
use Rattle.std.proofs.Common.{length-append, codes}
use Rattle.std.specs.List.{list_any, list_all}
use Rattle.std.specs.Char.{is_ascii_digit}
use Rattle.std.specs.Fmt.{decimal, digits}
use Rattle.std.specs.Int.{IsInRange}
use Rattle.std.proofs.lemmas.Bool.Decides.{nat_tests}
use Rattle.std.proofs.lemmas.Fmt.{digits_decimal, length-decimal-le}
use Rattle.std.proofs.lemmas.Grind.{flat_map-append}
use Rattle.std.proofs.lemmas.List.Elements.{All-from_get_or}
use Rattle.std.proofs.lemmas.List.Folds.{list_any_none}
use Rattle.std.proofs.Math.Seq.{get_or-append_seam}
use Rattle.frame_grammar.specs.Frame.{IsWritable}
use Rattle.frame_grammar.proofs.Written.{frame_is}
use Rattle.field_groups.specs.Data.{is_data_pair, is_data_tag}
use Rattle.field_groups.specs.Field.{Field, IsField, AreFields, body_of, field_bytes}
use Rattle.field_groups.specs.Field.{is_soh, is_data}
use Rattle.field_groups.specs.Fields.{SplitsInto}
use Rattle.field_groups.proofs.Determined.{determined}
use Rattle.field_groups.proofs.Plain.{plain_is}
use Rattle.field_groups.proofs.Reading.{own}
use Rattle.order_meaning.specs.declared.Side.{Side}
use Rattle.order_meaning.specs.declared.names.Names.{Names}
use Rattle.typed_fields.specs.declared.stamp.Stamp.{Stamp}
use Rattle.typed_fields.specs.Digits.{zero_padded, are_digits}
use Rattle.typed_fields.specs.Day.{day_digits, date_of}
use Rattle.typed_fields.specs.declared.stamp.Fraction.{Fraction}
use Rattle.typed_fields.specs.declared.stamp.Fraction.TheVariants.{Whole, Three, Six, Nine}
use Rattle.typed_fields.specs.Stamp.{stamp_text, fraction_text, stamp_at}
use Rattle.typed_fields.proofs.SpellingLemmas.{are_digits-zero_padded, length-zero_padded}
use Rattle.session_logon.specs.Head.{our, peer}
use Rattle.session_logon.specs.Laws.{Heading, header_fields, flag_field, stamp_field}
use Rattle.event_decisions.specs.Body.{reading_of}
use Rattle.event_decisions.proofs.Bodies.{bodies_are_read}
use Rattle.session_frames.specs.Frames.{kind_of, heading, body_out}
use Rattle.session_frames.specs.Laws.{FramesAreRead}

-- ---- bytes without SOH

record IsClear (bytes : List ℕ) : Type 0 where
  none : list_any is_soh bytes ≡ false

clear_or : (a b : Bool) → a ≡ false → b ≡ false → (a || b) ≡ false
clear_or true b is also = absurd (cc is)
clear_or false b is also = also

clear_parts : (a b : Bool) → (a || b) ≡ false → (a ≡ false) × (b ≡ false)
clear_parts true b is = absurd (cc is)
clear_parts false b is = (refl, is)

joined_none : (xs ys : List ℕ) → list_any is_soh xs ≡ false → list_any is_soh ys ≡ false
    → list_any is_soh (xs ++ ys) ≡ false
joined_none [] ys h k = k
joined_none (x ∷ xs) ys h k =
    let p = clear_parts (is_soh x) (list_any is_soh xs) h in
    clear_or (is_soh x) (list_any is_soh (xs ++ ys)) p.0 (joined_none xs ys p.1 k)

joined : {xs ys : List ℕ} → IsClear xs → IsClear ys → IsClear (xs ++ ys)
joined {xs} {ys} h k = record { none = joined_none xs ys h.none k.none }

digit_clear : (d : ℕ) → is_ascii_digit d ≡ true → is_soh d ≡ false
digit_clear d h = grind (arith, nat_tests)

both_true : (a b : Bool) → (a && b) ≡ true → (a ≡ true) × (b ≡ true)
both_true true b is = (refl, is)
both_true false b is = absurd (cc is)

digits_none : (ds : List ℕ) → are_digits ds ≡ true → list_any is_soh ds ≡ false
unfolding are_digits
digits_none [] h = refl
digits_none (d ∷ ds) h =
    let p = both_true (is_ascii_digit d) (list_all is_ascii_digit ds) h in
    clear_or (is_soh d) (list_any is_soh ds) (digit_clear d p.0) (digits_none ds p.1)

padded : (w n : ℕ) → IsClear (zero_padded w n)
padded w n = record { none = digits_none (zero_padded w n) (are_digits-zero_padded w n) }

in_range_clear : (d : ℕ) → IsInRange 48 57 d → is_soh d ≡ false
in_range_clear d h = grind (arith, nat_tests)

decimal_clear : (n : ℕ) → n < 2 ^ 64 → IsClear (decimal n)
decimal_clear n lt = record {
  none = list_any_none is_soh (decimal n) (All-from_get_or (λ (b : ℕ). is_soh b ≡ false)
      (decimal n) 0 (λ k within. in_range_clear (get_or (decimal n) k 0)
      (digits_decimal own n lt k within)));
}

day_clear : (s : Stamp) → IsClear (day_digits s.day)
day_clear s =
    let all = joined (joined (padded 4 (date_of s.day).0) (padded 2 (date_of s.day).1))
    (padded 2 (date_of s.day).2) in record { none = all.none }

point_clear : (w n : ℕ) → IsClear (46 ∷ zero_padded w n)
point_clear w n = record {
  none = clear_or (is_soh 46) (list_any is_soh (zero_padded w n)) refl (padded w n).none;
}

fraction_clear : (fraction : Fraction) → IsClear (fraction_text fraction)
fraction_clear Whole = record { none = refl }
fraction_clear (Three n) = point_clear 3 n
fraction_clear (Six n) = point_clear 6 n
fraction_clear (Nine n) = point_clear 9 n

dash : IsClear (45 ∷ [])
dash = record { none = refl }

colon : IsClear (58 ∷ [])
colon = record { none = refl }

stamp_clear : (s : Stamp) → IsClear (stamp_text s)
stamp_clear s =
    let all = joined (joined (joined (joined (joined (joined (joined (day_clear s) dash)
    (padded 2 s.hour)) colon) (padded 2 s.minute)) colon) (padded 2 s.second))
    (fraction_clear s.frac) in record { none = all.none }

-- ---- how long they are

record Short (most : ℕ) (bytes : List ℕ) : Type 0 where
  le : length bytes ≤ most

joined_short : {m n : ℕ} {xs ys : List ℕ} → Short m xs → Short n ys → Short (m + n) (xs ++ ys)
joined_short {m} {n} {xs} {ys} h k = record { le = omega (arith, h.le, k.le, length-append xs ys) }

padded_short : (w n : ℕ) → Short w (zero_padded w n)
padded_short w n = record { le = omega (arith, length-zero_padded w n) }

one_short : (byte : ℕ) → Short 1 (byte ∷ [])
one_short byte = record { le = omega arith }

point_short : (ms : ℕ) → Short 4 (fraction_text (Three ms))
point_short ms =
    let all = joined_short (one_short 46) (padded_short 3 ms) in record { le = all.le }

stamp_short : (moment : ℕ) → Short 21 (stamp_text (stamp_at moment))
stamp_short moment =
    let s : Stamp = stamp_at moment in
    let all = joined_short (joined_short (joined_short (joined_short (joined_short (joined_short
    (joined_short (joined_short (joined_short (padded_short 4 (date_of s.day).0)
    (padded_short 2 (date_of s.day).1)) (padded_short 2 (date_of s.day).2)) (one_short 45))
    (padded_short 2 s.hour)) (one_short 58)) (padded_short 2 s.minute)) (one_short 58))
    (padded_short 2 s.second)) (point_short (moment % 1000)) in record { le = all.le }

decimal_short : (n : ℕ) → n < 2 ^ 32 → Short 10 (decimal n)
decimal_short n lt = record {
  le = length-decimal-le 10 n (omega arith) (omega (arith, lt)) (omega (arith, lt));
}

field_length : (f : Field) (k : ℕ) → f.0 < 2 ^ 32 → Short k f.1 → length (field_bytes f) ≤ k + 12
unfolding field_bytes
field_length f k lt short = omega (
  arith,
  (decimal_short f.0 lt).le,
  short.le,
  length-append (decimal f.0 ++ 61 ∷ f.1) (1 ∷ []),
  length-append (decimal f.0) (61 ∷ f.1),
)

-- fields have at most so many bytes
record Bound (fs : List Field) (most : ℕ) : Type 0 where
  le : length (body_of fs) ≤ most

more : (f : Field) {fs : List Field} {k n : ℕ} → f.0 < 2 ^ 32 → Short k f.1 → Bound fs n
    → Bound (f ∷ fs) (k + 12 + n)
more f {fs} {k} {n} lt short rest = record {
  le = omega (
    arith,
    field_length f k lt short,
    rest.le,
    length-append (field_bytes f) (body_of fs),
  );
}

-- ---- the fields of the header

plain : {before : Option Field} (tag : ℕ) {value : List ℕ} → 1 ≤ tag → tag ≤ 999_999_999
    → is_data_tag tag ≡ false → IsClear value → IsField before (tag, value)
plain {before} tag {value} low high none clear = plain_is before (tag, value) (record {
  positive = low;
  nine_digits = high;
  no_data = none;
  no_soh = clear.none;
})

-- the content stands behind a field that is no length
behind : (f : Field) (fs : List Field) → ((tag : ℕ) → is_data (Some f) tag ≡ false)
    → AreFields None fs → AreFields (Some f) fs
behind f [] none are = tt
behind f (g ∷ fs) none are = (
  record {
    positive = are.0.positive;
    nine_digits = are.0.nine_digits;
    value = rw (none g.0) are.0.value;
  },
  are.1,
)

sent_is_no_length : (value : List ℕ) (tag : ℕ) → is_data (Some (52, value)) tag ≡ false
unfolding is_data_pair
sent_is_no_length value tag = refl

first_is_no_length : (value : List ℕ) (tag : ℕ) → is_data (Some (122, value)) tag ≡ false
unfolding is_data_pair
first_is_no_length value tag = refl

yes_clear : IsClear (codes "Y")
yes_clear = record { none = refl }

-- what is known of the values
record AreClear (names : Names) (side : Side) (number : ℕ) (msg_type : List ℕ) : Type 0 where
  typed : IsClear msg_type
  our : IsClear (our side names)
  peer : IsClear (peer side names)
  digits : IsClear (decimal number)

-- fields that may stand behind any field
abbrev Anywhere : List Field → Type 0
Anywhere fields = (before : Option Field) → AreFields before fields

field_then : (tag : ℕ) {value : List ℕ} (fields : List Field) → 1 ≤ tag → tag ≤ 999_999_999
    → is_data_tag tag ≡ false → IsClear value → AreFields (Some (tag, value)) fields
    → Anywhere ((tag, value) ∷ fields)
field_then tag fields low high none clear are before = (plain tag low high none clear, are)

flag_then : (tag : ℕ) (flag : Bool) (fields : List Field) → 1 ≤ tag → tag ≤ 999_999_999
    → is_data_tag tag ≡ false → Anywhere fields → Anywhere (flag_field tag flag ++ fields)
flag_then tag true fields low high none are =
    field_then tag fields low high none yes_clear (are (Some (tag, codes "Y")))
flag_then tag false fields low high none are = are

sent_then : (now first : ℕ) (again : Bool) (fields : List Field) → AreFields None fields
    → Anywhere ((52, stamp_text (stamp_at now))
    ∷ (stamp_field 122 (if again then Some (stamp_at first) else None) ++ fields))
unfolding is_data_tag
sent_then now first true fields are =
    let text : List ℕ = stamp_text (stamp_at first) in
    field_then 52 ((122, text) ∷ fields) (omega arith) (omega arith) refl
    (stamp_clear (stamp_at now)) (field_then 122 fields (omega arith) (omega arith) refl
    (stamp_clear (stamp_at first)) (behind (122, text) fields (first_is_no_length text) are)
    (Some (52, stamp_text (stamp_at now))))
sent_then now first false fields are =
    let text : List ℕ = stamp_text (stamp_at now) in
    field_then 52 fields (omega arith) (omega arith) refl (stamp_clear (stamp_at now))
    (behind (52, text) fields (sent_is_no_length text) are)

-- two lists before the rest, one behind the other
before_rest : (a b c d : List Field) → ((a ++ b) ++ c) ++ d ≡ a ++ (b ++ (c ++ d))
before_rest a b c d = append_assoc (a ++ b) c d ∙ append_assoc a b (c ++ d)

header_good : (names : Names) (side : Side) (number : ℕ) (msg_type : List ℕ) (fields : List Field)
    (resend : Bool) (first now : ℕ) (again : Bool) → AreClear names side number msg_type
    → AreFields None fields
    → AreFields None (header_fields side names msg_type (heading number resend first now again)
    ++ fields)
unfolding is_data_tag
header_good names side number msg_type fields resend first now again c are =
    let first_field : List Field =
    stamp_field 122 (if again then Some (stamp_at first) else None) in
    let moments : List Field = (52, stamp_text (stamp_at now)) ∷ first_field in
    let flags = flag_then 43 again (flag_field 97 resend ++ (moments ++ fields)) (omega arith)
    (omega arith) refl (flag_then 97 resend (moments ++ fields) (omega arith) (omega arith) refl
    (sent_then now first again fields are)) in
    let four : List Field =
    ((flag_field 43 again ++ flag_field 97 resend) ++ moments) ++ fields in
    let behind_number : Anywhere four = λ before. subst (AreFields before)
    (sym (before_rest (flag_field 43 again) (flag_field 97 resend) moments fields))
    (flags before) in
    let three : List Field = (34, decimal number) ∷ four in
    let behind_peer : Anywhere three = field_then 34 four (omega arith) (omega arith) refl c.digits
    (behind_number (Some (34, decimal number))) in
    let two : List Field = (56, peer side names) ∷ three in
    let behind_our : Anywhere two = field_then 56 three (omega arith) (omega arith) refl c.peer
    (behind_peer (Some (56, peer side names))) in
    let one : List Field = (49, our side names) ∷ two in
    let behind_type : Anywhere one = field_then 49 two (omega arith) (omega arith) refl c.our
    (behind_our (Some (49, our side names))) in
    field_then 35 one (omega arith) (omega arith) refl c.typed (behind_type (Some (35, msg_type)))
    None

header_few : (names : Names) (side : Side) (number : ℕ) (msg_type : List ℕ) (fields : List Field)
    (resend : Bool) (first now : ℕ) (again : Bool) → length fields ≤ 248
    → length (header_fields side names msg_type (heading number resend first now again) ++ fields)
    ≤ 256
header_few names side number msg_type fields true first now true few = omega (arith, few)
header_few names side number msg_type fields false first now true few = omega (arith, few)
header_few names side number msg_type fields true first now false few = omega (arith, few)
header_few names side number msg_type fields false first now false few = omega (arith, few)

record AreShort (names : Names) (side : Side) (number : ℕ) (msg_type : List ℕ) : Type 0 where
  typed : Short 8 msg_type
  our : Short 35 (our side names)
  peer : Short 35 (peer side names)
  digits : Short 10 (decimal number)

yes_short : Short 1 (codes "Y")
yes_short = record { le = omega arith }

flag_more : (tag : ℕ) (flag : Bool) {fields : List Field} {n : ℕ} → tag < 2 ^ 32
    → Bound fields n → Bound (flag_field tag flag ++ fields) (13 + n)
flag_more tag true lt rest =
    let all = more (tag, codes "Y") lt yes_short rest in record { le = omega (arith, all.le) }
flag_more tag false lt rest = record { le = omega (arith, rest.le) }

first_more : (first : ℕ) (again : Bool) {fields : List Field} {n : ℕ} → Bound fields n
    → Bound (stamp_field 122 (if again then Some (stamp_at first) else None) ++ fields) (33 + n)
first_more first true rest =
    let all = more (122, stamp_text (stamp_at first)) (omega arith) (stamp_short first) rest in
    record { le = omega (arith, all.le) }
first_more first false rest = record { le = omega (arith, rest.le) }

header_short : (names : Names) (side : Side) (number : ℕ) (msg_type : List ℕ) (fields : List Field)
    (resend : Bool) (first now : ℕ) (again : Bool) → AreShort names side number msg_type
    → length (body_of fields) ≤ 7936
    → length (body_of (header_fields side names msg_type (heading number resend first now again)
    ++ fields)) ≤ 8192
header_short names side number msg_type fields resend first now again s le =
    let first_field : List Field =
    stamp_field 122 (if again then Some (stamp_at first) else None) in
    let moments : List Field = (52, stamp_text (stamp_at now)) ∷ first_field in
    let content : Bound fields 7936 = record { le = le } in
    let flags : Bound (flag_field 43 again ++ (flag_field 97 resend ++ (moments ++ fields)))
    (13 + (13 + (21 + 12 + (33 + 7936)))) = flag_more 43 again (omega arith)
    (flag_more 97 resend (omega arith) (more (52, stamp_text (stamp_at now)) (omega arith)
    (stamp_short now) (first_more first again content))) in
    let behind_number : Bound (((flag_field 43 again ++ flag_field 97 resend) ++ moments)
    ++ fields) (13 + (13 + (21 + 12 + (33 + 7936)))) = record {
      le = subst (λ (l : List Field). length (body_of l) ≤ 13 + (13 + (21 + 12 + (33 + 7936))))
          (sym (before_rest (flag_field 43 again) (flag_field 97 resend) moments fields)) flags.le;
    } in
    let all = more (35, msg_type) (omega arith) s.typed
    (more (49, our side names) (omega arith) s.our
    (more (56, peer side names) (omega arith) s.peer
    (more (34, decimal number) (omega arith) s.digits behind_number))) in omega (arith, all.le)

-- ---- the frame

-- fields end with SOH
ends_soh : (f : Field) (fs : List Field) → (front : List ℕ) × (body_of (f ∷ fs) ≡ front ++ 1 ∷ [])
unfolding field_bytes
ends_soh f [] = (decimal f.0 ++ 61 ∷ f.1, append-nil (field_bytes f))
ends_soh f (g ∷ fs) =
    let rest = ends_soh g fs in (
      field_bytes f ++ rest.0,
      ap (λ (bs : List ℕ). field_bytes f ++ bs) rest.1
          ∙ sym (append_assoc (field_bytes f) rest.0 (1 ∷ [])),
    )

last_soh : (f : Field) (fs : List Field)
    → slice_index (body_of (f ∷ fs)) (length (body_of (f ∷ fs)) - 1) ≡ 1
last_soh f fs =
    let end = ends_soh f fs in
    let at : length (body_of (f ∷ fs)) - 1 ≡ length end.0 =
    omega (arith, ap length end.1, length-append end.0 (1 ∷ [])) in
    (λ i. slice_index (end.1 i) (at i)) ∙ get_or-append_seam end.0 1 [] 0

begins : (t : List ℕ) (fs : List Field) → take 3 (body_of ((35, t) ∷ fs)) ≡ codes "35="
unfolding field_bytes digits
begins t fs = refl

no_soh : (byte : ℕ) → is_soh byte ≡ false → byte ≢ 1
no_soh byte is same = absurd (cc (is, ap is_soh same))

has_type : (t : List ℕ) (fs : List Field) → 1 ≤ length t → IsClear t
    → slice_index (body_of ((35, t) ∷ fs)) 3 ≢ 1
unfolding field_bytes digits
has_type [] fs some clear = absurd (omega (arith, some))
has_type (b ∷ t) fs some clear =
    no_soh b (clear_parts (is_soh b) (list_any is_soh t) clear.none).0

five : (t : List ℕ) (fs : List Field) → 1 ≤ length t → 5 ≤ length (body_of ((35, t) ∷ fs))
unfolding field_bytes digits
five t fs some = omega (
  arith,
  length-append (field_bytes (35, t)) (body_of fs),
  length-append (decimal 35 ++ 61 ∷ t) (1 ∷ []),
  length-append (decimal 35) (61 ∷ t),
)

writable : (t : List ℕ) (fs : List Field) → 1 ≤ length t → IsClear t
    → IsWritable (body_of ((35, t) ∷ fs))
writable t fs some clear = record {
  begins = begins t fs;
  has_type = has_type t fs some clear;
  ends = last_soh (35, t) fs;
  least = five t fs some;
}

-- ---- what is read

read_as : (body : List ℕ) (fields : List Field) → SplitsInto body fields None
    → reading_of body ≡ record { fields = fields; fault = None }
read_as body fields splits =
    let one = determined body (reading_of body).fields fields (reading_of body).fault None
    (bodies_are_read body) splits in
    λ i. record { fields = one.0 i; fault = one.1 i }

pub frames_are_read : FramesAreRead
frames_are_read names side number msg_type fields resend first now again is =
    let h : Heading = heading number resend first now again in
    let header : List Field = header_fields side names msg_type h in
    let all : List Field = header ++ fields in
    let rest : List Field = (49, our side names) ∷ (56, peer side names) ∷ (34, decimal number)
    ∷ (((flag_field 43 again ++ flag_field 97 resend)
    ++ ((52, stamp_text (stamp_at now)) ∷ stamp_field 122 h.first)) ++ fields) in
    let body : List ℕ = body_out side names h msg_type (body_of fields) in
    let written : body ≡ body_of all = sym (flat_map-append field_bytes header fields) in
    let clear : AreClear names side number msg_type = record {
      typed = record { none = is.plain };
      our = record { none = is.our.plain };
      peer = record { none = is.peer.plain };
      digits = decimal_clear number (omega (arith, is.numbered));
    } in
    let short : AreShort names side number msg_type = record {
      typed = record { le = is.short };
      our = record { le = is.our.short };
      peer = record { le = is.peer.short };
      digits = decimal_short number (omega (arith, is.numbered));
    } in
    record {
      frame = frame_is (kind_of side) body
          (subst IsWritable (sym written) (writable msg_type rest is.typed clear.typed))
          (omega (
            arith,
            ap length written,
            header_short names side number msg_type fields resend
                first now again short is.bounded,
          ));
      read = read_as body all (record {
        left = [];
        good = header_good names side number msg_type fields resend first now again clear
            is.good;
        at_most = header_few names side number msg_type fields resend first now again is.few;
        written = written ∙ sym (append-nil (body_of all));
        stopped = refl;
      });
    }
