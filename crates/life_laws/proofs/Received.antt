-- What is written of each form of a journal is read as that form.
use Rattle.std.proofs.Common.{◌≡◌, ℕ, ◌+◌, ◌-◌, ◌<◌, ◌≤◌, Bool, true, false, List, [], ◌∷◌, ◌++◌}
use Rattle.std.proofs.Common.{length, refl, sym, ◌∙◌, ap, subst, arith, append-nil, length-append}
use Rattle.std.proofs.Common.{Some, None, ◌^◌, ◌||◌, get_or, codes}
use Rattle.std.specs.Prelude.{◌==◌, Ok, unwrap_or}
use Rattle.std.specs.List.{list_any}
use Rattle.std.proofs.lemmas.Bool.{le-leb}
use Rattle.std.proofs.lemmas.Bool.Decides.{nat_tests}
use Rattle.order_meaning.specs.declared.Side.{Side}
use Rattle.order_meaning.specs.declared.names.Names.{Names}
use Rattle.pair_entries.specs.declared.entry.Entry.{Entry}
use Rattle.session_frames.specs.Frames.{kind_of, heading, body_out, frame_out}
use Rattle.life_laws.specs.Forms.{Placed, all_placed, placed, Form, First, Again, Fill}
use Rattle.life_laws.specs.Forms.{form_frame, IsForm, out_frame}
use Rattle.life_laws.specs.Taken.{GapFill, Other, read_of_form}
use Rattle.life_laws.specs.Standing.{NumberedFrom}
use Rattle.std.specs.Result.{result_ok}
use Rattle.std.specs.Fmt.{decimal, digits}
use Rattle.std.specs.Int.{IsInRange}
use Rattle.std.specs.Str.{bytes_eq}
use Rattle.std.proofs.lemmas.Fmt.{digits_decimal, length-decimal-le}
use Rattle.std.proofs.lemmas.List.Elements.{All-from_get_or}
use Rattle.std.proofs.lemmas.List.Folds.{list_any_none}
use Rattle.frame_grammar.specs.Frame.{IsFrame}
use Rattle.field_groups.specs.Field.{Field, field_bytes, AreFields, is_soh, body_of}
use Rattle.field_groups.specs.Fields.{SplitsInto}
use Rattle.field_groups.specs.Data.{is_data_tag}
use Rattle.field_groups.proofs.Determined.{determined}
use Rattle.field_groups.proofs.Plain.{plain_is}
use Rattle.field_groups.proofs.Reading.{own}
use Rattle.message_tables.specs.Tables.{value_at}
use Rattle.typed_fields.specs.Number.{read_number}
use Rattle.typed_fields.proofs.NumberLaws.{number_reads_back}
use Rattle.session_core.specs.declared.numbers.TheConstants.{MAX_MSG_SEQ_NUM, ALL_USED}
use Rattle.session_core.specs.declared.tag.TheConstants.{POSS_RESEND}
use Rattle.session_logon.specs.Content.{gap_fill_fields}
use Rattle.session_logon.specs.Head.{number_in, sequence_reset_kind}
use Rattle.session_logon.specs.Laws.{header_fields}
use Rattle.session_logon.specs.Logon.{is_yes}
use Rattle.session_logon.specs.Reasons.{read_between, or_reason}
use Rattle.event_decisions.specs.Body.{Reading, reading_of, fields_of, first_value}
use Rattle.event_decisions.proofs.Bodies.{bodies_are_read}
use Rattle.session_frames.specs.Laws.{IsReadBack}
use Rattle.session_frames.proofs.Shown.{frames_are_read}
use Rattle.life_laws.specs.Receiver.{is_in_header, behind_header, is_administrative, read_reset}
use Rattle.life_laws.specs.Receiver.{message_by, read_as, read_body, message_of_out, IsSent}
use Rattle.life_laws.specs.Receiver.{AreSent}
use Rattle.life_laws.specs.Laws.{WhatIsSentIsRead}
use Rattle.life_laws.proofs.Grown.{if_no, at_place, some_and}
use Rattle.life_laws.proofs.Repeats.{numbered_at}

-- ---- values that are read back

number_back : (least greatest n : ℕ) → least ≤ n → n ≤ greatest → n ≤ 1_000_000_000
    → read_between least greatest (decimal n) ≡ Ok n
number_back least greatest n low high bound =
    let read : read_number (decimal n) ≡ Ok (record { value = n }) =
    number_reads_back (record { value = n }) bound in
    rw (read, le-leb least n low, le-leb n greatest high) refl

either_false : (a b : Bool) → (a || b) ≡ false → (a ≡ false) × (b ≡ false)
either_false true b is = absurd (cc is)
either_false false b is = (refl, is)

turned : (m n : ℕ) → (n == m) ≡ false → (m == n) ≡ false
turned m n is = grind (arith, nat_tests)

-- fields of no header do not say PossResend(97)
no_resend : (fields : List Field) → list_any is_in_header fields ≡ false
    → value_at POSS_RESEND fields ≡ None
no_resend [] none = refl
no_resend (f ∷ fields) none =
    let here = either_false (is_in_header f) (list_any is_in_header fields) none in
    let t = f.0 in
    let a = either_false (35 == t) (49 == t || (56 == t || (34 == t || (43 == t || (97 == t
    || (52 == t || (122 == t || false))))))) here.0 in
    let b = either_false (49 == t) (56 == t || (34 == t || (43 == t || (97 == t || (52 == t
    || (122 == t || false)))))) a.1 in
    let c = either_false (56 == t) (34 == t || (43 == t || (97 == t || (52 == t || (122 == t
    || false))))) b.1 in
    let d = either_false (34 == t) (43 == t || (97 == t || (52 == t || (122 == t || false)))) c.1 in
    let e = either_false (43 == t) (97 == t || (52 == t || (122 == t || false))) d.1 in
    let g = either_false (97 == t) (52 == t || (122 == t || false)) e.1 in
    let is_not : (f.0 == 97) ≡ false = turned f.0 97 g.0 in
    rw is_not (no_resend fields here.1)

read_is : (body : List ℕ) (all : List Field)
    → reading_of body ≡ record { fields = all; fault = None }
    → read_body body ≡ read_as (unwrap_or (number_in all) 0) (first_value all) all
read_is body all is = ap (λ (r : Reading).
    read_as (unwrap_or (number_in r.fields) 0) (first_value r.fields) r.fields) is

-- ---- the header

module _ (side : Side) (names : Names) (msg_type : List ℕ) (number first now : ℕ)
    (fields : List Field) where
  abbrev all : Bool → Bool → List Field
  all resend again =
      header_fields side names msg_type (heading number resend first now again) ++ fields

  number_is : (resend again : Bool) → 1 ≤ number → number ≤ MAX_MSG_SEQ_NUM
      → unwrap_or (number_in (all resend again)) 0 ≡ number
  number_is resend again low high = ap (λ r. unwrap_or (result_ok (or_reason r)) 0)
      (number_back 1 MAX_MSG_SEQ_NUM number low high (omega (arith, high)))

  resend_is : (resend again : Bool) → value_at POSS_RESEND fields ≡ None
      → is_yes (value_at POSS_RESEND (all resend again)) ≡ resend
  resend_is true true none = refl
  resend_is true false none = refl
  resend_is false true none = ap is_yes none
  resend_is false false none = ap is_yes none

  behind_is : (resend again : Bool) → behind_header (all resend again) ≡ behind_header fields
  behind_is true true = refl
  behind_is false true = refl
  behind_is resend again = refl

-- ---- an out

pub content_read : (fields : List Field) → AreFields None fields → length fields ≤ 248
    → fields_of (body_of fields) ≡ fields
content_read fields good few =
    let body = body_of fields in
    let splits : SplitsInto body fields None = record {
      left = [];
      good = good;
      at_most = omega (arith, few);
      written = sym (append-nil body);
      stopped = refl;
    } in
    (determined body (reading_of body).fields fields (reading_of body).fault None
    (bodies_are_read body) splits).0

out_body : Names → Side → Placed → ℕ → Bool → List ℕ
out_body names side p now again = body_out side names
    (heading p.out.number p.out.resend p.at now again) p.out.msg_type p.out.content

record IsBack (names : Names) (side : Side) (p : Placed) (now : ℕ) (again : Bool) : Type 0 where
  frame : IsFrame (kind_of side) (out_body names side p now again)
      (out_frame names side p now again)
  read : read_body (out_body names side p now again) ≡ Other (message_of_out p.out) p.out.admin

out_back : (names : Names) (side : Side) (p : Placed) (now : ℕ) (again : Bool)
    → IsSent names side p.out → IsBack names side p now again
unfolding out_body
out_back names side p now again s =
    let o = p.out in
    let back : IsReadBack names side o.number o.msg_type s.fields o.resend p.at now again =
    frames_are_read names side o.number o.msg_type s.fields o.resend p.at now again s.sendable in
    let h = heading o.number o.resend p.at now again in
    let fields : List Field = header_fields side names o.msg_type h ++ s.fields in
    let content : fields_of o.content ≡ s.fields =
    ap fields_of s.content ∙ content_read s.fields s.sendable.good s.sendable.few in
    let resend : is_yes (value_at POSS_RESEND fields) ≡ o.resend =
    resend_is side names o.msg_type o.number p.at now s.fields o.resend again
    (no_resend s.fields s.no_header) in
    let behind : behind_header fields ≡ behind_header (fields_of o.content) =
    behind_is side names o.msg_type o.number p.at now s.fields o.resend again
    ∙ ap behind_header (sym content) in
    record {
      frame = subst (λ c. IsFrame (kind_of side) (body_out side names h o.msg_type c)
          (frame_out names side o.number o.msg_type c o.resend p.at now again)) (sym s.content)
          back.frame;
      read = ap (λ c. read_body (body_out side names h o.msg_type c)) s.content
          ∙ read_is (body_out side names h o.msg_type (body_of s.fields)) fields back.read
          ∙ ap (λ n. read_as n o.msg_type fields)
          (number_is side names o.msg_type o.number p.at now s.fields o.resend again s.number
          s.sendable.numbered)
          ∙ if_no (bytes_eq o.msg_type (codes "4")) _
          (Other (message_by o.number o.msg_type fields) (is_administrative o.msg_type)) s.no_reset
          ∙ (λ i. Other (record {
            number = o.number;
            msg_type = o.msg_type;
            resend = resend i;
            fields = behind i;
          }) (sym s.admin i));
    }

-- ---- a gap fill

in_range_clear : (d : ℕ) → IsInRange 48 57 d → is_soh d ≡ false
in_range_clear d h = grind (arith, nat_tests)

pub decimal_clear : (n : ℕ) → n < 2 ^ 64 → list_any is_soh (decimal n) ≡ false
decimal_clear n lt = list_any_none is_soh (decimal n) (All-from_get_or (λ (b : ℕ). is_soh b ≡ false)
    (decimal n) 0 (λ k within. in_range_clear (get_or (decimal n) k 0)
    (digits_decimal own n lt k within)))

gap_good : (to : ℕ) → to ≤ 1_000_000_000 → AreFields None (gap_fill_fields to)
unfolding is_data_tag
gap_good to high = (
  plain_is None (123, codes "Y") (record {
    positive = omega arith;
    nine_digits = omega arith;
    no_data = refl;
    no_soh = refl;
  }),
  (
    plain_is (Some (123, codes "Y")) (36, decimal to) (record {
      positive = omega arith;
      nine_digits = omega arith;
      no_data = refl;
      no_soh = decimal_clear to (omega (arith, high));
    }),
    tt,
  ),
)

gap_short : (to : ℕ) → to ≤ 1_000_000_000 → length (body_of (gap_fill_fields to)) ≤ 7936
unfolding field_bytes digits
gap_short to high = omega (
  arith,
  length-decimal-le 10 to (omega arith) (omega (arith, high)) (omega (arith, high)),
  length-append (decimal to ++ 1 ∷ []) [],
  length-append (decimal to) (1 ∷ []),
)

gap_body : Names → Side → ℕ → ℕ → ℕ → ℕ → List ℕ
gap_body names side from to first now = body_out side names (heading from false first now true)
    (codes "4") (body_of (gap_fill_fields to))

gap_read : (names : Names) (side : Side) (from to first now : ℕ) → 1 ≤ from
    → from ≤ MAX_MSG_SEQ_NUM → 1 ≤ to → to ≤ ALL_USED
    → IsReadBack names side from (codes "4") (gap_fill_fields to) false first now true
    → read_body (gap_body names side from to first now) ≡ GapFill from to
unfolding gap_body
gap_read names side from to first now low high least most back =
    let fields = header_fields side names (codes "4") (heading from false first now true)
    ++ gap_fill_fields to in
    read_is (gap_body names side from to first now) fields back.read
    ∙ ap (λ n. read_as n (codes "4") fields)
    (number_is side names (codes "4") from first now (gap_fill_fields to) false true low high)
    ∙ ap (λ r. read_reset from (sequence_reset_kind true (or_reason r)))
    (number_back 1 ALL_USED to least most (omega (arith, most)))

-- ---- each form

module _ (names : Names) (side : Side) (entries : List Entry) (sent : AreSent names side entries)
    (numbered : NumberedFrom 1 (all_placed side entries)) where
  form_body : Form → List ℕ
  form_body (First p) = out_body names side p p.at false
  form_body (Again p now) = out_body names side p now true
  form_body (Fill from to first now) = gap_body names side from (to - 1 + 1) first now

  number_at : (n : ℕ) (p : Placed) → placed side n entries ≡ Some p → p.out.number ≡ n
  number_at n p is =
      let here = at_place (all_placed side entries) n p is in
      let number = numbered_at 1 (all_placed side entries) (n - 1) p numbered here.1 in
      omega (arith, here.0, number)

  record Filled (from to first now : ℕ) : Type 0 where
    low : 1 ≤ from
    high : from ≤ MAX_MSG_SEQ_NUM
    most : to - 1 + 1 ≤ ALL_USED
    same : to - 1 + 1 ≡ to
    back : IsReadBack names side from (codes "4") (gap_fill_fields
        (to - 1 + 1)) false first now true

  filled : (from to first now : ℕ) → IsForm entries side (Fill from to first now)
      → Filled from to first now
  filled from to first now is =
      let a = some_and (placed side from entries) _ (is.1 from (omega arith) is.0) in
      let b = some_and (placed side (to - 1) entries) _
      (is.1 (to - 1) (omega (arith, is.0)) (omega (arith, is.0))) in
      let s = sent from a.0 a.1 in
      let t = sent (to - 1) b.0 b.1 in
      let m = number_at from a.0 a.1 in
      let n = number_at (to - 1) b.0 b.1 in
      let most : to - 1 + 1 ≤ ALL_USED = omega (arith, t.sendable.numbered, n) in
      record {
        low = omega (arith, s.number, m);
        high = omega (arith, s.sendable.numbered, m);
        most = most;
        same = omega (arith, is.0);
        back = frames_are_read names side from (codes "4") (gap_fill_fields
            (to - 1 + 1)) false first
            now true (record {
              our = s.sendable.our;
              peer = s.sendable.peer;
              numbered = omega (arith, s.sendable.numbered, m);
              typed = omega arith;
              short = omega arith;
              plain = refl;
              good = gap_good (to - 1 + 1) (omega (arith, most));
              few = omega arith;
              bounded = gap_short (to - 1 + 1) (omega (arith, most));
            });
      }

  form_is : (form : Form) → IsForm entries side form
      → IsFrame (kind_of side) (form_body form) (form_frame names side form)
  unfolding form_frame form_body gap_body
  form_is (First p) is = (out_back names side p p.at false (sent p.out.number p is)).frame
  form_is (Again p now) is = (out_back names side p now true (sent p.out.number p is)).frame
  form_is (Fill from to first now) is = (filled from to first now is).back.frame

  form_read : (form : Form) → IsForm entries side form
      → read_body (form_body form) ≡ read_of_form read_body message_of_out form
  unfolding form_body
  form_read (First p) is = (out_back names side p p.at false (sent p.out.number p is)).read
  form_read (Again p now) is = (out_back names side p now true (sent p.out.number p is)).read
  form_read (Fill from to first now) is =
      let f = filled from to first now is in
      gap_read names side from (to - 1 + 1) first now f.low f.high (omega arith) f.most f.back
      ∙ ap (GapFill from) f.same

pub sent_is_read : WhatIsSentIsRead
sent_is_read names side entries sent numbered = record {
  body = form_body names side entries sent numbered;
  frames = form_is names side entries sent numbered;
  reads = form_read names side entries sent numbered;
}
