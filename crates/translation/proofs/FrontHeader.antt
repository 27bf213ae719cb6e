-- A header that stands at the front of a body just as a translation writes it.
use Rattle.std.proofs.Common.{◌≡◌, ◌≤◌, ◌+◌, ℕ, List, [], ◌∷◌, ◌++◌, Option, None, drop, length}
use Rattle.std.proofs.Common.{map, take, append_assoc, arith, length-append, slice_index_or, refl}
use Rattle.std.proofs.Common.{sym, ap, ◌∙◌}
use Rattle.std.specs.Borrow.{Bor}
use Rattle.std.specs.Option.{option_map}
use Rattle.std.specs.Fmt.{decimal, digits}
use Rattle.field_groups.specs.Field.{Field, body_of, field_bytes}
use Rattle.message_tables.specs.Tables.{Said, value_at}
use Rattle.row_values.proofs.Contents.{body-append}
use Rattle.translation.specs.Header.{carried_field, carried_tags, head_down, header, type_of}
use Rattle.translation.specs.Writing.{put}
use Rattle.translation.proofs.Bodies.{put_is}
use Rattle.translation.proofs.CarriedDown.{none_down, short_stays}

-- the header, appended tag by tag or at once
pub put_header : (fields : List Field) (start : List ℕ)
    → start ++ body_of (header fields)
    ≡ put (carried_field fields) (start ++ field_bytes (35, type_of fields)) carried_tags
put_header fields start =
    let first = field_bytes (35, type_of fields) in
    sym (put_is (carried_field fields) (start ++ first) carried_tags
    ∙ append_assoc start first _)

take_front : (xs ys : List ℕ) → take (length xs) (xs ++ ys) ≡ xs
take_front [] ys = refl
take_front (x ∷ xs) ys = ap (λ (l : List ℕ). x ∷ l) (take_front xs ys)

-- a field whose tag has two digits
field_width : (tag : ℕ) (value : List ℕ) → length (decimal tag) ≡ 2
    → length (field_bytes (tag, value)) ≡ 4 + length value
unfolding field_bytes
field_width tag value two =
    let e : length (field_bytes (tag, value)) ≡ length (decimal tag ++ 61 ∷ value) + 1 =
    length-append (decimal tag ++ 61 ∷ value) (1 ∷ []) in
    e ∙ omega (arith, two, length-append (decimal tag) (61 ∷ value))

width : (tag : ℕ) (value : List ℕ) (behind : List Field) → length (decimal tag) ≡ 2
    → length (body_of ((tag, value) ∷ behind)) ≡ 4 + length value + length (body_of behind)
width tag value behind two =
    length-append (field_bytes (tag, value)) (body_of behind)
    ∙ ap (λ n. n + length (body_of behind)) (field_width tag value two)

module _ (kind sender target number time : List ℕ) where
  -- the five fields
  abbrev pub five : List Field
  five = (35, kind) ∷ (49, sender) ∷ (56, target) ∷ (34, number) ∷ (52, time) ∷ []

  five_width : length (body_of five)
      ≡ length kind + length sender + length target + length number + length time + 20
  unfolding digits
  five_width =
      let e = width 52 time [] refl in
      let d = width 34 number ((52, time) ∷ []) refl in
      let c = width 56 target ((34, number) ∷ (52, time) ∷ []) refl in
      let b = width 49 sender ((56, target) ∷ (34, number) ∷ (52, time) ∷ []) refl in
      let a = width 35 kind ((49, sender) ∷ (56, target) ∷ (34, number) ∷ (52, time) ∷ []) refl in
      omega (arith, a, b, c, d, e)

  module _ (fields rest : List Field) (is : fields ≡ five ++ rest) (short : length time ≤ 21)
      (dup : None ≡ value_at 43 fields) (resend : None ≡ value_at 97 fields)
      (orig : None ≡ value_at 122 fields) where
    pub five_up : five ≡ header fields
    five_up = rw is (rw (sym (rw is at dup), sym (rw is at resend), sym (rw is at orig)) refl)

    pub five_down : five ≡ header (head_down fields)
    five_down =
        let dup_down = none_down 43 fields dup in
        let resend_down = none_down 97 fields resend in
        let orig_down = none_down 122 fields orig in
        rw is (rw (
          sym (short_stays 52 time short),
          sym (rw is at dup_down),
          sym (rw is at resend_down),
          sym (rw is at orig_down),
        ) refl)

  module _ (body left : List ℕ) (fields rest : List Field) (is : fields ≡ five ++ rest)
      (begins : body ≡ body_of fields ++ left) where
    whole : body ≡ body_of five ++ (body_of rest ++ left)
    whole =
        begins ∙ ap (λ (fs : List Field). body_of fs ++ left) is
        ∙ ap (λ (bytes : List ℕ). bytes ++ left) (body-append five rest)
        ∙ append_assoc (body_of five) (body_of rest) left

    pub five_fit : length kind + length sender + length target + length number + length time + 20
        ≤ length body
    five_fit =
        let all = ap length whole in
        omega (arith, five_width, all, length-append (body_of five) (body_of rest ++ left))

    at_front : take (length kind + length sender + length target + length number + length time + 20)
        body ≡ body_of five
    at_front =
        ap (λ n. take n body) (sym five_width)
        ∙ ap (λ (bytes : List ℕ). take (length (body_of five)) bytes) whole
        ∙ take_front (body_of five) (body_of rest ++ left)

    pub front_is : (front : List ℕ) (said : List Field) → front ≡ take (length kind
        + length sender + length target + length number + length time + 20) body
        → five ≡ said → front ≡ body_of said
    front_is front said e same = e ∙ at_front ∙ ap (λ (fs : List Field). body_of fs) same

-- ---- five fields as they lie in a slice

abbrev pub Part : Type 0
Part = ℕ × Bor (List ℕ)

abbrev pub text_at : List Part → Part → ℕ → List ℕ
text_at parts d place = (slice_index_or parts place d).1.now

-- the tag at a place
abbrev pub tag_at : List Part → Part → ℕ → ℕ
tag_at parts d place = (slice_index_or parts place d).0

abbrev pub seen : List Part → List Field
seen parts = map (λ part. (part.0, part.1.now)) parts

pub seen_five : (parts : List Part) (d : Part) → 5 ≤ length parts → tag_at parts d 0 ≡ 35
    → tag_at parts d 1 ≡ 49 → tag_at parts d 2 ≡ 56 → tag_at parts d 3 ≡ 34 → tag_at parts d 4 ≡ 52
    → seen parts ≡ five (text_at parts d 0) (text_at parts d 1) (text_at parts d 2)
    (text_at parts d 3) (text_at parts d 4) ++ seen (drop 5 parts)
seen_five (a ∷ b ∷ c ∷ e ∷ f ∷ rest) d many t0 t1 t2 t3 t4 = rw (t0, t1, t2, t3, t4) refl
seen_five parts d many t0 t1 t2 t3 t4 = absurd (omega (arith, many))

-- what was looked up, and is not there
pub none_of : (r : Option (Bor (List ℕ))) (said : Said) → r ≡ None
    → option_map (λ v. v.now) r ≡ said → None ≡ said
none_of r said is e = sym (ap (option_map (λ (v : Bor (List ℕ)). v.now)) is) ∙ e
