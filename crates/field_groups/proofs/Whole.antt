-- Each body has a list of fields, and a fault or none.
use Rattle.std.proofs.Common.{◌≡◌, ℕ, zero, suc, ◌+◌, ◌<◌, ◌≤◌, Bool, true, false, not, List, []}
use Rattle.std.proofs.Common.{◌∷◌, ◌++◌, length, get_or, take, drop, Option, Some, None, unwrap_or}
use Rattle.std.proofs.Common.{if◌then◌else◌, refl, sym, ap, subst, ◌∙◌, arith, append_assoc}
use Rattle.std.proofs.Common.{length-append, length-take, eq-eqb, ⊎_elim}
use Rattle.std.specs.Fmt.{decimal}
use Rattle.std.specs.List.{position_or_len, last_or}
use Rattle.std.proofs.lemmas.Bool.{eqb-true, true≢false, false≢true, not_from_false, cases_lt}
use Rattle.std.proofs.lemmas.List.{get_or-take}
use Rattle.std.proofs.lemmas.List.Elements.{All-from_get_or}
use Rattle.std.proofs.lemmas.List.Folds.{list_any_none}
use Rattle.std.proofs.lemmas.List.Sums.{fails_before_first, passes_at_first}
use Rattle.field_groups.specs.declared.fault.SplitFault.{SplitFault}
use Rattle.field_groups.specs.declared.fault.SplitFault.TheVariants.{NoTag, BadTag, NoEnd}
use Rattle.field_groups.specs.declared.fault.SplitFault.TheVariants.{DataLength, TooMany}
use Rattle.field_groups.specs.Field.{Field, IsField, AreFields, body_of, field_bytes, is_soh}
use Rattle.field_groups.specs.Field.{is_data, said_length, says}
use Rattle.field_groups.specs.Fields.{Stops, max_fields, front_tag, has_tag}
use Rattle.field_groups.specs.Fields.{is_tag_good, has_soh, has_soh_after, after_tag}
use Rattle.field_groups.specs.Laws.{EveryBodySplits}
use Rattle.field_groups.proofs.Reading.{cut_at, tag_range, tag_written}
use Rattle.field_groups.proofs.Front.{front_field, value_len, field_apart}

-- a byte passes, so the first that passes lies inside
first_inside : (bytes : List ℕ) → has_soh bytes ≡ true → position_or_len is_soh bytes < length bytes
first_inside bytes some =
    ⊎_elim (λ lt. lt)
    (λ le. absurd (true≢false (sym some ∙ list_any_none is_soh bytes (All-from_get_or (λ (b : ℕ).
    is_soh b ≡ false) bytes 0 (λ k lt. fails_before_first is_soh bytes k 0 (omega arith))))))
    (cases_lt (position_or_len is_soh bytes) (length bytes))

before-none : (bytes : List ℕ) → has_soh (take (position_or_len is_soh bytes) bytes) ≡ false
before-none bytes =
    let place = position_or_len is_soh bytes in
    list_any_none is_soh (take place bytes)
    (All-from_get_or (λ (b : ℕ). is_soh b ≡ false) (take place bytes) 0 (λ k lt.
    let below : k < place = omega (arith, length-take place bytes) in
    rw (get_or-take place bytes k 0 below) (fails_before_first is_soh bytes k 0 below)))

-- a value of so many bytes at the front of these, and SOH behind it
record Stands (raw : Bool) (said : Option ℕ) (bytes : List ℕ) (len : ℕ) : Type 0 where
  value : (if raw then says said (length (take len bytes)) else not (has_soh (take len bytes)))
      ≡ true
  written : bytes ≡ take len bytes ++ 1 ∷ drop (len + 1) bytes

-- the value at the front, where its end stands
stands : (raw : Bool) (said : Option ℕ) (bytes : List ℕ)
    → (if raw then has_soh_after said bytes else has_soh bytes) ≡ true
    → Stands raw said bytes (if raw then unwrap_or said 0 else position_or_len is_soh bytes)
stands true None bytes end = absurd (false≢true end)
stands true (Some said) bytes end =
    let cut = cut_at bytes said 1 (omega arith) (eqb-true (get_or bytes said 0) 1 end) in
    record {
      value = eq-eqb said
          (length (take said bytes)) (omega (arith, length-take said bytes, cut.0));
      written = cut.1;
    }
stands false said bytes end =
    let place = position_or_len is_soh bytes in
    let one : get_or bytes place 0 ≡ 1 = eqb-true
    (get_or bytes place 0) 1 (passes_at_first is_soh bytes 0 (first_inside bytes end)) in
    record {
      value = not_from_false _ (before-none bytes);
      written = (cut_at bytes place 1 (omega arith) one).1;
    }

-- whether a field's value has its end, behind the field before
abbrev has_end : Option Field → List ℕ → Bool
has_end before left = if is_data before (front_tag left)
    then has_soh_after (said_length before) (after_tag left) else has_soh (after_tag left)

front_stands : (before : Option Field) (left : List ℕ)
    → has_end before left ≡ true → Stands (is_data before (front_tag left))
    (said_length before) (after_tag left) (value_len before (front_tag left) (after_tag left))
front_stands before left end =
    stands (is_data before (front_tag left)) (said_length before) (after_tag left) end

front_good : (before : Option Field) (left : List ℕ) → has_tag left ≡ true → is_tag_good left ≡ true
    → has_end before left ≡ true → IsField before (front_field before left).0
front_good before left tag good end =
    let range = tag_range left tag good in
    record {
      positive = range.0;
      nine_digits = range.1;
      value = (front_stands before left end).value;
    }

front_written : (before : Option Field) (left : List ℕ)
    → has_tag left ≡ true → is_tag_good left ≡ true → has_end before left ≡ true
    → left ≡ field_bytes (front_field before left).0 ++ (front_field before left).1
front_written before left tag good end =
    tag_written left tag good ∙ ap (λ (bs : List ℕ). decimal (front_tag left) ++ 61 ∷ bs)
    (front_stands before left end).written
    ∙ sym (field_apart (front_field before left).0 (front_field before left).1)

-- the same count and place
pub moved : (n m p q : ℕ) (before : Option Field) (left : List ℕ) (fault : Option SplitFault)
    → n ≡ m → p ≡ q → Stops n p before left fault → Stops m q before left fault
moved n m p q before left fault counts places stops = subst (λ (k : ℕ). Stops k q before left fault)
    counts (subst (λ (k : ℕ). Stops n k before left fault) places stops)

-- the fields of what is left of a body from this place on, after so many, the last of which is this
-- one
pub record Way (room count place : ℕ) (before : Option Field) (left : List ℕ) : Type 0 where
  pub fields : List Field
  pub rest : List ℕ
  pub fault : Option SplitFault
  pub good : AreFields before fields
  pub at_most : length fields ≤ room
  pub written : left ≡ body_of fields ++ rest
  pub stopped : Stops
      (count + length fields) (place + length (body_of fields)) (last_or before fields) rest fault

none : (room count place : ℕ) (before : Option Field) (left : List ℕ) (fault : Option SplitFault)
    → Stops count place before left fault → Way room count place before left
none room count place before left fault stopped = record {
  fields = [];
  rest = left;
  fault = fault;
  good = tt;
  at_most = omega arith;
  written = refl;
  stopped = moved
      count (count + 0) place (place + 0) before left fault (omega arith) (omega arith) stopped;
}

more : (room count place : ℕ) (before : Option Field) (left : List ℕ) (f : Field) (after : List ℕ)
    → IsField before f → left ≡ field_bytes f ++ after → Way room (count + 1)
    (place + length (field_bytes f)) (Some f) after → Way (suc room) count place before left
more room count place before left f after good is way = record {
  fields = f ∷ way.fields;
  rest = way.rest;
  fault = way.fault;
  good = (good, way.good);
  at_most = omega (arith, way.at_most);
  written = is ∙ ap (λ (bs : List ℕ). field_bytes f ++ bs) way.written
      ∙ sym (append_assoc (field_bytes f) (body_of way.fields) way.rest);
  stopped =
      moved (count + 1 + length way.fields) (count + length (f ∷ way.fields)) (place + length
      (field_bytes f) + length (body_of way.fields)) (place + length (body_of (f ∷ way.fields)))
      (last_or (Some f) way.fields) way.rest way.fault (omega arith)
      (omega (arith, length-append (field_bytes f) (body_of way.fields))) way.stopped;
}

-- a value has no end
no_end : (room count place : ℕ) (before : Option Field) (left : List ℕ) (raw : Bool)
    → is_data before (front_tag left) ≡ raw → has_tag left ≡ true → is_tag_good left ≡ true →
    (if raw then has_soh_after (said_length before) (after_tag left) else has_soh (after_tag left))
    ≡ false → count < max_fields → 0 < length left → Way (suc room) count place before left
no_end room count place before left true data_is tag_is good_is end_is lt some =
    none (suc room) count place before
    left (Some (DataLength (front_tag left))) (lt, some, (refl, tag_is, good_is, data_is, end_is))
no_end room count place before left false data_is tag_is good_is end_is lt some =
    none (suc room) count
    place before left (Some (NoEnd place)) (lt, some, (refl, tag_is, good_is, data_is, end_is))

-- by the three tests of the field at the front
by_tests : (room count place : ℕ) (before : Option Field) (left : List ℕ) (tag good end : Bool)
    → has_tag left ≡ tag
    → is_tag_good left ≡ good → has_end before left ≡ end → count < max_fields → 0 < length left
    → ((f : Field) (after : List ℕ) (p : ℕ) → Way room (count + 1) p (Some f) after)
    → Way (suc room) count place before left
by_tests room count place before left false good end tag_is good_is end_is lt some later =
    none (suc room) count place before left (Some (NoTag place)) (lt, some, (refl, tag_is))
by_tests room count place before left true false end tag_is good_is end_is lt some later = none
    (suc room) count place before left (Some (BadTag place)) (lt, some, (refl, tag_is, good_is))
by_tests room count place before left true true false tag_is good_is end_is lt some later =
    no_end room
    count place before left (is_data before (front_tag left)) refl tag_is good_is end_is lt some
by_tests room count place before left true true true tag_is good_is end_is lt some later =
    let f = (front_field before left).0 in
    let after = (front_field before left).1 in
    more room count place before left f after (front_good before left tag_is good_is end_is)
    (front_written before left tag_is good_is end_is)
    (later f after (place + length (field_bytes f)))

pub way : (room count : ℕ) (place : ℕ) (before : Option Field) (left : List ℕ)
    → room + count ≡ max_fields → Way room count place before left
way room count place before [] is = none room count place before [] None refl
way zero count place before (b ∷ bs) is =
    none zero count place before (b ∷ bs) (Some TooMany) (omega arith, omega arith)
way (suc room) count place before (b ∷ bs) is =
    by_tests room count place before (b ∷ bs) (has_tag (b ∷ bs))
    (is_tag_good (b ∷ bs)) (has_end before (b ∷ bs)) refl refl refl (omega arith) (omega arith)
    (λ f after p. way room (count + 1) p (Some f) after (omega arith))

pub every_body : EveryBodySplits
every_body body =
    let w = way 256 0 0 None body refl in
    let stopped = moved (0 + length w.fields)
    (length w.fields) (0 + length (body_of w.fields)) (length (body_of w.fields))
    (last_or None w.fields) w.rest w.fault (omega arith) (omega arith) w.stopped in (
      w.fields,
      w.fault,
      record {
        left = w.rest;
        good = w.good;
        at_most = w.at_most;
        written = w.written;
        stopped = stopped;
      },
    )
