-- The fields of a body are those into which it splits.
use Rattle.std.proofs.Common.{◌≡◌, ℕ, zero, suc, ◌+◌, ◌^◌, ◌<◌, ◌≤◌, Bool, true, false, not, List}
use Rattle.std.proofs.Common.{[]}
use Rattle.std.proofs.Common.{◌∷◌, ◌++◌, length, get_or, take, drop, Option, Some, None, unwrap_or}
use Rattle.std.proofs.Common.{if◌then◌else◌, refl, sym, ap, subst, ◌∙◌, arith, append_assoc}
use Rattle.std.proofs.Common.{length-append, take_while, cond, ◌||◌}
use Rattle.std.specs.List.{list_any, last_or}
use Rattle.std.specs.Char.{is_ascii_digit}
use Rattle.std.specs.Fmt.{decimal}
use Rattle.std.specs.Int.{IsInRange}
use Rattle.std.specs.Str.Parse.{digits_value}
use Rattle.std.proofs.lemmas.Bool.{eqb-true, false≢true, not-true}
use Rattle.std.proofs.lemmas.Bool.Decides.{nat_tests}
use Rattle.std.proofs.lemmas.Fmt.{digits_decimal, digits_value-decimal}
use Rattle.std.proofs.lemmas.List.{get_or_append_left}
use Rattle.std.proofs.lemmas.List.Sums.{prefix_len_is, take_while-cons}
use Rattle.std.proofs.Math.Seq.{get_or-append_seam, take-append_seam, drop-append-add}
use Rattle.std.proofs.Math.Seq.{drop-append_seam}
use Rattle.field_groups.specs.declared.fault.SplitFault.{SplitFault}
use Rattle.field_groups.specs.declared.fault.SplitFault.TheVariants.{NoTag, BadTag, NoEnd}
use Rattle.field_groups.specs.declared.fault.SplitFault.TheVariants.{DataLength, TooMany}
use Rattle.field_groups.specs.Field.{Field, IsField, AreFields, body_of, field_bytes, is_soh}
use Rattle.field_groups.specs.Field.{is_data, said_length, says}
use Rattle.field_groups.specs.Fields.{SplitsInto, Stops, NoField, max_fields, front_tag, has_tag}
use Rattle.field_groups.specs.Fields.{is_tag_good, has_soh, has_soh_after, after_tag, digit_count}
use Rattle.field_groups.proofs.Reading.{AllInRange, own}
use Rattle.field_groups.proofs.Front.{field_apart, has_tag-bytes, is_tag_good-bytes, has_soh-bytes}
use Rattle.field_groups.proofs.Front.{has_soh_after-bytes}
use Rattle.field_groups.proofs.Whole.{every_body}
use Rattle.event_decisions.specs.Body.{Reading, reading_of, read_from, front_fault, front_field}
use Rattle.event_decisions.specs.Body.{front_value, front_length, tag_fault, value_fault, behind}
use Rattle.event_decisions.specs.Body.{fault_unless}
use Rattle.std.specs.Option.{option_or}
use Rattle.event_decisions.specs.Laws.{BodiesAreRead}

-- ---- the front of a field and more

passes : (c : ℕ) → IsInRange 48 57 c → is_ascii_digit c ≡ true
passes c h = grind (arith, nat_tests)

small : {before : Option Field} {f : Field} → IsField before f → f.0 < 2 ^ 64
small is = omega (arith, is.nine_digits)

count_apart : (before : Option Field) (f : Field) (more : List ℕ)
    → IsField before f → digit_count (decimal f.0 ++ 61 ∷ more) ≡ length (decimal f.0)
count_apart before f more is =
    let digits : AllInRange (decimal f.0) = digits_decimal own f.0 (small is) in
    prefix_len_is is_ascii_digit (decimal f.0 ++ 61 ∷ more) (length (decimal f.0)) 0
    (omega (arith, length-append (decimal f.0) (61 ∷ more)))
    (λ k lt. rw (get_or_append_left (decimal f.0) (61 ∷ more) 0 k lt)
    (passes (get_or (decimal f.0) k 0) (digits k lt)))
    (λ _. ap is_ascii_digit (get_or-append_seam (decimal f.0) 61 more 0))

count_bytes : (before : Option Field) (f : Field) (more : List ℕ)
    → IsField before f → digit_count (field_bytes f ++ more) ≡ length (decimal f.0)
count_bytes before f more is =
    ap digit_count (field_apart f more) ∙ count_apart before f (f.1 ++ 1 ∷ more) is

after_bytes : (before : Option Field) (f : Field) (more : List ℕ)
    → IsField before f → after_tag (field_bytes f ++ more) ≡ f.1 ++ 1 ∷ more
after_bytes before f more is =
    ap (λ (bs : List ℕ). after_tag bs) (field_apart f more)
    ∙ ap (λ (n : ℕ). drop (n + 1) (decimal f.0 ++ 61 ∷ (f.1 ++ 1 ∷ more)))
    (count_apart before f (f.1 ++ 1 ∷ more) is)
    ∙ drop-append-add (decimal f.0) (61 ∷ (f.1 ++ 1 ∷ more)) 1

tag_bytes : (before : Option Field) (f : Field) (more : List ℕ)
    → IsField before f → front_tag (field_bytes f ++ more) ≡ f.0
tag_bytes before f more is =
    ap (λ (bs : List ℕ). front_tag bs) (field_apart f more)
    ∙ ap (λ (n : ℕ). digits_value 10 (take n (decimal f.0 ++ 61 ∷ (f.1 ++ 1 ∷ more))))
    (count_apart before f (f.1 ++ 1 ∷ more) is)
    ∙ ap (λ (ds : List ℕ). digits_value 10 ds)
    (take-append_seam (decimal f.0) (61 ∷ (f.1 ++ 1 ∷ more)))
    ∙ digits_value-decimal own f.0 (small is)

-- a value with no SOH is all up to the SOH behind it
abbrev no_soh : ℕ → Bool
no_soh byte = not (is_soh byte)

one_byte : (b : Bool) (byte : ℕ) (taken value : List ℕ) → (b || list_any is_soh value) ≡ false
    → (list_any is_soh value ≡ false → taken ≡ value)
    → cond (not b) (byte ∷ taken) [] ≡ byte ∷ value
one_byte true byte taken value none rest = absurd (cc none)
one_byte false byte taken value none rest = ap (λ (bs : List ℕ). byte ∷ bs) (rest none)

up_to_soh : (value more : List ℕ)
    → list_any is_soh value ≡ false → take_while no_soh (value ++ 1 ∷ more) ≡ value
up_to_soh [] more none = take_while-cons no_soh 1 more
up_to_soh (byte ∷ value) more none =
    take_while-cons no_soh byte (value ++ 1 ∷ more)
    ∙ one_byte (is_soh byte) byte (take_while no_soh (value ++ 1 ∷ more)) value none
    (up_to_soh value more)

-- the value at the front, by what a field's value is
by_kind : (raw : Bool) (said : Option ℕ) (value more : List ℕ)
    → (if raw then says said (length value) else not (list_any is_soh value)) ≡ true
    → elim raw [
      | true ↦ take (unwrap_or said 0) (value ++ 1 ∷ more)
      | false ↦ take_while no_soh (value ++ 1 ∷ more)
    ] ≡ value
by_kind true None value more is = absurd (false≢true is)
by_kind true (Some said) value more is =
    ap (λ (n : ℕ). take n (value ++ 1 ∷ more)) (eqb-true said (length value) is)
    ∙ take-append_seam value (1 ∷ more)
by_kind false said value more is = up_to_soh value more (not-true _ is)

value_by : (raw : Bool) (before : Option Field) (left : List ℕ) → front_value raw before left
    ≡ elim raw [
      | true ↦ take (unwrap_or (said_length before) 0) (after_tag left)
      | false ↦ take_while no_soh (after_tag left)
    ]
value_by true before left = refl
value_by false before left = refl

field_bytes-front : (before : Option Field) (f : Field) (more : List ℕ)
    → IsField before f → front_field before (field_bytes f ++ more) ≡ f
field_bytes-front before f more is =
    let left : List ℕ = field_bytes f ++ more in
    let tag : front_tag left ≡ f.0 = tag_bytes before f more is in
    let after : after_tag left ≡ f.1 ++ 1 ∷ more = after_bytes before f more is in
    let value : front_value (is_data before (front_tag left)) before left ≡ f.1 =
    value_by (is_data before (front_tag left)) before left
    ∙ (λ i. elim (is_data before (tag i)) [
      | true ↦ take (unwrap_or (said_length before) 0) (after i)
      | false ↦ take_while no_soh (after i)
    ])
    ∙ by_kind (is_data before f.0) (said_length before) f.1 more is.value in
    λ i. (tag i, value i)

length_bytes : (f : Field) → length (field_bytes f) ≡ length (decimal f.0) + 1 + length f.1 + 1
unfolding field_bytes
length_bytes f = omega (
  arith,
  length-append (decimal f.0 ++ 61 ∷ f.1) (1 ∷ []),
  length-append (decimal f.0) (61 ∷ f.1),
)

taken_bytes : (before : Option Field) (f : Field) (more : List ℕ)
    → IsField before f → front_length (field_bytes f ++ more) f ≡ length (field_bytes f)
taken_bytes before f more is =
    ap (λ (n : ℕ). n + 1 + length f.1 + 1) (count_bytes before f more is) ∙ sym (length_bytes f)

-- ---- where a field stands, and where none does

has_end : (b : Bool) (fault : SplitFault) → b ≡ true → fault_unless b fault ≡ None
has_end true fault is = refl
has_end false fault is = absurd (cc is)

has_none : (b : Bool) (fault : SplitFault) → b ≡ false → fault_unless b fault ≡ Some fault
has_none true fault is = absurd (cc is)
has_none false fault is = refl

has_value : (raw : Bool) (place : ℕ) (before : Option Field) (left : List ℕ)
    → (raw ≡ true → has_soh_after (said_length before) (after_tag left) ≡ true)
    → (raw ≡ false → has_soh (after_tag left) ≡ true) → value_fault raw before left place ≡ None
has_value true place before left after soh = has_end _ (DataLength (front_tag left)) (after refl)
has_value false place before left after soh = has_end _ (NoEnd place) (soh refl)

-- by the tests of the tag
by_tag : (tag good : Bool) (place : ℕ) (value : Option SplitFault) → tag ≡ true → good ≡ true
    → option_or (tag_fault tag good place) value ≡ value
by_tag true true place value is also = refl
by_tag true false place value is also = absurd (cc also)
by_tag false good place value is also = absurd (cc is)

no_tag : (tag good : Bool) (place : ℕ) (value : Option SplitFault) → tag ≡ false
    → option_or (tag_fault tag good place) value ≡ Some (NoTag place)
no_tag true good place value is = absurd (cc is)
no_tag false good place value is = refl

bad_tag : (tag good : Bool) (place : ℕ) (value : Option SplitFault) → tag ≡ true → good ≡ false
    → option_or (tag_fault tag good place) value ≡ Some (BadTag place)
bad_tag true true place value is also = absurd (cc also)
bad_tag true false place value is also = refl
bad_tag false good place value is also = absurd (cc is)

no_fault : (place : ℕ) (before : Option Field) (f : Field) (more : List ℕ)
    → IsField before f → front_fault place before (field_bytes f ++ more) ≡ None
no_fault place before f more is =
    by_tag (has_tag (field_bytes f ++ more)) (is_tag_good (field_bytes f ++ more)) place
    (value_fault (is_data before (front_tag (field_bytes f ++ more))) before (field_bytes f ++ more)
    place) (has_tag-bytes before f more is) (is_tag_good-bytes before f more is)
    ∙ has_value (is_data before (front_tag (field_bytes f ++ more))) place before
    (field_bytes f ++ more) (has_soh_after-bytes before f more is)
    (λ _. has_soh-bytes before f more is)

no_end : (raw : Bool) (place : ℕ) (before : Option Field) (left : List ℕ) → raw ≡ false
    → has_soh (after_tag left) ≡ false → value_fault raw before left place ≡ Some (NoEnd place)
no_end true place before left is none = absurd (cc is)
no_end false place before left is none = has_none _ (NoEnd place) none

no_data : (raw : Bool) (place : ℕ) (before : Option Field) (left : List ℕ) → raw ≡ true
    → has_soh_after (said_length before) (after_tag left) ≡ false
    → value_fault raw before left place ≡ Some (DataLength (front_tag left))
no_data true place before left is none = has_none _ (DataLength (front_tag left)) none
no_data false place before left is none = absurd (cc is)

faulty : (place : ℕ) (before : Option Field) (left : List ℕ) (fault : SplitFault)
    → NoField place before left fault → front_fault place before left ≡ Some fault
faulty place before left (NoTag at) why = no_tag (has_tag left) (is_tag_good left) place _ why.1
    ∙ ap (λ (n : ℕ). Some (NoTag n)) (sym why.0)
faulty place before left (BadTag at) why =
    bad_tag (has_tag left) (is_tag_good left) place _ why.1 why.2
    ∙ ap (λ (n : ℕ). Some (BadTag n)) (sym why.0)
faulty place before left (NoEnd at) why =
    by_tag (has_tag left) (is_tag_good left) place _ why.1 why.2
    ∙ no_end (is_data before (front_tag left)) place before left why.3 why.4
    ∙ ap (λ (n : ℕ). Some (NoEnd n)) (sym why.0)
faulty place before left (DataLength tag) why =
    by_tag (has_tag left) (is_tag_good left) place _ why.1 why.2
    ∙ no_data (is_data before (front_tag left)) place before left why.3 why.4
    ∙ ap (λ (n : ℕ). Some (DataLength n)) (sym why.0)
faulty place before left TooMany why = absurd why

-- ---- the whole reading

-- the same count and place
moved : (n m p q : ℕ) (before : Option Field) (left : List ℕ) (fault : Option SplitFault)
    → n ≡ m → p ≡ q → Stops n p before left fault → Stops m q before left fault
moved n m p q before left fault counts places stops = subst (λ (k : ℕ). Stops k q before left fault)
    counts (subst (λ (k : ℕ). Stops n k before left fault) places stops)

abbrev read_next : ℕ → ℕ → Option Field → List ℕ → Option SplitFault → Reading
read_next room place before left (Some fault) = record { fields = []; fault = Some fault }
read_next room place before left None =
    let field = front_field before left in
    let taken = front_length left field in
    behind field (read_from room (place + taken) (Some field) (drop taken left))

same_next : (room place : ℕ) (before : Option Field) (left : List ℕ) (o : Option SplitFault)
    → elim o [
      | Some fault ↦ record { fields = []; fault = Some fault }
      | None ↦
          let field = front_field before left in
          let taken = front_length left field in
          behind field (read_from room (place + taken) (Some field) (drop taken left))
    ] ≡ read_next room place before left o
same_next room place before left None = refl
same_next room place before left (Some fault) = refl

reads_next : (room place : ℕ) (before : Option Field) (left : List ℕ) → 0 < length left
    → read_from (suc room) place before left
    ≡ read_next room place before left (front_fault place before left)
reads_next room place before [] some = absurd (omega (arith, some))
reads_next room place before (byte ∷ left) some =
    same_next room place before (byte ∷ left) (front_fault place before (byte ∷ left))

reads_stop : (room count place : ℕ) (before : Option Field) (rest : List ℕ)
    (fault : Option SplitFault) → room + count ≡ max_fields → Stops count place before rest fault
    → read_from room place before rest ≡ record { fields = []; fault = fault }
reads_stop room count place before rest None is stops = rw stops refl
reads_stop room count place before rest (Some TooMany) is stops =
    too_many room rest (omega (arith, is, stops.0)) stops.1
  where
    too_many : (room : ℕ) (rest : List ℕ) → room ≡ 0 → 0 < length rest
        → read_from room place before rest ≡ record { fields = []; fault = Some TooMany }
    too_many zero [] none some = absurd (omega (arith, some))
    too_many zero (byte ∷ rest) none some = refl
    too_many (suc room) rest none some = absurd (omega (arith, none))
reads_stop room count place before rest (Some fault) is stops =
    stop room (omega (arith, is, stops.0))
  where
    stop : (room : ℕ) → 0 < room
        → read_from room place before rest ≡ record { fields = []; fault = Some fault }
    stop zero some = absurd (omega (arith, some))
    stop (suc room) some = reads_next room place before rest stops.1
        ∙ ap (read_next room place before rest) (faulty place before rest fault stops.2)

reads_all : (fields : List Field) (room count place : ℕ) (before : Option Field) (rest : List ℕ)
    (fault : Option SplitFault) → AreFields before fields → length fields ≤ room
    → room + count ≡ max_fields
    → Stops (count + length fields) (place + length (body_of fields)) (last_or before fields) rest
    fault → read_from room place before (body_of fields ++ rest)
    ≡ record { fields = fields; fault = fault }
reads_all [] room count place before rest fault are le is stops =
    reads_stop room count place before rest fault is
    (moved (count + 0) count (place + 0) place before rest fault (omega arith) (omega arith) stops)
reads_all (f ∷ fields) zero count place before rest fault are le is stops =
    absurd (omega (arith, le))
reads_all (f ∷ fields) (suc room) count place before rest fault are le is stops =
    let more : List ℕ = body_of fields ++ rest in
    let left : List ℕ = field_bytes f ++ more in
    let apart : body_of (f ∷ fields) ++ rest ≡ left =
    append_assoc (field_bytes f) (body_of fields) rest in
    let some : 0 < length left =
    omega (arith, length-append (field_bytes f) more, length_bytes f) in
    let front : front_field before left ≡ f = field_bytes-front before f more are.0 in
    let taken : front_length left (front_field before left) ≡ length (field_bytes f) =
    ap (front_length left) front ∙ taken_bytes before f more are.0 in
    let dropped : drop (front_length left (front_field before left)) left ≡ more =
    ap (λ (n : ℕ). drop n left) taken ∙ drop-append_seam (field_bytes f) more in
    ap (read_from (suc room) place before) apart
    ∙ reads_next room place before left some
    ∙ ap (read_next room place before left) (no_fault place before f more are.0)
    ∙ (λ i. behind (front i) (read_from room (place + taken i) (Some (front i)) (dropped i)))
    ∙ ap (behind f)
    (reads_all fields room (count + 1) (place + length (field_bytes f)) (Some f) rest fault are.1
    (omega (arith, le)) (omega (arith, is))
    (moved (count + length (f ∷ fields)) (count + 1 + length fields)
    (place + length (body_of (f ∷ fields)))
    (place + length (field_bytes f) + length (body_of fields)) (last_or (Some f) fields) rest fault
    (omega arith) (omega (arith, length-append (field_bytes f) (body_of fields))) stops))

pub bodies_are_read : BodiesAreRead
unfolding reading_of
bodies_are_read body = by (every_body body).0 (every_body body).1 (every_body body).2
  where
    by : (fields : List Field) (fault : Option SplitFault) → SplitsInto body fields fault
        → SplitsInto body (reading_of body).fields (reading_of body).fault
    by fields fault splits =
        let is : reading_of body ≡ record { fields = fields; fault = fault } =
        ap (read_from max_fields 0 None) splits.written
        ∙ reads_all fields max_fields 0 0 None splits.left fault splits.good splits.at_most refl
        (moved (length fields) (0 + length fields) (length (body_of fields))
        (0 + length (body_of fields)) (last_or None fields) splits.left fault (omega arith)
        (omega arith) splits.stopped) in
        subst (λ (r : Reading). SplitsInto body r.fields r.fault) (sym is) splits
