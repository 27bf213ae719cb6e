-- A body has one list of fields, and one fault.
use Rattle.std.proofs.Common.{◌≡◌, ℕ, zero, suc, ◌≤◌, true, false, cond, eqb, ltb, List, [], ◌∷◌}
use Rattle.std.proofs.Common.{◌++◌, length, Option, Some, None, refl, sym, ap, subst, ◌∙◌, arith}
use Rattle.std.proofs.Common.{append_assoc, length-append}
use Rattle.std.specs.Fmt.{decimal}
use Rattle.std.specs.List.{last_or}
use Rattle.std.proofs.lemmas.Bool.{false≢true, lt-ltb, ne_eqb}
use Rattle.field_groups.specs.declared.fault.SplitFault.{SplitFault}
use Rattle.field_groups.specs.declared.fault.SplitFault.TheVariants.{NoTag, BadTag, NoEnd}
use Rattle.field_groups.specs.declared.fault.SplitFault.TheVariants.{DataLength, TooMany}
use Rattle.field_groups.specs.Field.{Field, IsField, AreFields, body_of, field_bytes, is_data}
use Rattle.field_groups.specs.Field.{said_length}
use Rattle.field_groups.specs.Fields.{NoField, Stops, max_fields, front_tag, after_tag}
use Rattle.field_groups.specs.Fields.{has_tag, is_tag_good, has_soh, has_soh_after}
use Rattle.field_groups.specs.Laws.{FieldsAreDetermined}
use Rattle.field_groups.proofs.Front.{same_front, has_tag-bytes, is_tag_good-bytes, has_soh-bytes}
use Rattle.field_groups.proofs.Front.{has_soh_after-bytes, field_apart}

-- a whole field stands at the front, directly behind the field before
record Begins (before : Option Field) (left : List ℕ) : Type 0 where
  field : Field
  good : IsField before field
  more : List ℕ
  is : left ≡ field_bytes field ++ more

-- where a whole field stands, no fault says why there is none
no_fault : (place : ℕ) (before : Option Field) (left : List ℕ) (fault : SplitFault)
    → Begins before left → NoField place before left fault → ⊥
no_fault place before left (NoTag at) whole why = false≢true
    (sym why.1 ∙ ap has_tag whole.is ∙ has_tag-bytes before whole.field whole.more whole.good)
no_fault place before left (BadTag at) whole why = false≢true (sym why.2
    ∙ ap is_tag_good whole.is ∙ is_tag_good-bytes before whole.field whole.more whole.good)
no_fault place before left (NoEnd at) whole why =
    false≢true (sym why.4 ∙ ap (λ (bs : List ℕ). has_soh (after_tag bs)) whole.is
    ∙ has_soh-bytes before whole.field whole.more whole.good)
no_fault place before left (DataLength tag) whole why =
    false≢true (sym why.4
    ∙ ap (λ (bs : List ℕ). has_soh_after (said_length before) (after_tag bs)) whole.is
    ∙ has_soh_after-bytes before whole.field whole.more
    whole.good (sym (ap (λ (bs : List ℕ). is_data before (front_tag bs)) whole.is) ∙ why.3))
no_fault place before left TooMany whole why = why

some_bytes : (f : Field) (more : List ℕ) → field_bytes f ++ more ≡ [] → ⊥
some_bytes f more none = absurd (omega (
  arith,
  ap (λ (bs : List ℕ). length bs)
      (sym (field_apart f more) ∙ none),
  length-append (decimal f.0) (61 ∷ (f.1 ++ 1 ∷ more)),
))

-- fields end before a whole field only where they are 256
full : (count place : ℕ) (before : Option Field) (left : List ℕ) (fault : Option SplitFault)
    → Stops count place before left fault → Begins before left → count ≡ max_fields
full count place before left None none whole =
    absurd (some_bytes whole.field whole.more (sym whole.is ∙ none))
full count place before left (Some TooMany) why whole = why.0
full count place before left (Some (NoTag at)) why whole =
    absurd (no_fault place before left (NoTag at) whole why.2)
full count place before left (Some (BadTag at)) why whole =
    absurd (no_fault place before left (BadTag at) whole why.2)
full count place before left (Some (NoEnd at)) why whole =
    absurd (no_fault place before left (NoEnd at) whole why.2)
full count place before left (Some (DataLength tag)) why whole =
    absurd (no_fault place before left (DataLength tag) whole why.2)

-- the same bytes, cut into fields in two ways that both end where no whole field or no room is left
same : (most : ℕ) (before : Option Field) (fs gs : List Field) (left rest : List ℕ) →
    length fs ≤ most → length gs ≤ most → AreFields before fs → AreFields before gs →
    (Begins (last_or before fs) left → length fs ≡ most)
    → (Begins (last_or before gs) rest → length gs ≡ most) →
    body_of fs ++ left ≡ body_of gs ++ rest → (fs ≡ gs) × (left ≡ rest)
same most before [] [] left rest a b good also ends stops is = (refl, is)
same most before [] (g ∷ gs) left rest a b good also ends stops is =
    absurd (omega (
      arith,
      ends (record {
        field = g;
        good = also.0;
        more = body_of gs ++ rest;
        is = is ∙ append_assoc (field_bytes g) (body_of gs) rest;
      }),
    ))
same most before (f ∷ fs) [] left rest a b good also ends stops is =
    absurd (omega (
      arith,
      stops (record {
        field = f;
        good = good.0;
        more = body_of fs ++ left;
        is = sym is ∙ append_assoc (field_bytes f) (body_of fs) left;
      }),
    ))
same zero before (f ∷ fs) (g ∷ gs) left rest a b good also ends stops is = absurd (omega arith)
same (suc most) before (f ∷ fs) (g ∷ gs) left rest a b good also ends stops is =
    let first = same_front before f g (body_of fs ++ left) (body_of gs ++ rest) good.0 also.0
    (sym (append_assoc (field_bytes f) (body_of fs) left)
    ∙ is ∙ append_assoc (field_bytes g) (body_of gs) rest) in
    let more = same most (Some f) fs gs left rest (omega arith) (omega arith) good.1
    (subst (λ (x : Field). AreFields (Some x) gs) (sym first.0) also.1)
    (λ whole. omega (arith, ends whole))
    (λ whole. omega (
      arith,
      stops (subst (λ (x : Field). Begins (last_or (Some x) gs) rest) first.0 whole),
    )) first.1 in
    (λ i. first.0 i ∷ more.0 i, more.1)

-- the one fault
abbrev why : ℕ → ℕ → Option Field → List ℕ → Option SplitFault
why count place before left =
    cond (ltb 0 (length left))
    (cond (eqb count max_fields) (Some TooMany)
    (cond (has_tag left) (cond (is_tag_good left) (cond (is_data before (front_tag left))
    (Some (DataLength (front_tag left))) (Some (NoEnd place))) (Some (BadTag place)))
    (Some (NoTag place))))
    None

why_is : (count place : ℕ) (before : Option Field) (left : List ℕ) (fault : Option SplitFault)
    → Stops count place before left fault → fault ≡ why count place before left
why_is count place before left None none = rw none refl
why_is count place before left (Some TooMany) h =
    let some : ltb 0 (length left) ≡ true = lt-ltb 0 (length left) h.1 in
    rw (some, h.0) refl
why_is count place before left (Some (NoTag at)) h =
    let some : ltb 0 (length left) ≡ true = lt-ltb 0 (length left) h.1 in
    let room : eqb count max_fields ≡ false = ne_eqb count max_fields (omega (arith, h.0)) in
    rw (some, room, h.2.1, h.2.0) refl
why_is count place before left (Some (BadTag at)) h =
    let some : ltb 0 (length left) ≡ true = lt-ltb 0 (length left) h.1 in
    let room : eqb count max_fields ≡ false = ne_eqb count max_fields (omega (arith, h.0)) in
    rw (some, room, h.2.1, h.2.2, h.2.0) refl
why_is count place before left (Some (NoEnd at)) h =
    let some : ltb 0 (length left) ≡ true = lt-ltb 0 (length left) h.1 in
    let room : eqb count max_fields ≡ false = ne_eqb count max_fields (omega (arith, h.0)) in
    rw (some, room, h.2.1, h.2.2, h.2.3, h.2.0) refl
why_is count place before left (Some (DataLength tag)) h =
    let some : ltb 0 (length left) ≡ true = lt-ltb 0 (length left) h.1 in
    let room : eqb count max_fields ≡ false = ne_eqb count max_fields (omega (arith, h.0)) in
    rw (some, room, h.2.1, h.2.2, h.2.3, h.2.0) refl

pub determined : FieldsAreDetermined
determined body fs gs fault other one two =
    let parts = same 256 None fs gs one.left two.left one.at_most two.at_most one.good two.good
    (full (length fs) (length (body_of fs)) (last_or None fs) one.left fault one.stopped)
    (full (length gs) (length (body_of gs)) (last_or None gs) two.left other two.stopped)
    (sym one.written ∙ two.written) in
    let here : fault ≡ why (length fs) (length (body_of fs)) (last_or None fs) one.left =
    why_is (length fs) (length (body_of fs)) (last_or None fs) one.left fault one.stopped in
    let there : other ≡ why (length gs) (length (body_of gs)) (last_or None gs) two.left =
    why_is (length gs) (length (body_of gs)) (last_or None gs) two.left other two.stopped in (
      parts.0,
      here ∙ (λ i. why (length (parts.0 i))
          (length (body_of (parts.0 i))) (last_or None (parts.0 i)) (parts.1 i)) ∙ sym there,
    )
