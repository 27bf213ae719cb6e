-- The first field of a tag, where those in front of it were passed.
use Rattle.std.proofs.Common.{◌≡◌, ◌==◌, ℕ, ◌+◌, ◌-◌, ◌<◌, true, false, List, [], ◌∷◌, ◌++◌}
use Rattle.std.proofs.Common.{length, Option, Some}
use Rattle.std.proofs.Common.{None, refl, sym, ap, subst, ◌∙◌, arith, append_assoc, append-nil}
use Rattle.std.proofs.Common.{length-append}
use Rattle.std.specs.List.{find, last_or}
use Rattle.std.proofs.lemmas.Bool.{eqb-true, false≢true}
use Rattle.std.proofs.lemmas.Grind.{flat_map-append}
use Rattle.std.proofs.lemmas.List.Folds.{find-append}
use Rattle.field_groups.specs.declared.fault.SplitFault.{SplitFault}
use Rattle.field_groups.specs.declared.fault.SplitFault.TheVariants.{NoTag, BadTag, NoEnd}
use Rattle.field_groups.specs.declared.fault.SplitFault.TheVariants.{DataLength, TooMany}
use Rattle.field_groups.specs.Field.{Field, IsField, AreFields, body_of, field_bytes}
use Rattle.field_groups.specs.Fields.{NoField, SplitsInto, Stops, max_fields, value_of}
use Rattle.field_groups.proofs.Determined.{determined}
use Rattle.field_groups.proofs.Taking.{Taken, last_pushed, one_more as one_field}
use Rattle.field_groups.proofs.Whole.{moved, way}

-- these were taken from the front of a body, the last of them is this one, and none has this tag
pub record Passed (tag : ℕ) (body : List ℕ) (before : Option Field) (count : ℕ) (left : List ℕ)
    : Type 0 where
  pub seen : List Field
  pub taken : Taken body seen left
  pub last : before ≡ last_or None seen
  pub counted : count ≡ length seen
  pub missed : find (λ f. f.0 == tag) seen ≡ None

are_joined : (before : Option Field) (fs gs : List Field) → AreFields before fs
    → AreFields (last_or before fs) gs → AreFields before (fs ++ gs)
are_joined before [] gs some rest = rest
are_joined before (f ∷ fs) gs some rest = (some.0, are_joined (Some f) fs gs some.1 rest)

last_joined : (before : Option Field) (fs gs : List Field)
    → last_or (last_or before fs) gs ≡ last_or before (fs ++ gs)
last_joined before [] gs = refl
last_joined before (f ∷ fs) gs = last_joined (Some f) fs gs

-- a body that splits into others begins with those that were taken
begins : (body left : List ℕ) (seen fields : List Field) (fault : Option SplitFault)
    → Taken body seen left → SplitsInto body fields fault
    → (more : List Field) × (fields ≡ seen ++ more)
begins body left seen fields fault taken splits =
    let w = way (256 - length seen) (length seen) (length (body_of seen)) (last_or None seen) left
    (omega (arith, taken.at_most)) in
    let bytes : body_of (seen ++ w.fields) ≡ body_of seen ++ body_of w.fields =
    flat_map-append field_bytes seen w.fields in (
      w.fields,
      (determined body fields (seen ++ w.fields) fault w.fault splits (record {
        left = w.rest;
        good = are_joined None seen w.fields taken.good w.good;
        at_most = omega (arith, length-append seen w.fields, w.at_most, taken.at_most);
        written = taken.written ∙ ap (λ (bs : List ℕ). body_of seen ++ bs) w.written
            ∙ sym (append_assoc (body_of seen) (body_of w.fields) w.rest)
            ∙ ap (λ (bs : List ℕ). bs ++ w.rest) (sym bytes);
        stopped = subst
            (λ (last : Option Field). Stops (length (seen ++ w.fields))
            (length (body_of (seen ++ w.fields))) last w.rest w.fault)
            (last_joined None seen w.fields)
            (moved (length seen + length w.fields) (length (seen ++ w.fields))
            (length (body_of seen) + length (body_of w.fields))
            (length (body_of (seen ++ w.fields))) (last_or (last_or None seen) w.fields) w.rest
            w.fault (sym (length-append seen w.fields))
            (sym (ap length bytes ∙ length-append (body_of seen) (body_of w.fields)))
            w.stopped);
      })).0,
    )

taken_more : (body left after : List ℕ) (seen : List Field) (f : Field) → Taken body seen left
    → length seen < max_fields → IsField (last_or None seen) f → left ≡ field_bytes f ++ after
    → Taken body (seen ++ f ∷ []) after
taken_more body left after seen f taken few good is = record {
  good = one_field None seen f taken.good good;
  at_most = omega (arith, few, length-append seen (f ∷ []));
  written = taken.written ∙ ap (λ (bs : List ℕ). body_of seen ++ bs) is
      ∙ sym (append_assoc (body_of seen) (field_bytes f) after)
      ∙ ap (λ (bs : List ℕ). bs ++ after) (sym (flat_map-append field_bytes seen (f ∷ [])
      ∙ ap (λ (bs : List ℕ). body_of seen ++ bs) (append-nil (field_bytes f))));
}

-- the field behind them has the tag
pub found : (tag : ℕ) (body left after : List ℕ) (before : Option Field) (count : ℕ) (f : Field)
    → Passed tag body before count left → count < max_fields → IsField before f
    → left ≡ field_bytes f ++ after → (f.0 == tag) ≡ true → (fields : List Field) (fault : Option SplitFault)
    → SplitsInto body fields fault → Some f.1 ≡ value_of tag fields
found tag body left after before count f passed few good is same fields fault splits =
    let more = begins body after (passed.seen ++ f ∷ []) fields fault
    (taken_more body left after passed.seen f passed.taken (omega (arith, passed.counted, few))
    (subst (λ (last : Option Field). IsField last f) passed.last good) is) splits in
    rw (
      more.1,
      append_assoc passed.seen (f ∷ []) more.0,
      find-append (λ (g : Field). g.0 == tag) passed.seen (f ∷ more.0),
      passed.missed,
      same,
    ) refl

-- there is no field behind them
pub ended : (tag : ℕ) (body left : List ℕ) (before : Option Field) (count : ℕ)
    (why : Option SplitFault) → Passed tag body before count left
    → Stops count (length body - length left) before left why
    → (fields : List Field) (fault : Option SplitFault) → SplitsInto body fields fault
    → None ≡ value_of tag fields
ended tag body left before count why passed stops fields fault splits =
    let place : length body - length left ≡ length (body_of passed.seen) = omega (
      arith,
      ap length passed.taken.written,
      length-append (body_of passed.seen) left,
    ) in
    let same = (determined body fields passed.seen fault why splits (record {
      left = left;
      good = passed.taken.good;
      at_most = passed.taken.at_most;
      written = passed.taken.written;
      stopped = subst (λ (last : Option Field). Stops (length passed.seen)
          (length (body_of passed.seen)) last left why) passed.last
          (moved count (length passed.seen) (length body - length left)
          (length (body_of passed.seen)) before left why passed.counted place stops);
    })).0 in
    rw (same, passed.missed) refl

-- no whole field stands behind them
pub no_field : (count place : ℕ) (before : Option Field) (left : List ℕ) (fault : SplitFault)
    → count < max_fields → 0 < length left → NoField place before left fault
    → Stops count place before left (Some fault)
no_field count place before left (NoTag at) few some none = (few, some, none)
no_field count place before left (BadTag at) few some none = (few, some, none)
no_field count place before left (NoEnd at) few some none = (few, some, none)
no_field count place before left (DataLength tag) few some none = (few, some, none)
no_field count place before left TooMany few some none = absurd none

-- nothing is left, or there are as many as there may be
pub none_left : (count place : ℕ) (before : Option Field) (left : List ℕ) → (length left == 0) ≡ true
    → Stops count place before left None
none_left count place before [] none = refl
none_left count place before (b ∷ bs) none =
    absurd (omega (arith, eqb-true (length (b ∷ bs)) 0 none))

pub too_many : (count place : ℕ) (before : Option Field) (left : List ℕ) → count ≡ max_fields
    → (why : Option SplitFault) × Stops count place before left why
too_many count place before [] full = (None, refl)
too_many count place before (b ∷ bs) full = (Some TooMany, (full, omega arith))

pub some_left : (left : List ℕ) → false ≡ (length left == 0) → 0 < length left
some_left [] some = absurd (false≢true some)
some_left (b ∷ bs) some = omega arith

-- one more was passed
pub one_more : (tag : ℕ) (body left after : List ℕ) (before : Option Field) (count : ℕ) (f : Field)
    → Passed tag body before count left → count < max_fields → IsField before f
    → left ≡ field_bytes f ++ after → (f.0 == tag) ≡ false
    → Passed tag body (Some f) (count + 1) after
one_more tag body left after before count f passed few good is other = record {
  seen = passed.seen ++ f ∷ [];
  taken = taken_more body left after passed.seen f passed.taken
      (omega (arith, passed.counted, few))
      (subst (λ (last : Option Field). IsField last f) passed.last good) is;
  last = sym (last_pushed None passed.seen f);
  counted = omega (arith, passed.counted, length-append passed.seen (f ∷ []));
  missed = rw (find-append (λ (g : Field). g.0 == tag) passed.seen (f ∷ []), passed.missed, other) refl;
}
