-- The lines of a group are the same without the fields of the header.
use Rattle.std.proofs.Common.{◌≡◌, ◌+◌, ℕ, ◌==◌, ◌&&◌, ◌||◌, not, Bool, true, false, List, []}
use Rattle.std.proofs.Common.{◌∷◌, ◌++◌, Option, Some, None, refl, sym, ap, subst, ◌∙◌, arith, map}
use Rattle.std.proofs.Common.{if◌then◌else◌, append-nil}
use Rattle.std.specs.Prelude.{cond, count_by, nat_le, take_while}
use Rattle.std.specs.List.{AllByRecursion, list_all}
use Rattle.std.proofs.lemmas.Bool.{eqb-true}
use Rattle.std.proofs.lemmas.List.Sums.{sum_by-cons, take_while-cons}
use Rattle.field_groups.specs.Field.{Field}
use Rattle.field_groups.specs.HeadValues.{number_in}
use Rattle.message_tables.specs.declared.table_fault.TableFault.{TableFault}
use Rattle.message_tables.specs.declared.table_fault.TableFault.TheVariants as faults
use Rattle.message_tables.specs.Tables.{GroupTags, after_tag, first_of, from_tag, has_tag, in_lines}
use Rattle.message_tables.specs.Tables.{is_inside, is_one_of, lines_in, or_else, run, with_member}
use Rattle.message_tables.specs.FirstFault.{fault_if, is_count, is_opened, line_before}
use Rattle.message_tables.specs.FirstFault.{lines_begun, misplaced, misplaced_member, most_lines}
use Rattle.sound_laws.proofs.Each.{both, either, not_true}
use Rattle.sound_laws.proofs.Stages.{is_other}
use Rattle.message_answers.proofs.Letters.{among}
use Rattle.life_laws.specs.Receiver.{behind_header, header_tags, is_in_header}

-- ---- tags behind the header

pub has_behind : (tag : ℕ) → is_one_of header_tags tag ≡ false → (fields : List Field)
    → has_tag tag (behind_header fields) ≡ has_tag tag fields
has_behind tag apart [] = refl
has_behind tag apart (f ∷ fields) = by (is_in_header f) refl (has_behind tag apart fields)
  where
    by : (h : Bool) → is_in_header f ≡ h → has_tag tag (behind_header fields) ≡ has_tag tag fields
        → has_tag tag (cond (not h) (f ∷ behind_header fields) (behind_header fields))
        ≡ ((f.0 == tag) || has_tag tag fields)
    by true in_it rest =
        rest ∙ sym (ap (λ (b : Bool). b || has_tag tag fields)
        (is_other header_tags f.0 tag in_it apart))
    by false out rest = ap (λ (b : Bool). (f.0 == tag) || b) rest

pub keep : (f : Field) (fields : List Field) (h : Bool) → is_in_header f ≡ h
    → behind_header (f ∷ fields) ≡ cond (not h) (f ∷ behind_header fields) (behind_header fields)
keep f fields h is = ap (λ (b : Bool). cond (not b) (f ∷ behind_header fields)
    (behind_header fields)) is

-- what passes wherever a field of the header stands
while_behind : (p : Field → Bool) → ((f : Field) → is_in_header f ≡ true → p f ≡ true)
    → (fields : List Field)
    → take_while p (behind_header fields) ≡ behind_header (take_while p fields)
while_behind p passes [] = refl
while_behind p passes (f ∷ fields) =
    by (is_in_header f) (p f) refl refl (while_behind p passes fields)
    ∙ ap behind_header (sym (take_while-cons p f fields))
  where
    by : (h b : Bool) → is_in_header f ≡ h → p f ≡ b
        → take_while p (behind_header fields) ≡ behind_header (take_while p fields)
        → take_while p (cond (not h) (f ∷ behind_header fields) (behind_header fields))
        ≡ behind_header (cond b (f ∷ take_while p fields) [])
    by true true in_it is rest = rest
        ∙ sym (ap (λ (h : Bool). cond (not h) (f ∷ behind_header (take_while p fields))
        (behind_header (take_while p fields))) in_it)
    by true false in_it is rest = absurd (cc (passes f in_it, is))
    by false true out is rest = take_while-cons p f (behind_header fields)
        ∙ ap (λ (b : Bool). cond b (f ∷ take_while p (behind_header fields)) []) is
        ∙ ap (λ (l : List Field). f ∷ l) rest
        ∙ sym (ap (λ (h : Bool). cond (not h) (f ∷ behind_header (take_while p fields))
        (behind_header (take_while p fields))) out)
    by false false out is rest = take_while-cons p f (behind_header fields)
        ∙ ap (λ (b : Bool). cond b (f ∷ take_while p (behind_header fields)) []) is

after_behind : (tag : ℕ) → is_one_of header_tags tag ≡ false → (fields : List Field)
    → after_tag tag (behind_header fields) ≡ behind_header (after_tag tag fields)
after_behind tag apart [] = refl
after_behind tag apart (f ∷ fields) =
    by (is_in_header f) (f.0 == tag) refl refl (after_behind tag apart fields)
  where
    by : (h b : Bool) → is_in_header f ≡ h → (f.0 == tag) ≡ b
        → after_tag tag (behind_header fields) ≡ behind_header (after_tag tag fields)
        → after_tag tag (cond (not h) (f ∷ behind_header fields) (behind_header fields))
        ≡ behind_header (if b then fields else after_tag tag fields)
    by true true in_it is rest = absurd (cc (is, is_other header_tags f.0 tag in_it apart))
    by true false in_it is rest = rest
    by false true out is rest =
        ap (λ (b : Bool). if b then behind_header fields else after_tag tag (behind_header
        fields)) is
    by false false out is rest =
        ap (λ (b : Bool). if b then behind_header fields else after_tag tag (behind_header
        fields)) is
        ∙ rest

-- ---- a group that stands apart from the header

-- THE TEST of a group
abbrev pub group_behind : GroupTags → Bool
group_behind g =
    list_all (λ t. not (is_inside g t) && not (t == g.count)) header_tags
    && (not (is_one_of header_tags g.count) && (not (is_inside g g.count)
    && (is_inside g g.first && not (is_one_of g.skipped g.first))))

pub record IsApart (g : GroupTags) : Type 0 where
  pub inside : (t : ℕ) → is_one_of header_tags t ≡ true → is_inside g t ≡ false
  pub no_count : (t : ℕ) → is_one_of header_tags t ≡ true → (t == g.count) ≡ false
  pub behind : is_one_of header_tags g.count ≡ false
  pub count : is_inside g g.count ≡ false
  pub first : is_inside g g.first ≡ true
  pub plain : is_one_of g.skipped g.first ≡ false

pub is_apart : (g : GroupTags) → group_behind g ≡ true → IsApart g
is_apart g ok =
    let p = both _ _ ok in
    let q = both _ _ p.1 in
    let r = both _ _ q.1 in
    let s = both _ _ r.1 in
    record {
      inside = λ t in_it. not_true _ (both _ _
          (among (λ t. not (is_inside g t) && not (t == g.count)) header_tags t p.0 in_it)).0;
      no_count = λ t in_it. not_true _ (both _ _
          (among (λ t. not (is_inside g t) && not (t == g.count)) header_tags t p.0 in_it)).1;
      behind = not_true _ q.0;
      count = not_true _ r.0;
      first = s.0;
      plain = not_true _ s.1;
    }

module _ (g : GroupTags) (a : IsApart g) where
  abbrev begins : Field → Bool
  begins f = f.0 == g.first

  -- tags that say nothing
  abbrev pub AreSkipped : List Field → Type 0
  AreSkipped fields = AllByRecursion (λ f. is_one_of g.skipped f.0 ≡ true) fields

  run_by : (f : Field) (fields : List Field) {b : Bool} → is_inside g f.0 ≡ b
      → run g (f ∷ fields) ≡ cond b (f ∷ run g fields) []
  run_by f fields is = take_while-cons (λ (x : Field). is_inside g x.0) f fields
      ∙ ap (λ (b : Bool). cond b (f ∷ run g fields) []) is

  opened_by : (f : Field) (before : List Field) (c i : Bool) → (f.0 == g.count) ≡ c
      → is_inside g f.0 ≡ i → is_opened g (f ∷ before)
      ≡ (if c then true else (if i then is_opened g before else false))
  opened_by f before c i counts inside =
      λ j. if counts j then true else (if inside j then is_opened g before else false)

  -- ---- a group that was opened

  pub record IsOpened (before : List Field) : Type 0 where
    pub opened : is_opened g (behind_header before) ≡ true
    pub same : run g (behind_header before) ≡ run g before

  opened_same : (before : List Field) → is_opened g before ≡ true → IsOpened before
  opened_same [] is = absurd (cc is)
  opened_same (f ∷ before) is =
      by (is_in_header f) (f.0 == g.count) (is_inside g f.0) refl refl refl is
      (λ rest. opened_same before rest)
    where
      by : (h c i : Bool) → is_in_header f ≡ h → (f.0 == g.count) ≡ c → is_inside g f.0 ≡ i
          → (if c then true else (if i then is_opened g before else false)) ≡ true
          → (is_opened g before ≡ true → IsOpened before) → IsOpened (f ∷ before)
      by true true i at counts inside is rest = absurd (cc (counts, a.no_count f.0 at))
      by true false true at counts inside is rest = absurd (cc (inside, a.inside f.0 at))
      by true false false at counts inside is rest = absurd (cc is)
      by false true i at counts inside is rest =
          let none : is_inside g f.0 ≡ false =
          ap (is_inside g) (eqb-true f.0 g.count counts) ∙ a.count in
          record {
            opened = ap (is_opened g) (keep f before false at)
                ∙ opened_by f (behind_header before) true false counts none;
            same = ap (run g) (keep f before false at) ∙ run_by f (behind_header before) none
                ∙ sym (run_by f before none);
          }
      by false false true at counts inside is rest =
          let r = rest is in
          record {
            opened = ap (is_opened g) (keep f before false at)
                ∙ opened_by f (behind_header before) false true counts inside ∙ r.opened;
            same = ap (run g) (keep f before false at) ∙ run_by f (behind_header before) inside
                ∙ ap (λ (l : List Field). f ∷ l) r.same
                ∙ sym (run_by f before inside);
          }
      by false false false at counts inside is rest = absurd (cc is)

  -- a field of the header begins no line
  no_begin : (f : Field) → is_in_header f ≡ true → not (begins f) ≡ true
  no_begin f in_it = by (begins f) refl
    where
      by : (b : Bool) → begins f ≡ b → not (begins f) ≡ true
      by true is = absurd (cc (
        ap (is_inside g) (eqb-true f.0 g.first is) ∙ a.first,
        a.inside f.0 in_it,
      ))
      by false is = ap not is

  line_same : (before : List Field) (tag : ℕ) → is_one_of header_tags tag ≡ false
      → has_tag tag (line_before g (behind_header before)) ≡ has_tag tag (line_before g before)
  line_same before tag apart =
      ap (has_tag tag) (while_behind (λ (f : Field). not (begins f)) no_begin before)
      ∙ has_behind tag apart (line_before g before)

  abbrev member_by : ℕ → (opened : Bool) → (lines : ℕ) → (again : Bool) → Option TableFault
  member_by tag opened lines again =
      if not opened then Some (faults.Reason tag 15)
      else (if tag == g.first
      then fault_if (nat_le most_lines lines) (faults.Reason g.count 5)
      else fault_if (lines == 0 || again) (faults.Reason tag 15))

  member_same : (before : List Field) (tag : ℕ) → is_one_of header_tags tag ≡ false
      → misplaced_member g before tag ≡ None → misplaced_member g (behind_header before) tag ≡ None
  member_same before tag apart is = by (is_one_of g.skipped tag) (is_opened g before) refl is
    where
      by : (s o : Bool) → is_opened g before ≡ o → (if s then None
          else member_by tag o (lines_begun g before) (has_tag tag (line_before g before))) ≡ None
          → (if s then None else member_by tag (is_opened g (behind_header before))
          (lines_begun g (behind_header before))
          (has_tag tag (line_before g (behind_header before)))) ≡ None
      by true o opened is = refl
      by false false opened is = absurd (cc is)
      by false true opened is =
          let same = opened_same before opened in
          let again = line_same before tag apart in
          (λ i. member_by tag (same.opened i) (count_by begins (same.same i)) (again i)) ∙ is

  -- ---- the fields at their places

  abbrev pub IsFine : List Field → List Field → Type 0
  IsFine before [] = Unit {0}
  IsFine before (f ∷ fields) =
      (misplaced (record { before = before; field = f; after = fields }) g ≡ None)
      × IsFine (f ∷ before) fields

  -- the count stands once
  abbrev pub IsOnce : List Field → List Field → Type 0
  IsOnce before [] = Unit {0}
  IsOnce before (f ∷ fields) =
      ((f.0 == g.count) ≡ true → has_tag g.count before ≡ false) × IsOnce (f ∷ before) fields

  no_more : (before fields : List Field) → IsOnce before fields → has_tag g.count before ≡ true
      → has_tag g.count fields ≡ false
  no_more before [] once has = refl
  no_more before (f ∷ fields) once has = by (f.0 == g.count) refl
      (no_more (f ∷ before) fields once.1 (more (f.0 == g.count) has))
    where
      more : (b : Bool) → has_tag g.count before ≡ true → (b || has_tag g.count before) ≡ true
      more true has = refl
      more false has = has

      by : (b : Bool) → (f.0 == g.count) ≡ b → has_tag g.count fields ≡ false
          → ((f.0 == g.count) || has_tag g.count fields) ≡ false
      by true is rest = absurd (cc (once.0 is, has))
      by false is rest = ap (λ (b : Bool). b || has_tag g.count fields) is ∙ rest

  -- behind a group that is closed only tags that say nothing may stand
  abbrev AreLoose : List Field → Type 0
  AreLoose fields =
      AllByRecursion (λ f. is_inside g f.0 ≡ true → is_one_of g.skipped f.0 ≡ true) fields

  closed_loose : (before fields : List Field) → is_opened g before ≡ false
      → IsFine before fields → has_tag g.count fields ≡ false → AreLoose fields
  closed_loose before [] closed fine none = tt
  closed_loose before (f ∷ fields) closed fine none =
      let p = either (f.0 == g.count) (has_tag g.count fields) none in (
        λ inside. skipped (is_one_of g.skipped f.0) refl
            (sym (λ j. if p.0 j then fault_if (not (is_count (number_in f.1)
            (lines_begun g fields))) (faults.Reason f.0 16)
            else (if inside j then misplaced_member g before f.0 else None)) ∙ fine.0),
        closed_loose (f ∷ before) fields (still (is_inside g f.0) p.0 refl) fine.1 p.1,
      )
    where
      skipped : (s : Bool) → is_one_of g.skipped f.0 ≡ s → misplaced_member g before f.0 ≡ None
          → is_one_of g.skipped f.0 ≡ true
      skipped true is fine = is
      skipped false is fine = absurd (cc (sym (λ j. if is j then None else
          member_by f.0 (closed j) (lines_begun g before)
          (has_tag f.0 (line_before g before))) ∙ fine))

      still : (i : Bool) → (f.0 == g.count) ≡ false → is_inside g f.0 ≡ i
          → is_opened g (f ∷ before) ≡ false
      still true counts inside = opened_by f before false true counts inside ∙ closed
      still false counts inside = opened_by f before false false counts inside

  loose_run : (fields : List Field) → AreLoose fields → AreSkipped (run g (behind_header fields))
  loose_run [] loose = tt
  loose_run (f ∷ fields) loose =
      subst AreSkipped (sym (ap (run g) (keep f fields (is_in_header f) refl)))
      (by (is_in_header f) (is_inside g f.0) refl (loose_run fields loose.1))
    where
      by : (h i : Bool) → is_inside g f.0 ≡ i → AreSkipped (run g (behind_header fields))
          → AreSkipped (run g (cond (not h) (f ∷ behind_header fields) (behind_header fields)))
      by true i inside rest = rest
      by false true inside rest =
          subst AreSkipped (sym (run_by f (behind_header fields) inside)) (loose.0 inside, rest)
      by false false inside rest =
          subst AreSkipped (sym (run_by f (behind_header fields) inside)) tt

  -- what a run has more without the header
  pub record RunsOn (fields : List Field) : Type 0 where
    pub more : List Field
    pub skipped : AreSkipped more
    pub is : run g (behind_header fields) ≡ run g fields ++ more

  run_split : (before fields : List Field) → is_opened g before ≡ true → IsFine before fields
      → has_tag g.count fields ≡ false → RunsOn fields
  run_split before [] opened fine none = record { more = []; skipped = tt; is = refl }
  run_split before (f ∷ fields) opened fine none =
      by (is_in_header f) (is_inside g f.0) refl refl
      (either (f.0 == g.count) (has_tag g.count fields) none)
      (λ still p. run_split (f ∷ before) fields still fine.1 p)
      (λ closed p. closed_loose (f ∷ before) fields closed fine.1 p)
    where
      by : (h i : Bool) → is_in_header f ≡ h → is_inside g f.0 ≡ i
          → ((f.0 == g.count) ≡ false) × (has_tag g.count fields ≡ false)
          → (is_opened g (f ∷ before) ≡ true → has_tag g.count fields ≡ false → RunsOn fields)
          → (is_opened g (f ∷ before) ≡ false → has_tag g.count fields ≡ false → AreLoose fields)
          → RunsOn (f ∷ fields)
      by true true at inside p going closing = absurd (cc (inside, a.inside f.0 at))
      by true false at inside p going closing = record {
        more = run g (behind_header fields);
        skipped = loose_run fields (closing (opened_by f before false false p.0 inside) p.1);
        is = ap (run g) (keep f fields true at)
            ∙ ap (λ (l : List Field). l ++ run g (behind_header fields))
            (sym (run_by f fields inside));
      }
      by false true at inside p going closing =
          let r = going (opened_by f before false true p.0 inside ∙ opened) p.1 in
          record {
            more = r.more;
            skipped = r.skipped;
            is = ap (run g) (keep f fields false at) ∙ run_by f (behind_header fields) inside
                ∙ ap (λ (l : List Field). f ∷ l) r.is
                ∙ ap (λ (l : List Field). l ++ r.more) (sym (run_by f fields inside));
          }
      by false false at inside p going closing = record {
        more = [];
        skipped = tt;
        is = ap (run g) (keep f fields false at) ∙ run_by f (behind_header fields) inside
            ∙ sym (append-nil (run g (f ∷ fields)) ∙ run_by f fields inside);
      }

  -- ---- how many lines are begun

  count_cons : (f : Field) (fields : List Field)
      → count_by begins (f ∷ fields) ≡ cond (begins f) 1 0 + count_by begins fields
  count_cons f fields = sum_by-cons (λ (x : Field). cond (begins x) 1 0) f fields

  count_none : (more : List Field) → AreSkipped more → count_by begins more ≡ 0
  count_none [] skipped = refl
  count_none (f ∷ more) skipped = count_cons f more
      ∙ ap (λ (b : Bool). cond b 1 0 + count_by begins more)
      (is_other g.skipped f.0 g.first skipped.0 a.plain)
      ∙ (let rest = count_none more skipped.1 in omega (arith, rest))

  count_joined : (xs more : List Field) → AreSkipped more
      → count_by begins (xs ++ more) ≡ count_by begins xs
  count_joined [] more skipped = count_none more skipped
  count_joined (f ∷ xs) more skipped = count_cons f (xs ++ more)
      ∙ ap (λ (n : ℕ). cond (begins f) 1 0 + n) (count_joined xs more skipped)
      ∙ sym (count_cons f xs)

  lines_same : (before fields : List Field) → is_opened g before ≡ true → IsFine before fields
      → has_tag g.count fields ≡ false → lines_begun g (behind_header fields) ≡ lines_begun g fields
  lines_same before fields opened fine none =
      let r = run_split before fields opened fine none in
      ap (count_by begins) r.is ∙ count_joined (run g fields) r.more r.skipped

  -- ---- each field stands well without the header, too

  counted_open : (f : Field) (before : List Field) → (f.0 == g.count) ≡ true
      → is_opened g (f ∷ before) ≡ true
  counted_open f before counts = opened_by f before true (is_inside g f.0) counts refl

  counted_has : (f : Field) (before : List Field) → (f.0 == g.count) ≡ true
      → has_tag g.count (f ∷ before) ≡ true
  counted_has f before counts = ap (λ (c : Bool). c || has_tag g.count before) counts

  one_fine : (before fields : List Field) (f : Field) → is_in_header f ≡ false
      → misplaced (record { before = before; field = f; after = fields }) g ≡ None
      → IsFine (f ∷ before) fields → IsOnce (f ∷ before) fields
      → misplaced (record {
        before = behind_header before;
        field = f;
        after = behind_header fields;
      }) g ≡ None
  one_fine before fields f out fine rest once =
      by (f.0 == g.count) (is_inside g f.0) refl refl fine
    where
      by : (c i : Bool) → (f.0 == g.count) ≡ c → is_inside g f.0 ≡ i
          → (if c then fault_if (not (is_count (number_in f.1) (lines_begun g fields)))
          (faults.Reason f.0 16)
          else (if i then misplaced_member g before f.0 else None)) ≡ None
          → (if c then fault_if (not (is_count (number_in f.1)
          (lines_begun g (behind_header fields)))) (faults.Reason f.0 16)
          else (if i then misplaced_member g (behind_header before) f.0 else None)) ≡ None
      by true i counts inside fine =
          ap (λ (n : ℕ). fault_if (not (is_count (number_in f.1) n)) (faults.Reason f.0 16))
          (lines_same (f ∷ before) fields (counted_open f before counts) rest
          (no_more (f ∷ before) fields once (counted_has f before counts))) ∙ fine
      by false true counts inside fine = member_same before f.0 out fine
      by false false counts inside fine = refl

  pub fine_behind : (before fields : List Field) → IsFine before fields → IsOnce before fields
      → IsFine (behind_header before) (behind_header fields)
  fine_behind before [] fine once = tt
  fine_behind before (f ∷ fields) fine once =
      subst (IsFine (behind_header before)) (sym (keep f fields (is_in_header f) refl))
      (by (is_in_header f) refl (fine_behind (f ∷ before) fields fine.1 once.1))
    where
      by : (h : Bool) → is_in_header f ≡ h
          → IsFine (behind_header (f ∷ before)) (behind_header fields)
          → IsFine (behind_header before)
          (cond (not h) (f ∷ behind_header fields) (behind_header fields))
      by true at rest = subst (λ (l : List Field). IsFine l (behind_header fields))
          (keep f before true at) rest
      by false at rest = (
        one_fine before fields f at fine.0 fine.1 once.1,
        subst (λ (l : List Field). IsFine l (behind_header fields)) (keep f before false at) rest,
      )

  -- ---- the lines

  -- a line, with tags behind it that say nothing
  pub record IsLike (line other : List Field) : Type 0 where
    pub more : List Field
    pub skipped : AreSkipped more
    pub is : other ≡ line ++ more

  like_itself : (line : List Field) → IsLike line line
  like_itself line = record { more = []; skipped = tt; is = sym (append-nil line) }

  abbrev pub AreLike : List (List Field) → List (List Field) → Type 0
  AreLike [] [] = Unit {0}
  AreLike [] (line ∷ lines) = ⊥
  AreLike (line ∷ lines) [] = ⊥
  AreLike (line ∷ lines) (other ∷ others) = IsLike line other × AreLike lines others

  all_like : (lines : List (List Field)) → AreLike lines lines
  all_like [] = tt
  all_like (line ∷ lines) = (like_itself line, all_like lines)

  first_other : (f : Field) → is_one_of g.skipped f.0 ≡ true → (f.0 == g.first) ≡ false
  first_other f skipped = is_other g.skipped f.0 g.first skipped a.plain

  one_line : (f : Field) (more : List Field) → AreSkipped (f ∷ more)
      → in_lines g.first (f ∷ more) ≡ (f ∷ more) ∷ []
  one_line f [] skipped = refl
  one_line f (s ∷ more) skipped =
      ap (with_member g.first f) (one_line s more skipped.1)
      ∙ ap (λ (b : Bool). if b then (f ∷ []) ∷ (s ∷ more) ∷ [] else (f ∷ s ∷ more) ∷ [])
      (first_other s skipped.1.0)

  begun_like : (f : Field) (more : List Field) → AreSkipped more
      → AreLike ((f ∷ []) ∷ []) (with_member g.first f (in_lines g.first more))
  begun_like f [] skipped = (like_itself (f ∷ []), tt)
  begun_like f (s ∷ more) skipped =
      subst (AreLike ((f ∷ []) ∷ [])) (sym (
      ap (with_member g.first f) (one_line s more skipped)
      ∙ ap (λ (b : Bool). if b then (f ∷ []) ∷ (s ∷ more) ∷ [] else (f ∷ s ∷ more) ∷ [])
      (first_other s skipped.0)))
      (record { more = s ∷ more; skipped = skipped; is = refl }, tt)

  member_like : (f : Field) (lines others : List (List Field)) → AreLike lines others
      → AreLike (with_member g.first f lines) (with_member g.first f others)
  member_like f [] [] like = (like_itself (f ∷ []), tt)
  member_like f [] (other ∷ others) like = absurd like
  member_like f (line ∷ lines) [] like = absurd like
  member_like f (line ∷ lines) (other ∷ others) like =
      subst (λ (o : List Field). AreLike (with_member g.first f (line ∷ lines))
      (with_member g.first f (o ∷ others))) (sym like.0.is)
      (by line like.0.more like.0.skipped)
    where
      by : (line more : List Field) → AreSkipped more
          → AreLike (with_member g.first f (line ∷ lines))
          (with_member g.first f ((line ++ more) ∷ others))
      by [] [] skipped = (like_itself (f ∷ []), like.1)
      by [] (s ∷ more) skipped =
          subst (AreLike ((f ∷ []) ∷ lines)) (sym (ap (λ (b : Bool). if b
          then (f ∷ []) ∷ (s ∷ more) ∷ others else (f ∷ s ∷ more) ∷ others)
          (first_other s skipped.0)))
          (record { more = s ∷ more; skipped = skipped; is = refl }, like.1)
      by (x ∷ line) more skipped = at (x.0 == g.first)
        where
          at : (b : Bool) → AreLike
              (if b then (f ∷ []) ∷ (x ∷ line) ∷ lines else (f ∷ x ∷ line) ∷ lines)
              (if b then (f ∷ []) ∷ (x ∷ (line ++ more)) ∷ others
              else (f ∷ x ∷ (line ++ more)) ∷ others)
          at true = (
            like_itself (f ∷ []),
            (record { more = more; skipped = skipped; is = refl }, like.1),
          )
          at false = (record { more = more; skipped = skipped; is = refl }, like.1)

  joined_like : (f : Field) (xs more : List Field) → AreSkipped more
      → AreLike (in_lines g.first (f ∷ xs)) (in_lines g.first (f ∷ (xs ++ more)))
  joined_like f [] more skipped = begun_like f more skipped
  joined_like f (x ∷ xs) more skipped =
      member_like f (in_lines g.first (x ∷ xs)) (in_lines g.first (x ∷ (xs ++ more)))
      (joined_like x xs more skipped)

  from_none : (more : List Field) → AreSkipped more → from_tag g.first more ≡ []
  from_none [] skipped = refl
  from_none (f ∷ more) skipped =
      ap (λ (b : Bool). if b then f ∷ more else from_tag g.first more) (first_other f skipped.0)
      ∙ from_none more skipped.1

  from_like : (xs more : List Field) → AreSkipped more
      → AreLike (in_lines g.first (from_tag g.first xs))
      (in_lines g.first (from_tag g.first (xs ++ more)))
  from_like [] more skipped =
      subst (λ (l : List Field). AreLike [] (in_lines g.first l)) (sym (from_none more skipped)) tt
  from_like (f ∷ xs) more skipped = by (f.0 == g.first) (from_like xs more skipped)
    where
      by : (b : Bool) → AreLike (in_lines g.first (from_tag g.first xs))
          (in_lines g.first (from_tag g.first (xs ++ more)))
          → AreLike (in_lines g.first (if b then f ∷ xs else from_tag g.first xs))
          (in_lines g.first (if b then f ∷ (xs ++ more) else from_tag g.first (xs ++ more)))
      by true rest = joined_like f xs more skipped
      by false rest = rest

  -- what stands behind the count
  pub data IsAfter (fields : List Field) : Type 0 where
    Nothing : after_tag g.count fields ≡ [] → IsAfter fields
    Behind : (before : List Field) → is_opened g before ≡ true
        → IsFine before (after_tag g.count fields)
        → has_tag g.count (after_tag g.count fields) ≡ false → IsAfter fields

  after_is : (before fields : List Field) → IsFine before fields → IsOnce before fields
      → IsAfter fields
  after_is before [] fine once = Nothing refl
  after_is before (f ∷ fields) fine once =
      by (f.0 == g.count) refl (after_is (f ∷ before) fields fine.1 once.1)
    where
      after : (c : Bool) → (f.0 == g.count) ≡ c
          → after_tag g.count (f ∷ fields) ≡ (if c then fields else after_tag g.count fields)
      after c is = ap (λ (b : Bool). if b then fields else after_tag g.count fields) is

      by : (c : Bool) → (f.0 == g.count) ≡ c → IsAfter fields → IsAfter (f ∷ fields)
      by true is rest =
          Behind (f ∷ before) (counted_open f before is)
          (subst (IsFine (f ∷ before)) (sym (after true is)) fine.1)
          (ap (has_tag g.count) (after true is)
          ∙ no_more (f ∷ before) fields once.1 (counted_has f before is))
      by false is (Nothing none) = Nothing (after false is ∙ none)
      by false is (Behind b opened fine none) =
          Behind b opened (subst (IsFine b) (sym (after false is)) fine)
          (ap (has_tag g.count) (after false is) ∙ none)

  -- THE LINES ARE THE SAME, but for tags that say nothing.
  pub lines_like : (fields : List Field) → IsFine [] fields → IsOnce [] fields
      → AreLike (lines_in g fields) (lines_in g (behind_header fields))
  lines_like fields fine once = by (after_is [] fields fine once)
    where
      after : after_tag g.count (behind_header fields) ≡ behind_header (after_tag g.count fields)
      after = after_behind g.count a.behind fields

      by : IsAfter fields → AreLike (lines_in g fields) (lines_in g (behind_header fields))
      by (Nothing none) =
          subst (AreLike (lines_in g fields)) (sym (
          ap (λ (l : List Field). in_lines g.first (from_tag g.first (run g l)))
          (after ∙ ap behind_header none ∙ sym none)))
          (all_like (lines_in g fields))
      by (Behind before opened fine none) =
          let r = run_split before (after_tag g.count fields) opened fine none in
          subst (AreLike (lines_in g fields)) (sym (
          ap (λ (l : List Field). in_lines g.first (from_tag g.first (run g l))) after
          ∙ ap (λ (l : List Field). in_lines g.first (from_tag g.first l)) r.is))
          (from_like (run g (after_tag g.count fields)) r.more r.skipped)

  -- what is asked of each line is answered alike
  module _ {Z : Type 0} (h : List Field → Z)
      (alike : (line more : List Field) → AreSkipped more → h (line ++ more) ≡ h line) where
    pub map_like : (lines others : List (List Field)) → AreLike lines others
        → map h others ≡ map h lines
    map_like [] [] like = refl
    map_like [] (other ∷ others) like = absurd like
    map_like (line ∷ lines) [] like = absurd like
    map_like (line ∷ lines) (other ∷ others) like =
        let here = ap h like.0.is ∙ alike line like.0.more like.0.skipped in
        let rest = map_like lines others like.1 in
        λ i. here i ∷ rest i

  pub first_like : {Z : Type 0} (h : List Field → Option Z)
      → ((line more : List Field) → AreSkipped more → h (line ++ more) ≡ h line)
      → (lines others : List (List Field)) → AreLike lines others
      → first_of h others ≡ first_of h lines
  unfolding first_of
  first_like h alike [] [] like = refl
  first_like h alike [] (other ∷ others) like = absurd like
  first_like h alike (line ∷ lines) [] like = absurd like
  first_like h alike (line ∷ lines) (other ∷ others) like =
      let here = ap h like.0.is ∙ alike line like.0.more like.0.skipped in
      let rest = first_like h alike lines others like.1 in
      λ i. or_else (here i) (rest i)
