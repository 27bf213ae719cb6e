-- The lines of a group in a message at no fault, over any judge and table: each has a good value at
-- each row that it has to say.
use Rattle.std.proofs.Common.{◌≡◌, ℕ, List, [], ◌∷◌, Option, Some, None, Bool, true, false, cond}
use Rattle.std.proofs.Common.{eqb, refl, subst, ◌∙◌, arith}
use Rattle.std.specs.Prelude.{IsSome, take_while, not}
use Rattle.std.specs.List.{AllByRecursion, slice_get}
use Rattle.std.proofs.lemmas.Bool.Decides.{nat_tests}
use Rattle.std.proofs.lemmas.List.Sums.{take_while-cons}
use Rattle.message_tables.specs.declared.table_fault.TableFault.{TableFault}
use Rattle.message_tables.specs.declared.table_fault.TableFault.TheVariants as faults
use Rattle.field_groups.specs.Field.{Field}
use Rattle.message_tables.specs.Tables.{Row, Need, Required, RepeatingGroup, One, Lines, Table}
use Rattle.message_tables.specs.Tables.{Judge}
use Rattle.message_tables.specs.Tables.{Verdict, Spells, Outside, Wrong, ◌>>=◌, or_else, first_of}
use Rattle.message_tables.specs.Tables.{value_at, has_tag, row_at, all_rows, GroupTags, tags_in}
use Rattle.message_tables.specs.Tables.{after_tag, from_tag, is_inside, run, with_member, in_lines}
use Rattle.message_tables.specs.Tables.{line_fields_in, lines_in, text_of}
use Rattle.message_tables.specs.FirstFault.{wrong, beyond, missing, missing_of, fault_if}
use Rattle.message_tables.specs.FirstFault.{marked, allowed, mark_of, first_fault}
use Rattle.message_tables.proofs.Clean.{clean, none_at, first_of-map}

-- where no item gives an answer, none of them does
pub none_each : {X A : Type 0} (f : X → Option A) (xs : List X) → first_of f xs ≡ None
    → AllByRecursion (λ x. f x ≡ None) xs
unfolding first_of
none_each f [] h = tt
none_each {X = X} {A = A} f (x ∷ xs) h = here (f x) refl h (λ later. none_each f xs later)
  where
    here : (a : Option A) → f x ≡ a → or_else a (first_of f xs) ≡ None
        → (first_of f xs ≡ None → AllByRecursion (λ y. f y ≡ None) xs) → (f x ≡ None)
        × AllByRecursion (λ y. f y ≡ None) xs
    here None e h later = (e, later h)
    here (Some a) e h later = absurd cc

module _ (P : Field → Type 0) where
  -- what holds of each field holds of each one of a part
  after_each : (tag : ℕ) (fs : List Field) → AllByRecursion P fs
      → AllByRecursion P (after_tag tag fs)
  after_each tag [] h = tt
  after_each tag (f ∷ fs) h = here (eqb f.0 tag) (after_each tag fs h.1)
    where
      here : (b : Bool) → AllByRecursion P (after_tag tag fs)
          → AllByRecursion P (cond b fs (after_tag tag fs))
      here true later = h.1
      here false later = later

  from_each : (tag : ℕ) (fs : List Field) → AllByRecursion P fs → AllByRecursion P (from_tag tag fs)
  from_each tag [] h = tt
  from_each tag (f ∷ fs) h = here (eqb f.0 tag) (from_each tag fs h.1)
    where
      here : (b : Bool) → AllByRecursion P (from_tag tag fs)
          → AllByRecursion P (cond b (f ∷ fs) (from_tag tag fs))
      here true later = h
      here false later = later

  while_each : (test : Field → Bool) (fs : List Field) → AllByRecursion P fs
      → AllByRecursion P (take_while test fs)
  while_each test [] h = tt
  while_each test (f ∷ fs) h =
      rw (take_while-cons test f fs) (here (test f) (while_each test fs h.1))
    where
      here : (b : Bool) → AllByRecursion P (take_while test fs)
          → AllByRecursion P (cond b (f ∷ take_while test fs) [])
      here true later = (h.0, later)
      here false later = tt

  member_each : (first : ℕ) (f : Field) (lines : List (List Field)) → P f
      → AllByRecursion (AllByRecursion P) lines
      → AllByRecursion (AllByRecursion P) (with_member first f lines)
  member_each first f [] p h = ((p, tt), tt)
  member_each first f ([] ∷ lines) p h = ((p, tt), h.1)
  member_each first f ((g ∷ line) ∷ lines) p h = here (eqb g.0 first)
    where
      here : (b : Bool) → AllByRecursion (AllByRecursion P)
          (cond b ((f ∷ []) ∷ (g ∷ line) ∷ lines) ((f ∷ g ∷ line) ∷ lines))
      here true = ((p, tt), h)
      here false = ((p, h.0), h.1)

  lines_each : (first : ℕ) (fs : List Field) → AllByRecursion P fs
      → AllByRecursion (AllByRecursion P) (in_lines first fs)
  lines_each first [] h = tt
  lines_each first (f ∷ fs) h =
      member_each first f (in_lines first fs) h.0 (lines_each first fs h.1)

  pub in_lines_each : (group : GroupTags) (fs : List Field) → AllByRecursion P fs
      → AllByRecursion (AllByRecursion P) (lines_in group fs)
  in_lines_each group fs h =
      lines_each group.first (line_fields_in group fs)
      (from_each group.first (run group (after_tag group.count fs))
      (while_each (λ f. is_inside group f.0) (after_tag group.count fs)
      (after_each group.count fs h)))

  -- the first value of a tag is that of a field
  pub record Has (tag : ℕ) (fs : List Field) : Type 0 where
    pub value : List ℕ
    pub first : value_at tag fs ≡ Some value
    pub holds : P (tag, value)

  pub has : (tag : ℕ) (fs : List Field) → has_tag tag fs ≡ true → AllByRecursion P fs → Has tag fs
  unfolding first_of
  has tag [] h each = absurd cc
  has tag (f ∷ fs) h each = here (eqb f.0 tag) refl (λ there. has tag fs there each.1)
    where
      here : (b : Bool) → eqb f.0 tag ≡ b → (has_tag tag fs ≡ true → Has tag fs) → Has tag (f ∷ fs)
      here true e later = let same : f.0 ≡ tag = grind (arith, nat_tests) in
          let Q : ℕ → Type 0 = λ t. P (t, f.1) in
          record { value = f.1; first = rw e refl; holds = subst Q same each.0 }
      here false e later = let s = later (rw e at h) in
          record { value = s.value; first = rw e s.first; holds = s.holds }

module _ {Kind : Type 0} (judge : Judge Kind) (table : Table Kind) (fields : List Field) where
  -- a field that is neither of wrong form nor outside the profile
  abbrev pub IsGood : Field → Type 0
  IsGood f = (wrong (marked judge table fields f) ≡ None)
      × (beyond (marked judge table fields f) ≡ None)

  pub all_good : first_fault judge table fields ≡ None → AllByRecursion IsGood fields
  all_good h =
      let c = clean judge table fields h in
      both fields
      (none_each (λ f. wrong (marked judge table fields f)) fields
      (first_of-map wrong (marked judge table fields) fields ∙ c.form))
      (none_each (λ f. beyond (marked judge table fields f)) fields
      (first_of-map beyond (marked judge table fields) fields ∙ c.profile))
    where
      both : (fs : List Field) → AllByRecursion (λ f. wrong (marked judge table fields f) ≡ None) fs
          → AllByRecursion (λ f. beyond (marked judge table fields f) ≡ None) fs
          → AllByRecursion IsGood fs
      both [] w b = tt
      both (f ∷ fs) w b = ((w.0, b.0), both fs w.1 b.1)

  there : (there : Bool) (fault : TableFault) → fault_if (not there) fault ≡ None → there ≡ true
  there true fault h = refl
  there false fault h = absurd cc

  spells : (tag : ℕ) (v : Verdict) → wrong (tag, allowed Required (mark_of v)) ≡ None
      → beyond (tag, allowed Required (mark_of v)) ≡ None → IsSome (text_of v)
  spells tag (Spells text) w o = refl
  spells tag Outside w o = absurd cc
  spells tag (Wrong reason) w o = absurd cc

  -- a line says a row
  abbrev pub SaysRow : Row Kind → List Field → Type 0
  SaysRow row line = IsSome
      (value_at row.tag line >>= (λ bytes. text_of (judge fields row.kind bytes)))

  line_says : (row : Row Kind) → row.need ≡ Required → row_at row.tag (all_rows table) ≡ Some row
      → (line : List Field) → missing line row ≡ None → AllByRecursion IsGood line
      → SaysRow row line
  line_says row needed its line m good =
      let stands : has_tag row.tag line ≡ true =
      there (has_tag row.tag line) (faults.Reason row.tag 1) (rw needed at m) in
      let s = has IsGood row.tag line stands good in
      rw s.first (by_need row.need (judge fields row.kind s.value) needed (rw its at s.holds.0)
      (rw its at s.holds.1))
    where
      by_need : (need : Need) (v : Verdict) → need ≡ Required
          → wrong (row.tag, allowed need (mark_of v)) ≡ None
          → beyond (row.tag, allowed need (mark_of v)) ≡ None → IsSome (text_of v)
      by_need need v e w o = spells row.tag v (rw e at w) (rw e at o)

  -- each line of a group says each required row
  pub lines_say : (i j : ℕ) (group : RepeatingGroup Kind) (row : Row Kind)
      → first_fault judge table fields ≡ None
      → slice_get table.items i ≡ Some (Lines group) → slice_get group.rows j ≡ Some row
      → row.need ≡ Required → row_at row.tag (all_rows table) ≡ Some row
      → AllByRecursion (SaysRow row) (lines_in (tags_in group) fields)
  lines_say i j group row h at of needed its =
      let c = clean judge table fields h in
      each (lines_in (tags_in group) fields)
      (none_each (λ line. first_of (missing line) group.rows) (lines_in (tags_in group) fields)
      (none_at (missing_of fields) table.items i (Lines group) at c.presence))
      (in_lines_each IsGood (tags_in group) fields (all_good h))
    where
      each : (lines : List (List Field))
          → AllByRecursion (λ line. first_of (missing line) group.rows ≡ None) lines
          → AllByRecursion (AllByRecursion IsGood) lines → AllByRecursion (SaysRow row) lines
      each [] m g = tt
      each (line ∷ lines) m g = (
        line_says row needed its line (none_at (missing line) group.rows j row of m.0) g.0,
        each lines m.1 g.1,
      )

  -- a message says each required row
  pub row_says : (i : ℕ) (row : Row Kind) → first_fault judge table fields ≡ None
      → slice_get table.items i ≡ Some (One row)
      → row.need ≡ Required → row_at row.tag (all_rows table) ≡ Some row → SaysRow row fields
  row_says i row h at needed its =
      let c = clean judge table fields h in
      line_says row needed its fields
      (none_at (missing_of fields) table.items i (One row) at c.presence) (all_good h)
