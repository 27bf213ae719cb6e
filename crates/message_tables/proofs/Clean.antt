-- What it means that a message is at no fault, over any table and judge.
use Rattle.std.proofs.Common.{◌≡◌, ℕ, zero, suc, List, [], ◌∷◌, Option, Some, None, Bool}
use Rattle.std.proofs.Common.{true, false, cond, eqb, map, refl, ap, ◌∙◌, arith}
use Rattle.std.specs.Prelude.{IsSome, ◌↔◌, not, ◌&&◌, ◌||◌, Ok, Err}
use Rattle.std.specs.Option.{option_map}
use Rattle.std.specs.List.{find, slice_get}
use Rattle.std.proofs.lemmas.Bool.Decides.{nat_tests}
use Rattle.message_tables.specs.TableLaws.{ReadsAs, IsStrict}
use Rattle.message_tables.specs.declared.table_fault.TableFault.{TableFault}
use Rattle.message_tables.specs.declared.table_fault.TableFault.TheVariants as faults
use Rattle.message_tables.specs.declared.table_fault.Mark.TheVariants as marks
use Rattle.field_groups.specs.Field.{Field}
use Rattle.message_tables.specs.Tables.{Verdict, Spells, Outside, Wrong, Need, Required, Optional}
use Rattle.message_tables.specs.Tables.{Lenient, Fixed, When, Row, One, Table, Judge}
use Rattle.message_tables.specs.Tables.{◌>>=◌, or_else, first_of, value_at, has_tag, is_needed}
use Rattle.message_tables.specs.Tables.{row_at, all_rows, text_of}
use Rattle.message_tables.specs.FirstFault.{Marked, twice, once_in, placed_from, group_tags_in}
use Rattle.message_tables.specs.FirstFault.{in_groups, wrong_version, wrong, beyond}
use Rattle.message_tables.specs.FirstFault.{missing_of, mark_of, allowed, marked, fault_if, unless}
use Rattle.message_tables.specs.FirstFault.{first_fault, message_in, message_of}

or_none : {A : Type 0} (a b : Option A) → or_else a b ≡ None → (a ≡ None) × (b ≡ None)
or_none None b h = (refl, h)
or_none (Some x) b h = absurd cc

-- where no item gives an answer, none of them does
pub none_at : {X A : Type 0} (f : X → Option A) (xs : List X) (i : ℕ) (x : X)
    → slice_get xs i ≡ Some x → first_of f xs ≡ None → f x ≡ None
unfolding first_of
none_at f [] i x at h = absurd cc
none_at f (y ∷ ys) zero x at h = let e : x ≡ y = cc in rw e (or_none (f y) (first_of f ys) h).0
none_at f (y ∷ ys) (suc i) x at h = none_at f ys i x at (or_none (f y) (first_of f ys) h).1

pub first_of-map : {X Y A : Type 0} (f : Y → Option A) (g : X → Y) (xs : List X)
    → first_of (λ x. f (g x)) xs ≡ first_of f (map g xs)
unfolding first_of
first_of-map f g [] = refl
first_of-map f g (x ∷ xs) = ap (or_else (f (g x))) (first_of-map f g xs)

-- a field of a tag stands, so the first one has a value and a place
pub record Stands (tag : ℕ) (fields : List Field) : Type 0 where
  pub value : List ℕ
  pub place : ℕ
  pub first : value_at tag fields ≡ Some value
  pub field : slice_get fields place ≡ Some (tag, value)

pub stands : (tag : ℕ) (fields : List Field) → has_tag tag fields ≡ true → Stands tag fields
stands tag [] h = absurd cc
stands tag (f ∷ fs) h = here (eqb f.0 tag) refl (λ there. stands tag fs there)
  where
    here : (b : Bool)
        → eqb f.0 tag ≡ b → (has_tag tag fs ≡ true → Stands tag fs) → Stands tag (f ∷ fs)
    here true e later = let same : f.0 ≡ tag = grind (arith, nat_tests) in
        record {
          value = f.1;
          place = 0;
          first = rw e refl;
          field = ap (λ (t : ℕ). Some (t, f.1)) same;
        }
    here false e later = let s = later (rw e at h) in
        record { value = s.value; place = suc s.place; first = rw e s.first; field = s.field }

-- a tag that no field has has no value
pub value_at-none : (tag : ℕ) (fields : List Field)
    → has_tag tag fields ≡ false → value_at tag fields ≡ None
value_at-none tag [] h = refl
value_at-none tag (f ∷ fs) h = here (eqb f.0 tag) h (value_at-none tag fs)
  where
    here : (b : Bool)
        → (b || has_tag tag fs) ≡ false → (has_tag tag fs ≡ false → value_at tag fs ≡ None)
        → option_map (λ (g : Field). g.1) (cond b (Some f) (find (λ g. eqb g.0 tag) fs)) ≡ None
    here true e later = absurd cc
    here false e later = later e

module _ {Kind : Type 0} (judge : Judge Kind) (table : Table Kind) (fields : List Field) where
  -- no stage finds a fault
  pub record IsClean : Type 0 where
    pub once : first_of (twice (once_in table)) (placed_from [] fields) ≡ None
    pub version : first_of wrong_version (map (marked judge table fields) fields) ≡ None
    pub groups : first_of (in_groups (group_tags_in table)) (placed_from [] fields) ≡ None
    pub form : first_of wrong (map (marked judge table fields) fields) ≡ None
    pub presence : first_of (missing_of fields) table.items ≡ None
    pub profile : first_of beyond (map (marked judge table fields) fields) ≡ None

  pub clean : first_fault judge table fields ≡ None → IsClean
  unfolding first_fault
  clean h =
      let a = or_none _ _ h in let b = or_none _ _ a.1 in let c =
      or_none _ _ b.1 in let d = or_none _ _ c.1 in let e = or_none _ _ d.1 in
      record { once = a.0; version = b.0; groups = c.0; form = d.0; presence = e.0; profile = e.1 }

  by_fault : {A : Type 0} (f : Option TableFault) (x : A) → (f ≡ None) ↔ (unless f x ≡ Ok x)
  by_fault None x = (λ _. refl, λ _. refl)
  by_fault (Some fault) x = (λ h. absurd cc, λ h. absurd cc)

  by_same : {A : Type 0} (f : Option TableFault) (x : A) (fault : TableFault)
      → (f ≡ Some fault) ↔ (unless f x ≡ Err fault)
  by_same None x fault = (λ h. absurd cc, λ h. absurd cc)
  by_same (Some other) x fault = (λ h. cc, λ h. cc)

  -- fields are a message exactly where they have no first fault, and else exactly that fault
  pub reads_as : ReadsAs judge table fields
  unfolding message_of
  reads_as =
      record {
        good = by_fault (first_fault judge table fields) (message_in judge table fields);
        bad = by_same (first_fault judge table fields) (message_in judge table fields);
      }

  is_there : (needed there : Bool) (fault : TableFault)
      → needed ≡ true → fault_if (needed && not there) fault ≡ None → there ≡ true
  is_there true true fault n h = refl
  is_there true false fault n h = absurd cc
  is_there false there fault n h = absurd cc

  pub spells : (need : Need) (tag : ℕ) (v : Verdict)
      → IsStrict need → wrong (tag, allowed need (mark_of v)) ≡ None
      → beyond (tag, allowed need (mark_of v)) ≡ None → IsSome (text_of v)
  spells need tag (Spells text) strict w o = refl
  spells need tag Outside strict w o =
      absurd (let no : Some (faults.Outside tag) ≡ None = rw strict at o in cc)
  spells need tag (Wrong reason) strict w o = absurd (stays_wrong need w)
    where
      stays_wrong : (need : Need) → wrong (tag, allowed need (marks.Wrong reason)) ≡ None → ⊥
      stays_wrong Required h = absurd cc
      stays_wrong Optional h = absurd cc
      stays_wrong Lenient h = absurd cc
      stays_wrong (Fixed text) h = absurd cc
      stays_wrong (When condition) h = absurd cc

  -- a needed row of a message at no fault is said
  pub is_said : (i : ℕ) (row : Row Kind)
      → first_fault judge table fields ≡ None → slice_get table.items i ≡ Some (One row)
      → row_at row.tag (all_rows table) ≡ Some row
      → is_needed row.need fields ≡ true → IsStrict row.need
      → IsSome (value_at row.tag fields >>= (λ bytes. text_of (judge fields row.kind bytes)))
  is_said i row h at its needed strict =
      let c = clean h in
      let s = stands row.tag fields
      (is_there (is_needed row.need fields) (has_tag row.tag fields) (faults.Reason row.tag 1)
      needed (none_at (missing_of fields) table.items i (One row) at c.presence)) in
      let w = none_of_marks wrong fields s.place (row.tag, s.value) s.field c.form in
      let o = none_of_marks beyond fields s.place (row.tag, s.value) s.field c.profile in
      rw s.first (spells
      row.need row.tag (judge fields row.kind s.value) strict (rw its at w) (rw its at o))
    where
      none_of_marks : (f : Marked → Option TableFault) (fs : List Field) (i : ℕ) (x : Field)
          → slice_get fs i ≡ Some x → first_of f (map (marked judge table fields) fs) ≡ None
          → f (marked judge table fields x) ≡ None
      none_of_marks f fs i x at none = none_at (λ y. f (marked judge table fields y))
          fs i x at (first_of-map f (marked judge table fields) fs ∙ none)
