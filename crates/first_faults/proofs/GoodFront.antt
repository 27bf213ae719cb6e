-- Fields at the front that are good: the fields one by one, and what is found of them.
use Rattle.std.proofs.Common.{◌≡◌, ℕ, zero, suc, ◌+◌, ◌<◌, ◌≤◌, List, [], ◌∷◌, ◌++◌, length, get_or}
use Rattle.std.proofs.Common.{take, map, Some, None, Option, refl, sym, subst, ap, ◌∙◌, arith}
use Rattle.std.specs.Borrow.{Bor}
use Rattle.std.specs.List.{slice_get}
use Rattle.std.proofs.lemmas.List.{length-map, map-append, take_all, take_more}
use Rattle.std.proofs.lemmas.Option.{get_or_from_slice_get}
use Rattle.field_groups.specs.Field.{Field}
use Rattle.message_tables.specs.declared.stages.Found.{Found}
use Rattle.message_tables.specs.declared.table_fault.Mark.TheVariants as marks
use Rattle.message_tables.specs.declared.table_fault.TableFault.{TableFault}
use Rattle.message_tables.specs.CodeTables.{seen}
use Rattle.message_tables.specs.FirstFault.{Marked, beyond, marked, wrong, wrong_version}
use Rattle.message_tables.specs.Stages.{IsFound}
use Rattle.message_tables.specs.Tables.{Table, first_of}
use Rattle.row_values.specs.Kinds.{Kind, judge}
use Rattle.first_faults.specs.declared.indexed.Span.{Span}
use Rattle.first_faults.specs.Indexed.{AreGoodFields, AreGoodTo}

-- ---- the fields one by one

pub parts_len : (parts : List (ℕ × Bor (List ℕ))) (fields : List Field) → seen parts ≡ fields
    → length fields ≡ length parts
parts_len parts fields same = ap length (sym same) ∙ length-map parts _

-- the field at a place
abbrev nothing : ℕ × Bor (List ℕ)
nothing = (0, record { ref_ptr = (0, 0); now = [] })

abbrev pub part : List (ℕ × Bor (List ℕ)) → ℕ → Field
part parts place = ((get_or parts place nothing).0, (get_or parts place nothing).1.now)

pub part_at : (parts : List (ℕ × Bor (List ℕ))) (fields : List Field) (place : ℕ)
    → seen parts ≡ fields → place < length parts → Some (part parts place) ≡ slice_get fields place
part_at parts fields place same lt =
    there parts place lt ∙ ap (λ (fs : List Field). slice_get fs place) same
  where
    there : (parts : List (ℕ × Bor (List ℕ))) (place : ℕ) → place < length parts
        → Some (part parts place) ≡ slice_get (seen parts) place
    there [] place lt = absurd (omega (arith, lt))
    there (one ∷ parts) zero lt = refl
    there (one ∷ parts) (suc place) lt = there parts place (omega (arith, lt))

-- the fields before the next place
pub taken : (fields : List Field) (place : ℕ) (f : Field) → Some f ≡ slice_get fields place
    → take (place + 1) fields ≡ take place fields ++ f ∷ []
taken fields place f at =
    take_more fields place f (within fields place at)
    ∙ ap (λ (x : Field). take place fields ++ x ∷ [])
    (get_or_from_slice_get fields place f f (sym at))
  where
    within : (fields : List Field) (place : ℕ) → Some f ≡ slice_get fields place
        → place < length fields
    within [] place at = absurd cc
    within (g ∷ fields) zero at = omega arith
    within (g ∷ fields) (suc place) at =
        let lt : place < length fields = within fields place at in omega (arith, lt)

-- ---- what is found

no_version : (m : Marked) → m.1 ≡ marks.Good → wrong_version m ≡ None
no_version (tag, marks.Good) good = refl
no_version (tag, marks.Outside) good = absurd cc
no_version (tag, marks.Wrong reason) good = absurd cc

no_wrong : (m : Marked) → m.1 ≡ marks.Good → wrong m ≡ None
no_wrong (tag, marks.Good) good = refl
no_wrong (tag, marks.Outside) good = absurd cc
no_wrong (tag, marks.Wrong reason) good = absurd cc

no_beyond : (m : Marked) → m.1 ≡ marks.Good → beyond m ≡ None
no_beyond (tag, marks.Good) good = refl
no_beyond (tag, marks.Outside) good = absurd cc
no_beyond (tag, marks.Wrong reason) good = absurd cc

module _ (fault : Marked → Option TableFault) (mark : Field → Marked)
    (none : (m : Marked) → m.1 ≡ marks.Good → fault m ≡ None) where
  none_good : (fields : List Field) (count : ℕ) → count ≤ length fields
      → ((place : ℕ) → place < count → (mark (get_or fields place (0, []))).1 ≡ marks.Good)
      → first_of fault (map mark (take count fields)) ≡ None
  unfolding first_of
  none_good fields zero within good = refl
  none_good [] (suc count) within good = absurd (omega (arith, within))
  none_good (f ∷ fields) (suc count) within good =
      let later : first_of fault (map mark (take count fields)) ≡ None =
      none_good fields count (omega (arith, within))
      (λ place lt. good (suc place) (omega (arith, lt))) in
      rw (none (mark f) (good 0 (omega arith)), later) refl

module _ (table : Table Kind) (fields : List Field) where
  abbrev mark : Field → Marked
  mark = marked judge table fields

  pub good_to : (count : ℕ) (span : Span) → count ≤ length fields
      → AreGoodFields table fields count span → AreGoodTo table fields count
  good_to count span within all = record { within = within; loose = all.loose }

  -- the same of all fields, where the pass came to their end
  pub good_at_end : (count len : ℕ) (span : Span) → length fields ≡ len → len ≤ count
      → AreGoodFields table fields count span → AreGoodTo table fields len
  good_at_end count len span all past good = record {
    within = omega (arith, all);
    loose = λ place lt. good.loose place (omega (arith, past, lt));
  }

  pub found_good : (count : ℕ) (found : Found) → AreGoodTo table fields count → IsFound [] found
      → IsFound (map mark (take count fields)) found
  unfolding first_of
  found_good count found all nothing =
      let good = λ (place : ℕ) (lt : place < count). (all.loose place lt).good in
      record {
        version = nothing.version
            ∙ sym (none_good wrong_version mark no_version fields count all.within good);
        wrong = nothing.wrong
            ∙ sym (none_good wrong mark no_wrong fields count all.within good);
        outside = nothing.outside
            ∙ sym (none_good beyond mark no_beyond fields count all.within good);
      }

  pub found_more : (place : ℕ) (f : Field) (found : Found) → Some f ≡ slice_get fields place
      → IsFound (map mark (take place fields) ++ mark f ∷ []) found
      → IsFound (map mark (take (place + 1) fields)) found
  found_more place f found at is =
      subst (λ (ms : List Marked). IsFound ms found)
      (sym (ap (map mark) (taken fields place f at) ∙ map-append mark (take place fields) (f ∷ [])))
      is

  pub found_all : (place : ℕ) (found : Found) → length fields ≤ place
      → IsFound (map mark (take place fields)) found → IsFound (map mark fields) found
  found_all place found all is =
      subst (λ (fs : List Field). IsFound (map mark fs) found) (take_all place fields all) is
