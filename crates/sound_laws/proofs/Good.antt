-- The fields of a message at no fault, and the lines of its groups, over any judge and table.
use Rattle.std.proofs.Common.{◌≡◌, ℕ, List, [], ◌∷◌, Some, None, Bool, true, false, eqb, refl}
use Rattle.std.proofs.Common.{subst}
use Rattle.std.specs.Prelude.{IsSome, not, ◌&&◌}
use Rattle.std.specs.List.{AllByRecursion}
use Rattle.message_tables.specs.declared.table_fault.TableFault.{TableFault}
use Rattle.message_tables.specs.declared.table_fault.TableFault.TheVariants as faults
use Rattle.field_groups.specs.Field.{Field}
use Rattle.message_tables.specs.Tables.{Row, Need, Required, When, Table, Judge, Verdict, Spells}
use Rattle.message_tables.specs.Tables.{first_of, value_at, has_tag, is_needed, row_at, all_rows}
use Rattle.message_tables.specs.Tables.{text_of, says}
use Rattle.message_tables.specs.FirstFault.{wrong, beyond, missing, fault_if, allowed, mark_of}
use Rattle.std.proofs.lemmas.Bool.{eqb-true}
pub use Rattle.message_tables.proofs.Members.{Has, IsGood, all_good, has, in_lines_each}

module _ (P : Field → Type 0) where
  -- what holds of each field holds where a value is found
  pub held : (tag : ℕ) (fs : List Field) (value : List ℕ)
      → value_at tag fs ≡ Some value → AllByRecursion P fs → P (tag, value)
  unfolding first_of
  held tag [] value at each = absurd cc
  held tag (f ∷ fs) value at each =
      elim (eqb f.0 tag) as (λ b. eqb f.0 tag ≡ b → P (tag, value)) [
        | true ↦ λ e.
            let same = eqb-true f.0 tag e in
            let found : Some f.1 ≡ Some value = rw e at at in
            let is : f.1 ≡ value = cc in subst P (λ i. (same i, is i)) each.0
        | false ↦ λ e. held tag fs value (rw e at at) each.1
      ] refl

module _ {Kind : Type 0} (judge : Judge Kind) (table : Table Kind) (fields : List Field) where
  is_there : (needed found : Bool) (fault : TableFault)
      → needed ≡ true → fault_if (needed && not found) fault ≡ None → found ≡ true
  is_there true true fault n h = refl
  is_there other found fault n h = absurd cc

  is_spelled : (tag : ℕ) (v : Verdict) → wrong (tag, allowed Required (mark_of v)) ≡ None
      → beyond (tag, allowed Required (mark_of v)) ≡ None → IsSome (text_of v)
  is_spelled tag (Spells text) w o = refl
  is_spelled tag other w o = absurd cc

  -- a needed row that has a good value says it
  by_need : (need : Need) (tag : ℕ) (j : List ℕ → Verdict) (value : List ℕ) (of : List Field)
      → is_needed need of ≡ true → wrong (tag, allowed need (mark_of (j value))) ≡ None → beyond
      (tag, allowed need (mark_of (j value))) ≡ None → IsSome (says need j (Some value))
  by_need Required tag j value of n w o = is_spelled tag (j value) w o
  by_need (When condition) tag j value of n w o = is_spelled tag (j value) w o
  by_need other tag j value of n w o = absurd cc

  -- good fields say each row that they have to say
  pub row_is_said : (row : Row Kind) (of : List Field) → row_at row.tag (all_rows table) ≡ Some row
      → missing of row ≡ None → AllByRecursion (IsGood judge table fields) of →
      is_needed row.need of ≡ true
      → IsSome (says row.need (judge fields row.kind) (value_at row.tag of))
  row_is_said row of its m good needed =
      let stands : has_tag row.tag of ≡ true = is_there
      (is_needed row.need of) (has_tag row.tag of) (faults.Reason row.tag 1) needed m in
      let s = has (IsGood judge table fields) row.tag of stands good in
      rw s.first (by_need row.need row.tag
      (judge fields row.kind) s.value of needed (rw its at s.holds.0) (rw its at s.holds.1))
