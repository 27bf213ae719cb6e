-- What is read by a table that has a month beside its date is sound, and complete where that month
-- is told by the date.
use Rattle.std.proofs.Common.{◌≡◌, List, Some, None, Bool, true, false, refl, sym, ap, subst, ◌∙◌}
use Rattle.std.proofs.Common.{◌∷◌}
use Rattle.std.specs.Prelude.{Ok, IfSome}
use Rattle.std.specs.List.{AllByRecursion, flat_map, list_any, list_all}
use Rattle.field_groups.specs.Field.{Field}
use Rattle.field_groups.specs.Data.{is_data_tag}
use Rattle.message_tables.specs.Tables.{Row, Table, Message, Tag, is_place, Said, said_at}
use Rattle.message_tables.specs.Tables.{groups_in, is_listed, value_at}
use Rattle.message_tables.specs.FirstFault.{first_fault, message_in, message_of, unless}
use Rattle.message_tables.specs.Content.{content}
use Rattle.row_values.specs.Kinds.{Kind, judge, date_at}
use Rattle.first_faults.specs.Faults.{told}
use Rattle.rows_fix50.specs.Header.{completed, completed_by}
use Rattle.sound_laws.specs.Sound.{IsClear, IsSound, places_of}
use Rattle.sound_laws.specs.Complete.{IsComplete}
use Rattle.sound_laws.proofs.Each.{not_true, all_true}
use Rattle.sound_laws.proofs.ContentValues.{GroupSaid, groups_said, is_alone, items_value}
use Rattle.sound_laws.proofs.ContentValues.{value_said, writes}
use Rattle.sound_laws.proofs.PlainRows.{read_tests, tests_sound, unfixed}
use Rattle.sound_laws.proofs.ReadSound.{IsClearField, IsStableRow}
use Rattle.sound_laws.proofs.Judged50.{AreAlike, judged_again, judged_clear, clear_date, date_said}
use Rattle.sound_laws.proofs.Judged50.{date_kept, type_kept, type_said}
use Rattle.sound_laws.proofs.CompletedSound.{KeepsType, is_ours_row, ours, ours_need}
use Rattle.sound_laws.proofs.CompletedSound.{kept_need, completed_sound, completed_month}

-- what is read by a table is read at no fault
pub read_of : (t : Table Kind) (fields : List Field) (x : Message)
    → completed_by (told (message_of judge t fields)) ≡ Ok x
    → (first_fault judge t fields ≡ None) × (completed (message_in judge t fields) ≡ x)
unfolding message_of
read_of t fields x e =
    elim (first_fault judge t fields) as (λ f. first_fault judge t fields ≡ f
    → completed_by (told (unless f (message_in judge t fields))) ≡ Ok x
    → (first_fault judge t fields ≡ None) × (completed (message_in judge t fields) ≡ x)) [
      | None ↦ λ good h. let is : completed (message_in judge t fields) ≡ x = cc in (good, is)
      | Some fault ↦ λ good h. absurd (cc h)
    ] refl e

-- the tests of such a table: those of one that is read by rows of these kinds, and that the month
-- and the date have their places
abbrev dated_tests : Bool → Table Kind → List Bool
dated_tests timed t =
    list_any (is_place (Tag 200)) (flat_map places_of t.items) ∷ is_alone 541 t.items
    ∷ read_tests (is_ours_row timed) t

module _ (fields : List Field) (t : Table Kind) where
  abbrev m : Message
  m = message_in judge t fields

  abbrev after : List Field
  after = content t m

  abbrev HasGroups : Type 0
  HasGroups = AllByRecursion (GroupSaid judge m) (groups_in t)

  -- no row says an ExecType
  pub untyped : list_any (writes 150) t.items ≡ false → HasGroups → KeepsType fields after
  untyped none groups listed h = absurd (let no : is_listed listed (value_at 150 after) ≡ false =
      ap (is_listed listed) (items_value judge m 150 t.items none groups) in cc)

  -- WHAT IS KNOWN of such a table; only one that has OrdType has a time beside it
  pub record IsDated (timed : Bool) : Type 0 where
    pub fits : list_all (λ b. b) (dated_tests timed t) ≡ true
    pub date : said_at m.cells (Tag 541) ≡ date_said fields
    pub types : timed ≡ true
        → (is_alone 40 t.items ≡ true) × (said_at m.cells (Tag 40) ≡ type_said fields)
    pub kept : HasGroups → KeepsType fields after

  module _ (clear : AllByRecursion (IsClearField judge) fields) (timed : Bool) (is : IsDated timed)
    where
      tests : AllByRecursion (λ b. b ≡ true) (dated_tests timed t)
      tests = all_true (λ b. b) (dated_tests timed t) is.fits

      alike : HasGroups → AreAlike timed fields after
      alike groups = record {
        date = date_kept fields after
            (value_said judge m 541 t.items tests.1.0 groups ∙ is.date);
        ord_type = λ there. type_kept fields after
            (value_said judge m 40 t.items (is.types there).0 groups ∙ (is.types there).1);
      }

      stable_row : HasGroups → (row : Row Kind) → is_ours_row timed row ≡ true
          → IsStableRow judge t fields row
      stable_row groups row h = let o = ours timed row h in record {
        kept = kept_need row.need o.need fields after (is.kept groups);
        spelled = λ bytes text at e.
            judged_again timed fields after (alike groups) row.kind o.kind bytes text e;
        clear = judged_clear timed fields clear row.kind o.kind;
        fixed = λ text e. absurd (unfixed ours_need (λ other. refl) row.need o.need text e);
        bare = not_true (is_data_tag row.tag) o.bare;
      }

      -- WHAT IS READ IS SOUND,
      dated_sound : first_fault judge t fields ≡ None → IsSound judge t m
      dated_sound = tests_sound t fields (is_ours_row timed) tests.1.1 stable_row clear

      complete : first_fault judge t fields ≡ None → IsComplete t (completed m)
      unfolding judge
      complete none =
          let s = dated_sound none in
          let groups = groups_said judge after m t.items s.items in
          let there : said_at m.cells (Tag 541) ≡ date_at 541 fields = is.date in
          let at_date = (alike groups).date ∙ sym there in
          let no_soh = subst (λ (date : Said). IfSome date IsClear) (sym there)
          (clear_date fields clear) in
          record {
            sound = completed_sound timed t m tests.0 at_date no_soh s tests.1.1.1.1.1.0;
            month = completed_month timed t m tests.0 at_date no_soh s;
          }

      -- and completed, it says the month of its date.
      pub dated_complete : (x : Message) → completed_by (told (message_of judge t fields)) ≡ Ok x
          → IsComplete t x
      dated_complete x e =
          let read = read_of t fields x e in subst (IsComplete t) read.1 (complete read.0)
