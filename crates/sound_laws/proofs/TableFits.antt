-- What is asked of a table so that a message written by it is read again: tests that compute, and
-- what follows from them.
use Rattle.std.proofs.Common.{◌≡◌, ℕ, List, [], ◌∷◌, ◌++◌, map, Some, None, Bool, true, false, refl}
use Rattle.std.specs.Prelude.{not, ◌==◌}
use Rattle.std.specs.List.{AllByRecursion, flat_map, list_all}
use Rattle.field_groups.specs.Field.{Field}
use Rattle.message_tables.specs.Tables.{Need, Required, Row, RepeatingGroup, Item, Table, Message}
use Rattle.message_tables.specs.Tables.{is_one_of, row_at, rows_of, all_rows, groups_of}
use Rattle.message_tables.specs.Tables.{groups_in, tags_of, tags_in}
use Rattle.message_tables.specs.FirstFault.{once_in, is_passed, group_tags_in}
use Rattle.row_values.specs.Kinds.{Kind, Value, Byte, Version, judge}
use Rattle.sound_laws.specs.Sound.{places_of}
use Rattle.sound_laws.proofs.Each.{all_false, all_true, are_apart, each_by, each_back, each_joined}
use Rattle.sound_laws.proofs.Each.{each_part, each_two, either, not_true}
use Rattle.sound_laws.proofs.Lookups.{places_apart, rows_found}
use Rattle.sound_laws.proofs.PlainRows.{apart, apart_tests}
use Rattle.sound_laws.proofs.Stages.{item_tags, GroupFits, HasFirst, IsAlone, IsFit}
use Rattle.sound_laws.proofs.Found.{are_after}
use Rattle.sound_laws.proofs.GroupStage.{is_beside}
use Rattle.sound_laws.proofs.ReadAgain.{IsTable}

-- ---- the tests

abbrev all_hold : List Bool → Bool
all_hold tests = list_all (λ b. b) tests

abbrev is_required : Need → Bool
is_required Required = true
is_required need = false

abbrev has_first : {Kind : Type 0} → List (Row Kind) → Bool
has_first [] = false
has_first (row ∷ rows) = is_required row.need

-- the kinds whose values are judged without the other fields
abbrev is_alone : Kind → Bool
is_alone (Value kind) = true
is_alone (Byte listed) = true
is_alone Version = true
is_alone kind = false

abbrev group_tests : Table Kind → RepeatingGroup Kind → List Bool
group_tests table group =
    has_first group.rows
    ∷ are_apart (group.count ∷ tags_of group.rows)
    ∷ list_all (λ t. not (is_one_of group.skipped t)) (tags_of group.rows)
    ∷ list_all (λ b. b) (apart_tests (tags_in group))
    ∷ list_all (λ t. not (is_one_of (once_in table) t)) (tags_of group.rows)
    ∷ not (is_one_of (tags_of (all_rows table)) group.count)
    ∷ is_passed table group.count
    ∷ list_all (λ row. is_alone row.kind) group.rows
    ∷ []

-- THE TESTS of a table, whose items stand behind others
abbrev table_tests : Table Kind → List (Item Kind) → List Bool
table_tests table items =
    are_apart (flat_map item_tags items)
    ∷ are_after items
    ∷ list_all (λ group. all_hold (group_tests table group)) (flat_map groups_of items)
    ∷ list_all (λ g. list_all (is_beside g) items) (group_tags_in table)
    ∷ are_apart (tags_of (all_rows table))
    ∷ places_apart (flat_map places_of table.items)
    ∷ are_apart (map (λ group. group.count) (groups_in table))
    ∷ []

abbrev pub table_fits : Table Kind → List (Item Kind) → Bool
table_fits table front = all_hold (table_tests table (front ++ table.items))

-- ---- what follows

required_is : (need : Need) → is_required need ≡ true → need ≡ Required
required_is Required h = refl
required_is need h = absurd cc

first_is : (rows : List (Row Kind)) → has_first rows ≡ true → HasFirst rows
first_is [] h = absurd cc
first_is (row ∷ rows) h = required_is row.need h

no_row : {Kind : Type 0} (tag : ℕ) (rows : List (Row Kind))
    → is_one_of (tags_of rows) tag ≡ false → row_at tag rows ≡ None
no_row tag [] h = refl
no_row tag (row ∷ rows) h =
    let p = either (row.tag == tag) (is_one_of (tags_of rows) tag) h in rw p.0 (no_row tag rows p.1)

judged_alone : (kind : Kind) → is_alone kind ≡ true
    → (l k : List Field) (text : List ℕ) → judge l kind text ≡ judge k kind text
unfolding judge
judged_alone (Value kind) h l k text = refl
judged_alone (Byte listed) h l k text = refl
judged_alone Version h l k text = refl
judged_alone other h l k text = absurd cc

group_fits : (table : Table Kind) (group : RepeatingGroup Kind)
    → all_hold (group_tests table group) ≡ true → GroupFits judge table group
group_fits table group h =
    let t = all_true (λ b. b) (group_tests table group) h in
    let own = t.1.1.1.1 in
    record {
      first = first_is group.rows t.0;
      plain = apart (tags_in group) t.1.1.1.0;
      apart = t.1.0;
      kept = all_false (is_one_of group.skipped) (tags_of group.rows) t.1.1.0;
      members = all_false (is_one_of (once_in table)) (tags_of group.rows) own.0;
      count = no_row group.count (all_rows table) (not_true _ own.1.0);
      passed = own.1.1.0;
      alone = each_by _ (IsAlone judge) (λ row. judged_alone row.kind) group.rows
          (all_true (λ row. is_alone row.kind) group.rows own.1.1.1.0);
    }

module _ (table : Table Kind) (m : Message) (front : List (Item Kind)) where
  abbrev items : List (Item Kind)
  items = front ++ table.items

  -- the rows of an item are found
  abbrev pub AreRows : Item Kind → Type 0
  AreRows item = AllByRecursion (λ row. row_at row.tag (all_rows table) ≡ Some row) (rows_of item)

  module _ (fits : table_fits table front ≡ true) where
    tests : AllByRecursion (λ b. b ≡ true) (table_tests table items)
    tests = all_true (λ b. b) (table_tests table items) fits

    pub rows_are : AllByRecursion (λ row. row_at row.tag (all_rows table) ≡ Some row)
        (all_rows table)
    rows_are = rows_found (all_rows table) tests.1.1.1.1.0

    pub places_are_apart : places_apart (flat_map places_of table.items) ≡ true
    places_are_apart = tests.1.1.1.1.1.0

    pub counts_are_apart : are_apart (map (λ group. group.count) (groups_in table)) ≡ true
    counts_are_apart = tests.1.1.1.1.1.1.0

    -- the rows of the header, as far as it is written in front
    pub is_table : AllByRecursion AreRows front → IsTable judge table m front
    is_table head =
        let groups = each_by _ (GroupFits judge table) (group_fits table)
        (flat_map groups_of items)
        (all_true (λ group. all_hold (group_tests table group)) (flat_map groups_of items)
        tests.1.1.0) in
        let rows = each_joined AreRows front table.items head
        (each_part _ rows_of table.items (each_back _ table.header _ rows_are)) in
        record {
          apart = tests.0;
          after = tests.1.0;
          beside = all_true (λ g. list_all (is_beside g) items) (group_tags_in table)
              tests.1.1.1.0;
          fit = each_two AreRows _ (IsFit judge table) (λ item a b. (a, b)) items rows
              (each_part (GroupFits judge table) groups_of items groups);
        }
