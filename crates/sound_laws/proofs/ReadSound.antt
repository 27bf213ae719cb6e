-- What is read at no fault is a sound message, over any judge and table.
use Rattle.std.proofs.Common.{◌≡◌, ◌≤◌, ℕ, List, [], ◌∷◌, map, length, Option, Some, None, Bool}
use Rattle.std.proofs.Common.{true, false, refl, sym, ap, subst, ◌∙◌, arith}
use Rattle.std.specs.Prelude.{IsSome, IfSome}
use Rattle.std.specs.List.{AllByRecursion, flat_map, list_all}
use Rattle.std.proofs.lemmas.List.{length-map}
use Rattle.field_groups.specs.Field.{Field}
use Rattle.field_groups.specs.Data.{is_data_tag}
use Rattle.message_tables.specs.Tables.{Row, Need, Fixed, RepeatingGroup, Item, One, Party, Lines}
use Rattle.message_tables.specs.Tables.{Table, Judge, Verdict, Spells, Message, Cell, Said}
use Rattle.message_tables.specs.Tables.{value_at, is_needed, row_at, rows_of, rows_in, all_rows}
use Rattle.message_tables.specs.Tables.{groups_of, groups_in, tags_in, tags_of, lines_in, says}
use Rattle.message_tables.specs.Tables.{first_of, said_at, lines_of, cell_of, cells_of, group_says}
use Rattle.message_tables.specs.FirstFault.{missing, missing_of, first_fault, message_in}
use Rattle.message_tables.specs.FirstFault.{group_tags_of, group_tags_in}
use Rattle.message_tables.specs.Content.{content, line_fields}
use Rattle.message_tables.proofs.Clean.{clean}
use Rattle.message_tables.proofs.Few.{IsPlain, few}
use Rattle.sound_laws.specs.Sound.{IsClear, IsSaid, AreSaid, IsLine, IsGroup, IsItem, IsSound}
use Rattle.sound_laws.specs.Sound.{places_of}
use Rattle.sound_laws.proofs.Each.{are_apart, both, each_at, each_back, each_part, each_map}
use Rattle.sound_laws.proofs.Each.{at_index, none_each}
use Rattle.sound_laws.proofs.Lookups.{places_apart, cells_said, lines_said, rows_found, places_said}
use Rattle.sound_laws.proofs.Lookups.{counts_said}
use Rattle.sound_laws.proofs.ContentValues.{GroupSaid}
use Rattle.sound_laws.proofs.Good.{in_lines_each, held, IsGood, all_good, row_is_said}
use Rattle.sound_laws.proofs.RowsSaid.{by_value, text_again}

-- an item of which a row passes a test
abbrev pub row_passes : {Kind : Type 0} → (Row Kind → Bool) → Item Kind → Bool
row_passes test (One row) = test row
row_passes test item = true

module _ {Kind : Type 0} (judge : Judge Kind) where
  -- a value that is no raw data has no SOH
  abbrev pub IsClearField : Field → Type 0
  IsClearField f = is_data_tag f.0 ≡ false → IsClear f.1

  -- a row by which what was judged beside some fields is judged again beside others: what makes it
  -- needed stays, and spellings stay canonical
  pub record IsStable (before after : List Field) (row : Row Kind) : Type 0 where
    pub kept : is_needed row.need after ≡ true → is_needed row.need before ≡ true
    pub spelled : (bytes text : List ℕ) → value_at row.tag before ≡ Some bytes
        → judge before row.kind bytes ≡ Spells text → judge after row.kind text ≡ Spells text
    pub clear : (bytes text : List ℕ)
        → IsClear bytes → judge before row.kind bytes ≡ Spells text → IsClear text
    pub fixed : (text : List ℕ)
        → row.need ≡ Fixed text → (judge after row.kind text ≡ Spells text) × IsClear text
    pub bare : is_data_tag row.tag ≡ false

  module _ (P : List ℕ → Type 0) where
    by_need : (need : Need) (j : List ℕ → Verdict) (value : Option (List ℕ))
        → ((bytes text : List ℕ) → value ≡ Some bytes → j bytes ≡ Spells text → P text) →
        ((text : List ℕ) → need ≡ Fixed text → P text) → IfSome (says need j value) P
    by_need (Fixed text) j value h k = k text refl
    by_need need j value h k = by_value P j value h

  says_again : (need : Need) (i j : List ℕ → Verdict) (value : Option (List ℕ))
      → IfSome (says need i value) (λ text. j text ≡ Spells text) →
      says need j (says need i value) ≡ says need i value
  says_again (Fixed text) i j value h = refl
  says_again need i j value h = text_again j (says need i value) h

  row_sound : (before after : List Field) (row : Row Kind) → IsStable before after row
      → AllByRecursion IsClearField before → (is_needed row.need before ≡ true
      → IsSome (says row.need (judge before row.kind) (value_at row.tag before)))
      → IsSaid judge after row (says row.need (judge before row.kind) (value_at row.tag before))
  row_sound before after row s clear there =
      let j = judge before row.kind in
      let value = value_at row.tag before in
      let spelled = by_need (λ text. judge after row.kind text ≡ Spells text) row.need j value
      s.spelled (λ text e. (s.fixed text e).0) in
      record {
        needed = λ n. there (s.kept n);
        spelled = spelled;
        again = says_again row.need j (judge after row.kind) value spelled;
        clear = by_need IsClear row.need j value
            (λ bytes text at. s.clear bytes text (held IsClearField row.tag before bytes at clear
            s.bare)) (λ text e. (s.fixed text e).1);
      }

  -- a member of a group, whose values are judged by themselves
  pub record IsPlainRow (row : Row Kind) : Type 0 where
    pub same : (l k : List Field) (bytes : List ℕ) → judge l row.kind bytes ≡ judge k row.kind bytes
    pub stable : (before after : List Field) → IsStable before after row

  module _ (table : Table Kind) (fields : List Field) where
    abbrev pub m : Message
    m = message_in judge table fields

    -- the canonical content of what the fields say
    abbrev pub after : List Field
    after = content table m

    -- a row that stands by itself
    abbrev pub IsStableRow : Row Kind → Type 0
    IsStableRow = IsStable fields after

    abbrev pub IsStableItem : Item Kind → Type 0
    IsStableItem (One row) = IsStableRow row
    IsStableItem item = Unit {0}

    -- rows that pass a test are such
    pub stable_items : (test : Row Kind → Bool)
        → ((row : Row Kind) → test row ≡ true → IsStableRow row) → (items : List (Item Kind))
        → list_all (row_passes test) items ≡ true → AllByRecursion IsStableItem items
    stable_items test stable [] h = tt
    stable_items test stable (One row ∷ items) h =
        let p = both (test row) (list_all (row_passes test) items) h in
        (stable row p.0, stable_items test stable items p.1)
    stable_items test stable (item ∷ items) h = (tt, stable_items test stable items h)

    abbrev pub IsPlainItem : Item Kind → Type 0
    IsPlainItem (Lines group) = AllByRecursion IsPlainRow group.rows
    IsPlainItem item = Unit {0}

    -- what is known of each item
    abbrev Found : Item Kind → Type 0
    Found item = AllByRecursion (λ row. row_at row.tag (all_rows table) ≡ Some row) (rows_of item)

    abbrev Looked : Item Kind → Type 0
    Looked item = AllByRecursion
        (λ cell. said_at m.cells cell.0 ≡ cell.1) (cells_of judge fields m.groups item)

    abbrev Grouped : Item Kind → Type 0
    Grouped item = AllByRecursion (λ group. lines_of group.count m.groups
        ≡ (group_says judge fields group).1) (groups_of item)

    abbrev Few : Item Kind → Type 0
    Few item = AllByRecursion (λ group. length (lines_in group fields) ≤ 32) (group_tags_of item)

    module _ (good : AllByRecursion (IsGood judge table fields) fields)
        (clear : AllByRecursion IsClearField fields) where
      -- a member of a line
      member_sound : (line others : List Field) (row : Row Kind)
          → row_at row.tag (all_rows table) ≡ Some row → missing line row ≡ None → IsPlainRow row →
          AllByRecursion (IsGood judge table fields) line → AllByRecursion IsClearField line →
          IsSaid judge others row (says row.need (judge line row.kind) (value_at row.tag line))
      member_sound line others row its there p g c =
          let same : (λ bytes. judge fields row.kind bytes) ≡ (λ bytes. judge line row.kind bytes) =
          λ i bytes. p.same fields line bytes i in
          let Q : (List ℕ → Verdict) → Type 0 =
          λ j. IsSome (says row.need j (value_at row.tag line)) in
          row_sound line others row (p.stable line others) c
          (λ n. subst Q same (row_is_said judge table fields row line its there g n))

      members_sound : (line others : List Field) (rows : List (Row Kind))
          → AllByRecursion (λ row. row_at row.tag (all_rows table) ≡ Some row) rows →
          AllByRecursion (λ row. missing line row ≡ None) rows → AllByRecursion IsPlainRow rows →
          AllByRecursion (IsGood judge table fields) line → AllByRecursion IsClearField line
          → AreSaid judge others rows (map (cell_of judge line) rows)
      members_sound line others [] its there p g c = tt
      members_sound line others (row ∷ rows) its there p g c = (
        refl,
        member_sound line others row its.0 there.0 p.0 g c,
        members_sound line others rows its.1 there.1 p.1 g c,
      )

      lines_sound : (rows : List (Row Kind)) (lines : List (List Field))
          → AllByRecursion (λ row. row_at row.tag (all_rows table) ≡ Some row) rows →
          AllByRecursion (λ line. first_of (missing line) rows ≡ None) lines
          → AllByRecursion IsPlainRow rows →
          AllByRecursion (AllByRecursion (IsGood judge table fields)) lines
          → AllByRecursion (AllByRecursion IsClearField) lines →
          AllByRecursion (IsLine judge rows) (map (λ line. map (cell_of judge line) rows) lines)
      lines_sound rows [] its there p g c = tt
      lines_sound rows (line ∷ lines) its there p g c = (
        members_sound line (line_fields (map (cell_of judge line) rows)) rows its
            (none_each (missing line) rows there.0) p g.0 c.0,
        lines_sound rows lines its there.1 p g.1 c.1,
      )

      group_sound : (group : RepeatingGroup Kind) → Found (Lines group)
          → Grouped (Lines group) → Few (Lines group) → missing_of fields (Lines group) ≡ None →
          AllByRecursion IsPlainRow group.rows → GroupSaid judge m group
      group_sound group found grouped few there plain =
          let lines = lines_in (tags_in group) fields in
          let P : List (List Cell) → Type 0 = λ lines. IsGroup judge group lines in
          subst P (sym grouped.0) (record {
            few = let n = length-map lines (λ line. map (cell_of judge line) group.rows)
                in omega (arith, n, few.0);
            said = lines_sound group.rows lines found
                (none_each (λ line. first_of (missing line) group.rows) lines there) plain
                (in_lines_each (IsGood judge table fields) (tags_in group) fields good)
                (in_lines_each IsClearField (tags_in group) fields clear);
          })

      groups_sound : (items : List (Item Kind))
          → AllByRecursion Found items → AllByRecursion Grouped items → AllByRecursion Few items →
          AllByRecursion (λ item. missing_of fields item ≡ None) items → AllByRecursion
          IsPlainItem items → AllByRecursion (GroupSaid judge m) (flat_map groups_of items)
      groups_sound [] found grouped few there plain = tt
      groups_sound (Lines group ∷ items) found grouped few there plain = (
        group_sound group found.0 grouped.0 few.0 there.0 plain.0,
        groups_sound items found.1 grouped.1 few.1 there.1 plain.1,
      )
      groups_sound (item ∷ items) found grouped few there plain =
          groups_sound items found.1 grouped.1 few.1 there.1 plain.1

      items_sound : (items : List (Item Kind)) → AllByRecursion Found items → AllByRecursion
          Looked items → AllByRecursion (GroupSaid judge m) (flat_map groups_of items) →
          AllByRecursion (λ item. missing_of fields item ≡ None) items
          → AllByRecursion IsStableItem items → AllByRecursion (IsItem judge after m) items
      items_sound [] found looked groups there stable = tt
      items_sound (One row ∷ items) found looked groups there stable =
          let P : Said → Type 0 = λ said. IsSaid judge after row said in (
            subst P (sym looked.0.0) (row_sound fields after row stable.0 clear
                (row_is_said judge table fields row fields found.0.0 there.0 good)),
            items_sound items found.1 looked.1 groups there.1 stable.1,
          )
      items_sound (Party role ∷ items) found looked groups there stable =
          (looked.0.0, items_sound items found.1 looked.1 groups there.1 stable.1)
      items_sound (Lines group ∷ items) found looked groups there stable =
          (groups.0, items_sound items found.1 looked.1 groups.1 there.1 stable.1)

    -- what the tags and places of a table are: each stands once
    pub record IsTable : Type 0 where
      pub rows : are_apart (tags_of (all_rows table)) ≡ true
      pub places : places_apart (flat_map places_of table.items) ≡ true
      pub counts : are_apart (map (λ group. group.count) (groups_in table)) ≡ true
      pub plain : AllByRecursion IsPlain (group_tags_in table)

    few_lines : AllByRecursion IsPlain (group_tags_in table) → first_fault judge table fields ≡ None
        → AllByRecursion (λ group. length (lines_in group fields) ≤ 32) (group_tags_in table)
    few_lines plain h = each_at _ (group_tags_in table) (λ i group at. few judge table fields i
        group (at_index IsPlain i (group_tags_in table) group at plain) at h)

    -- WHAT IS READ IS SOUND. That rows are stable may rest on the groups.
    pub read_sound : IsTable → AllByRecursion IsPlainItem table.items → (AllByRecursion
        (GroupSaid judge m) (groups_in table) → AllByRecursion IsStableItem table.items) →
        AllByRecursion IsClearField fields
        → first_fault judge table fields ≡ None → IsSound judge table m
    read_sound ok plain stable clear h =
        let groups = m.groups in
        let c = clean judge table fields h in
        let good = all_good judge table fields h in
        let found = each_part _ rows_of table.items
        (each_back _ table.header (rows_in table) (rows_found (all_rows table) ok.rows)) in
        let places = places_said judge fields groups table.items in
        let looked = each_part _ (cells_of judge fields groups)
        table.items (cells_said m.cells (ap places_apart places ∙ ok.places)) in
        let counts = counts_said judge fields groups table.items in
        let grouped = each_part _ groups_of table.items (each_map _ (group_says judge fields)
        (groups_in table) (lines_said groups (ap are_apart counts ∙ ok.counts))) in
        let few = each_part _ group_tags_of table.items (few_lines ok.plain h) in
        let there = none_each (missing_of fields) table.items c.presence in
        let said = groups_sound good clear table.items found grouped few there plain in
        record {
          letter = refl;
          places = places;
          counts = counts;
          items = items_sound good clear table.items found looked said there (stable said);
        }
