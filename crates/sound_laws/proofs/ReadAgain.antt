-- The content of a sound message is at no fault, and is read as that message, over any judge and
-- table.
use Rattle.std.proofs.Common.{◌≡◌, ◌≤◌, ◌<◌, ℕ, List, [], ◌∷◌, map, length, Option, Some, None}
use Rattle.std.proofs.Common.{Bool, true, false, refl, sym, ap, ◌∙◌, arith, ◌++◌}
use Rattle.std.specs.Prelude.{IsSome, not, ◌&&◌}
use Rattle.std.specs.Fmt.{decimal}
use Rattle.std.specs.List.{AllByRecursion, flat_map, list_all}
use Rattle.std.proofs.lemmas.Fmt.{decimal_nonempty}
use Rattle.message_tables.specs.declared.table_fault.TableFault.{TableFault}
use Rattle.message_tables.specs.declared.table_fault.TableFault.TheVariants as faults
use Rattle.message_tables.specs.declared.table_fault.Mark.{Mark}
use Rattle.message_tables.specs.declared.table_fault.Mark.TheVariants as marks
use Rattle.field_groups.specs.Field.{Field}
use Rattle.message_tables.specs.Tables.{Verdict, Spells, Need, Required, Row, RepeatingGroup, Item}
use Rattle.message_tables.specs.Tables.{One, Party, Lines, Table, Judge, Message, Cell, Said, Tag}
use Rattle.message_tables.specs.Tables.{Role, first_of, value_at, has_tag, is_needed, row_at}
use Rattle.message_tables.specs.Tables.{all_rows, tags_of, said_at, lines_of, says, cell_of}
use Rattle.message_tables.specs.Tables.{group_says, party_in, cells_of, Place, groups_of, groups_in}
use Rattle.message_tables.specs.FirstFault.{Marked, fault_if, marked, allowed, mark_of, by_row}
use Rattle.message_tables.specs.FirstFault.{without_row, is_passed, missing, missing_of}
use Rattle.message_tables.specs.FirstFault.{wrong_version, wrong, beyond, group_tags_in}
use Rattle.message_tables.specs.FirstFault.{first_fault, message_in}
use Rattle.message_tables.specs.Content.{line_fields, item_fields}
use Rattle.message_tables.proofs.Clean.{value_at-none}
use Rattle.sound_laws.specs.Sound.{IsSaid, AreSaid, IsLine, IsItem}
use Rattle.sound_laws.proofs.Each.{are_apart, each_by, each_none, each_back, each_two}
use Rattle.sound_laws.proofs.Stages.{IsAlone, IsFit, OfItem, OfRow, items_each, rows_apart}
use Rattle.sound_laws.proofs.Stages.{item_tags, no_twice}
use Rattle.sound_laws.proofs.Found.{AreAt, FoundAt, line_known, are_after, items_found}
use Rattle.std.proofs.lemmas.Simd.{map-map}
use Rattle.sound_laws.proofs.Lookups.{places_apart, cells_said, lines_said}
use Rattle.sound_laws.proofs.GroupStage.{is_beside, none_misplaced}

-- ---- values that are good, and rows that are there

allowed_good : (need : Need) → allowed need marks.Good ≡ marks.Good
allowed_good Required = refl
allowed_good need = refl

some_good : (value : List ℕ) → 0 < length value → without_row true value ≡ marks.Good
some_good [] some = absurd (omega (arith, some))
some_good (b ∷ bs) some = refl

has_value : (t : ℕ) (fields : List Field) (said : Said)
    → value_at t fields ≡ said → IsSome said → has_tag t fields ≡ true
has_value t fields None at there = absurd cc
has_value t fields (Some text) at there =
    elim (has_tag t fields) as (λ b. has_tag t fields ≡ b → b ≡ true) [
      | true ↦ λ e. refl
      | false ↦
          λ e. absurd (let no : Some text ≡ None = sym at ∙ value_at-none t fields e in cc)
    ] refl

not_missing : (needed found : Bool) (fault : TableFault)
    → (needed ≡ true → found ≡ true) → fault_if (needed && not found) fault ≡ None
not_missing true true fault h = refl
not_missing true false fault h = absurd (let no = h refl in cc)
not_missing false found fault h = refl

-- the cells of an item
abbrev pub cells_in : {Kind : Type 0} → Message → Item Kind → List Cell
cells_in m (One row) = (Tag row.tag, said_at m.cells (Tag row.tag)) ∷ []
cells_in m (Party role) = (Role role, said_at m.cells (Role role)) ∷ []
cells_in m (Lines group) = []

module _ {Kind : Type 0} (judge : Judge Kind) where
  -- ---- a row that is found

  row_there : (fields : List Field) (row : Row Kind) (said : Said) → value_at row.tag fields ≡ said
      → IsSaid judge fields row said → missing fields row ≡ None
  row_there fields row said at s =
      not_missing (is_needed row.need fields) (has_tag row.tag fields) (faults.Reason row.tag 1)
      (λ n. has_value row.tag fields said at (s.needed n))

  row_again : (fields : List Field) (row : Row Kind) (said : Said) → value_at row.tag fields ≡ said
      → IsSaid judge fields row said
      → says row.need (judge fields row.kind) (value_at row.tag fields) ≡ said
  row_again fields row said at s = ap (says row.need (judge fields row.kind)) at ∙ s.again

  -- ---- lines

  -- no row of a line is missing, and it is said again
  record IsWhole (whole : List Field) (rows : List (Row Kind)) (line : List Cell) : Type 0 where
    there : AllByRecursion (λ row. missing whole row ≡ None) rows
    again : map (cell_of judge whole) rows ≡ line

  line_whole : (whole : List Field) (rows : List (Row Kind)) (line : List Cell)
      → AreAt judge whole rows line → AreSaid judge whole rows line → IsWhole whole rows line
  line_whole whole [] [] at said = record { there = tt; again = refl }
  line_whole whole (row ∷ rows) (cell ∷ cells) at said =
      let rest = line_whole whole rows cells at.1 said.2 in
      let same = row_again whole row cell.1 at.0 said.1 in record {
        there = (row_there whole row cell.1 at.0 said.1, rest.there);
        again = λ i. (sym said.0 i, same i) ∷ rest.again i;
      }
  line_whole whole rows line at said = absurd said

  lines_good : (rows : List (Row Kind)) (lines : List (List Cell))
      → are_apart (tags_of rows) ≡ true → AllByRecursion (IsLine judge rows) lines
      → (AllByRecursion (λ line. first_of (missing line) rows ≡ None) (map line_fields lines))
      × (map (λ line. map (cell_of judge line) rows) (map line_fields lines) ≡ lines)
  lines_good rows [] apart said = (tt, refl)
  lines_good rows (line ∷ lines) apart said =
      let whole = line_fields line in
      let one =
      line_whole whole rows line (line_known judge whole rows line apart said.0).0 said.0 in
      let rest = lines_good rows lines apart said.1 in
      ((each_none (missing whole) rows one.there, rest.0), λ i. one.again i ∷ rest.1 i)

  -- ---- presence, and what is said again

  module _ (table : Table Kind) (all : List Field) (m : Message) where
    -- what is known of each item
    pub record IsThere (item : Item Kind) : Type 0 where
      pub fit : IsFit judge table item
      pub found : FoundAt judge all m all item
      pub said : IsItem judge all m item

    pub not_missing_item : (item : Item Kind) → IsThere item → missing_of all item ≡ None
    not_missing_item (One row) t = row_there all row (said_at m.cells (Tag row.tag)) t.found t.said
    not_missing_item (Party role) t = refl
    not_missing_item (Lines group) t =
        let good = lines_good group.rows (lines_of group.count m.groups)
        (rows_apart judge table group t.fit.1.0) t.said.said in
        ap (λ (lines : List (List Field)).
        first_of (λ line. first_of (missing line) group.rows) lines) t.found
        ∙ each_none (λ line. first_of (missing line) group.rows)
        (map line_fields (lines_of group.count m.groups)) good.0

    pub group_again : (group : RepeatingGroup Kind) → IsThere (Lines group)
        → group_says judge all group ≡ (group.count, lines_of group.count m.groups)
    group_again group t =
        let good = lines_good group.rows (lines_of group.count m.groups)
        (rows_apart judge table group t.fit.1.0) t.said.said in
        let same = ap (map (λ line. map (cell_of judge line) group.rows)) t.found ∙ good.1 in
        λ i. (group.count, same i)

    pub item_again : (groups : List (ℕ × List (List Cell))) (item : Item Kind)
        → lines_of 453 groups ≡ lines_of 453 m.groups → IsThere item
        → cells_of judge all groups item ≡ cells_in m item
    item_again groups (One row) parties t =
        let same = row_again all row (said_at m.cells (Tag row.tag)) t.found t.said in
        λ i. (Tag row.tag, same i) ∷ []
    item_again groups (Party role) parties t =
        let same = ap (party_in role) parties ∙ sym t.said in λ i. (Role role, same i) ∷ []
    item_again groups (Lines group) parties t = refl

  -- ---- values

  module _ (table : Table Kind) (all : List Field) (m : Message) where
    abbrev pub IsGoodField : Field → Type 0
    IsGoodField f = marked judge table all f ≡ (f.0, marks.Good)

    row_good : (row : Row Kind) (text : List ℕ) → row_at row.tag (all_rows table) ≡ Some row
        → judge all row.kind text ≡ Spells text → IsGoodField (row.tag, text)
    row_good row text its e =
        ap (λ (o : Option (Row Kind)). (row.tag, by_row judge (is_passed table row.tag) all text o))
        its ∙ ap (λ (v : Verdict). (row.tag, allowed row.need (mark_of v))) e
        ∙ ap (λ (mark : Mark). (row.tag, mark)) (allowed_good row.need)

    count_good : (count n : ℕ) → n ≤ 32 → row_at count (all_rows table) ≡ None
        → is_passed table count ≡ true → IsGoodField (count, decimal n)
    count_good count n few none passed =
        ap (λ (o : Option (Row Kind)).
        (count, by_row judge (is_passed table count) all (decimal n) o)) none
        ∙ ap (λ (b : Bool). (count, without_row b (decimal n))) passed ∙ ap (λ (mark : Mark).
        (count, mark)) (some_good (decimal n) (decimal_nonempty n (omega (arith, few))))

    good_rows : (rows : List (Row Kind))
        → AllByRecursion (λ row. row_at row.tag (all_rows table) ≡ Some row) rows
        → AllByRecursion (IsAlone judge) rows
        → (line : List Field) → AllByRecursion (OfRow judge IsGoodField line) rows
    good_rows [] its alone line = tt
    good_rows (row ∷ rows) its alone line = (
      λ text said clear. row_good row text its.0 (alone.0 all line text ∙ said),
      good_rows rows its.1 alone.1 line,
    )

    good_item : (item : Item Kind) → IsFit judge table item → OfItem judge IsGoodField all item
    good_item (One row) fit = λ text said clear. row_good row text fit.0.0 said
    good_item (Party role) fit = tt
    good_item (Lines group) fit =
        let own = fit.1.0 in (
          λ n few. count_good group.count n few own.count own.passed,
          good_rows group.rows fit.0 own.alone,
        )

    -- good fields have no fault of their values
    no_mark_of : (f : Marked → Option TableFault)
        → ((t : ℕ) → f (t, marks.Good) ≡ None) → (fs : List Field)
        → AllByRecursion IsGoodField fs → first_of f (map (marked judge table all) fs) ≡ None
    unfolding first_of
    no_mark_of f none [] good = refl
    no_mark_of f none (x ∷ xs) good =
        let here : f (marked judge table all x) ≡ None = ap f good.0 ∙ none x.0 in
        rw here (no_mark_of f none xs good.1)

    pub no_mark : (items : List (Item Kind)) → AllByRecursion (IsFit judge table) items
        → AllByRecursion (IsItem judge all m) items → (f : Marked → Option TableFault)
        → ((t : ℕ) → f (t, marks.Good) ≡ None)
        → first_of f (map (marked judge table all) (flat_map (item_fields m) items)) ≡ None
    no_mark items fit said f none = no_mark_of f none (flat_map (item_fields m) items)
        (items_each judge IsGoodField all m items (each_by _ _ good_item items fit) said)

-- ---- a message is what its places and counts say

-- pairs are what is looked up by their keys
by_keys : {K V : Type 0} (value : K → V) (pairs : List (K × V))
    → AllByRecursion (λ pair. value pair.0 ≡ pair.1) pairs
    → map (λ key. (key, value key)) (map (λ pair. pair.0) pairs) ≡ pairs
by_keys value [] said = refl
by_keys value (pair ∷ pairs) said = λ i. (pair.0, said.0 i) ∷ by_keys value pairs said.1 i

pub cells_by_places : (cs : List Cell) (places : List Place)
    → places_apart (map (λ c. c.0) cs) ≡ true → map (λ c. c.0) cs ≡ places
    → map (λ p. (p, said_at cs p)) places ≡ cs
cells_by_places cs places apart same = ap (map (λ p. (p, said_at cs p))) (sym same)
    ∙ by_keys (said_at cs) cs (cells_said cs apart)

pub groups_by_counts : {L : Type 0} (gs : List (ℕ × List L)) (counts : List ℕ)
    → are_apart (map (λ g. g.0) gs) ≡ true → map (λ g. g.0) gs ≡ counts
    → map (λ c. (c, lines_of c gs)) counts ≡ gs
groups_by_counts gs counts apart same = ap (map (λ c. (c, lines_of c gs))) (sym same)
    ∙ by_keys (λ c. lines_of c gs) gs (lines_said gs apart)

module _ {Kind : Type 0}
    (judge : Judge Kind) (table : Table Kind) (m : Message) (front : List (Item Kind)) where
  abbrev pub items : List (Item Kind)
  items = front ++ table.items

  -- what is written of a message for the items in front, and those of its table
  abbrev pub all : List Field
  all = flat_map (item_fields m) items

  -- what is known of the table and its items
  pub record IsTable : Type 0 where
    pub apart : are_apart (flat_map item_tags items) ≡ true
    pub after : are_after items ≡ true
    pub beside : AllByRecursion (λ g. list_all (is_beside g) items ≡ true) (group_tags_in table)
    pub fit : AllByRecursion (IsFit judge table) items

  module _ (t : IsTable) (said : AllByRecursion (IsItem judge all m) items) where
    pub found : AllByRecursion (FoundAt judge all m all) items
    found = items_found judge all m table items said t.fit t.apart t.after

    there : AllByRecursion (IsThere judge table all m) table.items
    there = each_back _ front table.items (each_two _ _ (IsThere judge table all m)
        (λ item fit h. record { fit = fit; found = h.0; said = h.1 }) items t.fit
        (each_two _ _ (λ item. FoundAt judge all m all item × IsItem judge all m item)
        (λ item a b. (a, b)) items found said))

    -- NO FAULT
    pub no_fault : first_fault judge table all ≡ None
    unfolding first_fault
    no_fault =
        let once = no_twice judge table all m items said t.fit t.apart in
        let version = no_mark judge table all m items t.fit said wrong_version (λ tag. refl) in
        let placed = none_misplaced judge table all m (group_tags_in table) items said t.fit t.after
        t.beside in
        let form = no_mark judge table all m items t.fit said wrong (λ tag. refl) in
        let presence = each_none (missing_of all) table.items
        (each_by _ _ (not_missing_item judge table all m) table.items there) in
        let profile = no_mark judge table all m items t.fit said beyond (λ tag. refl) in
        rw (once, version, placed, form, presence, profile) refl

    groups_are : (its : List (Item Kind)) → AllByRecursion (IsThere judge table all m) its
        → map (group_says judge all) (flat_map groups_of its)
        ≡ map (λ group. (group.count, lines_of group.count m.groups)) (flat_map groups_of its)
    groups_are [] known = refl
    groups_are (Lines group ∷ its) known =
        λ i. group_again judge table all m group known.0 i ∷ groups_are its known.1 i
    groups_are (item ∷ its) known = groups_are its known.1

    -- THE GROUPS AGAIN
    pub same_groups : are_apart (map (λ g. g.0) m.groups) ≡ true
        → map (λ g. g.0) m.groups ≡ map (λ group. group.count) (groups_in table) →
        (message_in judge table all).groups ≡ m.groups
    same_groups apart counts =
        groups_are table.items there
        ∙ sym (map-map (λ c. (c, lines_of c m.groups)) (λ group. group.count) (groups_in table))
        ∙ groups_by_counts m.groups (map (λ group. group.count) (groups_in table)) apart counts

    -- the cells of the items of the table
    pub same_cells : are_apart (map (λ g. g.0) m.groups) ≡ true
        → map (λ g. g.0) m.groups ≡ map (λ group. group.count) (groups_in table) →
        (message_in judge table all).cells ≡ flat_map (cells_in m) table.items
    same_cells apart counts = cells_are table.items there
      where
        cells_are : (its : List (Item Kind)) → AllByRecursion (IsThere judge table all m) its
            → flat_map (cells_of judge all (message_in judge table all).groups) its
            ≡ flat_map (cells_in m) its
        cells_are [] known = refl
        cells_are (item ∷ its) known =
            let here = item_again judge table all m (message_in judge table all).groups item
            (ap (lines_of 453) (same_groups apart counts)) known.0 in
            λ i. here i ++ cells_are its known.1 i
