-- What is written of a sound message is found again: each value at its tag, and the lines of each
-- group.
use Rattle.std.proofs.Common.{◌≡◌, ℕ, List, [], ◌∷◌, ◌++◌, map, Option, Some, None, Bool, true}
use Rattle.std.proofs.Common.{false, refl, sym, ap, subst, ◌∙◌}
use Rattle.std.specs.Prelude.{IsSome, not, ◌&&◌, ◌||◌, ◌==◌}
use Rattle.std.specs.List.{AllByRecursion, flat_map, list_all}
use Rattle.std.proofs.lemmas.List.Sums.{take_while-cons}
use Rattle.field_groups.specs.Field.{Field}
use Rattle.message_tables.specs.Tables.{Need, Row, RepeatingGroup, Item, One, Party, Lines, Judge}
use Rattle.message_tables.specs.Tables.{Place, Message, Cell, Said, Tag, GroupTags, or_else, Table}
use Rattle.message_tables.specs.Tables.{value_at, is_one_of, is_needed, tags_of, tags_in, first_tag}
use Rattle.message_tables.specs.Tables.{said_at, lines_of, is_inside, run, after_tag, from_tag}
use Rattle.message_tables.specs.Tables.{with_member, in_lines, lines_in}
use Rattle.message_tables.specs.Content.{cell_fields, line_fields, group_fields, item_fields}
use Rattle.sound_laws.specs.Sound.{AreSaid, IsLine, IsItem}
use Rattle.sound_laws.proofs.Each.{apart_first, apart_same, all_false, are_apart, both, each_two}
use Rattle.sound_laws.proofs.Each.{each_by, each_part, none_is, same_number}
use Rattle.sound_laws.proofs.ContentValues.{cell_value, or_none, value_at-append}
use Rattle.sound_laws.proofs.Stages.{item_tags, AreOf, HasFirst, IsFit, apart_lists, apart_back}
use Rattle.sound_laws.proofs.Stages.{each_of, is_other, item_of, items_tagged, line_each}
use Rattle.sound_laws.proofs.Stages.{lines_each, none_behind, of_rows, rows_apart, value_none}

-- ---- fields of other tags

-- a value behind fields of other tags
pub value_behind : (tags : List ℕ) (t : ℕ) (xs ys : List Field)
    → AreOf tags xs → is_one_of tags t ≡ false → value_at t (xs ++ ys) ≡ value_at t ys
value_behind tags t xs ys of other = value_at-append t xs ys
    ∙ ap (λ (v : Option (List ℕ)). or_else v (value_at t ys)) (value_none tags t xs of other)

after_behind : (tags : List ℕ) (t : ℕ) (xs ys : List Field)
    → AreOf tags xs → is_one_of tags t ≡ false → after_tag t (xs ++ ys) ≡ after_tag t ys
after_behind tags t [] ys of other = refl
after_behind tags t (x ∷ xs) ys of other =
    rw (is_other tags x.0 t of.0 other) (after_behind tags t xs ys of.1 other)

after_none : (tags : List ℕ) (t : ℕ) (xs : List Field)
    → AreOf tags xs → is_one_of tags t ≡ false → after_tag t xs ≡ []
after_none tags t [] of other = refl
after_none tags t (x ∷ xs) of other =
    rw (is_other tags x.0 t of.0 other) (after_none tags t xs of.1 other)

none_at : (t : ℕ) (fs : List Field) → AllByRecursion (λ f. (f.0 == t) ≡ false) fs
    → value_at t fs ≡ None
none_at t [] none = refl
none_at t (f ∷ fs) none = rw none.0 (none_at t fs none.1)

-- ---- the lines of a group

-- no tag stands twice
abbrev pub Once : List Field → Type 0
Once [] = Unit {0}
Once (f ∷ fs) = AllByRecursion (λ h. (h.0 == f.0) ≡ false) fs × Once fs

module _ (first : ℕ) where
  abbrev NoneFirst : List Field → Type 0
  NoneFirst fs = AllByRecursion (λ f. (f.0 == first) ≡ false) fs

  -- the first line begins with the first tag
  abbrev HeadBegun : List (List Field) → Type 0
  HeadBegun [] = Unit {0}
  HeadBegun ([] ∷ lines) = ⊥
  HeadBegun ((f ∷ line) ∷ lines) = (f.0 == first) ≡ true

  -- a line in front of others
  line_back : (f : Field) (others rest : List Field) (lines : List (List Field)) → NoneFirst others
      → in_lines first rest ≡ lines → HeadBegun lines
      → in_lines first (f ∷ others ++ rest) ≡ (f ∷ others) ∷ lines
  line_back f [] rest lines none is begun = ap (with_member first f) is ∙ by lines begun
    where
      by : (lines : List (List Field)) → HeadBegun lines
          → with_member first f lines ≡ (f ∷ []) ∷ lines
      by [] begun = refl
      by ([] ∷ lines) begun = absurd begun
      by ((g ∷ line) ∷ lines) begun = rw begun refl
  line_back f (h ∷ hs) rest lines none is begun =
      ap (with_member first f) (line_back h hs rest lines none.1 is begun) ∙ rw none.0 refl

  -- the fields of a line: one of the first tag, and others, of which no tag stands twice
  pub record Begins (fields : List Field) : Type 0 where
    pub text : List ℕ
    pub others : List Field
    pub is : fields ≡ (first, text) ∷ others
    pub none : NoneFirst others
    pub once : Once others

  -- lines that begin so are found in their fields
  pub record AreBack (fields : List Field) (lines : List (List Field)) : Type 0 where
    pub split : in_lines first fields ≡ lines
    pub begun : HeadBegun lines
    pub from : from_tag first fields ≡ fields

  pub lines_back : (lines : List (List Cell))
      → AllByRecursion (λ line. Begins (line_fields line)) lines
      → AreBack (flat_map line_fields lines) (map line_fields lines)
  lines_back [] begins = record { split = refl; begun = tt; from = refl }
  lines_back (line ∷ more) begins =
      let b = begins.0 in
      let rest = lines_back more begins.1 in
      let P : List Field → Type 0 =
      λ fs. AreBack (fs ++ flat_map line_fields more) (fs ∷ map line_fields more) in
      subst P (sym b.is) (record {
        split = line_back (first, b.text) b.others (flat_map line_fields more)
            (map line_fields more) b.none rest.split rest.begun;
        begun = same_number first;
        from = rw (same_number first) refl;
      })

-- ---- a group behind its count

-- fields of which none is inside a group
abbrev pub Outside : GroupTags → List Field → Type 0
Outside g fields = AllByRecursion (λ f. is_inside g f.0 ≡ false) fields

abbrev Inside : GroupTags → List Field → Type 0
Inside g fields = AllByRecursion (λ f. is_inside g f.0 ≡ true) fields

run_none : (g : GroupTags) (rest : List Field) → Outside g rest → run g rest ≡ []
run_none g [] out = refl
run_none g (f ∷ fs) out = take_while-cons (λ x. is_inside g x.0) f fs ∙ rw out.0 refl

run_is : (g : GroupTags) (fields rest : List Field)
    → Inside g fields → Outside g rest → run g (fields ++ rest) ≡ fields
run_is g [] rest ins out = run_none g rest out
run_is g (f ∷ fs) rest ins out =
    take_while-cons (λ x. is_inside g x.0) f (fs ++ rest)
    ∙ rw ins.0 (ap (λ (xs : List Field). f ∷ xs) (run_is g fs rest ins.1 out))

-- no tag of a later item is inside a group
abbrev pub is_before : {Kind : Type 0} → Item Kind → List ℕ → Bool
is_before (Lines group) tags = list_all (λ t. not (is_inside (tags_in group) t)) tags
is_before item tags = true

abbrev pub are_after : {Kind : Type 0} → List (Item Kind) → Bool
are_after [] = true
are_after (item ∷ items) = is_before item (flat_map item_tags items) && are_after items

module _ {Kind : Type 0} (judge : Judge Kind) where
  -- what a line says is found at the tags of its rows
  abbrev pub AreAt : List Field → List (Row Kind) → List Cell → Type 0
  AreAt fields (row ∷ rows) (cell ∷ cells) =
      (value_at row.tag fields ≡ cell.1) × AreAt fields rows cells
  AreAt fields rows cells = Unit {0}

  at_behind : (f : Field) (fields : List Field) (rows : List (Row Kind)) (cells : List Cell)
      → AllByRecursion (λ t. (t == f.0) ≡ false) (tags_of rows) → AreAt fields rows cells
      → AreAt (f ∷ fields) rows cells
  at_behind f fields (row ∷ rows) (cell ∷ cells) other at = (
    rw (apart_same row.tag f.0 other.0) at.0,
    at_behind f fields rows cells other.1 at.1,
  )
  at_behind f fields rows cells other at = tt

  abbrev Known : Row Kind → List (Row Kind) → List Cell → Said → List Field → Type 0
  Known row rows cells said front =
      ((value_at row.tag (front ++ line_fields cells) ≡ said)
      × AreAt (front ++ line_fields cells) rows cells) × Once (front ++ line_fields cells)

  -- and no tag stands twice in it
  pub line_known : (fields : List Field) (rows : List (Row Kind)) (line : List Cell)
      → are_apart (tags_of rows) ≡ true → AreSaid judge fields rows line
      → AreAt (line_fields line) rows line × Once (line_fields line)
  line_known fields [] [] apart said = (tt, tt)
  line_known fields (row ∷ rows) (cell ∷ cells) apart said =
      let p = apart_first row.tag (tags_of rows) apart in
      let other = none_is row.tag (tags_of rows) p.0 in
      let Q : ℕ → Type 0 = λ t. (t == row.tag) ≡ false in
      let none = line_each judge (λ f. Q f.0) fields rows cells (of_rows judge Q rows other fields)
      said.2 in
      let rest = line_known fields rows cells p.1 said.2 in
      let P : Place → Type 0 = λ place. Known row rows cells cell.1 (cell_fields (place, cell.1)) in
      subst P (sym said.0)
      (elim cell.1 as (λ s. Known row rows cells s (cell_fields (Tag row.tag, s))) [
        | None ↦ ((none_at row.tag (line_fields cells) none, rest.0), rest.1)
        | Some text ↦ (
          (
            rw (same_number row.tag) refl,
            at_behind (row.tag, text) (line_fields cells) rows cells other rest.0,
          ),
          (none, rest.1),
        )
      ])
  line_known fields rows line apart said = absurd said

  -- a line begins with its first row
  line_begins : (rows : List (Row Kind)) (line : List Cell) → HasFirst rows
      → are_apart (tags_of rows) ≡ true → IsLine judge rows line
      → Begins (first_tag rows) (line_fields line)
  line_begins [] line first apart said = absurd first
  line_begins (row ∷ rows) [] first apart said = absurd said
  line_begins (row ∷ rows) (cell ∷ cells) first apart said =
      let whole = line_fields (cell ∷ cells) in
      let P : Need → Type 0 = λ n. is_needed n whole ≡ true in
      let once = (line_known whole (row ∷ rows) (cell ∷ cells) apart said).1 in
      elim cell.1 as (λ s. cell.1 ≡ s → IsSome s → Begins row.tag whole) [
        | None ↦ λ e there. absurd cc
        | Some text ↦ λ e there.
            let is : whole ≡ (row.tag, text) ∷ line_fields cells =
            λ i. cell_fields (said.0 i, e i) ++ line_fields cells in
            let o = subst Once is once in record {
              text = text;
              others = line_fields cells;
              is = is;
              none = o.0;
              once = o.1;
            }
      ] refl (said.1.needed (subst P (sym first) refl))

  pub group_begins : (rows : List (Row Kind)) (lines : List (List Cell)) → HasFirst rows
      → are_apart (tags_of rows) ≡ true → AllByRecursion (IsLine judge rows) lines
      → AllByRecursion (λ line. Begins (first_tag rows) (line_fields line)) lines
  group_begins rows lines first apart =
      each_by _ _ (λ line said. line_begins rows line first apart said) lines

  -- the fields of lines, in front of fields that are outside their group
  pub lines_run : (group : RepeatingGroup Kind) (lines : List (List Cell)) (rest : List Field)
      → AllByRecursion (IsLine judge group.rows) lines → Outside (tags_in group) rest
      → run (tags_in group) (flat_map line_fields lines ++ rest) ≡ flat_map line_fields lines
  lines_run group lines rest said out =
      let Q : ℕ → Type 0 = λ t. is_inside (tags_in group) t ≡ true in
      let inside = each_by _ Q (λ t of. ap (λ (b : Bool). b || is_one_of group.skipped t) of)
      (tags_of group.rows) (each_of (tags_of group.rows)) in
      run_is (tags_in group) (flat_map line_fields lines) rest (lines_each judge (λ f. Q f.0)
      group.rows lines (of_rows judge Q group.rows inside) said) out

  -- the lines of a group in front of such fields
  group_found : (group : RepeatingGroup Kind) (lines : List (List Cell)) (rest : List Field)
      → HasFirst group.rows → are_apart (tags_of group.rows) ≡ true
      → AllByRecursion (IsLine judge group.rows) lines
      → Outside (tags_in group) rest → after_tag group.count rest ≡ []
      → lines_in (tags_in group) (group_fields group.count lines ++ rest) ≡ map line_fields lines
  group_found group [] rest first apart said out none = rw none refl
  group_found group (line ∷ lines) rest first apart said out none =
      let g = tags_in group in
      let back = lines_back g.first (line ∷ lines)
      (group_begins group.rows (line ∷ lines) first apart said) in
      let cut : after_tag group.count (group_fields group.count (line ∷ lines) ++ rest)
      ≡ flat_map line_fields (line ∷ lines) ++ rest = rw (same_number group.count) refl in
      ap (λ (fs : List Field). in_lines g.first (from_tag g.first (run g fs))) cut
      ∙ ap (λ (fs : List Field). in_lines g.first (from_tag g.first fs))
      (lines_run group (line ∷ lines) rest said out) ∙ ap (in_lines g.first) back.from ∙ back.split

  module _ (fields : List Field) (m : Message) where
    -- what an item writes is found among these fields
    abbrev pub FoundAt : List Field → Item Kind → Type 0
    FoundAt all (One row) = value_at row.tag all ≡ said_at m.cells (Tag row.tag)
    FoundAt all (Party role) = Unit {0}
    FoundAt all (Lines group) =
        lines_in (tags_in group) all ≡ map line_fields (lines_of group.count m.groups)

    -- it is found behind other tags
    found_behind : (tags : List ℕ) (front all : List Field) → AreOf tags front → (item : Item Kind)
        → AllByRecursion (λ t. is_one_of tags t ≡ false) (item_tags item) → FoundAt all item
        → FoundAt (front ++ all) item
    found_behind tags front all of (One row) other found =
        value_behind tags row.tag front all of other.0 ∙ found
    found_behind tags front all of (Party role) other found = tt
    found_behind tags front all of (Lines group) other found =
        ap (λ (fs : List Field). in_lines (first_tag group.rows) (from_tag (first_tag group.rows)
        (run (tags_in group) fs))) (after_behind tags group.count front all of other.0) ∙ found

    pub items_of : (items : List (Item Kind)) → AllByRecursion (IsItem judge fields m) items
        → AreOf (flat_map item_tags items) (flat_map (item_fields m) items)
    items_of items = items_tagged judge (λ t. is_one_of (flat_map item_tags items) t ≡ true) fields
        m items (each_of (flat_map item_tags items))

    module _ (table : Table Kind) where
      -- an item in front of others of other tags
      found_here : (item : Item Kind) (items : List (Item Kind)) → IsItem judge fields m item
          → AllByRecursion (IsItem judge fields m) items → IsFit judge table item
          → are_apart (item_tags item ++ flat_map item_tags items) ≡ true
          → is_before item (flat_map item_tags items) ≡ true
          → FoundAt (item_fields m item ++ flat_map (item_fields m) items) item
      found_here (One row) items said more fit apart before =
          let later = flat_map (item_fields m) items in
          let tags = flat_map item_tags items in
          let here = said_at m.cells (Tag row.tag) in
          let none : value_at row.tag later ≡ None =
          value_none tags row.tag later (items_of items more) (apart_first row.tag tags apart).0 in
          value_at-append row.tag (cell_fields (Tag row.tag, here)) later
          ∙ rw (none, cell_value row.tag here) (or_none here)
      found_here (Party role) items said more fit apart before = tt
      found_here (Lines group) items said more fit apart before =
          let tags = flat_map item_tags items in
          let own = fit.1.0 in
          group_found group (lines_of group.count m.groups) (flat_map (item_fields m) items)
          own.first (rows_apart judge table group own) said.said
          (items_tagged judge (λ t. is_inside (tags_in group) t ≡ false) fields m items
          (all_false (is_inside (tags_in group)) tags before) more)
          (after_none tags group.count (flat_map (item_fields m) items) (items_of items more)
          (none_behind (tags_of group.rows) tags group.count
          (apart_first group.count (tags_of group.rows ++ tags) apart).0))

      -- EACH ITEM IS FOUND among what all write.
      pub items_found : (items : List (Item Kind)) → AllByRecursion (IsItem judge fields m) items
          → AllByRecursion (IsFit judge table) items → are_apart (flat_map item_tags items) ≡ true
          → are_after items ≡ true → AllByRecursion (FoundAt (flat_map (item_fields m) items)) items
      items_found [] said fit apart after = tt
      items_found (item ∷ items) said fit apart after =
          let mine = item_tags item in
          let tags = flat_map item_tags items in
          let later = flat_map (item_fields m) items in
          let p = both (is_before item tags) (are_after items) after in (
            found_here item items said.0 said.1 fit.0 apart p.0,
            each_two _ _ _ (found_behind mine (item_fields m item) later
                (item_of judge fields m item said.0)) items
                (each_part _ item_tags items (apart_lists mine tags apart))
                (items_found items said.1 fit.1 (apart_back mine tags apart) p.1),
          )
