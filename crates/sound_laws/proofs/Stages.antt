-- What is asked of a table so that a message written by it is read again; what holds of each field
-- that a sound message writes; and that none of them has a tag that stood before.
use Rattle.std.proofs.Common.{◌≡◌, ◌≤◌, ℕ, List, [], ◌∷◌, ◌++◌, length, Some, None, Bool, true}
use Rattle.std.proofs.Common.{false, refl, sym, ap, subst}
use Rattle.std.specs.Prelude.{◌&&◌, ◌||◌, ◌==◌}
use Rattle.std.specs.Fmt.{decimal}
use Rattle.std.specs.List.{AllByRecursion, flat_map}
use Rattle.field_groups.specs.Field.{Field}
use Rattle.message_tables.specs.declared.table_fault.TableFault.{TableFault}
use Rattle.message_tables.specs.declared.table_fault.TableFault.TheVariants as faults
use Rattle.message_tables.specs.Tables.{Row, Required, RepeatingGroup, Item, One, Party, Lines}
use Rattle.message_tables.specs.Tables.{Table, Judge, Spells, Message, Cell, Said, Place, Tag}
use Rattle.message_tables.specs.Tables.{first_of, has_tag, is_one_of, tags_of, tags_in, said_at}
use Rattle.message_tables.specs.Tables.{lines_of, value_at, row_at, all_rows, rows_of, groups_of}
use Rattle.message_tables.specs.FirstFault.{placed_from, twice, once_in, is_passed, fault_if}
use Rattle.message_tables.specs.Content.{cell_fields, line_fields, group_fields, item_fields}
use Rattle.message_tables.proofs.Few.{IsPlain}
use Rattle.sound_laws.specs.Sound.{IsClear, IsSaid, AreSaid, IsLine, IsGroup, IsItem}
use Rattle.sound_laws.proofs.Each.{each_whole, apart_first, apart_same, are_apart, each_at}
use Rattle.sound_laws.proofs.Each.{each_back, each_by, each_two, each_joined, each_none, each_part}
use Rattle.sound_laws.proofs.Each.{either, neither, none_is, one_of, same_number}

-- the tags that an item writes
abbrev pub item_tags : {Kind : Type 0} → Item Kind → List ℕ
item_tags (One row) = row.tag ∷ []
item_tags (Party role) = []
item_tags (Lines group) = group.count ∷ tags_of group.rows

-- ---- what is asked of a table

-- a group has a first row, which each line says
abbrev pub HasFirst : {Kind : Type 0} → List (Row Kind) → Type 0
HasFirst [] = ⊥
HasFirst (row ∷ rows) = row.need ≡ Required

-- a row whose values are judged without the other fields
abbrev pub IsAlone : {Kind : Type 0} → Judge Kind → Row Kind → Type 0
IsAlone judge row =
    (l k : List Field) (text : List ℕ) → judge l row.kind text ≡ judge k row.kind text

-- A GROUP THAT FITS a table: its tags stand apart, no member counts for the whole message, and its
-- count, which has no row, is passed over.
pub record GroupFits {Kind : Type 0}
    (judge : Judge Kind) (table : Table Kind) (group : RepeatingGroup Kind) : Type 0 where
  pub first : HasFirst group.rows
  pub plain : IsPlain (tags_in group)
  pub apart : are_apart (group.count ∷ tags_of group.rows) ≡ true
  pub kept : AllByRecursion (λ t. is_one_of group.skipped t ≡ false) (tags_of group.rows)
  pub members : AllByRecursion (λ t. is_one_of (once_in table) t ≡ false) (tags_of group.rows)
  pub count : row_at group.count (all_rows table) ≡ None
  pub passed : is_passed table group.count ≡ true
  pub alone : AllByRecursion (IsAlone judge) group.rows

-- the rows of a group stand apart
pub rows_apart : {Kind : Type 0} (judge : Judge Kind) (table : Table Kind)
    (group : RepeatingGroup Kind) → GroupFits judge table group
    → are_apart (tags_of group.rows) ≡ true
rows_apart judge table group fit = (apart_first group.count (tags_of group.rows) fit.apart).1

-- AN ITEM THAT FITS: its rows are found, and its group fits
abbrev pub IsFit : {Kind : Type 0} → Judge Kind → Table Kind → Item Kind → Type 0
IsFit judge table item =
    AllByRecursion (λ row. row_at row.tag (all_rows table) ≡ Some row) (rows_of item)
    × AllByRecursion (GroupFits judge table) (groups_of item)

-- ---- what holds of each field that is written

module _ {Kind : Type 0} (judge : Judge Kind) (P : Field → Type 0) where
  -- it holds of what a row may say beside these fields
  abbrev pub OfRow : List Field → Row Kind → Type 0
  OfRow fields row = (text : List ℕ) → judge fields row.kind text ≡ Spells text → IsClear text
      → P (row.tag, text)

  -- and of what an item may write
  abbrev pub OfItem : List Field → Item Kind → Type 0
  OfItem fields (One row) = OfRow fields row
  OfItem fields (Party role) = Unit {0}
  OfItem fields (Lines group) = ((n : ℕ) → n ≤ 32 → P (group.count, decimal n))
      × ((line : List Field) → AllByRecursion (OfRow line) group.rows)

  pub row_each : (fields : List Field) (row : Row Kind) (said : Said) → OfRow fields row
      → IsSaid judge fields row said → AllByRecursion P (cell_fields (Tag row.tag, said))
  row_each fields row None of said = tt
  row_each fields row (Some text) of said = (of text said.spelled said.clear, tt)

  pub line_each : (fields : List Field) (rows : List (Row Kind)) (line : List Cell)
      → AllByRecursion (OfRow fields) rows → AreSaid judge fields rows line
      → AllByRecursion P (line_fields line)
  line_each fields [] [] of said = tt
  line_each fields (row ∷ rows) (cell ∷ cells) of said =
      let Q : Place → Type 0 = λ place. AllByRecursion P (cell_fields (place, cell.1)) in
      each_joined P (cell_fields cell) (line_fields cells)
      (subst Q (sym said.0) (row_each fields row cell.1 of.0 said.1))
      (line_each fields rows cells of.1 said.2)
  line_each fields rows line of said = absurd said

  pub lines_each : (rows : List (Row Kind)) (lines : List (List Cell))
      → ((line : List Field) → AllByRecursion (OfRow line) rows)
      → AllByRecursion (IsLine judge rows) lines → AllByRecursion P (flat_map line_fields lines)
  lines_each rows lines of said = each_whole P line_fields lines (each_by _ _
      (λ line. line_each (line_fields line) rows line (of (line_fields line))) lines said)

  pub group_each : (group : RepeatingGroup Kind) (lines : List (List Cell))
      → OfItem [] (Lines group) → IsGroup judge group lines
      → AllByRecursion P (group_fields group.count lines)
  group_each group [] of said = tt
  group_each group (line ∷ lines) of said =
      (of.0 (length (line ∷ lines)) said.few, lines_each group.rows (line ∷ lines) of.1 said.said)

  pub item_each : (fields : List Field) (m : Message) (item : Item Kind) → OfItem fields item
      → IsItem judge fields m item → AllByRecursion P (item_fields m item)
  item_each fields m (One row) of said = row_each fields row (said_at m.cells (Tag row.tag)) of said
  item_each fields m (Party role) of said = tt
  item_each fields m (Lines group) of said =
      group_each group (lines_of group.count m.groups) of said

  -- IT HOLDS OF EACH FIELD OF A SOUND MESSAGE.
  pub items_each : (fields : List Field) (m : Message) (items : List (Item Kind))
      → AllByRecursion (OfItem fields) items → AllByRecursion (IsItem judge fields m) items
      → AllByRecursion P (flat_map (item_fields m) items)
  items_each fields m items of said = each_whole P (item_fields m) items
      (each_two (OfItem fields) _ _ (item_each fields m) items of said)

-- what holds of each tag
module _ {Kind : Type 0} (judge : Judge Kind) (Q : ℕ → Type 0) where
  pub of_rows : (rows : List (Row Kind)) → AllByRecursion Q (tags_of rows)
      → (fields : List Field) → AllByRecursion (OfRow judge (λ f. Q f.0) fields) rows
  of_rows [] q fields = tt
  of_rows (row ∷ rows) q fields = (λ text said clear. q.0, of_rows rows q.1 fields)

  of_tags : (fields : List Field) (item : Item Kind) → AllByRecursion Q (item_tags item)
      → OfItem judge (λ f. Q f.0) fields item
  of_tags fields (One row) q = λ text said clear. q.0
  of_tags fields (Party role) q = tt
  of_tags fields (Lines group) q = (λ n few. q.0, of_rows group.rows q.1)

  pub item_tagged : (fields : List Field) (m : Message) (item : Item Kind)
      → AllByRecursion Q (item_tags item) → IsItem judge fields m item
      → AllByRecursion (λ f. Q f.0) (item_fields m item)
  item_tagged fields m item q = item_each judge (λ f. Q f.0) fields m item (of_tags fields item q)

  pub items_tagged : (fields : List Field) (m : Message) (items : List (Item Kind))
      → AllByRecursion Q (flat_map item_tags items) → AllByRecursion (IsItem judge fields m) items
      → AllByRecursion (λ f. Q f.0) (flat_map (item_fields m) items)
  items_tagged fields m items q = items_each judge (λ f. Q f.0) fields m items
      (each_by _ _ (of_tags fields) items (each_part Q item_tags items q))

-- ---- tags

pub here_is : (tags : List ℕ) (t : ℕ) → is_one_of (t ∷ tags) t ≡ true
here_is tags t = ap (λ (b : Bool). b || is_one_of tags t) (same_number t)

-- each of some is among them
pub each_of : (tags : List ℕ) → AllByRecursion (λ t. is_one_of tags t ≡ true) tags
each_of [] = tt
each_of (t ∷ tags) = (here_is tags t, each_by _ _ (λ u h. more (t == u) h) tags (each_of tags))
  where
    more : (b : Bool) {c : Bool} → c ≡ true → (b || c) ≡ true
    more true h = refl
    more false h = h

-- fields of these tags
abbrev pub AreOf : List ℕ → List Field → Type 0
AreOf tags fields = AllByRecursion (λ f. is_one_of tags f.0 ≡ true) fields

pub group_of : {Kind : Type 0} (judge : Judge Kind) (group : RepeatingGroup Kind)
    (lines : List (List Cell)) → IsGroup judge group lines
    → AreOf (group.count ∷ tags_of group.rows) (group_fields group.count lines)
group_of judge group lines =
    let tags = group.count ∷ tags_of group.rows in
    let Q : ℕ → Type 0 = λ t. is_one_of tags t ≡ true in
    group_each judge (λ f. Q f.0) group lines
    (λ n few. (each_of tags).0, of_rows judge Q group.rows (each_of tags).1)

pub item_of : {Kind : Type 0} (judge : Judge Kind) (fields : List Field) (m : Message)
    (item : Item Kind) → IsItem judge fields m item → AreOf (item_tags item) (item_fields m item)
item_of judge fields m item = item_tagged judge (λ t. is_one_of (item_tags item) t ≡ true) fields m
    item (each_of (item_tags item))

pub is_other : (tags : List ℕ) (t u : ℕ)
    → is_one_of tags t ≡ true → is_one_of tags u ≡ false → (t == u) ≡ false
is_other tags t u h k = one_of (λ x. (x == u) ≡ false) tags (none_is u tags k) t h

-- fields of other tags have no value of a tag
pub value_none : (tags : List ℕ) (t : ℕ) (fields : List Field)
    → AreOf tags fields → is_one_of tags t ≡ false → value_at t fields ≡ None
value_none tags t [] of other = refl
value_none tags t (f ∷ fs) of other =
    rw (is_other tags f.0 t of.0 other) (value_none tags t fs of.1 other)

-- what is not among some is not among those at their end
pub none_behind : (xs ys : List ℕ) (t : ℕ) → is_one_of (xs ++ ys) t ≡ false → is_one_of ys t ≡ false
none_behind [] ys t h = h
none_behind (x ∷ xs) ys t h = none_behind xs ys t (either (x == t) (is_one_of (xs ++ ys) t) h).1

-- the tags of one list stand apart from another's
pub apart_lists : (xs ys : List ℕ)
    → are_apart (xs ++ ys) ≡ true → AllByRecursion (λ y. is_one_of xs y ≡ false) ys
apart_lists [] ys h = each_at (λ y. is_one_of [] y ≡ false) ys (λ i y at. refl)
apart_lists (x ∷ xs) ys h =
    let p = apart_first x (xs ++ ys) h in
    let others = none_is x ys (none_behind xs ys x p.0) in
    each_two _ _ _ (λ y a b. neither (x == y) (is_one_of xs y) (apart_same y x a) b) ys others
    (apart_lists xs ys p.1)

pub apart_back : (xs ys : List ℕ) → are_apart (xs ++ ys) ≡ true → are_apart ys ≡ true
apart_back [] ys h = h
apart_back (x ∷ xs) ys h = apart_back xs ys (apart_first x (xs ++ ys) h).1

-- ---- no tag twice

-- no field of these tags stands before
abbrev pub Free : List Field → List ℕ → Type 0
Free before tags = AllByRecursion (λ t. has_tag t before ≡ false) tags

pub none_free : (tags : List ℕ) → Free [] tags
none_free tags = each_at (λ t. has_tag t [] ≡ false) tags (λ i t at. refl)

-- a field of other tags keeps them free
pub free_on : (tags later : List ℕ) (f : Field) (before : List Field) → is_one_of tags f.0 ≡ true
    → AllByRecursion (λ t. is_one_of tags t ≡ false) later → Free before later
    → Free (f ∷ before) later
free_on tags later f before of other free =
    each_two _ _ _ (λ t a b. neither (f.0 == t) (has_tag t before) (is_other tags f.0 t of a) b)
    later other free

-- no field of these is a second one
abbrev NoneTwice : List ℕ → List Field → List Field → Type 0
NoneTwice once before fields = AllByRecursion (λ p. twice once p ≡ None) (placed_from before fields)

-- behind fields that keep these tags free
abbrev Later : List ℕ → List ℕ → List Field → Type 0
Later once later rest = (before : List Field) → Free before later → NoneTwice once before rest

fine : (a b : Bool) (fault : TableFault) → b ≡ false → fault_if (a && b) fault ≡ None
fine true b fault h = ap (λ (x : Bool). fault_if x fault) h
fine false b fault h = refl

-- fields that are not counted
uncounted : (once tags later : List ℕ) (fields rest : List Field) → AreOf tags fields
    → AllByRecursion (λ f. is_one_of once f.0 ≡ false) fields
    → AllByRecursion (λ t. is_one_of tags t ≡ false) later → Later once later rest
    → Later once later (fields ++ rest)
uncounted once tags later [] rest of out other k before free = k before free
uncounted once tags later (f ∷ fs) rest of out other k before free = (
  ap (λ (b : Bool). fault_if (b && has_tag f.0 before) (faults.Reason f.0 13)) out.0,
  uncounted once tags later fs rest of.1 out.1 other k (f ∷ before)
      (free_on tags later f before of.0 other free),
)

module _ {Kind : Type 0} (judge : Judge Kind) (table : Table Kind) (fields : List Field)
    (m : Message) where
  item_twice : (item : Item Kind) (later : List ℕ) (rest : List Field) → IsItem judge fields m item
      → IsFit judge table item → AllByRecursion (λ t. is_one_of (item_tags item) t ≡ false) later
      → Later (once_in table) later rest
      → Later (once_in table) (item_tags item ++ later) (item_fields m item ++ rest)
  item_twice (One row) later rest said fit other k before free =
      elim (said_at m.cells (Tag row.tag)) as (λ said.
      NoneTwice (once_in table) before (cell_fields (Tag row.tag, said) ++ rest)) [
        | None ↦ k before free.1
        | Some text ↦ (
          fine (is_one_of (once_in table) row.tag) _ _ free.0,
          k ((row.tag, text) ∷ before) (free_on (row.tag ∷ []) later (row.tag, text) before
              (here_is [] row.tag) other free.1),
        )
      ]
  item_twice (Party role) later rest said fit other k before free = k before free
  item_twice (Lines group) later rest said fit other k before free =
      by (lines_of group.count m.groups) said
    where
      by : (lines : List (List Cell)) → IsGroup judge group lines
          → NoneTwice (once_in table) before (group_fields group.count lines ++ rest)
      by [] each = k before (each_back _ (tags_of group.rows) later free.1)
      by (line ∷ lines) each =
          let tags = item_tags (Lines group) in
          let uncounts : ℕ → Type 0 = λ t. is_one_of (once_in table) t ≡ false in
          let of = group_of judge group (line ∷ lines) each in
          let count : Field = (group.count, decimal (length (line ∷ lines))) in (
            fine (is_one_of (once_in table) group.count) _ _ free.0,
            uncounted (once_in table) tags later (flat_map line_fields (line ∷ lines)) rest of.1
                (lines_each judge (λ f. uncounts f.0) group.rows (line ∷ lines)
                (of_rows judge uncounts group.rows fit.1.0.members) each.said) other k
                (count ∷ before) (free_on tags later count before of.0 other
                (each_back _ (tags_of group.rows) later free.1)),
          )

  items_twice : (items : List (Item Kind)) → AllByRecursion (IsItem judge fields m) items
      → AllByRecursion (IsFit judge table) items → are_apart (flat_map item_tags items) ≡ true
      → Later (once_in table) (flat_map item_tags items) (flat_map (item_fields m) items)
  items_twice [] said fit apart before free = tt
  items_twice (item ∷ items) said fit apart before free =
      let later = flat_map item_tags items in
      item_twice item later (flat_map (item_fields m) items) said.0 fit.0
      (apart_lists (item_tags item) later apart)
      (items_twice items said.1 fit.1 (apart_back (item_tags item) later apart)) before free

  -- WHAT IS WRITTEN HAS NO TAG TWICE.
  pub no_twice : (items : List (Item Kind)) → AllByRecursion (IsItem judge fields m) items
      → AllByRecursion (IsFit judge table) items → are_apart (flat_map item_tags items) ≡ true
      → first_of (twice (once_in table)) (placed_from [] (flat_map (item_fields m) items)) ≡ None
  no_twice items said fit apart =
      each_none (twice (once_in table)) (placed_from [] (flat_map (item_fields m) items))
      (items_twice items said fit apart [] (none_free (flat_map item_tags items)))
