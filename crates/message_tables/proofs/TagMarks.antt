-- Marks of tags, by their remainders by 512.
use Rattle.std.proofs.Common.{◌≡◌, ℕ, zero, suc, ◌+◌, ◌<◌, Bool, true, false, eqb, List, [], ◌∷◌}
use Rattle.std.proofs.Common.{◌++◌, length, get_or, take, map, replicate, refl, sym, ap, ◌∙◌, arith}
use Rattle.std.specs.Prelude.{◌%◌, ◌||◌, ◌==◌}
use Rattle.std.proofs.lemmas.List.Folds.{list_any-append}
use Rattle.std.proofs.Math.ListN.{set}
use Rattle.std.specs.List.{flat_map, list_any}
use Rattle.std.proofs.lemmas.Grind.{flat_map-append}
use Rattle.std.proofs.lemmas.List.{append-nil, get_or-set_same, length-set, map_more, take_more}
use Rattle.std.proofs.lemmas.Nat.{mod_below}
use Rattle.std.proofs.lemmas.Bool.Decides.{nat_tests}
use Rattle.message_tables.specs.declared.table.Row.{Row as CodeRow}
use Rattle.message_tables.specs.declared.table.Item.{Item as CodeItem}
use Rattle.message_tables.specs.declared.table.Table.{Table as CodeTable}
use Rattle.message_tables.specs.declared.table.RepeatingGroup.{RepeatingGroup as CodeGroup}
use Rattle.message_tables.specs.declared.table.Item.TheVariants as items
use Rattle.message_tables.specs.Tables.{Item, One, Party, Lines, Table, is_one_of, tags_in}
use Rattle.message_tables.specs.Tables.{tags_of}
use Rattle.message_tables.specs.FirstFault.{group_tags_of, is_of_group, once_in}
use Rattle.message_tables.specs.FirstFault.{once_of}
use Rattle.message_tables.specs.CodeTables.{item_of, row_of, table_of}
use Rattle.message_tables.specs.TagMarks.{AreGroupsMarked, AreOnceMarked, grouped}
use Rattle.message_tables.specs.TagMarks.{is_marked, with_tags}

-- ---- lists of tags

with_tags-append : (xs ys : List ℕ) (marks : List Bool)
    → with_tags (xs ++ ys) marks ≡ with_tags ys (with_tags xs marks)
with_tags-append [] ys marks = refl
with_tags-append (x ∷ xs) ys marks = with_tags-append xs ys (set marks (x % 512) true)

-- what is marked stays marked
set_keeps : (marks : List Bool) (i j : ℕ) → get_or marks j false ≡ true
    → get_or (set marks i true) j false ≡ true
set_keeps [] i j h = h
set_keeps (one ∷ marks) zero zero h = refl
set_keeps (one ∷ marks) zero (suc j) h = h
set_keeps (one ∷ marks) (suc i) zero h = h
set_keeps (one ∷ marks) (suc i) (suc j) h = set_keeps marks i j h

with_tags-keeps : (tags : List ℕ) (marks : List Bool) (j : ℕ) → get_or marks j false ≡ true
    → get_or (with_tags tags marks) j false ≡ true
with_tags-keeps [] marks j h = h
with_tags-keeps (tag ∷ tags) marks j h =
    with_tags-keeps tags (set marks (tag % 512) true) j (set_keeps marks (tag % 512) j h)

-- a tag of the list is marked
tag_marked : (tags : List ℕ) (marks : List Bool) (tag : ℕ) → length marks ≡ 512
    → is_one_of tags tag ≡ true → is_marked (with_tags tags marks) tag ≡ true
tag_marked [] marks tag whole there = absurd cc
tag_marked (one ∷ tags) marks tag whole there =
    by (eqb one tag) refl (tag_marked tags more tag (length-set marks (one % 512) true ∙ whole))
    there
  where
    more : List Bool
    more = set marks (one % 512) true

    by : (b : Bool) → eqb one tag ≡ b
        → (is_one_of tags tag ≡ true → is_marked (with_tags tags more) tag ≡ true)
        → (b || is_one_of tags tag) ≡ true → is_marked (with_tags tags more) tag ≡ true
    by true e later there =
        let same : one ≡ tag = grind (arith, nat_tests) in
        let within : one % 512 < length marks = rw whole (mod_below one 512 (omega arith)) in
        let here : is_marked more one ≡ true =
        get_or-set_same marks (one % 512) true false within in
        with_tags-keeps tags more (tag % 512) (rw (← same) here)
    by false e later there = later there

-- one more tag
pub next_tag : (tags : List ℕ) (i none : ℕ) (old mid new : List Bool)
    → i < length tags → mid ≡ with_tags (take i tags) old
    → new ≡ with_tags (get_or tags i none ∷ []) mid → new ≡ with_tags (take (i + 1) tags) old
next_tag tags i none old mid new lt so_far is =
    is ∙ ap (with_tags (get_or tags i none ∷ [])) so_far
    ∙ sym (with_tags-append (take i tags) (get_or tags i none ∷ []) old)
    ∙ ap (λ (more : List ℕ). with_tags more old) (sym (take_more tags i none lt))

-- the tags of a group, one after another
pub group_marked : (count : ℕ) (rows skipped : List ℕ) (old mid : List Bool)
    → mid ≡ with_tags rows (with_tags (count ∷ []) old)
    → with_tags skipped mid ≡ with_tags (count ∷ (rows ++ skipped)) old
group_marked count rows skipped old mid is =
    ap (with_tags skipped) is ∙ sym (with_tags-append rows skipped (with_tags (count ∷ []) old))

-- a tag of a group of items is among those that are grouped
among : {Kind : Type 0} → (items : List (Item Kind)) (tag : ℕ)
    → list_any (is_of_group tag) (flat_map group_tags_of items)
    ≡ is_one_of (flat_map grouped items) tag
among [] tag = refl
among (One row ∷ items) tag = among items tag
among (Party role ∷ items) tag = among items tag
among (Lines group ∷ items) tag =
    let inside : is_one_of (tags_of group.rows ++ group.skipped) tag
    ≡ (is_one_of (tags_of group.rows) tag || is_one_of group.skipped tag) =
    list_any-append (λ (one : ℕ). one == tag) (tags_of group.rows) group.skipped in
    ap (λ (later : Bool). is_of_group tag (tags_in group) || later) (among items tag)
    ∙ ap (λ (b : Bool). (eqb group.count tag || b) || is_one_of (flat_map grouped items) tag)
    (sym inside)
    ∙ sym (list_any-append (λ (one : ℕ). one == tag) (grouped (Lines group))
    (flat_map grouped items))

-- ---- a loop over rows

module _ {K : Type 0} where
  abbrev tag_of : CodeRow K → ℕ
  tag_of row = row.tag

  pub next_row : (rows : List (CodeRow K)) (i : ℕ) (row : CodeRow K) (old mid new : List Bool)
      → row ≡ get_or rows i row → i < length rows
      → mid ≡ with_tags (map tag_of (take i rows)) old
      → new ≡ with_tags (row.tag ∷ []) mid
      → new ≡ with_tags (map tag_of (take (i + 1) rows)) old
  next_row rows i row old mid new at lt so_far is =
      is ∙ ap (with_tags (row.tag ∷ [])) so_far
      ∙ sym (with_tags-append (map tag_of (take i rows)) (row.tag ∷ []) old)
      ∙ ap (λ (more : List ℕ). with_tags more old)
      (sym (map_more tag_of rows i row lt
      ∙ ap (λ (r : CodeRow K). map tag_of (take i rows) ++ r.tag ∷ []) (sym at)))

  row_tags : (rows : List (CodeRow K))
      → map tag_of rows ≡ tags_of (map (row_of (λ (k : K). k)) rows)
  row_tags [] = refl
  row_tags (row ∷ rows) = ap (λ (tags : List ℕ). row.tag ∷ tags) (row_tags rows)

  -- ---- the tags that stand at most once in a message

  abbrev pub once : CodeItem K → List ℕ
  once item = once_of (item_of (λ (k : K). k) item)

  pub next_item : (tags : CodeItem K → List ℕ) (items : List (CodeItem K)) (i : ℕ)
      → (item : CodeItem K) (old mid new : List Bool)
      → item ≡ get_or items i item → i < length items
      → mid ≡ with_tags (flat_map tags (take i items)) old
      → new ≡ with_tags (tags item) mid
      → new ≡ with_tags (flat_map tags (take (i + 1) items)) old
  next_item tags items i item old mid new at lt so_far is =
      let more : flat_map tags (take (i + 1) items) ≡ flat_map tags (take i items) ++ tags item =
      ap (flat_map tags) (take_more items i item lt
      ∙ ap (λ (x : CodeItem K). take i items ++ x ∷ []) (sym at))
      ∙ flat_map-append tags (take i items) (item ∷ [])
      ∙ ap (λ (last : List ℕ). flat_map tags (take i items) ++ last) (append-nil (tags item)) in
      is ∙ ap (with_tags (tags item)) so_far
      ∙ sym (with_tags-append (flat_map tags (take i items)) (tags item) old)
      ∙ ap (λ (all : List ℕ). with_tags all old) (sym more)

  item_tags : (items : List (CodeItem K))
      → flat_map once items ≡ flat_map once_of (map (item_of (λ (k : K). k)) items)
  item_tags [] = refl
  item_tags (item ∷ items) = ap (λ (tags : List ℕ). once item ++ tags) (item_tags items)

  pub once_marked : (table : CodeTable K) (header marks : List Bool)
      → header ≡ with_tags (map tag_of table.header.now) (replicate 512 false)
      → marks ≡ with_tags (flat_map once table.items.now) header
      → AreOnceMarked (table_of (λ (k : K). k) table) marks
  once_marked table header marks header_is marks_are tag there =
      rw whole (tag_marked (once_in own) (replicate 512 false) tag refl there)
    where
      own : Table K
      own = table_of (λ (k : K). k) table

      whole : marks ≡ with_tags (once_in own) (replicate 512 false)
      whole = marks_are ∙ ap (with_tags (flat_map once table.items.now)) header_is
          ∙ sym (with_tags-append (map tag_of table.header.now) (flat_map once table.items.now)
          (replicate 512 false))
          ∙ ap (λ (tags : List ℕ). with_tags (tags ++ flat_map once table.items.now)
          (replicate 512 false)) (row_tags table.header.now)
          ∙ ap (λ (tags : List ℕ). with_tags (tags_of own.header ++ tags) (replicate 512 false))
          (item_tags table.items.now)

  -- ---- the tags of groups

  abbrev pub grouped_at : CodeItem K → List ℕ
  grouped_at item = grouped (item_of (λ (k : K). k) item)

  grouped_tags : (items : List (CodeItem K))
      → flat_map grouped_at items ≡ flat_map grouped (map (item_of (λ (k : K). k)) items)
  grouped_tags [] = refl
  grouped_tags (item ∷ items) = ap (λ (tags : List ℕ). grouped_at item ++ tags) (grouped_tags items)

  -- a group whose tags are marked
  pub lines_marked : (group : CodeGroup K) (old mid rows new : List Bool)
      → mid ≡ with_tags (group.count ∷ []) old
      → rows ≡ with_tags (map tag_of group.rows.now) mid
      → new ≡ with_tags group.skipped.now rows
      → new ≡ with_tags (grouped_at (items.Lines group)) old
  lines_marked group old mid rows new count members skipped =
      skipped ∙ group_marked group.count (tags_of (map (row_of (λ (k : K). k)) group.rows.now))
      group.skipped.now old rows
      (members ∙ ap (with_tags (map tag_of group.rows.now)) count
      ∙ ap (λ (tags : List ℕ). with_tags tags (with_tags (group.count ∷ []) old))
      (row_tags group.rows.now))

  pub groups_marked : (table : CodeTable K) (marks : List Bool)
      → marks ≡ with_tags (flat_map grouped_at table.items.now) (replicate 512 false)
      → AreGroupsMarked (table_of (λ (k : K). k) table) marks
  groups_marked table marks is tag there =
      let own = table_of (λ (k : K). k) table in
      ap (λ (m : List Bool). is_marked m tag) (is
      ∙ ap (λ (tags : List ℕ). with_tags tags (replicate 512 false))
      (grouped_tags table.items.now))
      ∙ tag_marked (flat_map grouped own.items) (replicate 512 false) tag refl
      (sym (among own.items tag) ∙ there)
