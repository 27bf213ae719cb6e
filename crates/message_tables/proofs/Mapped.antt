-- A table of the code says the same whatever its kinds are called.
use Rattle.std.proofs.Common.{◌≡◌, ℕ, List, [], ◌∷◌, ◌++◌, map, cond, Option, Some, Bool}
use Rattle.std.proofs.Common.{true, false, refl, sym, ap, ◌∙◌}
use Rattle.std.specs.Prelude.{◌||◌, ◌&&◌, ◌==◌, not}
use Rattle.std.specs.Option.{option_map}
use Rattle.std.specs.List.{list_any, list_all, flat_map}
use Rattle.field_groups.specs.Field.{Field}
use Rattle.message_tables.specs.declared.table.Row.{Row as CodeRow}
use Rattle.message_tables.specs.declared.table.RepeatingGroup.{RepeatingGroup as CodeGroup}
use Rattle.message_tables.specs.declared.table.Item.{Item as CodeItem}
use Rattle.message_tables.specs.declared.table.Item.TheVariants as items
use Rattle.message_tables.specs.declared.table.Table.{Table as CodeTable}
use Rattle.message_tables.specs.Tables.{Row, Table, or_else}
use Rattle.message_tables.specs.Tables.{first_of, tags_of, row_at, rows_of, rows_in}
use Rattle.message_tables.specs.Tables.{all_rows, tags_in, lines_in}
use Rattle.message_tables.specs.FirstFault.{once_of, once_in, group_tags_of, group_tags_in}
use Rattle.message_tables.specs.FirstFault.{is_of_group, is_passed, misplaced, missing, missing_of}
use Rattle.message_tables.specs.CodeTables.{row_of, group_of, item_of, table_of}
use Rattle.message_tables.specs.Plain.{IsWhole, lacks, lacks_group, placed_at}
use Rattle.message_tables.proofs.Clean.{first_of-map}

pub first_of-same : {X A : Type 0} (f g : X → Option A) (xs : List X)
    → ((x : X) → f x ≡ g x) → first_of f xs ≡ first_of g xs
unfolding first_of
first_of-same f g [] h = refl
first_of-same f g (x ∷ xs) h = λ i. or_else (h x i) (first_of-same f g xs h i)

module _ {K Kind : Type 0} (kind : K → Kind) where
  abbrev pub with_kind : Row K → Row Kind
  with_kind row = record { tag = row.tag; kind = kind row.kind; need = row.need }

  abbrev own : CodeTable K → Table K
  own table = table_of (λ (k : K). k) table

  pub tags_mapped : (rows : List (CodeRow K))
      → tags_of (map (row_of kind) rows) ≡ tags_of (map (row_of (λ (k : K). k)) rows)
  tags_mapped [] = refl
  tags_mapped (row ∷ rows) = ap (λ tags. row.tag ∷ tags) (tags_mapped rows)

  row_mapped : (tag : ℕ)
      (rows : List (CodeRow K)) (more : List (Row K)) (more_mapped : List (Row Kind))
      → row_at tag more_mapped ≡ option_map with_kind (row_at tag more)
      → row_at tag (map (row_of kind) rows ++ more_mapped)
      ≡ option_map with_kind (row_at tag (map (row_of (λ (k : K). k)) rows ++ more))
  row_mapped tag [] more more_mapped h = h
  row_mapped tag (row ∷ rows) more more_mapped h =
      here (row.tag == tag) (row_mapped tag rows more more_mapped h)
    where
      here : (b : Bool) → row_at tag (map (row_of kind) rows ++ more_mapped)
          ≡ option_map with_kind (row_at tag (map (row_of (λ (k : K). k)) rows ++ more))
          → cond b (Some (row_of kind row)) (row_at tag (map (row_of kind) rows ++ more_mapped))
          ≡ option_map with_kind (cond b (Some (row_of (λ (k : K). k) row))
          (row_at tag (map (row_of (λ (k : K). k)) rows ++ more)))
      here true e = refl
      here false e = e

  items_row_mapped : (tag : ℕ) (xs : List (CodeItem K))
      → row_at tag (flat_map rows_of (map (item_of kind) xs))
      ≡ option_map with_kind (row_at tag (flat_map rows_of (map (item_of (λ (k : K). k)) xs)))
  items_row_mapped tag [] = refl
  items_row_mapped tag (items.One row ∷ xs) =
      row_mapped tag (row ∷ []) (flat_map rows_of (map (item_of (λ (k : K). k)) xs))
      (flat_map rows_of (map (item_of kind) xs)) (items_row_mapped tag xs)
  items_row_mapped tag (items.Party role ∷ xs) = items_row_mapped tag xs
  items_row_mapped tag (items.Lines group ∷ xs) =
      row_mapped tag group.rows.now (flat_map rows_of (map (item_of (λ (k : K). k)) xs))
      (flat_map rows_of (map (item_of kind) xs)) (items_row_mapped tag xs)

  -- the row of a tag
  pub row_of_mapped : (tag : ℕ) (table : CodeTable K) → row_at tag (all_rows (table_of kind table))
      ≡ option_map with_kind (row_at tag (all_rows (own table)))
  row_of_mapped tag table = row_mapped tag table.header.now
      (rows_in (own table)) (rows_in (table_of kind table)) (items_row_mapped tag table.items.now)

  once_items : (xs : List (CodeItem K)) → flat_map once_of (map (item_of kind) xs)
      ≡ flat_map once_of (map (item_of (λ (k : K). k)) xs)
  once_items [] = refl
  once_items (items.One row ∷ xs) = ap (λ tags. row.tag ∷ tags) (once_items xs)
  once_items (items.Party role ∷ xs) = once_items xs
  once_items (items.Lines group ∷ xs) = ap (λ tags. group.count ∷ tags) (once_items xs)

  -- the tags that stand at most once
  pub once_mapped : (table : CodeTable K) → once_in (table_of kind table) ≡ once_in (own table)
  once_mapped table = λ i. tags_mapped table.header.now i ++ once_items table.items.now i

  pub group_tags_mapped : (group : CodeGroup K)
      → tags_in (group_of kind group) ≡ tags_in (group_of (λ (k : K). k) group)
  group_tags_mapped group = here group.rows.now
    where
      here : (rows : List (CodeRow K)) → tags_in (record {
        count = group.count;
        rows = map (row_of kind) rows;
        skipped = group.skipped.now;
      }) ≡ tags_in (record {
        count = group.count;
        rows = map (row_of (λ (k : K). k)) rows;
        skipped = group.skipped.now;
      })
      here [] = refl
      here (row ∷ rows) = λ i. record {
        count = group.count;
        first = row.tag;
        members = row.tag ∷ tags_mapped rows i;
        skipped = group.skipped.now;
      }

  -- the tags of the groups
  pub groups_mapped : (table : CodeTable K)
      → group_tags_in (table_of kind table) ≡ group_tags_in (own table)
  groups_mapped table = here table.items.now
    where
      here : (xs : List (CodeItem K)) → flat_map group_tags_of (map (item_of kind) xs)
          ≡ flat_map group_tags_of (map (item_of (λ (k : K). k)) xs)
      here [] = refl
      here (items.One row ∷ xs) = here xs
      here (items.Party role ∷ xs) = here xs
      here (items.Lines group ∷ xs) = λ i. group_tags_mapped group i ∷ here xs i

  pub passed_mapped : (tag : ℕ) (table : CodeTable K)
      → is_passed (table_of kind table) tag ≡ is_passed (own table) tag
  passed_mapped tag table =
      ap (λ groups. not table.strict || list_any (is_of_group tag) groups) (groups_mapped table)

  missing_rows : (fields : List Field) (rows : List (CodeRow K)) → first_of (missing fields)
      (map (row_of kind) rows) ≡ first_of (missing fields) (map (row_of (λ (k : K). k)) rows)
  unfolding first_of
  missing_rows fields [] = refl
  missing_rows fields (row ∷ rows) =
      ap (or_else (missing fields (row_of kind row))) (missing_rows fields rows)

  missing_item : (fields : List Field) (item : CodeItem K)
      → missing_of fields (item_of kind item) ≡ missing_of fields (item_of (λ (k : K). k) item)
  missing_item fields (items.One row) = refl
  missing_item fields (items.Party role) = refl
  missing_item fields (items.Lines group) =
      ap (λ tags. first_of (λ line. first_of (missing line) (map (row_of kind) group.rows.now))
      (lines_in tags fields)) (group_tags_mapped group)
      ∙ first_of-same (λ line. first_of (missing line) (map (row_of kind) group.rows.now))
      (λ line. first_of (missing line) (map (row_of (λ (k : K). k)) group.rows.now))
      (lines_in (tags_in (group_of (λ (k : K). k) group)) fields)
      (λ line. missing_rows line group.rows.now)

  pub missing_mapped : (fields : List Field) (table : CodeTable K) → first_of (missing_of fields)
      (table_of kind table).items ≡ first_of (missing_of fields) (own table).items
  missing_mapped fields table =
      sym (first_of-map (missing_of fields) (item_of kind) table.items.now)
      ∙ first_of-same (λ item. missing_of fields (item_of kind item)) (λ item.
      missing_of fields (item_of (λ (k : K). k) item)) table.items.now (missing_item fields)
      ∙ first_of-map (missing_of fields) (item_of (λ (k : K). k)) table.items.now

  pub lacks_mapped : (fields : List Field) (group : CodeGroup K)
      → lacks_group fields (tags_in (group_of (λ (k : K). k) group))
      ≡ lacks_group fields (tags_in (group_of kind group))
  lacks_mapped fields group =
      ap (λ (tags : List ℕ). lacks fields group.count
      && (list_all (lacks fields) tags && list_all (lacks fields) group.skipped.now))
      (sym (tags_mapped group.rows.now))

  -- a whole group
  pub whole_mapped : (fields : List Field) (group : CodeGroup K)
      → IsWhole fields (group_of (λ (k : K). k) group) → IsWhole fields (group_of kind group)
  whole_mapped fields group whole = record {
    placed = λ place lt.
        ap (misplaced (placed_at fields place)) (group_tags_mapped group) ∙ whole.placed place lt;
    said = missing_item fields (items.Lines group) ∙ whole.said;
  }
