-- The first fault by a table of the code is that by the table that it stands for.
use Rattle.std.proofs.Common.{◌≡◌, ℕ, List, [], map, Some, None, refl, sym, ap, ◌∙◌}
use Rattle.std.specs.Option.{option_map}
use Rattle.message_tables.specs.declared.table.Table.{Table as CodeTable}
use Rattle.message_tables.specs.declared.stages.Found.{Found}
use Rattle.field_groups.specs.Field.{Field}
use Rattle.message_tables.specs.Stages.{IsFound}
use Rattle.message_tables.specs.Tables.{Row, or_else, first_of, row_at, all_rows}
use Rattle.message_tables.specs.FirstFault.{twice, once_in, placed_from, in_groups, group_tags_in}
use Rattle.message_tables.specs.FirstFault.{missing_of, allowed, mark_of, without_row, is_passed}
use Rattle.message_tables.specs.FirstFault.{marked, first_fault}
use Rattle.message_tables.specs.CodeTables.{table_of}
use Rattle.message_tables.proofs.Mapped.{with_kind, row_of_mapped, once_mapped, groups_mapped}
use Rattle.message_tables.proofs.Mapped.{passed_mapped, missing_mapped}
use Rattle.row_values.specs.declared.kinds.Kind.{Kind as CodeKind}
use Rattle.row_values.specs.Kinds.{judge}
use Rattle.row_values.specs.CodeKinds.{kind_of}

module _ (table : CodeTable CodeKind) (fields : List Field) where
  pub by_table : (found : Found)
      → IsFound (map (marked judge (table_of kind_of table) fields) fields) found
      → or_else (first_of (twice (once_in (table_of (λ (k : CodeKind). k) table)))
      (placed_from [] fields))
      (or_else found.version
      (or_else (first_of (in_groups (group_tags_in (table_of (λ (k : CodeKind). k) table)))
      (placed_from [] fields))
      (or_else found.wrong
      (or_else (first_of (missing_of fields) (table_of (λ (k : CodeKind). k) table).items)
      found.outside))))
      ≡ first_fault judge (table_of kind_of table) fields
  unfolding first_fault
  by_table found f =
      let once = sym (once_mapped kind_of table) in let groups =
      sym (groups_mapped kind_of table) in let missing =
      sym (missing_mapped kind_of fields table) in
      λ i. or_else (first_of (twice (once i)) (placed_from [] fields))
      (or_else (f.version i)
      (or_else (first_of (in_groups (groups i)) (placed_from [] fields))
      (or_else (f.wrong i) (or_else (missing i) (f.outside i)))))

  pub with_row : (tag : ℕ) (value : List ℕ) (row : Row CodeKind)
      → Some row ≡ row_at tag (all_rows (table_of (λ (k : CodeKind). k) table))
      → (tag, allowed row.need (mark_of (judge fields (kind_of row.kind) value)))
      ≡ marked judge (table_of kind_of table) fields (tag, value)
  with_row tag value row h =
      let e : row_at tag (all_rows (table_of kind_of table)) ≡ Some (with_kind kind_of row) =
      row_of_mapped kind_of tag table ∙ ap (option_map (with_kind kind_of)) (sym h) in rw e refl

  pub with_none : (tag : ℕ) (value : List ℕ)
      → None ≡ row_at tag (all_rows (table_of (λ (k : CodeKind). k) table))
      → (tag, without_row (is_passed (table_of (λ (k : CodeKind). k) table) tag) value)
      ≡ marked judge (table_of kind_of table) fields (tag, value)
  with_none tag value h =
      let e : row_at tag (all_rows (table_of kind_of table)) ≡ None =
      row_of_mapped kind_of tag table ∙ ap (option_map (with_kind kind_of)) (sym h) in
      rw (e, passed_mapped kind_of tag table) refl
