-- Inside: the table that a table of the code is; a dictionary's contract says that it is its own.
use Rattle.std.specs.Prelude.{ℕ, List, [], map, slice_index_or}
use Rattle.std.specs.Borrow.{Bor}
use Rattle.field_groups.specs.Field.{Field}
use Rattle.message_tables.specs.declared.table.Test.{Test as CodeTest}
use Rattle.message_tables.specs.declared.table.Test.TheVariants as tests
use Rattle.message_tables.specs.declared.table.Need.{Need as CodeNeed}
use Rattle.message_tables.specs.declared.table.Need.TheVariants as needs
use Rattle.message_tables.specs.declared.table.Row.{Row as CodeRow}
use Rattle.message_tables.specs.declared.table.RepeatingGroup.{RepeatingGroup as CodeGroup}
use Rattle.message_tables.specs.declared.table.Item.{Item as CodeItem}
use Rattle.message_tables.specs.declared.table.Item.TheVariants as items
use Rattle.message_tables.specs.declared.table.Table.{Table as CodeTable}
use Rattle.message_tables.specs.Tables.{Test, Stands, Is, Need, Required, Optional, Lenient, Fixed}
use Rattle.message_tables.specs.Tables.{When, Row, RepeatingGroup, GroupTags, tags_in, Item, One}
use Rattle.message_tables.specs.Tables.{Party, Lines, Table}

abbrev pub test_of : CodeTest → Test
test_of (tests.Stands tag) = Stands tag
test_of (tests.Is tag listed) = Is tag listed.now

abbrev pub need_of : CodeNeed → Need
need_of needs.Required = Required
need_of needs.Optional = Optional
need_of needs.Lenient = Lenient
need_of (needs.Fixed text) = Fixed text.now
need_of (needs.When condition) = When (map (λ tests. map test_of tests.now) condition.now)

-- the kinds of the code as those of a dictionary
abbrev pub row_of : {K Kind : Type 0} → (K → Kind) → CodeRow K → Row Kind
row_of kind row = record { tag = row.tag; kind = kind row.kind; need = need_of row.need }

abbrev pub group_of : {K Kind : Type 0} → (K → Kind) → CodeGroup K → RepeatingGroup Kind
group_of kind group = record {
  count = group.count;
  rows = map (row_of kind) group.rows.now;
  skipped = group.skipped.now;
}

-- the tags of a group
abbrev pub own_tags : {K : Type 0} → CodeGroup K → GroupTags
own_tags group = tags_in (group_of (λ k. k) group)

abbrev pub item_of : {K Kind : Type 0} → (K → Kind) → CodeItem K → Item Kind
item_of kind (items.One row) = One (row_of kind row)
item_of kind (items.Party role) = Party role
item_of kind (items.Lines group) = Lines (group_of kind group)

abbrev pub table_of : {K Kind : Type 0} → (K → Kind) → CodeTable K → Table Kind
table_of kind table = record {
  letter = table.letter;
  header = map (row_of kind) table.header.now;
  items = map (item_of kind) table.items.now;
  strict = table.strict;
}

-- fields of the code, with the bytes that their values point to
abbrev pub seen : List (ℕ × Bor (List ℕ)) → List Field
seen fields = map (λ f. (f.0, f.1.now)) fields

-- the field at a place
abbrev pub seen_at : List (ℕ × Bor (List ℕ)) → ℕ → Field
seen_at fields place = slice_index_or (seen fields) place (0, [])
