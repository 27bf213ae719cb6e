-- Own: the one content in which a message is written, after its header: the fields of its rows in
-- the order of its table, each by its canonical spelling; a group that has no lines is not written.
use Rattle.std.specs.Prelude.{ℕ, List, [], ◌∷◌, length, Some, None}
use Rattle.std.specs.List.{flat_map}
use Rattle.std.specs.Fmt.{decimal}
use Rattle.field_groups.specs.Field.{Field}
use Rattle.message_tables.specs.Tables.{Tag, Role, Cell, Message, Item, One, Party, Lines, Table}
use Rattle.message_tables.specs.Tables.{said_at, lines_of}

abbrev pub cell_fields : Cell → List Field
cell_fields (Tag tag, None) = []
cell_fields (Tag tag, Some text) = (tag, text) ∷ []
cell_fields (Role role, said) = []

abbrev pub line_fields : List Cell → List Field
line_fields cells = flat_map cell_fields cells

abbrev pub group_fields : ℕ → List (List Cell) → List Field
group_fields count [] = []
group_fields count (line ∷ lines) =
    (count, decimal (length (line ∷ lines))) ∷ flat_map line_fields (line ∷ lines)

-- what an item writes; a party is written in the lines of its group
abbrev pub item_fields : {Kind : Type 0} → Message → Item Kind → List Field
item_fields m (One row) = cell_fields (Tag row.tag, said_at m.cells (Tag row.tag))
item_fields m (Party role) = []
item_fields m (Lines group) = group_fields group.count (lines_of group.count m.groups)

-- THE CONTENT of a message
abbrev pub content : {Kind : Type 0} → Table Kind → Message → List Field
content table m = flat_map (item_fields m) table.items
