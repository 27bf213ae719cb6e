-- Own: a sound message, one that can be written: read again, its content says the same.
use Rattle.std.specs.Prelude.{◌≡◌, ◌≤◌, ℕ, true, false, List, [], ◌∷◌, map, length, IsSome, IfSome}
use Rattle.std.specs.List.{AllByRecursion, flat_map, list_any}
use Rattle.field_groups.specs.Field.{Field, is_soh}
use Rattle.message_tables.specs.Tables.{Spells, Judge, Row, RepeatingGroup, Item, One, Party, Lines}
use Rattle.message_tables.specs.Tables.{Table, Place, Tag, Role, Said, Cell, Message, says}
use Rattle.message_tables.specs.Tables.{is_needed, said_at, lines_of, party_in, groups_in}
use Rattle.message_tables.specs.FirstFault.{most_lines}
use Rattle.message_tables.specs.Content.{line_fields, content}

-- bytes without SOH
abbrev pub IsClear : List ℕ → Type 0
IsClear bytes = list_any is_soh bytes ≡ false

-- what a row says beside these fields: a canonical spelling, which it says again, and something
-- where it is needed
pub record IsSaid {Kind : Type 0}
    (judge : Judge Kind) (fields : List Field) (row : Row Kind) (said : Said) : Type 0 where
  pub needed : is_needed row.need fields ≡ true → IsSome said
  pub spelled : IfSome said (λ text. judge fields row.kind text ≡ Spells text)
  pub again : says row.need (judge fields row.kind) said ≡ said
  pub clear : IfSome said IsClear

-- cells that say these rows, in their order
abbrev pub AreSaid : {Kind : Type 0}
    → Judge Kind → List Field → List (Row Kind) → List Cell → Type 0
AreSaid judge fields [] [] = Unit {0}
AreSaid judge fields [] (cell ∷ cells) = ⊥
AreSaid judge fields (row ∷ rows) [] = ⊥
AreSaid judge fields (row ∷ rows) (cell ∷ cells) =
    (cell.0 ≡ Tag row.tag) × IsSaid judge fields row cell.1 × AreSaid judge fields rows cells

-- a line of a group, whose rows are judged beside its own fields
abbrev pub IsLine : {Kind : Type 0} → Judge Kind → List (Row Kind) → List Cell → Type 0
IsLine judge rows line = AreSaid judge (line_fields line) rows line

pub record IsGroup {Kind : Type 0}
    (judge : Judge Kind) (group : RepeatingGroup Kind) (lines : List (List Cell)) : Type 0 where
  pub few : length lines ≤ most_lines
  pub said : AllByRecursion (IsLine judge group.rows) lines

-- what a message says for an item of its table
abbrev pub IsItem : {Kind : Type 0} → Judge Kind → List Field → Message → Item Kind → Type 0
IsItem judge fields m (One row) = IsSaid judge fields row (said_at m.cells (Tag row.tag))
IsItem judge fields m (Party role) =
    said_at m.cells (Role role) ≡ party_in role (lines_of 453 m.groups)
IsItem judge fields m (Lines group) = IsGroup judge group (lines_of group.count m.groups)

-- the places of an item
abbrev pub places_of : {Kind : Type 0} → Item Kind → List Place
places_of (One row) = Tag row.tag ∷ []
places_of (Party role) = Role role ∷ []
places_of (Lines group) = []

-- A SOUND MESSAGE of a table: it has the places and groups of the table, and says each item beside
-- its own content.
pub record IsSound {Kind : Type 0} (judge : Judge Kind) (table : Table Kind) (m : Message) : Type 0
  where
    pub letter : m.letter ≡ table.letter
    pub places : map (λ cell. cell.0) m.cells ≡ flat_map places_of table.items
    pub counts : map (λ group. group.0) m.groups ≡ map (λ group. group.count) (groups_in table)
    pub items : AllByRecursion (IsItem judge (content table m) m) table.items

-- what a content says of a message: all but PossResend, which stands in the header
abbrev pub without_resend : Message → Message
without_resend m = record m { resend = false }
