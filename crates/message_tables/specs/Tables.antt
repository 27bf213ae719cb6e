-- Own: how the tables of messages are written as data, and what the fields of a body say by their
-- rows.
use Rattle.std.specs.Prelude.{ℕ, ◌==◌, ◌||◌, Bool, true, false, List, [], ◌∷◌, ◌++◌, map}
use Rattle.std.specs.Prelude.{take_while, codes, unwrap_or, Some, None, if◌then◌else◌}
use Rattle.std.specs.declared.option.Option.{Option}
use Rattle.std.specs.Option.{option_map}
use Rattle.std.specs.List.{find, list_any, list_all, flat_map}
use Rattle.std.specs.Str.{bytes_eq}
use Rattle.std.specs.Fmt.{decimal}
use Rattle.field_groups.specs.Field.{Field}

-- ---- values and rows

-- What the bytes of a value are to a kind of values: a spelling of such a value, which has this
-- canonical one; a value outside the profile; or at fault, for this SessionRejectReason(373).
pub data Verdict : Type 0 where
  Spells : (text : List ℕ) → Verdict
  Outside : Verdict
  Wrong : (reason : ℕ) → Verdict

-- what a condition looks at
pub data Test : Type 0 where
  -- a field of the tag stands
  Stands : (tag : ℕ) → Test
  -- the field of the tag has one of these bytes
  Is : (tag : ℕ) → (listed : List ℕ) → Test

-- what makes a row required: in one of these lists each test holds
abbrev pub Condition : Type 0
Condition = List (List Test)

-- Whether each message says a row. A value outside the profile is a fault; but a lenient row then
-- says nothing, and a fixed one says its text, whatever stands there.
pub data Need : Type 0 where
  Required : Need
  Optional : Need
  Lenient : Need
  Fixed : (text : List ℕ) → Need
  When : (condition : Condition) → Need

-- A row of a table: the tag of its field, the kind of its values, and whether each message says it.
pub record Row (Kind : Type 0) : Type 0 where
  pub tag : ℕ
  pub kind : Kind
  pub need : Need

-- A repeating group: the tag of its count, the rows of a line, of which the first begins it, and
-- the tags that stand in its lines and say nothing.
pub record RepeatingGroup (Kind : Type 0) : Type 0 where
  pub count : ℕ
  pub rows : List (Row Kind)
  pub skipped : List ℕ

-- what stands in a table: a row, the id of the first party of a role, or the lines of a group
pub data Item (Kind : Type 0) : Type 0 where
  One : (row : Row Kind) → Item Kind
  Party : (role : ℕ) → Item Kind
  Lines : (group : RepeatingGroup Kind) → Item Kind

-- A table: the letter of the message's type, the rows of the header, the items in the order of
-- writing, and whether a field that has no row is outside the profile, or passed over.
pub record Table (Kind : Type 0) : Type 0 where
  pub letter : ℕ
  pub header : List (Row Kind)
  pub items : List (Item Kind)
  pub strict : Bool

-- what a value is to a kind, beside the other fields of its message
abbrev pub Judge : Type 0 → Type 0
Judge Kind = List Field → Kind → List ℕ → Verdict

-- ---- messages

-- where a message says something: in the field of a tag, or as the id of the first party of a role
pub data Place : Type 0 where
  Tag : (tag : ℕ) → Place
  Role : (role : ℕ) → Place

-- a value that a message says, by its canonical spelling, or that it says none
abbrev pub Said : Type 0
Said = Option (List ℕ)

-- a place, and what a message says there
abbrev pub Cell : Type 0
Cell = Place × Said

-- What a message says: its type, whether it repeats what was sent before (PossResend), what it says
-- at each place of its table, and what each line of its groups says.
pub record Message : Type 0 where
  pub letter : ℕ
  pub resend : Bool
  pub cells : List Cell
  pub groups : List (ℕ × List (List Cell))

-- ---- looking up

-- a value where there is one, and what follows from it
infixl 10 ◌>>=◌
abbrev pub ◌>>=◌ : {A B : Type 0} → Option A → (A → Option B) → Option B
None >>= f = None
(Some x) >>= f = f x

abbrev pub or_else : {A : Type 0} → Option A → Option A → Option A
or_else None b = b
or_else (Some a) b = Some a

-- the first answer that the items of a list give
unfoldable pub first_of : {X A : Type 0} → (X → Option A) → List X → Option A
first_of f [] = None
first_of f (x ∷ xs) = or_else (f x) (first_of f xs)

-- the first value of a tag
abbrev pub value_at : ℕ → List Field → Option (List ℕ)
value_at tag fields = option_map (λ f. f.1) (find (λ f. f.0 == tag) fields)

abbrev pub has_tag : ℕ → List Field → Bool
has_tag tag fields = list_any (λ f. f.0 == tag) fields

abbrev pub is_one_of : List ℕ → ℕ → Bool
is_one_of tags tag = list_any (λ one. one == tag) tags

-- whether a value is one of these bytes
abbrev pub is_listed : List ℕ → Option (List ℕ) → Bool
is_listed listed (Some (byte ∷ [])) = is_one_of listed byte
is_listed listed value = false

abbrev pub passes : List Field → Test → Bool
passes fields (Stands tag) = has_tag tag fields
passes fields (Is tag listed) = is_listed listed (value_at tag fields)

abbrev pub holds : Condition → List Field → Bool
holds condition fields = list_any (λ tests. list_all (passes fields) tests) condition

abbrev pub is_needed : Need → List Field → Bool
is_needed Required fields = true
is_needed (When condition) fields = holds condition fields
is_needed need fields = false

abbrev pub row_at : {Kind : Type 0} → ℕ → List (Row Kind) → Option (Row Kind)
row_at tag rows = find (λ row. row.tag == tag) rows

abbrev pub rows_of : {Kind : Type 0} → Item Kind → List (Row Kind)
rows_of (One row) = row ∷ []
rows_of (Party role) = []
rows_of (Lines group) = group.rows

abbrev pub groups_of : {Kind : Type 0} → Item Kind → List (RepeatingGroup Kind)
groups_of (One row) = []
groups_of (Party role) = []
groups_of (Lines group) = group ∷ []

-- the rows and the groups of a table
abbrev pub rows_in : {Kind : Type 0} → Table Kind → List (Row Kind)
rows_in table = flat_map rows_of table.items

abbrev pub all_rows : {Kind : Type 0} → Table Kind → List (Row Kind)
all_rows table = table.header ++ rows_in table

abbrev pub groups_in : {Kind : Type 0} → Table Kind → List (RepeatingGroup Kind)
groups_in table = flat_map groups_of table.items

abbrev pub tags_of : {Kind : Type 0} → List (Row Kind) → List ℕ
tags_of rows = map (λ row. row.tag) rows

abbrev pub first_tag : {Kind : Type 0} → List (Row Kind) → ℕ
first_tag [] = 0
first_tag (row ∷ rows) = row.tag

-- ---- the lines of a group

-- the tags of a group: of its count, of the member that begins a line, of all members of a line,
-- and those that say nothing
pub record GroupTags : Type 0 where
  pub count : ℕ
  pub first : ℕ
  pub members : List ℕ
  pub skipped : List ℕ

abbrev pub tags_in : {Kind : Type 0} → RepeatingGroup Kind → GroupTags
tags_in group = record {
  count = group.count;
  first = first_tag group.rows;
  members = tags_of group.rows;
  skipped = group.skipped;
}

-- whether a tag is inside a group, as a member or as one that says nothing
abbrev pub is_inside : GroupTags → ℕ → Bool
is_inside group tag = is_one_of group.members tag || is_one_of group.skipped tag

-- the fields of a group at the front
abbrev pub run : GroupTags → List Field → List Field
run group fields = take_while (λ f. is_inside group f.0) fields

-- the fields after the first of a tag
abbrev pub after_tag : ℕ → List Field → List Field
after_tag tag [] = []
after_tag tag (f ∷ fs) = if f.0 == tag then fs else after_tag tag fs

-- the fields from the first of a tag on
abbrev pub from_tag : ℕ → List Field → List Field
from_tag tag [] = []
from_tag tag (f ∷ fs) = if f.0 == tag then f ∷ fs else from_tag tag fs

abbrev pub with_member : ℕ → Field → List (List Field) → List (List Field)
with_member first f [] = (f ∷ []) ∷ []
with_member first f ([] ∷ lines) = (f ∷ []) ∷ lines
with_member first f ((g ∷ line) ∷ lines) =
    if g.0 == first then (f ∷ []) ∷ (g ∷ line) ∷ lines else (f ∷ g ∷ line) ∷ lines

-- fields in lines, each begun by the first tag
abbrev pub in_lines : ℕ → List Field → List (List Field)
in_lines first [] = []
in_lines first (f ∷ fs) = with_member first f (in_lines first fs)

-- the fields of the lines of a group: those after its count, from the one that begins a line
abbrev pub line_fields_in : GroupTags → List Field → List Field
line_fields_in group fields = from_tag group.first (run group (after_tag group.count fields))

-- the lines of a group; tags in them that are passed over stand in no row
abbrev pub lines_in : GroupTags → List Field → List (List Field)
lines_in group fields = in_lines group.first (line_fields_in group fields)

-- ---- what fields say

abbrev pub text_of : Verdict → Said
text_of (Spells text) = Some text
text_of verdict = None

-- what a row says, by the value at its tag, if there is one
abbrev pub says : Need → (List ℕ → Verdict) → Option (List ℕ) → Said
says (Fixed text) judge value = Some text
says need judge value = value >>= (λ bytes. text_of (judge bytes))

abbrev pub cell_of : {Kind : Type 0} → Judge Kind → List Field → Row Kind → Cell
cell_of judge fields row =
    (Tag row.tag, says row.need (judge fields row.kind) (value_at row.tag fields))

-- the lines of a group, found by the tag of its count
abbrev pub lines_of : {Line : Type 0} → ℕ → List (ℕ × List Line) → List Line
lines_of count [] = []
lines_of count (group ∷ groups) = if group.0 == count then group.1 else lines_of count groups

-- a kind is judged in a line beside the fields of that line
abbrev pub group_says : {Kind : Type 0}
    → Judge Kind → List Field → RepeatingGroup Kind → ℕ × List (List Cell)
group_says judge fields group = (
  group.count,
  map (λ line. map (cell_of judge line) group.rows) (lines_in (tags_in group) fields),
)

abbrev pub is_place : Place → Place → Bool
is_place (Tag tag) (Tag other) = tag == other
is_place (Role role) (Role other) = role == other
is_place place other = false

-- what a message says at a place; none where its table has no such row
abbrev pub said_at : List Cell → Place → Said
said_at [] place = None
said_at (cell ∷ cells) place = if is_place cell.0 place then cell.1 else said_at cells place

-- the byte of a code, as it is spelled
abbrev pub code_of : List ℕ → Option ℕ
code_of (byte ∷ []) = Some byte
code_of bytes = None

-- whether a flag is spelled Y
abbrev pub flag_of : List ℕ → Bool
flag_of bytes = bytes_eq bytes (codes "Y")

-- What is said where a table's row is required: there it is never missing, so that what stands here
-- for none says nothing.
abbrev pub text_in : List Cell → ℕ → List ℕ
text_in cells tag = unwrap_or (said_at cells (Tag tag)) []

abbrev pub code_if : List Cell → ℕ → Option ℕ
code_if cells tag = said_at cells (Tag tag) >>= code_of

abbrev pub code_in : List Cell → ℕ → ℕ
code_in cells tag = unwrap_or (code_if cells tag) 0

-- the PartyID (448) of the first line of the Parties group (453) with a PartyRole (452)
abbrev pub party_in : ℕ → List (List Cell) → Said
party_in role lines =
    first_of (λ line. if bytes_eq (text_in line 452) (decimal role)
    then Some (text_in line 448) else None)
    lines

abbrev pub cells_of : {Kind : Type 0}
    → Judge Kind → List Field → List (ℕ × List (List Cell)) → Item Kind → List Cell
cells_of judge fields groups (One row) = cell_of judge fields row ∷ []
cells_of judge fields groups (Party role) = (Role role, party_in role (lines_of 453 groups)) ∷ []
cells_of judge fields groups (Lines group) = []
