-- Own: the first fault of a message's fields beside its table, stage by stage; the reasons are
-- those of SessionRejectReason(373), FIX 4.2 and FIXT 1.1, Reject.
use Rattle.std.specs.Prelude.{ℕ, ◌+◌, take, drop, reverse, ◌==◌, ◌&&◌, ◌||◌, Bool, true, false, not}
use Rattle.std.specs.Prelude.{List, [], ◌∷◌, ◌++◌, map, take_while, count_by, nat_le, unwrap_or}
use Rattle.std.specs.Prelude.{Some, None, Result, Ok, Err, if◌then◌else◌}
use Rattle.std.specs.declared.option.Option.{Option}
use Rattle.std.specs.Option.{option_map}
use Rattle.std.specs.List.{list_any, flat_map}
use Rattle.message_tables.specs.declared.table_fault.TableFault.{TableFault}
use Rattle.message_tables.specs.declared.table_fault.TableFault.TheVariants as faults
use Rattle.message_tables.specs.declared.table_fault.Mark.{Mark}
use Rattle.message_tables.specs.declared.table_fault.Mark.TheVariants as marks
use Rattle.field_groups.specs.Field.{Field}
use Rattle.field_groups.specs.HeadValues.{number_in}
use Rattle.message_tables.specs.Tables.{Cell, Verdict, Spells, Outside, Wrong, Need, Lenient, Fixed}
use Rattle.message_tables.specs.Tables.{Row, GroupTags, Item, One, Party, Lines, Table, Message}
use Rattle.message_tables.specs.Tables.{Judge, or_else, first_of, value_at, has_tag, is_one_of}
use Rattle.message_tables.specs.Tables.{is_needed, row_at, all_rows, groups_of, groups_in, tags_of}
use Rattle.message_tables.specs.Tables.{tags_in, is_inside, run, lines_in, group_says, flag_of}
use Rattle.message_tables.specs.Tables.{cells_of}

-- a field, with the fields before it, from it backwards, and those after it
pub record Placed : Type 0 where
  pub before : List Field
  pub field : Field
  pub after : List Field

abbrev pub placed_from : List Field → List Field → List Placed
placed_from before [] = []
placed_from before (f ∷ fs) =
    record { before = before; field = f; after = fs } ∷ placed_from (f ∷ before) fs

abbrev pub fault_if : Bool → TableFault → Option TableFault
fault_if true fault = Some fault
fault_if false fault = None

-- the place of a field among fields
abbrev pub place_in : List Field → ℕ → Field → Placed
place_in fields place f = record {
  before = reverse (take place fields);
  field = f;
  after = drop (place + 1) fields;
}

-- ---- a tag twice

-- the tags that stand at most once in a message; members of groups are not counted
abbrev pub once_of : {Kind : Type 0} → Item Kind → List ℕ
once_of (One row) = row.tag ∷ []
once_of (Party role) = []
once_of (Lines group) = group.count ∷ []

abbrev pub once_in : {Kind : Type 0} → Table Kind → List ℕ
once_in table = tags_of table.header ++ flat_map once_of table.items

-- a tag of the profile that stands again (13)
abbrev pub twice : List ℕ → Placed → Option TableFault
twice once p =
    fault_if (is_one_of once p.field.0 && has_tag p.field.0 p.before) (faults.Reason p.field.0 13)

-- ---- groups

abbrev pub group_tags_of : {Kind : Type 0} → Item Kind → List GroupTags
group_tags_of item = map tags_in (groups_of item)

abbrev pub group_tags_in : {Kind : Type 0} → Table Kind → List GroupTags
group_tags_in table = flat_map group_tags_of table.items

-- a count says so many lines
abbrev pub is_count : Option ℕ → ℕ → Bool
is_count None lines = false
is_count (Some said) lines = said == lines

-- a group has at most so many lines
abbrev pub most_lines : ℕ
most_lines = 32

-- how many of the fields of a group at the front begin a line
abbrev pub lines_begun : GroupTags → List Field → ℕ
lines_begun group fields = count_by (λ f. f.0 == group.first) (run group fields)

-- the fields of the line that a field stands in, from it backwards to the one that begins it, which
-- is left out
abbrev pub line_before : GroupTags → List Field → List Field
line_before group before = take_while (λ f. not (f.0 == group.first)) before

-- whether the fields before one, from it backwards, are of a group after its count
abbrev pub is_opened : GroupTags → List Field → Bool
is_opened group [] = false
is_opened group (f ∷ fs) =
    if f.0 == group.count then true else (if is_inside group f.0 then is_opened group fs else false)

-- The fault of a member beside the fields before it, from it backwards: outside its group, before
-- the first line, or again in its line (15); a line past the last that may be (5, of the count). A
-- tag that says nothing is no member, and has no fault of place anywhere.
abbrev pub misplaced_member : GroupTags → List Field → ℕ → Option TableFault
misplaced_member group before tag =
    if is_one_of group.skipped tag then None
    else (if not (is_opened group before) then Some (faults.Reason tag 15)
    else (if tag == group.first
    then fault_if (nat_le most_lines (lines_begun group before)) (faults.Reason group.count 5)
    else fault_if (lines_begun group before == 0 || has_tag tag (line_before group before))
    (faults.Reason tag 15)))

-- The fault of a field that a group has: a count that is no number or not the number of lines (16),
-- or that of a member.
abbrev pub misplaced : Placed → GroupTags → Option TableFault
misplaced p group =
    if p.field.0 == group.count
    then fault_if (not (is_count (number_in p.field.1) (lines_begun group p.after)))
    (faults.Reason p.field.0 16)
    else (if is_inside group p.field.0 then misplaced_member group p.before p.field.0 else None)

abbrev pub in_groups : List GroupTags → Placed → Option TableFault
in_groups groups p = first_of (misplaced p) groups

-- ---- values

-- what a value is to its kind
abbrev pub mark_of : Verdict → Mark
mark_of (Spells text) = marks.Good
mark_of Outside = marks.Outside
mark_of (Wrong reason) = marks.Wrong reason

-- a value outside the profile may stand where the row says something else, or nothing, instead
abbrev pub allowed : Need → Mark → Mark
allowed Lenient marks.Outside = marks.Good
allowed (Fixed text) marks.Outside = marks.Good
allowed need mark = mark

-- A field without a row is at fault where it is empty (4), and else outside the profile, where it
-- may not be passed over.
abbrev pub without_row : Bool → List ℕ → Mark
without_row passed [] = marks.Wrong 4
without_row passed (byte ∷ bytes) = if passed then marks.Good else marks.Outside

abbrev pub by_row : {Kind : Type 0}
    → Judge Kind → Bool → List Field → List ℕ → Option (Row Kind) → Mark
by_row judge passed fields value (Some row) =
    allowed row.need (mark_of (judge fields row.kind value))
by_row judge passed fields value None = without_row passed value

-- a tag, and what its field is
abbrev pub Marked : Type 0
Marked = ℕ × Mark

-- a version of the application that is not spoken (18)
abbrev pub wrong_version : Marked → Option TableFault
wrong_version (tag, marks.Wrong reason) = fault_if (reason == 18) (faults.Reason tag reason)
wrong_version (tag, mark) = None

abbrev pub wrong : Marked → Option TableFault
wrong (tag, marks.Wrong reason) = Some (faults.Reason tag reason)
wrong (tag, mark) = None

abbrev pub beyond : Marked → Option TableFault
beyond (tag, marks.Outside) = Some (faults.Outside tag)
beyond (tag, mark) = None

-- ---- presence

-- a row that has to be said and has no field (1)
abbrev pub missing : {Kind : Type 0} → List Field → Row Kind → Option TableFault
missing fields row =
    fault_if (is_needed row.need fields && not (has_tag row.tag fields)) (faults.Reason row.tag 1)

abbrev pub missing_of : {Kind : Type 0} → List Field → Item Kind → Option TableFault
missing_of fields (One row) = missing fields row
missing_of fields (Party role) = None
missing_of fields (Lines group) =
    first_of (λ line. first_of (missing line) group.rows) (lines_in (tags_in group) fields)

-- ---- a message, by its table and the judge of its values

abbrev pub unless : {A : Type 0} → Option TableFault → A → Result A TableFault
unless None x = Ok x
unless (Some fault) x = Err fault

abbrev pub is_of_group : ℕ → GroupTags → Bool
is_of_group tag group = group.count == tag || is_inside group tag

-- whether a field without a row is passed over: in a table that is not strict, and where it is of a
-- group: its count, or a tag that says nothing
abbrev pub is_passed : {Kind : Type 0} → Table Kind → ℕ → Bool
is_passed table tag =
    not table.strict || list_any (is_of_group tag) (group_tags_in table)

module _ {Kind : Type 0} (judge : Judge Kind) where
  -- what a field of these fields is
  abbrev pub marked : Table Kind → List Field → Field → Marked
  marked table fields f =
      (f.0, by_row judge (is_passed table f.0) fields f.1 (row_at f.0 (all_rows table)))

  -- THE FIRST FAULT: stage by stage, and within a stage by the first place, or the first row.
  unfoldable pub first_fault : Table Kind → List Field → Option TableFault
  first_fault table fields =
      or_else (first_of (twice (once_in table)) (placed_from [] fields))
      (or_else (first_of wrong_version (map (marked table fields) fields))
      (or_else (first_of (in_groups (group_tags_in table)) (placed_from [] fields))
      (or_else (first_of wrong (map (marked table fields) fields))
      (or_else (first_of (missing_of fields) table.items)
      (first_of beyond (map (marked table fields) fields))))))

  -- what the fields say by the rows of the table
  abbrev pub message_in : Table Kind → List Field → Message
  message_in table fields = record {
    letter = table.letter;
    resend = unwrap_or (option_map flag_of (value_at 97 fields)) false;
    cells = flat_map (cells_of judge fields groups) table.items;
    groups = groups;
  }
    where
      groups : List (ℕ × List (List Cell))
      groups = map (group_says judge fields) (groups_in table)

  -- THE MESSAGE that the fields are, or its first fault
  unfoldable pub message_of : Table Kind → List Field → Result Message TableFault
  message_of table fields = unless (first_fault table fields) (message_in table fields)
