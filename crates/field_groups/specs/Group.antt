-- Standard: FIX 4.2, "FIX Message Format and Delivery", "Repeating Groups"; FIX 5.0 SP2, volume 1,
-- "FIX Tag=Value Syntax", "Repeating Groups". At most 32 lines is this gateway's own bound, as is
-- the order in which faults are told.
use Rattle.std.specs.Prelude.{◌≡◌, ℕ, ◌+◌, ◌==◌, ◌&&◌, ◌||◌, Bool, true, false, not, List, [], ◌∷◌}
use Rattle.std.specs.Prelude.{◌++◌, length, drop, filter, count_by, take_while, nat_le, slice_get}
use Rattle.std.specs.Prelude.{Option, Some, None, option_and_then, if◌then◌else◌}
use Rattle.std.specs.Option.{option_or}
use Rattle.std.specs.List.{list_any, last_or}
use Rattle.field_groups.specs.declared.group.TheConstants.{MAX_LINES}
use Rattle.field_groups.specs.declared.group.Shape.{Shape}
use Rattle.field_groups.specs.declared.group.GroupFault.{GroupFault}
use Rattle.field_groups.specs.declared.group.GroupFault.TheVariants.{Count, Order, TooMany}
use Rattle.field_groups.specs.declared.group.GroupFault.TheVariants.{NoMemory}
use Rattle.field_groups.specs.HeadValues.{number_in}
use Rattle.field_groups.specs.Field.{Field, says}

-- the tags of a group: of its count, of the member that begins each line, of its other members, and
-- those that are passed over
pub record Tags : Type 0 where
  pub count : ℕ
  pub first : ℕ
  pub members : List ℕ
  pub skip : List ℕ

abbrev pub tags_of : Shape → Tags
tags_of shape = record {
  count = shape.count;
  first = shape.first;
  members = shape.members.now;
  skip = shape.skip.now;
}

abbrev pub is_one_of : List ℕ → ℕ → Bool
is_one_of tags tag = list_any (λ one. one == tag) tags

-- the tag begins a line, is another member's, or is passed over
abbrev pub is_inside : Tags → ℕ → Bool
is_inside tags tag = tag == tags.first || (is_one_of tags.members tag || is_one_of tags.skip tag)

abbrev pub is_skipped : Tags → ℕ → Bool
is_skipped tags tag = not (tag == tags.first) && is_one_of tags.skip tag

-- a member of a line: its tag, and its place among the fields of the message
abbrev pub Member : Type 0
Member = ℕ × ℕ

-- what is read of a group: its lines, and the place of the first field after it, or the number of
-- fields where none follows
pub record Lines : Type 0 where
  pub lines : List (List Member)
  pub end : ℕ

-- fields as members, the first of them at this place
abbrev pub placed : ℕ → List Field → List Member
placed place [] = []
placed place (f ∷ fs) = (f.0, place) ∷ placed (place + 1) fs

-- what stands of the group behind its count field at this place: the fields up to the first with
-- another tag
abbrev pub run : Tags → ℕ → List Field → List Member
run tags from fields =
    take_while (λ m. is_inside tags m.0) (placed (from + 1) (drop (from + 1) fields))

-- the members of the group
abbrev pub members_of : Tags → List Member → List Member
members_of tags ms = filter (λ m. not (is_skipped tags m.0)) ms

-- whether a line begins with this tag
abbrev pub begins : ℕ → List Member → Bool
begins first [] = false
begins first (m ∷ ms) = m.0 == first

-- a member before lines: it stands alone before a line that begins with the first tag, and else at
-- the front of that line
abbrev pub before_lines : ℕ → Member → List (List Member) → List (List Member)
before_lines first m [] = (m ∷ []) ∷ []
before_lines first m (line ∷ lines) =
    if begins first line then (m ∷ []) ∷ line ∷ lines else (m ∷ line) ∷ lines

-- members in lines: a line ends where the first tag begins the next
unfoldable pub lines_of : ℕ → List Member → List (List Member)
lines_of first [] = []
lines_of first (m ∷ ms) = before_lines first m (lines_of first ms)

abbrev pub has_member : ℕ → List Member → Bool
has_member tag ms = list_any (λ m. m.0 == tag) ms

abbrev pub fault_if : Bool → GroupFault → Option GroupFault
fault_if test fault = if test then Some fault else None

-- a member is out of order where no line has begun, or where its tag stands in the line already
abbrev pub is_astray : ℕ → Option (List Member) → Bool
is_astray tag None = true
is_astray tag (Some line) = has_member tag line

-- what is at fault with a member behind these: it begins a line after 32, or it is out of order
abbrev pub misplaced : Tags → List Member → Member → Option GroupFault
misplaced tags before m =
    if m.0 == tags.first
    then fault_if (nat_le MAX_LINES (length (lines_of tags.first before))) TooMany
    else fault_if (is_astray m.0 (last_or None (lines_of tags.first before))) (Order m.0)

-- the fault of the first member that has one, behind these
unfoldable pub first_misplaced : Tags → List Member → List Member → Option GroupFault
first_misplaced tags before [] = None
first_misplaced tags before (m ∷ ms) =
    option_or (misplaced tags before m) (first_misplaced tags (before ++ m ∷ []) ms)

-- whether the count field at this place says how many lines begin
abbrev pub is_counted : Tags → ℕ → List Field → Bool
is_counted tags from fields =
    says (option_and_then (λ f. number_in f.1) (slice_get fields from))
    (count_by (λ m. m.0 == tags.first) (run tags from fields))

-- THE FAULT of a group, the first by its place: that of the count stands at the count field, before
-- all others
abbrev pub group_fault : Tags → ℕ → List Field → Option GroupFault
group_fault tags from fields =
    if is_counted tags from fields
    then first_misplaced tags [] (members_of tags (run tags from fields))
    else Some (Count tags.count)

-- THE LINES of a group that has no fault
abbrev pub group_lines : Tags → ℕ → List Field → Lines
group_lines tags from fields = record {
  lines = lines_of tags.first (members_of tags (run tags from fields));
  end = from + 1 + length (run tags from fields);
}

-- an answer tells this fault of a group, or it is want of memory
abbrev pub TellsFault : GroupFault → Option GroupFault → Type 0
TellsFault NoMemory fault = Unit {0}
TellsFault told fault = fault ≡ Some told
