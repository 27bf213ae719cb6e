-- Inside: what `src/laws.rt` says of the definitions.
use Rattle.std.specs.Prelude.{◌≡◌, ℕ, ◌≤◌, ◌↔◌, ◌==◌, true, false, List, [], ◌∷◌, Option, None}
use Rattle.std.specs.Prelude.{length, count_by, All}
use Rattle.std.specs.List.{flat_map, AllByRecursion}
use Rattle.field_groups.specs.declared.fault.SplitFault.{SplitFault}
use Rattle.field_groups.specs.Field.{Field, AreFields, IsPlainField, body_of}
use Rattle.field_groups.specs.Fields.{SplitsInto, max_fields}
use Rattle.field_groups.specs.declared.group.TheConstants.{MAX_LINES}
use Rattle.field_groups.specs.Group.{Tags, Member, run, members_of, begins, has_member}
use Rattle.field_groups.specs.Group.{is_counted, group_fault, group_lines}

-- each body has a list of fields, and a fault or none
abbrev pub EveryBodySplits : Type 0
EveryBodySplits = (body : List ℕ)
    → (fields : List Field) × (fault : Option SplitFault) × SplitsInto body fields fault

-- and only one
abbrev pub FieldsAreDetermined : Type 0
FieldsAreDetermined =
    (body : List ℕ) (some others : List Field) (fault other : Option SplitFault) →
    SplitsInto body some fault → SplitsInto body others other → (some ≡ others) × (fault ≡ other)

-- with no fault, it is the fields as they are written
abbrev pub FieldsReadAgain : Type 0
FieldsReadAgain =
    (body : List ℕ) (fields : List Field) →
    (SplitsInto body fields None)
    ↔ ((body ≡ body_of fields) × AreFields None fields × (length fields ≤ max_fields))

-- fields of no raw bytes are read again in any order
abbrev pub PlainFieldsReadAgain : Type 0
PlainFieldsReadAgain = (fields : List Field)
    → All IsPlainField fields → length fields ≤ max_fields → SplitsInto (body_of fields) fields None

-- no tag stands twice among these
abbrev pub IsOnce : List Member → Type 0
IsOnce [] = Unit {0}
IsOnce (m ∷ ms) = (has_member m.0 ms ≡ false) × IsOnce ms

-- a line begins with the first tag, and no tag stands twice in it
pub record IsLine (first : ℕ) (line : List Member) : Type 0 where
  pub begun : begins first line ≡ true
  pub once : IsOnce line

-- These are the lines of these members: they have them in their order, and there are at most 32, as
-- many as first tags.
pub record AreLines (first : ℕ) (members : List Member) (lines : List (List Member)) : Type 0 where
  pub joined : flat_map (λ line. line) lines ≡ members
  pub each : AllByRecursion (IsLine first) lines
  pub at_most : length lines ≤ MAX_LINES
  pub counted : count_by (λ m. m.0 == first) members ≡ length lines

-- a group with no fault has such lines, and its count says how many
abbrev pub GroupsAreLines : Type 0
GroupsAreLines =
    (tags : Tags) (from : ℕ) (fields : List Field) → group_fault tags from fields ≡ None →
    AreLines
    tags.first (members_of tags (run tags from fields)) (group_lines tags from fields).lines
    × (is_counted tags from fields ≡ true)
