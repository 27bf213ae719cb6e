-- Own: which fields of its header a translation carries, and in which order; docs/DECISIONS.md,
-- "Translations". The fields are those of the standard header of FIX 4.2 and FIXT 1.1.
use Rattle.std.specs.Prelude.{ℕ, List, [], ◌∷◌, ◌++◌, map, ◌==◌, ◌&&◌, ◌||◌, if◌then◌else◌}
use Rattle.std.specs.List.{flat_map}
use Rattle.std.specs.Result.{is_ok}
use Rattle.typed_fields.specs.Stamp.{cut_text, read_fine}
use Rattle.field_groups.specs.Field.{Field}
use Rattle.message_tables.specs.Tables.{Tag, value_at}
use Rattle.message_tables.specs.Content.{cell_fields}

-- the type of a message, which is the value of its first field, MsgType(35)
abbrev pub type_of : List Field → List ℕ
type_of [] = []
type_of (field ∷ fields) = field.1

-- The header fields that a translation carries, as they stand, in the order of writing:
-- SenderCompID, TargetCompID, MsgSeqNum, PossDupFlag, PossResend, SendingTime, OrigSendingTime.
abbrev pub carried_tags : List ℕ
carried_tags = 49 ∷ 56 ∷ 34 ∷ 43 ∷ 97 ∷ 52 ∷ 122 ∷ []

abbrev pub carried_field : List Field → ℕ → List Field
carried_field fields tag = cell_fields (Tag tag, value_at tag fields)

abbrev pub carried : List Field → List Field
carried fields = flat_map (carried_field fields) carried_tags

-- What is carried of a value on the way down: of SendingTime and OrigSendingTime, where they are
-- moments in the fine form, no more digits of the second than three.
abbrev pub carried_down : ℕ → List ℕ → List ℕ
carried_down tag value =
    if (tag == 52 || tag == 122) && is_ok (read_fine value) then cut_text value else value

abbrev pub head_down : List Field → List Field
head_down fields = map (λ field. (field.0, carried_down field.0 field.1)) fields

-- MsgType, and those of the header
abbrev pub header : List Field → List Field
header fields = (35, type_of fields) ∷ carried fields

-- the fields that stand for these: MsgType, those of the header, and then a content
abbrev pub with_content : List Field → List Field → List Field
with_content fields written = (35, type_of fields) ∷ carried fields ++ written
