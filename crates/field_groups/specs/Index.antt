-- Inside: where the first field of each tag stands, kept beside the fields; and which stands last.
use Rattle.std.specs.Prelude.{◌≡◌, ◌==◌, ◌<◌, ◌≤◌, ◌+◌, ◌%◌, ℕ, zero, suc, List}
use Rattle.std.specs.Prelude.{Option, Some, None, length, map, nat_lt, position, slice_index}
use Rattle.std.specs.Prelude.{slice_set, if◌then◌else◌}
use Rattle.std.specs.Borrow.{Bor}
use Rattle.std.specs.List.{last_or}
use Rattle.field_groups.specs.Field.{Field}

-- a place that is counted from 1, or 0 for none
abbrev pub counted_place : ℕ → Option ℕ
counted_place zero = None
counted_place (suc place) = Some place

-- The slots of the index, and that of a tag: tags below 448 have one each, all others share 64.
abbrev pub slots : ℕ
slots = 512

abbrev pub slot_of : ℕ → ℕ
slot_of tag = if nat_lt tag 448 then tag else 448 + tag % 64

-- at most 256 fields, and for each slot the place of the first field whose tag has it
pub record IsIndexed (parts : List (ℕ × Bor (List ℕ))) (first : List ℕ) : Type 0 where
  pub few : length parts ≤ 256
  pub whole : length first ≡ slots
  pub place : (slot : ℕ) → slot < slots
      → position (λ part. slot_of part.0 == slot) parts ≡ counted_place (slice_index first slot)

-- the index with the place of one more field, counted from 0, whose tag has this slot
abbrev pub with_place : List ℕ → ℕ → ℕ → List ℕ
with_place first slot place =
    if slice_index first slot == 0 then slice_set first slot (suc place) else first

-- the tag and the value of the field that stands last
abbrev pub last_field : List (ℕ × Bor (List ℕ)) → Option Field
last_field parts = last_or None (map (λ p. (p.0, p.1.now)) parts)
