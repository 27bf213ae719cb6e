-- Inside: places among the entries of a journal, and the marks of every 64th.
use Rattle.std.specs.Prelude.{◌≡◌, ℕ, ◌+◌, ◌*◌, ◌<◌, ◌≤◌, List, length, take, Some}
use Rattle.std.specs.Prelude.{slice_index_or}
use Rattle.std.specs.List.{slice_get}
use Rattle.order_meaning.specs.declared.Side.{Side}
use Rattle.gate_log.specs.declared.TheConstants.{BIRTH_LEN}
use Rattle.gate_log.specs.Records.{blocks}
use Rattle.pair_entries.specs.declared.entry.Entry.{Entry}
use Rattle.kept_entries.specs.Days.{past_of, dated}
use Rattle.kept_entries.specs.Numbers.{first_numbers, numbers_after, next_out}
use Rattle.kept_entries.specs.declared.spot.Spot.{Spot}
use Rattle.kept_entries.specs.declared.spot.TheConstants.{STRIDE}

-- where the records of these entries end, behind a birth record
abbrev pub end_of : List Entry → ℕ
end_of entries = 5 + BIRTH_LEN + length (blocks (dated 0 entries))

-- the place behind these entries
abbrev pub behind : List Entry → Spot
behind entries = record {
  index = length entries;
  place = end_of entries;
  next = numbers_after first_numbers entries;
}

-- how many entries stand before those of the last day
abbrev pub day_start : List Entry → ℕ
day_start entries = length (past_of entries)

-- the place before the first entry of the last day
abbrev pub at_day : List Entry → Spot
at_day entries = behind (past_of entries)

-- a spot of these entries, before the one of its index
abbrev pub IsSpot : List Entry → Spot → Type 0
IsSpot entries spot = spot ≡ behind (take spot.index entries)

-- this entry stands at a spot of these
pub record StandsAt (entries : List Entry) (spot : Spot) (entry : Entry) : Type 0 where
  pub at : IsSpot entries spot
  pub is : slice_get entries spot.index ≡ Some entry

-- a mark stands behind each 64th of these entries
pub record AreMarks (entries : List Entry) (marks : List Spot) : Type 0 where
  pub most : STRIDE * length marks ≤ length entries
  pub least : length entries < STRIDE * (length marks + 1)
  pub each : (i : ℕ) (d : Spot) → i < length marks →
      slice_index_or marks i d ≡ behind (take (STRIDE * (i + 1)) entries)

-- a walk from this spot of the last day over so many entries at most comes to the one that gave out
-- this number
pub record HoldsOut (entries : List Entry) (side : Side) (number : ℕ) (spot : Spot) : Type 0 where
  pub at : IsSpot entries spot
  pub in_day : day_start entries ≤ spot.index
  pub from : next_out side spot.next ≤ number
  pub to : number
      < next_out side (numbers_after first_numbers (take (spot.index + STRIDE) entries))
