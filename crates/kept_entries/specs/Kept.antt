-- Inside: what a journal keeps of its entries in memory: none of them, but their end, the marks and
-- what their outs translate.
use Rattle.std.specs.Prelude.{◌≡◌, ◌+◌, ◌≤◌, true, if◌then◌else◌}
use Rattle.std.specs.Vec.{vec_len, vec_capacity}
use Rattle.order_meaning.specs.declared.Side.TheVariants.{Client, Venue}
use Rattle.pair_entries.specs.declared.TheConstants.{MAX_OUTS}
use Rattle.kept_entries.specs.declared.kept.Kept.TheInside.{Inside}
use Rattle.kept_entries.specs.Numbers.{first_numbers}
use Rattle.kept_entries.specs.Entries.{DaysGoOn}
use Rattle.kept_entries.specs.Days.{last_day, day_at}
use Rattle.kept_entries.specs.Spots.{at_day, AreMarks}
use Rattle.kept_entries.specs.Sources.{sources_to}
use Rattle.kept_entries.specs.State.{KeptState}

abbrev pub state_of : Inside → KeptState
state_of kept = record {
  entries = kept.reached;
  spare = if kept.spare then 1 else 0;
}

-- there is room for a mark, and for what the outs of an entry translate
pub record HasRoom (kept : Inside) : Type 0 where
  pub marks : vec_len kept.marks + 1 ≤ vec_capacity kept.marks
  pub client : vec_len kept.client + MAX_OUTS ≤ vec_capacity kept.client
  pub venue : vec_len kept.venue + MAX_OUTS ≤ vec_capacity kept.venue

pub record IsKept (kept : Inside) : Type 0 where
  pub sound : DaysGoOn first_numbers kept.reached
  pub begins : kept.begins ≡ at_day kept.reached
  pub at : kept.at ≡ day_at kept.reached
  pub marks : AreMarks kept.reached kept.marks.items
  pub client : kept.client.items ≡ sources_to Client (last_day kept.reached)
  pub venue : kept.venue.items ≡ sources_to Venue (last_day kept.reached)
  pub room : kept.spare ≡ true → HasRoom kept
