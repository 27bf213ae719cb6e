-- Inside: an entry beside its payload, on a day.
use Rattle.std.specs.Prelude.{◌≡◌, ℕ, List}
use Rattle.pair_entries.specs.declared.entry.Entry.{Entry}
use Rattle.pair_entries.specs.Payload.{IsEntry, payload_on}

-- an entry on a day
pub record OnDay : Type 0 where
  pub day : ℕ
  pub entry : Entry

pub record IsPayload (day : ℕ) (entry : Entry) (payload : List ℕ) : Type 0 where
  pub written : payload ≡ payload_on day entry
  pub sound : IsEntry entry
