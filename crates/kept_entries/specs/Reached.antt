-- Inside: where the entries of a journal end, beside these, which clauses alone see.
use Rattle.std.specs.Prelude.{◌≡◌, ◌<◌, ◌^◌}
use Rattle.kept_entries.specs.declared.reached.Reached.TheInside.{Inside}
use Rattle.kept_entries.specs.Numbers.{first_numbers}
use Rattle.kept_entries.specs.Entries.{DaysGoOn}
use Rattle.kept_entries.specs.Days.{day_number}
use Rattle.kept_entries.specs.Spots.{behind, end_of}

pub record IsReached (reached : Inside) : Type 0 where
  pub sound : DaysGoOn first_numbers reached.past.entries
  pub end : reached.end ≡ behind reached.past.entries
  pub short : end_of reached.past.entries < 2 ^ 32
  pub day : reached.day ≡ day_number reached.past.entries
