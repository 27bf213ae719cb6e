-- Inside: what the outs to a side translate, as a journal keeps it.
use Rattle.std.specs.Prelude.{ℕ, true, false, List, [], ◌∷◌, ◌++◌, None, if◌then◌else◌}
use Rattle.std.specs.Option.{option_map, option_to_list}
use Rattle.std.specs.declared.option.Option.{Option}
use Rattle.order_meaning.specs.declared.Side.{Side}
use Rattle.pair_entries.specs.declared.entry.Out.{Out}
use Rattle.pair_entries.specs.declared.entry.Entry.{Entry}
use Rattle.kept_entries.specs.Numbers.{is_side}
use Rattle.kept_entries.specs.Given.{source_in}
use Rattle.kept_entries.specs.declared.sources.Source.{Source}

-- an out of this number translates what was told
abbrev pub source_at : ℕ → (ℕ × ℕ) → Source
source_at number told = record { number = number; from = told.0; letter = told.1 }

-- what an out of an entry translates, if it goes to this side
abbrev pub source_to : Side → Entry → Out → Option Source
source_to side entry out = elim (is_side side out.side) [
  | true ↦ option_map (source_at out.number) (source_in (record { entry = entry; out = out }))
  | false ↦ None
]

-- what these outs of an entry translate
abbrev pub sources_in : Side → Entry → List Out → List Source
sources_in side entry [] = []
sources_in side entry (out ∷ outs) =
    option_to_list (source_to side entry out) ++ sources_in side entry outs

-- what is kept behind an entry, where these are: with a new day nothing is
abbrev pub noted : Side → Entry → List Source → List Source
noted side entry list =
    if entry.reset then [] else list ++ sources_in side entry entry.outs

-- what the outs of these entries translate
abbrev pub sources_to : Side → List Entry → List Source
sources_to side [] = []
sources_to side (entry ∷ entries) =
    sources_in side entry entry.outs ++ sources_to side entries
