-- Own: what is done to a stream of frames; docs/DECISIONS.md, "Commands".
use Rattle.std.specs.Prelude.{ℕ, Bool, true, false, ◌&&◌, is_some, Some, None}
use Rattle.std.specs.declared.option.Option.{Option}
use Rattle.frame_grammar.specs.declared.frame.Kind.{Kind}
use Rattle.frame_grammar.specs.declared.frame.Kind.TheVariants.{Fix42, Fix44, Fixt11}
use Rattle.gateway_top.specs.declared.task.Task.{Task}
use Rattle.gateway_top.specs.declared.task.Task.TheVariants.{TranslateUp, TranslateDown}
use Rattle.gateway_top.specs.declared.task.Task.TheVariants.{CheckClient, CheckVenue}
use Rattle.gateway_top.specs.declared.task.Task.TheVariants.{TranslateUp44, TranslateDown44}
use Rattle.gateway_top.specs.declared.task.Task.TheVariants.{CheckClient44}

-- the kind of the frames that a task reads
abbrev pub kind_of : Task → Kind
kind_of TranslateUp = Fix42
kind_of TranslateDown = Fixt11
kind_of CheckClient = Fix42
kind_of CheckVenue = Fixt11
kind_of TranslateUp44 = Fix44
kind_of TranslateDown44 = Fixt11
kind_of CheckClient44 = Fix44

-- whether a task ends at the first piece that it refuses
abbrev pub stops : Task → Bool
stops TranslateUp = true
stops TranslateDown = true
stops CheckClient = false
stops CheckVenue = false
stops TranslateUp44 = true
stops TranslateDown44 = true
stops CheckClient44 = false

-- whether a task has ended, where the first piece that it refused begins here
abbrev pub has_ended : Task → Option ℕ → Bool
has_ended task refused = stops task && is_some refused

-- the first of two places
abbrev pub first_of : Option ℕ → Option ℕ → Option ℕ
first_of None other = other
first_of (Some at) other = Some at
