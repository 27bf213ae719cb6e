-- Own: the record of a wire on which nothing comes.
use Rattle.std.specs.Prelude.{ℕ, ◌-◌, ◌^◌, ◌==◌, if◌then◌else◌, List, replicate, Some, None}
use Rattle.std.specs.declared.option.Option.{Option}
use Rattle.wires.specs.Wire.{WireCall, Poll, Nothing}

-- so many polls that gave nothing, told as long as their count tells how many they are
abbrev pub quiet : ℕ → Option (List WireCall)
quiet polls = if polls == 2 ^ 64 - 1 then None else Some (replicate polls (Poll Nothing))
