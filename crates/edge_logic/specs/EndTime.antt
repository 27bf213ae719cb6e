-- Own: when a line says how long an end by the stop file takes; docs/DECISIONS.md, "The edge".
use Rattle.std.specs.Prelude.{ℕ, ◌/◌, nat_lt, if◌then◌else◌, Some, None}
use Rattle.std.specs.declared.option.Option.{Option}
use Rattle.edge_logic.specs.declared.end_time.TheConstants.{ROUNDS_A_SECOND, LONG_END}

abbrev pub long_end : ℕ → Option ℕ
long_end rounds = let seconds = rounds / ROUNDS_A_SECOND in
    if nat_lt LONG_END seconds then Some seconds else None
