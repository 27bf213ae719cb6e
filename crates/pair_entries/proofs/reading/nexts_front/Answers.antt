use Rattle.std.proofs.Common.{◌++◌, List, ℕ, arith}
use Rattle.std.specs.Int.{w32, to_be_bytes}
use Rattle.pair_entries.proofs.Fronts.{behind_nexts}
use Rattle.pair_entries.proofs.reading.nexts_front.Goals as goal

pub returns-in_default : goal.returns-in_default
returns-in_default c = λ next rest are is.
    let e = c.in_ok-client.ensures in
    let last : List ℕ = to_be_bytes w32 next.2 ++ (to_be_bytes w32 next.3 ++ rest) in
    c.in_default.ensures next.2 next.3 rest are.2 are.3
    (behind_nexts c.in_ok-client.client.0
    c.in_ok-client.client.1 next.0 next.1 c.in_ok-client.rest.now last c.args.bytes.now
    (omega (arith, e.1.1))
    (omega (arith, e.2.1)) (omega (arith, are.0.1)) (omega (arith, are.1.1)) e.0 is)
