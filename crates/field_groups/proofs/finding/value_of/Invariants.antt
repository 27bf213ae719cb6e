use Rattle.std.proofs.Common.{◌-◌}
use Rattle.std.specs.Option.{option_map}
use Rattle.field_groups.proofs.ByTag.{Passed}
use Rattle.field_groups.proofs.finding.value_of.Given as goal

abbrev pub invariant-loop-count : goal.invariant-loop-count
invariant-loop-count l =
    Passed l.tag l.body (option_map (λ f. (f.0, f.1.now)) l.before) l.count l.rest

abbrev pub decreases-loop-count : goal.decreases-loop-count
decreases-loop-count l = 256 - l.count
