use Rattle.std.proofs.Common.{◌≤◌, IfSome, sym, subst}
use Rattle.pair_entries.specs.declared.TheConstants.{MAX_AT}
use Rattle.kept_entries.proofs.Dating.{is_moment}
use Rattle.kept_entries.proofs.kept.Kept.day_at.Goals as goal

pub returns-clause-bounds : goal.returns-clause-bounds
returns-clause-bounds c = subst (λ o. IfSome o (λ a. a ≤ MAX_AT)) (sym c.self.invariant.at)
    (is_moment c.self.inside.reached c.self.invariant.sound)
