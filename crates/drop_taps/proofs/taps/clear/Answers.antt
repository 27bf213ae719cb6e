use Rattle.std.proofs.Common.{rules}
use Rattle.drop_taps.proofs.Retained.{filter_shown}
use Rattle.drop_taps.proofs.taps.clear.Goals as goal

pub returns : goal.returns
returns g c = filter_shown _ _ _ (λ y b f' k. search rules) _ _ c.retain.ensures.filtered
