use Rattle.translation.proofs.Outcomes.{one_outcome}
use Rattle.request_translate.specs.Translation.{up}
use Rattle.request_translate.proofs.laws.bodies_have_one_outcome.Goals as goal

pub returns : goal.returns
returns c = one_outcome up
