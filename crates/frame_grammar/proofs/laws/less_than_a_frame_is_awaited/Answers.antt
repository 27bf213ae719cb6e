use Rattle.frame_grammar.proofs.Awaits.{awaited}
use Rattle.frame_grammar.proofs.laws.less_than_a_frame_is_awaited.Goals as goal

pub returns : goal.returns
returns c = awaited
