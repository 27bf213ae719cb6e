-- No other row ends in Down.
use Rattle.session_core.proofs.Links.{is_down_by}
use Rattle.session_core.proofs.laws.down_by_a_hang_up_or_a_loss.Goals as goal

pub returns : goal.returns
returns c = is_down_by
