use Rattle.report_rules.proofs.ReadDown.{writes_down}
use Rattle.report_rules.proofs.laws.what_is_read_is_written.Goals as goal

pub returns : goal.returns
returns c = writes_down
