use Rattle.reject_rules.proofs.Short.{fault_short, used_short, away_short, told_short}
use Rattle.reject_rules.proofs.laws.refusals_are_short.Goals as goal

pub returns-clause-fault : goal.returns-clause-fault
returns-clause-fault c = fault_short

pub returns-clause-used : goal.returns-clause-used
returns-clause-used c = used_short

pub returns-clause-away : goal.returns-clause-away
returns-clause-away c = away_short

pub returns-clause-told : goal.returns-clause-told
returns-clause-told c = told_short
