use Rattle.reject_rules.proofs.Plain.{fault_plain, used_plain, away_plain, told_plain}
use Rattle.reject_rules.proofs.laws.refusals_name_their_message.Goals as goal

pub returns-clause-fault : goal.returns-clause-fault
returns-clause-fault c = fault_plain

pub returns-clause-used : goal.returns-clause-used
returns-clause-used c = used_plain

pub returns-clause-away : goal.returns-clause-away
returns-clause-away c = away_plain

pub returns-clause-told : goal.returns-clause-told
returns-clause-told c = told_plain
