use Rattle.std.proofs.Common.{rules}
use Rattle.gate_log.proofs.CommitSteps.{record_keeps}
use Rattle.gate_log.proofs.commit.write_record.Goals as goal

pub returns-clause-images : goal.returns-clause-images
returns-clause-images g c = search (rules, record_keeps)
