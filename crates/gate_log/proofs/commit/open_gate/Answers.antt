use Rattle.std.proofs.Common.{rules}
use Rattle.gate_log.proofs.CommitSteps.{gate_commits}
use Rattle.gate_log.proofs.commit.open_gate.Goals as goal

pub returns-clause-images : goal.returns-clause-images
returns-clause-images g c = search (rules, gate_commits)
