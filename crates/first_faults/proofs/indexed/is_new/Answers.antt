use Rattle.first_faults.proofs.Marked.{is_unset, set_bit}
use Rattle.first_faults.proofs.indexed.is_new.Goals as goal

pub returns-clause-new : goal.returns-clause-new
returns-clause-new c = λ yes. is_unset c.args.come.now c.args.place yes

pub returns-clause-come : goal.returns-clause-come
returns-clause-come c = set_bit c.args.come.now c.args.place c.requires
