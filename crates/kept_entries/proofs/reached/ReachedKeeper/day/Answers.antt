use Rattle.kept_entries.proofs.Adding.{day_short}
use Rattle.kept_entries.proofs.reached.ReachedKeeper.day.Goals as goal

pub returns-clause-few : goal.returns-clause-few
returns-clause-few c = day_short c.self.inside.day c.self.inside.past.entries c.self.invariant.day
    c.self.invariant.short
