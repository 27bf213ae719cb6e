use Rattle.drop_taps.proofs.Showing.{seen_empty}
use Rattle.drop_taps.proofs.taps.show.Goals as goal

pub returns-in-None : goal.returns-in-None
returns-in-None g c = seen_empty _ c.args.taps.now.items c.args.entry.now c.in-None.is
