use Rattle.gateway_core.proofs.NewDay.{is_new_day, prepared_is}
use Rattle.gateway_core.proofs.entries.new_day.Goals as goal

pub prepare-requires : goal.prepare-requires
prepare-requires c = is_new_day c.args.now c.new.result c.requires c.new.ensures

pub returns : goal.returns
returns c = prepared_is c.prepare.result c.args.now c.new.result c.new.ensures c.prepare.ensures
