use Rattle.gateway_core.proofs.Planned.{read_as}
use Rattle.gateway_core.proofs.planning.Core.heard.Goals as goal

pub framed-requires-clause-split : goal.framed-requires-clause-split
framed-requires-clause-split c =
    read_as c.args.body.now c.in_ok-split.split.fields c.in_ok-split.split.fault
    c.in_ok-split.ensures
