use Rattle.gateway_top.proofs.serving.serve.Goals as goal

pub returns-clause-serves : goal.returns-clause-serves
returns-clause-serves g c =
    let read = c.in_ok-config.ensures.read in
    let config = c.in_ok-config.config in
    let shown = c.read_names_are_shown.ensures read.0 config read.2.2 in
    let live = c.live.ensures in
    (read.0, read.1, (config, read.2, shown, (live.lived, live.taps)))
