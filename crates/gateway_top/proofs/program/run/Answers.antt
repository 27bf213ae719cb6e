use Rattle.std.proofs.Common.{◌≡◌, ◌∙◌, ap, Some}
use Rattle.gateway_top.proofs.ByNumbers.{if_serve, if_replay, if_drill, within, on_err_all}
use Rattle.gateway_top.proofs.program.run.Goals as goal

pub returns-in-Some-Serve-clause-serves : goal.returns-in-Some-Serve-clause-serves
returns-in-Some-Serve-clause-serves g c =
    let served = c.serve.ensures.serves in
    if_serve _ c.read_command.result c.in-Some-Serve.rounds _ c.read_command.ensures.command
    (c.in-Some-Serve.is ∙ ap (λ command. Some command) c.in-Some-Serve.field-0-is) (
      served.0,
      served.1,
      (
        c.serve.result,
        c.of_serve.ensures,
        served.2,
        on_err_all (c.serve.new.disk ≡ c.args.disk.now) (c.serve.new.client ≡ c.args.client.now)
            (c.serve.new.venue ≡ c.args.venue.now) (c.serve.new.clock ≡ c.args.clock.now)
            (c.serve.new.taps ≡ c.args.taps.now) c.serve.result c.serve.ensures.disk
            c.serve.ensures.client c.serve.ensures.venue c.serve.ensures.clock c.serve.ensures.taps,
      ),
    )

pub returns-in-Some-Replay-clause-replays : goal.returns-in-Some-Replay-clause-replays
returns-in-Some-Replay-clause-replays g c =
    let replays = c.replay_input.ensures.replays in
    if_replay _ c.read_command.result _ c.read_command.ensures.command
    (c.in-Some-Replay.is ∙ ap (λ command. Some command) c.in-Some-Replay.field-0-is)
    (replays.0, replays.1, (c.replay_input.result, c.of_replay.ensures, replays.2))

pub returns-in-Some-Drill-clause-drills : goal.returns-in-Some-Drill-clause-drills
returns-in-Some-Drill-clause-drills g c =
    if_drill _ c.read_command.result c.in-Some-Drill.first c.in-Some-Drill.count _
    c.read_command.ensures.command
    (c.in-Some-Drill.is ∙ ap (λ command. Some command) c.in-Some-Drill.field-0-is)
    (c.drill.result, c.of_drill.ensures, c.drill.ensures.drills)

pub drill-requires-clause-first : goal.drill-requires-clause-first
drill-requires-clause-first g c =
    let bounds = within _ c.in-Some-Drill.first c.in-Some-Drill.count
    (c.in-Some-Drill.is ∙ ap (λ command. Some command) c.in-Some-Drill.field-0-is)
    c.read_command.ensures.within in
    bounds.0

pub drill-requires-clause-count : goal.drill-requires-clause-count
drill-requires-clause-count g c =
    let bounds = within _ c.in-Some-Drill.first c.in-Some-Drill.count
    (c.in-Some-Drill.is ∙ ap (λ command. Some command) c.in-Some-Drill.field-0-is)
    c.read_command.ensures.within in
    (bounds.1, bounds.2)
