use Rattle.capture_replay.proofs.ReadWhole.{unread, failed}
use Rattle.capture_replay.proofs.input.replay_input.Goals as goal

pub returns-in_err-capture-clause-replays : goal.returns-in_err-capture-clause-replays
returns-in_err-capture-clause-replays g c =
    let read = c.in_err-capture.ensures.read in (
      read.0,
      read.1,
      unread _ read.0 (g.I.Source.left c.capture.new.input) c.args.taps.now.items
          (g.O.Sink.bytes c.args.out.now) c.in_err-capture.field-0.0 c.from_residual.result
          c.from_residual.ensures.1 read.2,
    )

pub returns-in_err-replay-clause-replays : goal.returns-in_err-replay-clause-replays
returns-in_err-replay-clause-replays g c =
    let read = c.in_ok-capture.ensures.read in (
      read.0,
      read.1,
      failed _ read.0 (g.I.Source.left c.capture.new.input) c.args.taps.now.items
          c.replay.new.taps.items (g.O.Sink.bytes c.args.out.now)
          (g.O.Sink.bytes c.replay.new.out) c.in_ok-capture.capture c.in_err-replay.field-0.0
          c.from_residual-in_err-replay.result c.from_residual-in_err-replay.ensures.1
          read.2 c.in_err-replay.ensures.replays,
    )

pub returns-clause-replays : goal.returns-clause-replays
returns-clause-replays g c =
    let read = c.in_ok-capture.ensures.read in
    (read.0, read.1, (c.in_ok-capture.capture, read.2, c.in_ok-replay.ensures.replays))
