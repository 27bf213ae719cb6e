use Rattle.wire_sends.specs.Again.{placed_by, run_of}
use Rattle.wire_sends.proofs.Repeating.{again_sent}
use Rattle.wire_sends.proofs.repeats.send_again.Goals as goal

pub returns-clause-sent : goal.returns-clause-sent
returns-clause-sent g c =
    again_sent _ _ _ _ _ _ c.args.names.now c.args.side (run_of c.args.run) c.args.number
    c.args.now (placed_by c.args.side c.args.number c.args.told.now.told) c.bytes.result.now
    (cc) (cc) c.send_run-still.ensures.sent c.send_piece.ensures.sent
