use Rattle.wire_sends.proofs.Sendings.{first_sent}
use Rattle.wire_sends.proofs.sends.send_first.Goals as goal

pub returns-clause-sent : goal.returns-clause-sent
returns-clause-sent g c =
    first_sent _ _ _ _ c.args.names.now c.args.side c.args.at c.args.out.now c.is_side.result
    c.bytes.result.now c.is_side.ensures c.if-not-is_side.false (cc) c.send_piece.ensures.sent
