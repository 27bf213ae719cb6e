use Rattle.std.proofs.Common.{◌∙◌}
use Rattle.wire_sends.proofs.Sendings.{fill_sent}
use Rattle.wire_sends.proofs.repeats.send_run.Goals as goal

pub returns-in-Some-clause-sent : goal.returns-in-Some-clause-sent
returns-in-Some-clause-sent g c =
    fill_sent _ _ _ _ c.args.names.now c.args.side c.args.run c.in-Some.run' c.args.number
    c.args.now c.bytes.result.now c.in-Some.is (c.bytes.ensures ∙ c.fill_out.ensures)
    c.send_piece.ensures.sent
