use Rattle.std.proofs.Common.{sym, subst}
use Rattle.wire_sends.specs.Sent.{Sent}
use Rattle.wire_sends.proofs.Sendings.{sent_append, firsts_split}
use Rattle.wire_sends.proofs.sends.+send_outs.Goals as goal

pub returns-in-len1-up-clause-sent : goal.returns-in-len1-up-clause-sent
returns-in-len1-up-clause-sent g t c =
    subst (λ l. Sent (g.W.Wire.recorded c.args.wire.now) (g.W.Wire.recorded c.send_outs.new.wire)
    c.args.up l c.send_outs.result)
    (sym (firsts_split c.args.names.now c.args.side c.args.at c.args.outs.now c.out-item.result
    c.in-len1-up.len_at_least c.out-item.is))
    (sent_append _ _ _ _ _ _ _ _ c.send_first-still.ensures.sent c.send_outs.ensures.sent)
