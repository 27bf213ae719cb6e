use Rattle.std.proofs.Common.{arith}
use Rattle.gate_log.proofs.Payloads.{begins_open}
use Rattle.gate_log.proofs.payload.payload_len.Goals as goal

pub returns-clause-begins : goal.returns-clause-begins
returns-clause-begins c = begins_open c.args.bytes.now c.in-Open.len c.in-Open.ensures
    (omega (arith, c.if-len-gt-MAX_PAYLOAD.false)) (omega (arith, c.if-bytes-len.false))
