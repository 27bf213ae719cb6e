use Rattle.std.proofs.Common.{subst, sym, arith}
use Rattle.gate_log.specs.Chunk.{StandsAt}
use Rattle.gate_log.proofs.Chunks.{stands_behind}
use Rattle.gate_log.proofs.chunk.Chunk.behind.Goals as goal

pub returns-clause-stands : goal.returns-clause-stands
returns-clause-stands c = λ b stands.
    let inside = c.self.inside in
    stands_behind b inside.place c.args.at c.deref.result.now c.if-at-self.false
    (omega (arith, c.if-len-skipped.false, c.len.ensures, c.deref.ensures.len))
    (subst (StandsAt b inside.place) (sym c.deref.ensures.value)
    (subst (λ p. StandsAt b p.place p.bytes) (sym c.self.view_is) stands))
