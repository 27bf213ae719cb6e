use Rattle.std.proofs.Common.{◌≡◌, ◌-◌, length, drop, subst, sym, arith}
use Rattle.gate_log.specs.Chunk.{BeginsWith}
use Rattle.gate_log.proofs.Payloads.{found_there}
use Rattle.gate_log.proofs.chunk.Chunk.find.Goals as goal

pub returns-in_default-clause-none : goal.returns-in_default-clause-none
returns-in_default-clause-none c = λ no first payload begins.
    c.in_default.ensures.begins payload
    (subst (λ l. BeginsWith l payload) (sym (c.behind-there.ensures.all first)) begins)

pub returns-clause-found : goal.returns-clause-found
returns-clause-found c = λ yes b stands.
    let there = c.behind-there.result.now in
    found_there b c.args.at c.self.inside.bytes.items there c.len.result c.in-Some.len
    (c.behind-there.ensures.stands b stands)
    (subst (λ p. there ≡ drop (length p.bytes - length there) p.bytes) (sym c.self.view_is)
    c.behind-there.ensures.end)
    (omega (arith, c.len.ensures)) c.in-Some.ensures.begins
