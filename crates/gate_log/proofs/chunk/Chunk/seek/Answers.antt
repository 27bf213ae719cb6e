use Rattle.std.proofs.Common.{subst, sym}
use Rattle.gate_log.specs.Chunk.{StandsAt, IsFront}
use Rattle.gate_log.proofs.Told.{if_some, at_some}
use Rattle.gate_log.proofs.Payloads.{none_reads}
use Rattle.gate_log.proofs.chunk.Chunk.seek.Goals as goal

pub returns-then-find-clause-found : goal.returns-then-find-clause-found
returns-then-find-clause-found g c = λ yes.
    let told = g.D.Disk.bytes c.args.disk.now in
    if_some told _ (λ b e. c.find.ensures.found c.if-find.true b
    (at_some told (λ x. StandsAt x c.args.self.now.place c.args.self.now.bytes) b e c.requires.of))

pub returns-clause-found : goal.returns-clause-found
returns-clause-found g c = λ yes.
    let told = g.D.Disk.bytes c.args.disk.now in
    if_some told _ (λ b e. c.find-2.ensures.found (cc yes) b
    (subst (λ n. StandsAt b n c.fill.new.self.bytes) (sym c.in_ok-fill.ensures.place)
    (at_some told (λ x. IsFront c.args.place 65541 c.fill.new.self.bytes x) b e
    c.in_ok-fill.ensures.read).1))

pub returns-clause-none : goal.returns-clause-none
returns-clause-none g c = λ no. none_reads (g.D.Disk.bytes c.args.disk.now) c.args.place
    c.fill.new.self.bytes c.in_ok-fill.ensures.read
    (λ payload begins. c.find-2.ensures.none (cc no) (sym c.in_ok-fill.ensures.place)
    payload begins)
