use Rattle.std.proofs.Common.{◌∙◌, IfSome, drop, length, subst, ◌≡◌, arith}
use Rattle.gate_log.specs.Scan.{IsHead}
use Rattle.gate_log.specs.Chunk.{IsOf}
use Rattle.gate_log.proofs.Scanning.{on, longer, only_read_on, found_broken}
use Rattle.gate_log.proofs.scan.scan.Goals as goal

pub gates-preserved : goal.gates-preserved
gates-preserved g c =
    let i = c.gates.invariant in
    let read = only_read_on _ _ _ _ _ _ i.only_read c.head_at.ensures.only_read in
    let now = c.in_ok-size-2.size in
    let told = g.D.Disk.bytes c.args.disk.now in
    record {
      faults = c.in_ok-size-2.ensures.cause.still ∙ c.in_ok-head.ensures.cause ∙ i.faults;
      only_read = only_read_on _ _ _ _ _ _ read c.size_at.ensures.only_read;
      of = subst (λ t. IsOf t c.head_at.new.self) i.only_read.same c.in_ok-head.ensures.of;
      long = omega (arith, i.long, c.in_ok-size-2.ensures.longer);
      so_far = on told now c.gates.count c.gates.end
          (omega (arith, i.long, c.in_ok-size-2.ensures.longer))
          (longer told c.gates.size now c.gates.count c.gates.end c.in_ok-size-2.ensures.longer
          (subst (λ t. IfSome t (λ b. c.gates.size ≡ length b → now ≡ length b)) read.same
          c.in_ok-size-2.ensures.told) i.so_far) c.in_ok-head.head (subst (λ t. IfSome t (λ b.
          IsHead (drop c.gates.end b) c.in_ok-head.head)) i.only_read.same
          c.in_ok-head.ensures.head) c.in-On.len c.in-On.ensures;
    }

pub returns-in-Break-clause-found : goal.returns-in-Break-clause-found
returns-in-Break-clause-found g c =
    let i = c.gates.invariant in
    let read = only_read_on _ _ _ _ _ _ i.only_read c.head_at.ensures.only_read in
    let now = c.in_ok-size-2.size in
    let told = g.D.Disk.bytes c.args.disk.now in
    found_broken told now c.gates.count c.gates.end
    (omega (arith, i.long, c.in_ok-size-2.ensures.longer))
    (longer told c.gates.size now c.gates.count c.gates.end c.in_ok-size-2.ensures.longer
    (subst (λ t. IfSome t (λ b. c.gates.size ≡ length b → now ≡ length b)) read.same
    c.in_ok-size-2.ensures.told) i.so_far) c.in_ok-head.head (subst (λ t. IfSome t (λ b.
    IsHead (drop c.gates.end b) c.in_ok-head.head)) i.only_read.same
    c.in_ok-head.ensures.head) c.in-Break.ensures
