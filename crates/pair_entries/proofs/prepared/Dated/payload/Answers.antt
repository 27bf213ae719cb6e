use Rattle.std.proofs.Common.{length, ap, arith}
use Rattle.pair_entries.proofs.Fronts.{entry_short, entry_some}
use Rattle.pair_entries.proofs.prepared.Dated.payload.Goals as goal

pub returns-clause-short : goal.returns-clause-short
returns-clause-short c = omega (
  arith,
  ap length c.self.invariant.written,
  ap length c.deref.ensures.value,
  entry_short c.self.inside.entry c.self.invariant.sound,
)

pub returns-clause-some : goal.returns-clause-some
returns-clause-some c = omega (
  arith,
  ap length c.self.invariant.written,
  ap length c.deref.ensures.value,
  entry_some c.self.inside.entry,
)
