use Rattle.typed_fields.proofs.DecLemmas.{dec_fits, units-lt}
use Rattle.typed_fields.proofs.dec.Dec.push.Goals as goal

pub whole_and_fraction-whole-requires : goal.whole_and_fraction-whole-requires
whole_and_fraction-whole-requires c =
    rw (c.unsigned_abs.ensures.value, dec_fits c.args.self.now c.requires.value)
    (units-lt c.args.self.now c.requires.value)
