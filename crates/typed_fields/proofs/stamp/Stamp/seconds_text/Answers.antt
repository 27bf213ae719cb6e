use Rattle.std.proofs.Common.{refl}
use Rattle.typed_fields.specs.Digits.{zero_padded}
use Rattle.typed_fields.proofs.DateLemmas.{day_fits}
use Rattle.typed_fields.proofs.stamp.Stamp.seconds_text.Goals as goal

pub returns : goal.returns
unfolding zero_padded
returns c =
    rw (
      c.day_digits.ensures,
      day_fits c.args.self.now.day c.requires.day,
      c.time_digits.ensures,
    ) refl
