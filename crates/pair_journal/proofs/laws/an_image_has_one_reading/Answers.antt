use Rattle.pair_journal.proofs.OneReading.{one_reading}
use Rattle.pair_journal.proofs.laws.an_image_has_one_reading.Goals as goal

pub returns : goal.returns
returns c = one_reading
