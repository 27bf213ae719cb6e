use Rattle.journal_migrate.proofs.OneReading.{one_reading}
use Rattle.journal_migrate.proofs.laws.an_image_has_one_reading.Goals as goal

pub returns : goal.returns
returns c = λ image. one_reading image
