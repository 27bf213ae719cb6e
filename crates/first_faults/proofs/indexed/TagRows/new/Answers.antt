use Rattle.first_faults.proofs.ByTags.{no_rows}
use Rattle.first_faults.proofs.indexed.TagRows.new.Goals as goal

pub returns : goal.returns
returns c = λ table. no_rows table 128
