use Rattle.request_translate.proofs.AsStructs.{again42, again50}
use Rattle.request_translate.proofs.laws.written_is_read_again.Goals as goal

pub returns : goal.returns
returns c = record { fix42 = again42; fix50 = again50 }
