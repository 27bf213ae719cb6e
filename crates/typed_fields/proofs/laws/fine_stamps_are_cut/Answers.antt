use Rattle.typed_fields.proofs.StampLaws.{read_cut, read_finer, read_whole}
use Rattle.typed_fields.proofs.laws.fine_stamps_are_cut.Goals as goal

pub returns : goal.returns
returns c = record { read = read_finer; whole = read_whole; cut = read_cut }
