use Rattle.gate_log.proofs.Blocks.{Stands-unique}
use Rattle.gate_log.proofs.laws.an_image_stands_for_one_list.Goals as goal

pub returns : goal.returns
returns c = Stands-unique
