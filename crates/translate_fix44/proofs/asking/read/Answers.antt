use Rattle.translate_fix44.proofs.Known.{few_asked}
use Rattle.translate_fix44.proofs.asking.read.Goals as goal

pub read_lines-requires : goal.read_lines-requires
read_lines-requires c = few_asked _ c.args.fields.now c.requires
