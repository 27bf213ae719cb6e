use Rattle.translate_fix44.proofs.Fair.{fair}
use Rattle.translate_fix44.proofs.translate.GoingTranslating.laws.Goals as goal

pub returns : goal.returns
returns c = fair c.args.self.now.way
