use Rattle.request_translate.proofs.Translated.{fair}
use Rattle.request_translate.proofs.translate.UpTranslating.laws.Goals as goal

pub returns : goal.returns
returns c = fair
