use Rattle.report_translate.proofs.Translated.{fair}
use Rattle.report_translate.proofs.report.DownTranslating.laws.Goals as goal

pub returns : goal.returns
returns c = fair
