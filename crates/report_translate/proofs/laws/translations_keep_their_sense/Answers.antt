use Rattle.report_translate.proofs.KeptSense.{frames_keep}
use Rattle.report_translate.proofs.laws.translations_keep_their_sense.Goals as goal

pub returns : goal.returns
returns c = frames_keep
