use Rattle.request_translate.proofs.Translated.{frames_keep}
use Rattle.request_translate.proofs.laws.translations_keep_their_sense.Goals as goal

pub returns : goal.returns
returns c = frames_keep
