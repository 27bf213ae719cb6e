use Rattle.request_translate.proofs.Sayable.{sayable}
use Rattle.request_translate.proofs.laws.messages_lack_nothing.Goals as goal

pub returns : goal.returns
returns c = sayable
