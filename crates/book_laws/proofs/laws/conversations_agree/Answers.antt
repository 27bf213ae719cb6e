use Rattle.book_laws.proofs.Both.{conversations}
use Rattle.book_laws.proofs.laws.conversations_agree.Goals as goal

pub returns : goal.returns
returns c = conversations c.decisions_make.ensures c.messages_are_read.ensures.alike
