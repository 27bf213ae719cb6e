use Rattle.book_laws.proofs.Both.{peers}
use Rattle.book_laws.proofs.laws.peers_agree.Goals as goal

pub returns : goal.returns
returns c = peers c.journals_agree.ensures c.conversations_agree.ensures
