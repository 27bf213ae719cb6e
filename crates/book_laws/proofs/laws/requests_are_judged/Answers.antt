use Rattle.book_laws.proofs.Judged.{requests_judged}
use Rattle.book_laws.proofs.laws.requests_are_judged.Goals as goal

pub returns : goal.returns
returns c = requests_judged
