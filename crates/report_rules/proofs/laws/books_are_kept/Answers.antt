use Rattle.report_rules.proofs.SenseDown.{keeps_books}
use Rattle.report_rules.proofs.laws.books_are_kept.Goals as goal

pub returns : goal.returns
returns c = keeps_books
