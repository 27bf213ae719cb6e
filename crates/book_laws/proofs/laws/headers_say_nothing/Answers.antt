use Rattle.book_laws.proofs.HeaderMessages.{headers_say_nothing}
use Rattle.book_laws.proofs.laws.headers_say_nothing.Goals as goal

pub returns : goal.returns
returns c = headers_say_nothing
