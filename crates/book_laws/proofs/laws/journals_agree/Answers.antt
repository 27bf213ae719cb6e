use Rattle.book_laws.proofs.Both.{journals}
use Rattle.book_laws.proofs.laws.journals_agree.Goals as goal

pub returns : goal.returns
returns c =
    let m = c.messages_are_read.ensures in
    journals c.decisions_make.ensures m.texts c.headers_say_nothing.ensures m.ids m.refusals m.alike
    m.plain_outs
