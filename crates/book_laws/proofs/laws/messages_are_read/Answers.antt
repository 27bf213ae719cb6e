use Rattle.book_laws.proofs.Ids.{ids_compared}
use Rattle.book_laws.proofs.Refusals.{refusals_heard}
use Rattle.book_laws.proofs.Session.{bodies_alike, sessions_plain, sent_plain}
use Rattle.book_laws.proofs.Texts.{answers_heard}
use Rattle.book_laws.proofs.laws.messages_are_read.Goals as goal

pub returns-clause-ids : goal.returns-clause-ids
returns-clause-ids c = ids_compared

pub returns-clause-refusals : goal.returns-clause-refusals
returns-clause-refusals c = refusals_heard

pub returns-clause-texts : goal.returns-clause-texts
returns-clause-texts c = answers_heard c.answers_are_given_out.ensures

pub returns-clause-alike : goal.returns-clause-alike
returns-clause-alike c = bodies_alike

pub returns-clause-plain : goal.returns-clause-plain
returns-clause-plain c = sessions_plain

pub returns-clause-plain_outs : goal.returns-clause-plain_outs
returns-clause-plain_outs c = sent_plain
