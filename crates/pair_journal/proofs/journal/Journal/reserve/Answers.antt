use Rattle.pair_journal.proofs.Adding.{lacking}
use Rattle.pair_journal.proofs.journal.Journal.reserve.Goals as goal

pub returns-in_err-reserve-2-clause-err : goal.returns-in_err-reserve-2-clause-err
returns-in_err-reserve-2-clause-err c = lacking c.self.inside.log c.reserve.new.self
    c.self.inside.names c.self.inside.kept c.reserve-2.new.self c.args.self.now c.self.view_is
    c.from_residual-in_err-reserve-2.result c.in_ok-reserve.ensures.ok
    c.in_err-reserve-2.ensures.err c.in_err-reserve-2.ensures.lacks
