use Rattle.pair_journal.proofs.Loaded.{judged, stands_loaded, named_so}
use Rattle.pair_journal.proofs.journal.Journal.of_names.Goals as goal

pub returns-clause-loads : goal.returns-clause-loads
returns-clause-loads g c =
    judged c.args.names.now _ _ c.of_log.ensures.only_read.same
    c.in_ok-journal.journal c.if_named.result c.in_ok-journal.ensures.ok c.if_named.ensures

pub returns-clause-stands : goal.returns-clause-stands
returns-clause-stands g c =
    stands_loaded c.args.names.now _ _ c.of_log.ensures.only_read.same
    c.in_ok-journal.journal c.if_named.result c.in_ok-journal.ensures.ok c.if_named.ensures

pub returns-clause-named : goal.returns-clause-named
returns-clause-named g c =
    named_so c.args.names.now c.in_ok-journal.journal c.if_named.result c.if_named.ensures
