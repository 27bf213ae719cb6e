use Rattle.std.proofs.Common.{IfSome, subst}
use Rattle.pair_journal.specs.State.{JournalState}
use Rattle.pair_journal.specs.Loading.{Tells}
use Rattle.pair_journal.proofs.Loaded.{judged, stands_loaded, images_kept, images_behind, on_ok_one}
use Rattle.pair_journal.proofs.journal.Journal.load.Goals as goal

pub returns-in-Some-clause-loads : goal.returns-in-Some-clause-loads
returns-in-Some-clause-loads g c =
    let told = g.D.Disk.bytes c.args.disk.now in
    judged c.args.names.now told _ c.whole.ensures.only_read.same c.in-Some.journal
    c.if_named.result (subst (λ o. IfSome o (λ (j : JournalState). Tells told j.names j.entries))
    c.in-Some.is c.in_ok-journal.ensures.ok) c.if_named.ensures

pub returns-in-Some-clause-stands : goal.returns-in-Some-clause-stands
returns-in-Some-clause-stands g c =
    let told = g.D.Disk.bytes c.args.disk.now in
    stands_loaded c.args.names.now told _ c.whole.ensures.only_read.same c.in-Some.journal
    c.if_named.result (subst (λ o. IfSome o (λ (j : JournalState). Tells told j.names j.entries))
    c.in-Some.is c.in_ok-journal.ensures.ok) c.if_named.ensures

pub returns-in-Some-clause-images : goal.returns-in-Some-clause-images
returns-in-Some-clause-images g c =
    images_kept c.args.names.now _ _ _ c.whole.ensures.only_read.images

pub returns-clause-images : goal.returns-clause-images
returns-clause-images g c =
    images_behind c.args.names.now _ _ _ _ _ c.whole.ensures.only_read
    c.load_judged.ensures.images

pub returns-clause-durable : goal.returns-clause-durable
returns-clause-durable g c =
    on_ok_one _ _ _ _ _ c.load_judged.result c.whole.ensures.only_read
    c.load_judged.ensures.durable
