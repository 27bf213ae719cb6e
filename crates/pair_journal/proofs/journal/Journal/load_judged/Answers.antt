use Rattle.std.proofs.Common.{◌≡◌, [], false, IfSome, Ok, subst}
use Rattle.gate_log.specs.Log.{Looks}
use Rattle.pair_journal.proofs.Loaded.{begun, begun_ok, begun_stands, images_kept, images_behind}
use Rattle.pair_journal.proofs.journal.Journal.load_judged.Goals as goal

pub returns-in-Some-clause-images : goal.returns-in-Some-clause-images
returns-in-Some-clause-images g c = images_kept c.args.names.now _ _ _ (λ x here.
    c.look.ensures.only_read.images x (c.of_names.ensures.only_read.images x here))

pub returns-in-None-clause-loads : goal.returns-in-None-clause-loads
returns-in-None-clause-loads g c =
    let told = g.D.Disk.bytes c.args.disk.now in
    begun c.args.names.now told (g.D.Disk.bytes c.look.new.disk) (g.D.Disk.bytes c.begin.new.disk)
    c.begin.result (subst (λ found. IfSome told (λ b. Looks b (Ok found))) c.in-None.is
    c.in_ok-log.ensures.looks)
    (begun_ok (λ j. j.names ≡ c.args.names.now) (λ j. j.entries ≡ []) (λ j. j.broken ≡ false) _
    c.begin.result c.begin.ensures.ok c.begin.ensures.stands) c.begin.ensures.only

pub returns-in-None-clause-stands : goal.returns-in-None-clause-stands
returns-in-None-clause-stands g c =
    begun_stands c.args.names.now _ (λ j. j.broken ≡ false) c.begin.result c.begin.ensures.ok
    c.begin.ensures.stands

pub returns-in-None-clause-images : goal.returns-in-None-clause-images
returns-in-None-clause-images g c =
    images_behind c.args.names.now _ _ _ _ _ c.look.ensures.only_read c.begin.ensures.images
