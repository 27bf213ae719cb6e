use Rattle.std.proofs.Common.{ap, ◌∙◌}
use Rattle.gateway_config.specs.declared.config.Config.{Config}
use Rattle.gateway_life.proofs.Living.{lived_unbegun, lived_whole, lived_stopped, unbegun_foreign}
use Rattle.gateway_life.proofs.Living.{begun_not_foreign, unbegun_refused, refused_events}
use Rattle.gateway_life.proofs.Polling.{durable_on}
use Rattle.gateway_life.proofs.Telling.{told_err, ended_event}
use Rattle.gateway_life.proofs.TapsShown.{taps_unbegun, taps_whole}
use Rattle.gateway_life.proofs.CausedWhole.{cause_unbegun, cause_whole}
use Rattle.gateway_life.proofs.Joining.{stands_kept}
use Rattle.gateway_life.proofs.life.lived.Goals as goal

pub returns-in_err-life-clause-ends : goal.returns-in_err-life-clause-ends
returns-in_err-life-clause-ends g c =
    lived_unbegun c.from_residual.result c.in_err-life.field-0.0 c.args.config.now.names
    (g.D.Disk.bytes c.args.disk.now) _ _ _ _ _ c.from_residual.ensures.1
    c.in_err-life.ensures.begins c.begin.ensures.images

pub returns-clause-done : goal.returns-clause-done
returns-clause-done g c =
    lived_whole c.whole.result c.args.config.now c.in_ok-life.life.engine.core.config c.args.rounds
    (g.D.Disk.bytes c.args.disk.now) (g.D.Disk.bytes c.begin.new.disk) _ c.in_ok-life.life
    c.whole.new.self _ _ _ _
    c.in_ok-life.ensures.config c.in_ok-life.ensures.begun c.in_ok-life.ensures.begins
    c.begin.ensures.told (stands_kept _ _ _ _ _ c.whole.result c.whole.ensures.kept)
    c.whole.ensures.done

pub returns-clause-only : goal.returns-clause-only
returns-clause-only g c =
    ended_event c.whole.result (g.D.Disk.bytes c.begin.new.disk) c.whole.ensures.kept.only

pub returns-clause-ends : goal.returns-clause-ends
returns-clause-ends g c =
    lived_stopped c.whole.result c.args.config.now c.in_ok-life.life.engine.core.config
    c.args.rounds (g.D.Disk.bytes c.args.disk.now) (g.D.Disk.bytes c.begin.new.disk) _ _ _
    c.in_ok-life.life _ _ _ _ _ c.in_ok-life.ensures.config c.in_ok-life.ensures.begun
    c.in_ok-life.ensures.begins c.begin.ensures.told c.in_ok-life.ensures.durable
    c.whole.ensures.kept.only c.whole.ensures.ends

pub returns-in_err-life-clause-taps : goal.returns-in_err-life-clause-taps
returns-in_err-life-clause-taps g c =
    taps_unbegun c.an_image_has_one_reading.ensures _ c.from_residual.result c.args.taps.now.items
    c.args.config.now.names (g.D.Disk.bytes c.args.disk.now) _ _ c.begin.ensures.images

pub returns-clause-taps : goal.returns-clause-taps
returns-clause-taps g c =
    taps_whole c.an_image_has_one_reading.ensures _ c.whole.result _ _ c.args.config.now.names
    (g.D.Disk.bytes c.args.disk.now) _ _ _ c.whole.ensures.kept
    (ap (λ (k : Config). k.names) c.in_ok-life.ensures.config) c.in_ok-life.ensures.begins
    c.begin.ensures.told c.in_ok-life.ensures.durable

pub returns-in_err-life-clause-journal_cause : goal.returns-in_err-life-clause-journal_cause
returns-in_err-life-clause-journal_cause g c =
    cause_unbegun c.an_image_has_one_reading.ensures c.from_residual.result c.in_err-life.field-0.0
    c.args.config.now.names (g.D.Disk.bytes c.args.disk.now) _ _ c.from_residual.ensures.1
    c.in_err-life.ensures.begins c.begin.ensures.images

pub returns-clause-journal_cause : goal.returns-clause-journal_cause
returns-clause-journal_cause g c =
    cause_whole c.an_image_has_one_reading.ensures _ c.whole.result _ _ c.args.config.now.names
    (g.D.Disk.bytes c.args.disk.now) _ _ _ c.whole.ensures.kept
    (ap (λ (k : Config). k.names) c.in_ok-life.ensures.config) c.in_ok-life.ensures.begins
    c.begin.ensures.told c.in_ok-life.ensures.durable

pub returns-in_err-life-clause-foreign : goal.returns-in_err-life-clause-foreign
returns-in_err-life-clause-foreign g c =
    unbegun_foreign _ c.from_residual.result c.args.config.now.names
    (g.D.Disk.bytes c.args.disk.now) _ _ c.begin.ensures.only_unborn_is_written

pub returns-clause-foreign : goal.returns-clause-foreign
returns-clause-foreign g c =
    begun_not_foreign _ c.whole.result c.args.config.now.names (g.D.Disk.bytes c.args.disk.now)
    c.in_ok-life.life.engine.journal.entries c.in_ok-life.ensures.begins

pub returns-in_err-life-clause-refused : goal.returns-in_err-life-clause-refused
returns-in_err-life-clause-refused g c =
    told_err c.from_residual.result (g.D.Disk.bytes c.args.disk.now) _
    (unbegun_refused _ c.from_residual.result c.in_err-life.field-0.0 _ _ c.from_residual.ensures.1
    c.in_err-life.ensures.refused_only_reads)

pub returns-clause-refused : goal.returns-clause-refused
returns-clause-refused g c = refused_events _ c.whole.result (g.D.Disk.bytes c.args.disk.now)
    (g.D.Disk.bytes c.begin.new.disk) c.begin.ensures.told c.whole.ensures.kept.only

pub returns-clause-durable : goal.returns-clause-durable
returns-clause-durable g c =
    durable_on c.whole.result _ _ _ c.in_ok-life.ensures.durable c.whole.ensures.kept.durable

pub returns-clause-told : goal.returns-clause-told
returns-clause-told g c = c.whole.ensures.kept.told ∙ c.begin.ensures.told
