use Rattle.gateway_life.proofs.Living.{live_done, live_ended, answered_done, answered_ended}
use Rattle.gateway_life.proofs.Living.{idle_untouched, images_by, if_refused, if_foreign}
use Rattle.gateway_life.proofs.Living.{not_foreign, not_done}
use Rattle.gateway_life.proofs.Telling.{if_told, idle_done, refused_told}
use Rattle.gateway_life.specs.declared.end.LifeEnd.TheVariants as ends
use Rattle.gateway_life.proofs.life.live.Goals as goal

pub returns-in-Ok-clause-lived : goal.returns-in-Ok-clause-lived
returns-in-Ok-clause-lived g c = record {
  images = images_by c.lives_leave.ensures.lives c.lives_leave.ensures.taken ends.Done
      c.args.config.now c.args.rounds (g.D.Disk.bytes c.args.disk.now) _ _ _ _ _ _ _ _ _ _ _ _ _
      (live_done c.an_image_has_one_reading.ensures c.args.config.now c.args.rounds
      (g.D.Disk.bytes c.args.disk.now) (g.D.Disk.bytes c.lived.new.disk) _ _ _ _ _ _ _ _
      c.lived.ensures.told c.in-Ok.ensures.durable c.in-Ok.ensures.done);
  begins = if_told (g.D.Disk.bytes c.args.disk.now) _ (λ t.
      answered_done c.args.config.now.names (g.D.Disk.bytes c.args.disk.now)
      (c.in-Ok.ensures.done t).before (c.in-Ok.ensures.done t).begins.journal);
  idle = idle_done (g.D.Disk.bytes c.args.disk.now);
  foreign = if_told (g.D.Disk.bytes c.args.disk.now) _ (λ t.
      not_foreign _ c.args.config.now.names (g.D.Disk.bytes c.args.disk.now)
      (c.in-Ok.ensures.done t).before (c.in-Ok.ensures.done t).begins.journal);
  journal_cause = c.in-Ok.ensures.journal_cause;
  durable = λ done. c.in-Ok.ensures.durable;
  client_polls = λ done. c.in-Ok.ensures.client_polls;
  venue_polls = λ done. c.in-Ok.ensures.venue_polls;
}

pub returns-in-Err-clause-lived : goal.returns-in-Err-clause-lived
returns-in-Err-clause-lived g c = record {
  images = images_by c.lives_leave.ensures.lives c.lives_leave.ensures.taken c.in-Err.end
      c.args.config.now c.args.rounds (g.D.Disk.bytes c.args.disk.now) _ _ _ _ _ _ _ _ _ _ _ _ _
      (live_ended c.an_image_has_one_reading.ensures c.in-Err.end c.args.config.now c.args.rounds
      (g.D.Disk.bytes c.args.disk.now) _ _ _ _ _ _ _ _ _ _ c.requires.client c.requires.venue
      c.hang_up.ensures.grows c.hang_up-in-Err.ensures.grows c.in-Err.ensures.ends);
  begins = answered_ended c.in-Err.end c.args.config.now c.args.rounds
      (g.D.Disk.bytes c.args.disk.now) _ _ _ _ _ _ c.in-Err.ensures.ends;
  idle = refused_told (g.D.Disk.bytes c.args.disk.now) c.in-Err.end _ _
      (if_refused _ _ c.in-Err.end (idle_untouched _ _ _ _ _ _ _ _ _ _ _ _ _ _ _ _
      c.requires.client c.requires.venue c.hang_up.ensures.grows c.hang_up-in-Err.ensures.grows))
      c.in-Err.ensures.refused;
  foreign = if_foreign _ _ c.args.config.now.names (g.D.Disk.bytes c.args.disk.now)
      (idle_untouched _ _ _ _ _ _ _ _ _ _ _ _ _ _ _ _ c.requires.client c.requires.venue
      c.hang_up.ensures.grows c.hang_up-in-Err.ensures.grows) c.in-Err.ensures.foreign;
  journal_cause = c.in-Err.ensures.journal_cause;
  durable = not_done c.in-Err.end _ c.in-Err.ensures.only;
  client_polls = not_done c.in-Err.end _ c.in-Err.ensures.only;
  venue_polls = not_done c.in-Err.end _ c.in-Err.ensures.only;
}

pub returns-in-Ok-clause-taps : goal.returns-in-Ok-clause-taps
returns-in-Ok-clause-taps g c = c.in-Ok.ensures.taps

pub returns-in-Err-clause-taps : goal.returns-in-Err-clause-taps
returns-in-Err-clause-taps g c = c.in-Err.ensures.taps
