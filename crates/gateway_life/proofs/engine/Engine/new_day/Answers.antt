use Rattle.std.proofs.Common.{◌∙◌, ◌++◌, ap, sym, subst}
use Rattle.std.specs.Option.{option_to_list}
use Rattle.wire_sends.specs.Sent.{Agrees}
use Rattle.gateway_life.specs.declared.engine.Made.{Made}
use Rattle.gateway_life.specs.State.{seen}
use Rattle.gateway_life.specs.Fails.{IsWhyOfDay}
use Rattle.gateway_life.specs.Ready.{LeavesOf}
use Rattle.gateway_life.specs.Rounds.{MayTurn}
use Rattle.gateway_life.specs.Watched.{WereCommitted}
use Rattle.gateway_life.proofs.NewDay.{ready_hung, world_fresh, hung_whole, were_turned, why_event}
use Rattle.gateway_life.proofs.NewDay.{why_cause}
use Rattle.gateway_life.proofs.Telling.{err_is, leaves_map}
use Rattle.gateway_life.proofs.Watching.{watched_none}
use Rattle.gateway_life.proofs.Dealing.{cause_err, kept_err}
use Rattle.gateway_life.proofs.engine.Engine.new_day.Goals as goal

pub decide-requires-clause-ready : goal.decide-requires-clause-ready
decide-requires-clause-ready g c = ready_hung (seen c.args.self.now) _
    c.hang_up_on-self.result c.hang_up_on-self-2.result c.requires.ready.ready

pub returns-clause-entries : goal.returns-clause-entries
returns-clause-entries g c = c.in_ok-day.ensures.entries
    ∙ ap (λ o. c.args.self.now.journal.entries ++ option_to_list o)
    c.in_ok-day.ensures.decided.0

pub returns-clause-fresh : goal.returns-clause-fresh
returns-clause-fresh g c =
    world_fresh (seen c.decide.new.self) c.args.self.now.core.config
    c.args.self.now.journal.entries c.args.now c.in_ok-day.day.entry c.in_ok-day.ensures.entries
    c.in_ok-day.ensures.decided.0 c.in_ok-day.ensures.decided.1 _ _ c.in_ok-day.ensures.up.0
    c.in_ok-day.ensures.up.1 c.hang_up_on-self.ensures.hung.ends
    c.hang_up_on-self-2.ensures.hung.ends

pub returns-clause-client_hung : goal.returns-clause-client_hung
returns-clause-client_hung g c = hung_whole _ _ c.args.self.now.client_up _
    c.hang_up_on-self.ensures.hung

pub returns-clause-venue_hung : goal.returns-clause-venue_hung
returns-clause-venue_hung g c = hung_whole _ _ c.args.self.now.venue_up _
    c.hang_up_on-self-2.ensures.hung

pub returns-clause-kept : goal.returns-clause-kept
returns-clause-kept g c =
    let day = c.in_ok-day.ensures in
    record {
      config = day.config;
      ready = record {
        ready = day.ready;
        client = subst (λ u. Agrees (g.C.Wire.recorded c.hang_up_on-self.new.wire) u)
            (sym day.up.0) c.hang_up_on-self.ensures.agrees;
        venue = subst (λ u. Agrees (g.V.Wire.recorded c.hang_up_on-self-2.new.wire) u)
            (sym day.up.1) c.hang_up_on-self-2.ensures.agrees;
      };
      durable = day.durable;
      taps = record {
        more = option_to_list c.in_ok-day.day.entry;
        goes_on = day.entries;
        seen = c.show.ensures;
      };
      left = tt;
      only = tt;
      journal_cause = tt;
      told = day.told;
      cause = day.cause;
    }

pub returns-in_err-day-clause-client_hung : goal.returns-in_err-day-clause-client_hung
returns-in_err-day-clause-client_hung g c = hung_whole _ _ c.args.self.now.client_up _
    c.hang_up_on-self.ensures.hung

pub returns-in_err-day-clause-venue_hung : goal.returns-in_err-day-clause-venue_hung
returns-in_err-day-clause-venue_hung g c = hung_whole _ _ c.args.self.now.venue_up _
    c.hang_up_on-self-2.ensures.hung

pub returns-in_err-day-clause-images : goal.returns-in_err-day-clause-images
returns-in_err-day-clause-images g c =
    let old = c.args.self.now in
    err_is c.from_residual.result c.in_err-day.field-0.0
    (λ end. LeavesOf (g.D.Disk.bytes c.args.disk.now) (g.D.Disk.image c.args.disk.now)
    (g.D.Disk.image c.decide.new.disk) old.core.config.names
    (MayTurn end old.journal.entries c.args.now)) c.from_residual.ensures.1
    c.in_err-day.ensures.images

pub returns-in_err-day-clause-why : goal.returns-in_err-day-clause-why
returns-in_err-day-clause-why g c =
    let old = c.args.self.now in
    err_is c.from_residual.result c.in_err-day.field-0.0
    (λ end. IsWhyOfDay end old.core.config.names old.journal.entries c.args.now)
    c.from_residual.ensures.1 c.in_err-day.ensures.why

pub returns-in_err-day-clause-kept : goal.returns-in_err-day-clause-kept
returns-in_err-day-clause-kept g c =
    let old = seen c.args.self.now in
    let error = c.in_err-day.field-0.0 in
    let day = c.in_err-day.ensures in
    let entries = c.decide.new.self.journal.entries in
    let told = g.D.Disk.bytes c.args.disk.now in
    kept_err _ c.from_residual.result error _ _ _ _ c.from_residual.ensures.1 (record {
      config = c.decide.ensures.config;
      ready = tt;
      durable = tt;
      taps = watched_none _ c.args.taps.now.items old.journal.entries entries day.refused.2;
      left = leaves_map told _ _ old.core.config.names
          (MayTurn error old.journal.entries c.args.now) (WereCommitted error entries)
          (λ xs. were_turned error old.journal.entries entries c.args.now xs day.refused.2)
          day.images;
      only = why_event error _ _ _ _ day.why;
      journal_cause = why_cause error old.core.config.names c.decide.new.self.core.config.names
          old.journal.entries entries c.args.now c.requires.moment
          (ap (λ k. k.names) (sym c.decide.ensures.config)) day.refused.2 day.why;
      told = c.decide.ensures.told;
      cause = cause_err Made (Unit {0}) _ _ error day.cause;
    })
