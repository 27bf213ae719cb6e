use Rattle.std.proofs.Common.{Ok}
use Rattle.gateway_life.specs.Rounds.{RoundFails, RoundOver, AtTurn}
use Rattle.gateway_life.specs.Ready.{IfTold, LeavesOf}
use Rattle.gateway_life.specs.State.{LifeState, seen}
use Rattle.gateway_life.specs.Stepped.{records}
use Rattle.gateway_life.proofs.Dealing.{kept_append, kept_err}
use Rattle.gateway_life.proofs.Telling.{leaves_map, err_is}
use Rattle.gateway_life.proofs.Joining.{client_ends, venue_ends, given_ok, given_err, live_over}
use Rattle.gateway_life.proofs.Joining.{round_ok}
use Rattle.gateway_life.proofs.life.Life.round_over.Goals as goal

pub turn-requires-clause-ready : goal.turn-requires-clause-ready
turn-requires-clause-ready g c = c.in_ok-end_day.ensures.kept.ready

pub turn-requires-2-clause-ready : goal.turn-requires-2-clause-ready
turn-requires-2-clause-ready g c = c.in_ok-turn.ensures.turn.kept.ready

pub returns-in_err-end_day-clause-kept : goal.returns-in_err-end_day-clause-kept
returns-in_err-end_day-clause-kept g c =
    rw (← c.self.view_is) (kept_err _ c.from_residual.result c.in_err-end_day.field-0.0 _ _ _ _
    c.from_residual.ensures.1 c.in_err-end_day.ensures.kept)

pub returns-in_err-end_day-clause-ends : goal.returns-in_err-end_day-clause-ends
returns-in_err-end_day-clause-ends g c =
    let given = c.moment-now.ensures.given in
    let error = c.in_err-end_day.field-0.0 in
    let told = g.D.Disk.bytes c.args.disk.now in
    let i0 = g.D.Disk.image c.args.disk.now in
    let i1 = g.D.Disk.image c.end_day.new.disk in
    let r0 = records (g.C.Wire.recorded c.args.client.now) (g.V.Wire.recorded c.args.venue.now) in
    let r1 = records (g.C.Wire.recorded c.end_day.new.client)
    (g.V.Wire.recorded c.end_day.new.venue) in
    let config = c.self.inside.engine.core.config in
    let life : LifeState = record {
      engine = seen c.self.inside.engine;
      client = c.self.inside.client;
      venue = c.self.inside.venue;
    } in
    rw (← c.self.view_is) (given_err c.from_residual.result c.moment-now.result given.0 _ _
    (λ end n. LeavesOf told i0 i1 config.names (RoundFails end config life n r0 r1)) given.1 given.2
    (err_is c.from_residual.result error (λ end. LeavesOf told i0 i1 config.names
    (RoundFails end config life c.moment-now.result r0 r1)) c.from_residual.ensures.1
    (leaves_map told i0 i1 config.names _ (RoundFails error config life c.moment-now.result r0 r1)
    (λ xs broken. AtTurn broken) c.in_err-end_day.ensures.ends)))

pub returns-in_err-turn-clause-kept : goal.returns-in_err-turn-clause-kept
returns-in_err-turn-clause-kept g c =
    rw (← c.self.view_is) (kept_append _ _ _ _ _ _ _ _ c.from_residual-in_err-turn.result
    c.in_ok-end_day.ensures.kept (kept_err _ c.from_residual-in_err-turn.result
    c.in_err-turn.field-0.0 _ _ _ _ c.from_residual-in_err-turn.ensures.1
    c.in_err-turn.ensures.turn.kept))

pub returns-in_err-turn-clause-ends : goal.returns-in_err-turn-clause-ends
returns-in_err-turn-clause-ends g c =
    let given = c.moment-now.ensures.given in
    let error = c.in_err-turn.field-0.0 in
    let told = g.D.Disk.bytes c.args.disk.now in
    let i0 = g.D.Disk.image c.args.disk.now in
    let i2 = g.D.Disk.image c.turn.new.disk in
    let r0 = records (g.C.Wire.recorded c.args.client.now) (g.V.Wire.recorded c.args.venue.now) in
    let r2 = records (g.C.Wire.recorded c.turn.new.client) (g.V.Wire.recorded c.turn.new.venue) in
    let config = c.self.inside.engine.core.config in
    let life : LifeState = record {
      engine = seen c.self.inside.engine;
      client = c.self.inside.client;
      venue = c.self.inside.venue;
    } in
    rw (← c.self.view_is) (given_err c.from_residual-in_err-turn.result c.moment-now.result given.0
    _ _ (λ end n. LeavesOf told i0 i2 config.names (RoundFails end config life n r0 r2)) given.1
    given.2 (err_is c.from_residual-in_err-turn.result error (λ end. LeavesOf told i0 i2
    config.names (RoundFails end config life c.moment-now.result r0 r2))
    c.from_residual-in_err-turn.ensures.1 (client_ends _ _ _ _ _ _ _ c.self.inside.client
    c.self.inside.venue c.moment-now.result _ c.in_ok-end_day.ensures.kept
    c.in_ok-end_day.ensures.turned c.turn.new.framer error c.in_err-turn.ensures.turn)))

pub returns-clause-kept : goal.returns-clause-kept
returns-clause-kept g c =
    rw (← c.self.view_is) (kept_append _ _ _ _ _ _ _ _ c.turn-2.result
    (kept_append _ _ _ _ _ _ _ _ (Ok tt) c.in_ok-end_day.ensures.kept
    c.in_ok-turn.ensures.turn.kept) c.turn-2.ensures.turn.kept)

pub returns-clause-live : goal.returns-clause-live
returns-clause-live g c = live_over c.turn-2.result _ _ _ _ c.turn-2.ensures.turn.kept.ready
    c.in_ok-turn.ensures.drained c.turn-2.ensures.drained

pub returns-clause-round : goal.returns-clause-round
returns-clause-round g c =
    let given = c.moment-now.ensures.given in
    rw (← c.self.view_is) (given_ok c.turn-2.result c.moment-now.result given.0 _ _
    (λ n. IfTold (g.D.Disk.bytes c.args.disk.now) (RoundOver c.self.inside.engine.core.config
    (record {
      engine = seen c.self.inside.engine;
      client = c.self.inside.client;
      venue = c.self.inside.venue;
    }) (record {
      engine = seen c.turn-2.new.engine;
      client = c.turn.new.framer;
      venue = c.turn-2.new.framer;
    }) n
    (records (g.C.Wire.recorded c.args.client.now) (g.V.Wire.recorded c.args.venue.now))
    (records (g.C.Wire.recorded c.turn-2.new.client) (g.V.Wire.recorded c.turn-2.new.venue))))
    given.1 given.2 (round_ok _ _ _ _ _ _ _ c.self.inside.client c.self.inside.venue
    c.moment-now.result _ c.in_ok-end_day.ensures.kept c.in_ok-end_day.ensures.turned _ _ _
    c.turn.new.framer c.turn-2.new.framer c.in_ok-turn.ensures.turn c.turn-2.result
    c.turn-2.ensures.turn))

pub returns-clause-ends : goal.returns-clause-ends
returns-clause-ends g c =
    let given = c.moment-now.ensures.given in
    rw (← c.self.view_is) (given_err c.turn-2.result c.moment-now.result given.0 _ _
    (λ end n. LeavesOf (g.D.Disk.bytes c.args.disk.now) (g.D.Disk.image c.args.disk.now)
    (g.D.Disk.image c.turn-2.new.disk) c.self.inside.engine.core.config.names
    (RoundFails end c.self.inside.engine.core.config (record {
      engine = seen c.self.inside.engine;
      client = c.self.inside.client;
      venue = c.self.inside.venue;
    }) n
    (records (g.C.Wire.recorded c.args.client.now) (g.V.Wire.recorded c.args.venue.now))
    (records (g.C.Wire.recorded c.turn-2.new.client) (g.V.Wire.recorded c.turn-2.new.venue))))
    given.1 given.2 (venue_ends _ _ _ _ _ _ _ c.self.inside.client c.self.inside.venue
    c.moment-now.result _ c.in_ok-end_day.ensures.kept c.in_ok-end_day.ensures.turned _ _ _
    c.turn.new.framer c.turn-2.new.framer c.in_ok-turn.ensures.turn c.turn-2.result
    c.turn-2.ensures.turn))
