use Rattle.std.proofs.Common.{refl, inr}
use Rattle.kept_entries.specs.Days.{day_at}
use Rattle.gateway_life.specs.Rounds.{DayBroken, AtEnd}
use Rattle.gateway_life.specs.Dealt.{around}
use Rattle.gateway_life.specs.Ready.{LeavesOf}
use Rattle.gateway_life.specs.Stepped.{records}
use Rattle.gateway_life.specs.State.{seen}
use Rattle.gateway_life.proofs.Dealing.{kept_none, kept_append, kept_err}
use Rattle.gateway_life.proofs.Telling.{leaves_map, err_is}
use Rattle.gateway_life.proofs.Turnover.{entry_left, day_due, day_done}
use Rattle.gateway_life.proofs.engine.Engine.end_day.Goals as goal

pub new_day-requires-clause-ready : goal.new_day-requires-clause-ready
new_day-requires-clause-ready g c = c.in_ok-end_both.ensures.dealt.kept.ready

pub returns-then-not-is_due-clause-kept : goal.returns-then-not-is_due-clause-kept
returns-then-not-is_due-clause-kept g c =
    kept_none _ c.args.taps.now.items (around (seen c.args.self.now) _ _ _ _ _) tt c.requires.ready

pub returns-then-not-is_due-clause-turned : goal.returns-then-not-is_due-clause-turned
returns-then-not-is_due-clause-turned g c = λ t. inr (record {
  due = day_due c.args.self.now.core.config.reset c.reset.result
      (day_at c.args.self.now.journal.entries) c.day_at.result c.args.now c.is_due.result _
      c.is_due.ensures c.reset.ensures c.day_at.ensures.at c.if-not-is_due.true;
  engine = refl;
  records = refl;
})

pub returns-in_err-end_both-clause-kept : goal.returns-in_err-end_both-clause-kept
returns-in_err-end_both-clause-kept g c =
    kept_err _ c.from_residual.result c.in_err-end_both.field-0.0 _ _ _ _ c.from_residual.ensures.1
    c.in_err-end_both.ensures.dealt.kept

pub returns-in_err-end_both-clause-ends : goal.returns-in_err-end_both-clause-ends
returns-in_err-end_both-clause-ends g c =
    let old = seen c.args.self.now in
    let config = old.core.config in
    let told = g.D.Disk.bytes c.args.disk.now in
    let error = c.in_err-end_both.field-0.0 in
    let r0 = records (g.C.Wire.recorded c.args.client.now) (g.V.Wire.recorded c.args.venue.now) in
    let r1 = records (g.C.Wire.recorded c.end_both.new.client)
    (g.V.Wire.recorded c.end_both.new.venue) in
    err_is c.from_residual.result error (λ end. LeavesOf told (g.D.Disk.image c.args.disk.now)
    (g.D.Disk.image c.end_both.new.disk) config.names (DayBroken end config old c.args.now r0 r1))
    c.from_residual.ensures.1 (leaves_map told _ _ config.names _
    (DayBroken error config old c.args.now r0 r1) (λ xs. AtEnd
    (day_due config.reset c.reset.result (day_at old.journal.entries) c.day_at.result c.args.now
    c.is_due.result _ c.is_due.ensures c.reset.ensures c.day_at.ensures.at c.if-not-is_due.false))
    c.in_err-end_both.ensures.dealt.ends)

pub returns-clause-kept : goal.returns-clause-kept
returns-clause-kept g c =
    kept_append _ _ _ _ _ _ _ _ c.new_day.result c.in_ok-end_both.ensures.dealt.kept
    c.new_day.ensures.kept

pub returns-clause-turned : goal.returns-clause-turned
returns-clause-turned g c =
    let old = seen c.args.self.now in
    let x = seen c.end_both.new.self in
    let config = old.core.config in
    let ended = c.in_ok-end_both.ensures.dealt in
    day_done c.new_day.result (g.D.Disk.bytes c.args.disk.now) config x.core.config old x
    (seen c.new_day.new.self) c.args.now _ _ _
    (day_due config.reset c.reset.result (day_at old.journal.entries) c.day_at.result c.args.now
    c.is_due.result _ c.is_due.ensures c.reset.ensures c.day_at.ensures.at c.if-not-is_due.false)
    ended.done ended.kept.ready.ready.sound ended.past ended.kept.config c.new_day.ensures.entries
    c.new_day.ensures.client_hung c.new_day.ensures.venue_hung c.new_day.ensures.fresh

pub returns-clause-ends : goal.returns-clause-ends
returns-clause-ends g c =
    let old = seen c.args.self.now in
    let x = seen c.end_both.new.self in
    let config = old.core.config in
    let ended = c.in_ok-end_both.ensures.dealt in
    entry_left c.new_day.result (g.D.Disk.bytes c.args.disk.now)
    (g.D.Disk.bytes c.end_both.new.disk) _ _ _ config x.core.config old x c.args.now _ _ _
    (day_due config.reset c.reset.result (day_at old.journal.entries) c.day_at.result c.args.now
    c.is_due.result _ c.is_due.ensures c.reset.ensures c.day_at.ensures.at c.if-not-is_due.false)
    ended.done ended.kept.ready.ready.sound ended.past ended.kept.config ended.kept.told
    ended.kept.durable c.new_day.ensures.client_hung c.new_day.ensures.venue_hung
    c.new_day.ensures.why c.new_day.ensures.images
