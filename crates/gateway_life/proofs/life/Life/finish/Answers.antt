use Rattle.std.proofs.Common.{subst, sym}
use Rattle.order_meaning.specs.declared.Side.TheVariants.{Client, Venue}
use Rattle.kept_entries.specs.Days.{past_of}
use Rattle.gateway_life.specs.Ready.{IfTold, world_of, LeavesOf, Behind}
use Rattle.gateway_life.specs.Stepped.{Failed, records, AllStepped}
use Rattle.gateway_life.specs.Rounds.{ends_of}
use Rattle.gateway_life.specs.Turned.{IsDrained}
use Rattle.gateway_life.specs.State.{LifeState, seen}
use Rattle.gateway_life.proofs.Polling.{when_ok}
use Rattle.gateway_life.proofs.Joining.{given_ok, live_over, given_err}
use Rattle.gateway_life.proofs.life.Life.finish.Goals as goal

pub returns-clause-config : goal.returns-clause-config
returns-clause-config g c = rw (← c.self.view_is) c.end_both.ensures.dealt.kept.config

pub returns-clause-durable : goal.returns-clause-durable
returns-clause-durable g c = c.end_both.ensures.dealt.kept.durable

pub returns-clause-taps : goal.returns-clause-taps
returns-clause-taps g c = rw (← c.self.view_is) c.end_both.ensures.dealt.kept.taps

pub returns-clause-kept : goal.returns-clause-kept
returns-clause-kept g c = rw (← c.self.view_is) c.end_both.ensures.dealt.kept.left

pub returns-clause-only : goal.returns-clause-only
returns-clause-only g c = c.end_both.ensures.dealt.kept.only

pub returns-clause-journal_cause : goal.returns-clause-journal_cause
returns-clause-journal_cause g c = c.end_both.ensures.dealt.kept.journal_cause

pub returns-clause-told : goal.returns-clause-told
returns-clause-told g c = c.end_both.ensures.dealt.kept.told

pub returns-clause-cause : goal.returns-clause-cause
returns-clause-cause g c = c.end_both.ensures.dealt.kept.cause

pub returns-clause-past : goal.returns-clause-past
returns-clause-past g c = rw (← c.self.view_is) c.end_both.ensures.dealt.past

pub returns-clause-live : goal.returns-clause-live
returns-clause-live g c = live_over c.end_both.result _ _ _ _
    c.end_both.ensures.dealt.kept.ready
    (subst (λ (l : LifeState). IsDrained Client l.client) (sym c.self.view_is)
    c.requires.live.client) (when_ok c.end_both.result _ (subst (λ (l : LifeState).
    IsDrained Venue l.venue) (sym c.self.view_is) c.requires.live.venue))

pub returns-clause-finish : goal.returns-clause-finish
returns-clause-finish g c =
    let given = c.moment-now.ensures.given in
    rw (← c.self.view_is) (given_ok c.end_both.result c.moment-now.result given.0 _ _
    (λ n. IfTold (g.D.Disk.bytes c.args.disk.now) (AllStepped c.self.inside.engine.core.config
    (world_of (seen c.self.inside.engine)) ends_of n (world_of (seen c.end_both.new.self))
    (records (g.C.Wire.recorded c.args.client.now) (g.V.Wire.recorded c.args.venue.now))
    (records (g.C.Wire.recorded c.end_both.new.client) (g.V.Wire.recorded c.end_both.new.venue))))
    given.1 given.2 c.end_both.ensures.dealt.done)

pub returns-clause-ends : goal.returns-clause-ends
returns-clause-ends g c =
    let given = c.moment-now.ensures.given in
    let config = c.self.inside.engine.core.config in
    let past = past_of c.self.inside.engine.journal.entries in
    rw (← c.self.view_is) (given_err c.end_both.result c.moment-now.result given.0 _ _
    (λ end n. LeavesOf (g.D.Disk.bytes c.args.disk.now) (g.D.Disk.image c.args.disk.now)
    (g.D.Disk.image c.end_both.new.disk) config.names (Behind past
    (Failed end config past (world_of (seen c.self.inside.engine)) ends_of n
    (records (g.C.Wire.recorded c.args.client.now) (g.V.Wire.recorded c.args.venue.now))
    (records (g.C.Wire.recorded c.end_both.new.client)
    (g.V.Wire.recorded c.end_both.new.venue))))) given.1 given.2 c.end_both.ensures.dealt.ends)
