use Rattle.std.proofs.Common.{refl, ◌∙◌, ◌∷◌, ◌++◌, Ok, arith, sym, subst, []}
use Rattle.gateway_config.specs.declared.config.Config.{Config}
use Rattle.wire_sends.proofs.Sendings.{grows_none, grows_append}
use Rattle.gateway_life.specs.Dealt.{around}
use Rattle.gateway_life.specs.Rounds.{RoundOver}
use Rattle.gateway_life.specs.Life.{moment_of}
use Rattle.gateway_life.specs.Stepped.{records}
use Rattle.gateway_life.proofs.Joining.{rounds_end, end_done, end_ends}
use Rattle.gateway_life.proofs.Dealing.{kept_none, kept_append, kept_err}
use Rattle.gateway_life.proofs.Polling.{when_ok, ok_map}
use Rattle.gateway_life.proofs.Living.{counted_more, counted_none, one_more}
use Rattle.gateway_life.proofs.Rounded.{rounds_none, rounds_more}
use Rattle.gateway_life.proofs.life.Life.whole.Goals as goal

pub rounds-init : goal.rounds-init
rounds-init g c = record {
  kept = kept_none _ c.args.taps.now.items (around c.args.self.now.engine _ _ _ _ _) tt
      c.requires.live.ready;
  live = c.requires.live;
  done = ([], omega arith, grows_none _, λ t. rounds_none c.args.self.now.engine.core.config _ _);
  client_polls = refl;
  venue_polls = refl;
  client_plays = λ script plays. plays;
  venue_plays = λ script plays. plays;
  follows = λ listed follows. follows;
}

pub rounds-preserved : goal.rounds-preserved
rounds-preserved g c =
    let inv = c.rounds.invariant in
    let done = inv.done in
    let one = c.in_ok-round_over.ensures in
    let m = one.round.0 in
    let config = c.args.self.now.engine.core.config in
    let r1 = records (g.C.Wire.recorded c.rounds.client) (g.V.Wire.recorded c.rounds.venue) in
    let r2 = records (g.C.Wire.recorded c.round_over.new.client)
    (g.V.Wire.recorded c.round_over.new.venue) in
    record {
      kept = kept_append _ _ _ _ _ _ _ _ (Ok tt) inv.kept one.kept;
      live = one.live;
      done = (
        done.0 ++ m ∷ [],
        one_more done.0 m c.rounds.left c.args.rounds done.1 (omega arith),
        grows_append _ _ _ done.0 (m ∷ []) done.2 one.round.1,
        λ t. rounds_more config c.args.self.now c.rounds.self done.0 m _ r1 (done.3 t)
            inv.live.ready.ready.sound c.round_over.new.self r2
            (subst (λ (k : Config).
            RoundOver k c.rounds.self c.round_over.new.self (moment_of m) r1 r2) inv.kept.config
            (one.round.2 (inv.kept.told ∙ t))),
      );
      client_polls = counted_more c.rounds.left _ _ c.args.rounds _ (omega arith) one.client_polls
          inv.client_polls;
      venue_polls = counted_more c.rounds.left _ _ c.args.rounds _ (omega arith) one.venue_polls
          inv.venue_polls;
      client_plays = λ script plays. one.client_plays script (inv.client_plays script plays);
      venue_plays = λ script plays. one.venue_plays script (inv.venue_plays script plays);
      follows = λ listed follows. one.follows listed (inv.follows listed follows);
    }

pub returns-in_err-round_over-clause-kept : goal.returns-in_err-round_over-clause-kept
returns-in_err-round_over-clause-kept g c =
    kept_append _ _ _ _ _ _ _ _ c.from_residual.result c.rounds.invariant.kept
    (kept_err _ c.from_residual.result c.in_err-round_over.field-0.0 _ _ _ _
    c.from_residual.ensures.1 c.in_err-round_over.ensures.kept)

pub returns-in_err-round_over-clause-ends : goal.returns-in_err-round_over-clause-ends
returns-in_err-round_over-clause-ends g c =
    let inv = c.rounds.invariant in
    let done = inv.done in
    let broken = c.in_err-round_over.ensures.ends in
    rounds_end c.from_residual.result c.in_err-round_over.field-0.0
    c.args.self.now.engine.core.config c.rounds.self.engine.core.config c.args.self.now
    c.rounds.self done.0 broken.0 c.rounds.left c.args.rounds _ _ _ _ _ _ _ _ _ _ _
    c.from_residual.ensures.1 inv.kept.config done.1 done.2 done.3 inv.live.ready.ready.sound
    inv.kept.told inv.kept.durable broken.1 broken.2

pub returns-clause-kept : goal.returns-clause-kept
returns-clause-kept g c =
    let finish = c.finish.ensures in
    kept_append _ _ _ _ _ _ _ _ c.finish.result c.rounds.invariant.kept (record {
      config = finish.config;
      ready = ok_map c.finish.result _ _ (λ live. live.ready) finish.live;
      durable = finish.durable;
      taps = finish.taps;
      left = finish.kept;
      only = finish.only;
      journal_cause = finish.journal_cause;
      told = finish.told;
      cause = finish.cause;
    })

pub returns-clause-done : goal.returns-clause-done
returns-clause-done g c =
    let inv = c.rounds.invariant in
    let done = inv.done in
    end_done c.finish.result c.args.self.now.engine.core.config c.rounds.self.engine.core.config
    c.args.self.now c.rounds.self c.finish.new.self done.0 c.args.rounds _ _ _ _ _ _
    (g.D.Disk.bytes c.args.disk.now) (g.D.Disk.bytes c.rounds.disk)
    (g.D.Disk.bytes c.finish.new.disk) _ _ inv.kept.config (omega (arith, done.1)) done.2 done.3
    inv.live.ready.ready.sound inv.kept.told c.finish.ensures.past c.finish.ensures.live
    c.finish.ensures.finish

pub returns-clause-ends : goal.returns-clause-ends
returns-clause-ends g c =
    let inv = c.rounds.invariant in
    let done = inv.done in
    end_ends c.finish.result c.args.self.now.engine.core.config c.rounds.self.engine.core.config
    c.args.self.now c.rounds.self done.0 c.args.rounds _ _ _ _ _ _ _ _ _ _ _ inv.kept.config
    (omega (arith, done.1)) done.2 done.3 inv.live.ready.ready.sound inv.kept.told
    inv.kept.durable c.finish.ensures.ends

pub returns-clause-client_polls : goal.returns-clause-client_polls
returns-clause-client_polls g c = when_ok c.finish.result _ (c.finish.ensures.client_polls
    ∙ sym (counted_none c.rounds.left _ (omega arith)) ∙ c.rounds.invariant.client_polls)

pub returns-clause-venue_polls : goal.returns-clause-venue_polls
returns-clause-venue_polls g c = when_ok c.finish.result _ (c.finish.ensures.venue_polls
    ∙ sym (counted_none c.rounds.left _ (omega arith)) ∙ c.rounds.invariant.venue_polls)
