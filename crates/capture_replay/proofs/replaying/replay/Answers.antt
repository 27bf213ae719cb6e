use Rattle.std.proofs.Common.{◌∙◌, ◌≡◌, List, rules, length, refl, ap, Some}
use Rattle.capture_text.specs.declared.capture.Event.{Event}
use Rattle.capture_replay.proofs.Shown.{are_shown, life_bounded}
use Rattle.capture_replay.proofs.Following.{there_in, within_in, none_yet, lived_on, gone_on}
use Rattle.capture_replay.proofs.Following.{broken_off, given_up, left_off, ended}
use Rattle.capture_replay.proofs.replaying.replay.Goals as goal

pub loop-index-init : goal.loop-index-init
loop-index-init g c = record {
  so_far = none_yet _ c.args.capture.now c.args.taps.now.items c.unborn-image.result.items
      (g.O.Sink.bytes c.args.out.now) c.lives_follow.ensures c.unborn-image.ensures;
  faults = refl;
}

pub live_lines-requires : goal.live_lines-requires
live_lines-requires g c =
    let lives = c.as_slice-lines-items in
    let index = c.loop-index.index in
    record {
      bounded = life_bounded c.args.capture.now c.requires index c.lines-item.result
          (within_in lives.result.now c.args.capture.now.lives index lives.ensures
          c.loop-index-test.true)
          (there_in lives.result.now c.args.capture.now.lives index c.lines-item.result
          c.lines-item.result lives.ensures refl c.lines-item.is);
    }

pub loop-index-preserved : goal.loop-index-preserved
loop-index-preserved g c =
    let lives = c.as_slice-lines-items in
    let index = c.loop-index.index in
    let clock = c.loop-index.moment in
    let capture = c.args.capture.now in
    let seen = c.args.taps.now.items in
    let between = c.loop-index.taps.items in
    let now = c.live_lines.new.taps.items in
    let image = c.loop-index.image.items in
    let old = g.O.Sink.bytes c.args.out.now in
    let new = g.O.Sink.bytes c.loop-index.out in
    let so_far = c.loop-index.invariant.so_far in
    let lines = c.lines-item.result in
    let lived = c.in_ok-lived.lived in
    record {
      so_far = gone_on _ capture index clock seen between now image old new so_far lines
          (Some lived.client) (Some lived.venue) lived.end lived.image.items
          lived.client lived.venue
          c.end_name.result.now
          (within_in lives.result.now capture.lives index lives.ensures c.loop-index-test.true)
          (there_in lives.result.now capture.lives index c.lines-item.result lines lives.ensures
          refl c.lines-item.is)
          (lived_on _ capture index clock seen between now image old new so_far
          c.config_of-config.result lines now (Some lived.client) (Some lived.venue) lived.end
          lived.image.items c.config_of-config.ensures (are_shown capture c.requires)
          c.in_ok-lived.ensures.lived)
          refl refl c.end_name.ensures
          c.moment_after-moment.result c.moment_after-moment.ensures
          (g.O.Sink.bytes c.put_life.new.out)
          c.in_ok-put_life.ensures.lines;
      faults = c.in_ok-put_life.ensures.still (λ no. absurd (cc no))
          ∙ c.loop-index.invariant.faults;
    }

pub returns-in_err-lived-clause-replays : goal.returns-in_err-lived-clause-replays
returns-in_err-lived-clause-replays g c =
    let saw = c.in_err-lived.ensures.taps in
    given_up _ c.args.capture.now c.loop-index.index c.loop-index.moment c.args.taps.now.items
    c.loop-index.taps.items
    c.live_lines.new.taps.items c.loop-index.image.items (g.O.Sink.bytes c.args.out.now)
    (g.O.Sink.bytes c.loop-index.out) c.loop-index.invariant.so_far c.config_of-config.result
    c.config_of-config.ensures c.from_residual.result c.from_residual.ensures.0 saw.0 saw.1 saw.2

pub returns-in_err-put_life-clause-replays : goal.returns-in_err-put_life-clause-replays
returns-in_err-put_life-clause-replays g c =
    let lives = c.as_slice-lines-items in
    let index = c.loop-index.index in
    let clock = c.loop-index.moment in
    let capture = c.args.capture.now in
    let seen = c.args.taps.now.items in
    let between = c.loop-index.taps.items in
    let now = c.live_lines.new.taps.items in
    let image = c.loop-index.image.items in
    let old = g.O.Sink.bytes c.args.out.now in
    let new = g.O.Sink.bytes c.loop-index.out in
    let so_far = c.loop-index.invariant.so_far in
    let lines = c.lines-item.result in
    let lived = c.in_ok-lived.lived in
    broken_off _ capture index clock seen between now image old new so_far lines
    (Some lived.client) (Some lived.venue) lived.end lived.image.items
    lived.client lived.venue
    c.end_name.result.now
    (within_in lives.result.now capture.lives index lives.ensures c.loop-index-test.true)
    (there_in lives.result.now capture.lives index c.lines-item.result lines lives.ensures
    refl c.lines-item.is)
    (lived_on _ capture index clock seen between now image old new so_far
    c.config_of-config.result lines now (Some lived.client) (Some lived.venue) lived.end
    lived.image.items c.config_of-config.ensures (are_shown capture c.requires)
    c.in_ok-lived.ensures.lived)
    refl refl c.end_name.ensures
    c.from_residual-in_err-put_life.result c.from_residual-in_err-put_life.ensures.0
    c.in_err-put_life.field-0.0 c.put_life.result (g.O.Sink.bytes c.put_life.new.out)
    c.in_err-put_life.was c.put_life.ensures.lines

pub left_by-requires : goal.left_by-requires
left_by-requires g c = (_, _, c.loop-index.invariant.so_far.journal)

pub returns-in_err-entries-clause-replays : goal.returns-in_err-entries-clause-replays
returns-in_err-entries-clause-replays g c =
    left_off _ c.args.capture.now c.loop-index.index c.loop-index.moment c.args.taps.now.items
    c.loop-index.taps.items
    c.loop-index.taps.items c.loop-index.image.items (g.O.Sink.bytes c.args.out.now)
    (g.O.Sink.bytes c.loop-index.out) c.loop-index.invariant.so_far
    c.from_residual-in_err-entries.result c.from_residual-in_err-entries.ensures.0 refl

pub returns-clause-replays : goal.returns-clause-replays
returns-clause-replays g c =
    let all : c.loop-index.index ≡ length c.as_slice-lines-items.result.now = search rules in
    ended _ c.args.capture.now c.loop-index.index c.loop-index.moment c.args.taps.now.items
    c.loop-index.taps.items
    c.loop-index.taps.items c.loop-index.image.items (g.O.Sink.bytes c.args.out.now)
    (g.O.Sink.bytes c.loop-index.out) c.loop-index.invariant.so_far c.put_last.result
    (g.O.Sink.bytes c.put_last.new.out) c.in_ok-entries.entries c.in_ok-entries.next
    (all ∙ ap (λ (l : List (List Event)). length l) c.as_slice-lines-items.ensures) refl
    c.in_ok-entries.ensures c.put_last.ensures.lines
    (λ none. ap g.O.Sink.bytes (c.put_last.ensures.nothing none))
