use Rattle.std.proofs.Common.{◌≡◌, [], true, rules, Some}
use Rattle.std.specs.Prelude.{is_some}
use Rattle.wires.specs.Clock.{moments_told}
use Rattle.capture_text.specs.Capture.{stop_of}
use Rattle.capture_replay.specs.Stops.{fuse_of, may_end}
use Rattle.capture_replay.proofs.Living.{lives_on, taps_added}
use Rattle.capture_replay.proofs.life.live_lines.Goals as goal

pub returns-clause-lived : goal.returns-clause-lived
returns-clause-lived g c =
    let live = c.live-end in
    let clock_told : is_some (moments_told live.new.clock) ≡ true = search rules in
    let client_told : live.new.client.recorded ≡ Some c.in-Some.client = search rules in
    let venue_told : live.new.venue.recorded ≡ Some c.in-Some-venue.venue = search rules in
    let whole : may_end (stop_of c.args.life.now) live.result ≡ true = search rules in
    lives_on _ c.args.taps.now.items live.new.taps.items c.args.config.now c.args.life.now
    c.disk_of-disk.result live.new.disk c.new-client.result live.new.client c.new-venue.result
    live.new.venue c.new-clock.result live.new.clock live.result c.rounds_of-rounds.result
    (record {
      taps = live.ensures.taps;
      images = live.ensures.lived.images;
      client_plays = live.ensures.client_plays;
      venue_plays = live.ensures.venue_plays;
      follows = live.ensures.follows;
    })
    c.args.from c.args.image.items [] c.in_ok-image.image.items (fuse_of c.stop-stop.result)
    c.in-Some.client c.in-Some-venue.venue
    c.an_image_has_one_reading.ensures c.disk_of-disk.ensures c.new-client.ensures
    c.new-venue.ensures c.new-clock.ensures
    c.rounds_of-rounds.ensures c.in_ok-image.ensures.among client_told venue_told clock_told whole

pub returns-then-refused-clause-taps : goal.returns-then-refused-clause-taps
returns-then-refused-clause-taps g c = taps_added _ c.args.taps.now.items
    c.live-end.new.taps.items c.args.config.now.names c.disk_of-disk.result c.live-end.new.disk
    c.live-end.result c.args.image.items [] (fuse_of c.stop-stop.result) c.live-end.ensures.taps
    c.disk_of-disk.ensures

pub returns-in_default-clause-taps : goal.returns-in_default-clause-taps
returns-in_default-clause-taps g c = taps_added _ c.args.taps.now.items
    c.live-end.new.taps.items c.args.config.now.names c.disk_of-disk.result c.live-end.new.disk
    c.live-end.result c.args.image.items [] (fuse_of c.stop-stop.result) c.live-end.ensures.taps
    c.disk_of-disk.ensures

pub returns-in_default-venue-clause-taps : goal.returns-in_default-venue-clause-taps
returns-in_default-venue-clause-taps g c = taps_added _ c.args.taps.now.items
    c.live-end.new.taps.items c.args.config.now.names c.disk_of-disk.result c.live-end.new.disk
    c.live-end.result c.args.image.items [] (fuse_of c.stop-stop.result) c.live-end.ensures.taps
    c.disk_of-disk.ensures

pub returns-in_err-image-clause-taps : goal.returns-in_err-image-clause-taps
returns-in_err-image-clause-taps g c = taps_added _ c.args.taps.now.items
    c.live-end.new.taps.items c.args.config.now.names c.disk_of-disk.result c.live-end.new.disk
    c.live-end.result c.args.image.items [] (fuse_of c.stop-stop.result) c.live-end.ensures.taps
    c.disk_of-disk.ensures

pub returns-clause-taps : goal.returns-clause-taps
returns-clause-taps g c = taps_added _ c.args.taps.now.items
    c.live-end.new.taps.items c.args.config.now.names c.disk_of-disk.result c.live-end.new.disk
    c.live-end.result c.args.image.items [] (fuse_of c.stop-stop.result) c.live-end.ensures.taps
    c.disk_of-disk.ensures
