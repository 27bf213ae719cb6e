use Rattle.std.proofs.Common.{ap, Some}
use Rattle.drill_day.specs.declared.kinds.Kinds.{Kinds}
use Rattle.capture_replay.proofs.Drilled.{undrilled, unread, day_bounded, day_lived, day_left}
use Rattle.capture_replay.proofs.Drilled.{drilled}
use Rattle.capture_replay.proofs.drilling.drill.Goals as goal

pub returns-in_err-day-clause-drills : goal.returns-in_err-day-clause-drills
returns-in_err-day-clause-drills g c = undrilled _ c.args.first c.args.count
    c.args.taps.now.items (g.O.Sink.bytes c.args.out.now) c.from_residual.result
    c.from_residual.ensures.1

pub live_lines-requires : goal.live_lines-requires
live_lines-requires g c = record {
  bounded = day_bounded c.args.first c.args.count c.in_ok-day.day.life
      c.in_ok-day.ensures.life c.in_ok-day.ensures.sound;
}

pub returns-in_err-lived-clause-drills : goal.returns-in_err-lived-clause-drills
returns-in_err-lived-clause-drills g c =
    let day = c.in_ok-day in
    let saw = c.in_err-lived.ensures.taps in
    unread _ c.args.first c.args.count c.args.taps.now.items c.live_lines.new.taps.items
    c.config_of-config.result day.day.names day.day.heart c.new.result.items
    (g.O.Sink.bytes c.args.out.now) c.from_residual-in_err-lived.result saw.0
    c.config_of-config.ensures day.ensures.names c.new.ensures.items saw.1 saw.2
    c.from_residual-in_err-lived.ensures.1

pub returns-in_err-entries-clause-drills : goal.returns-in_err-entries-clause-drills
returns-in_err-entries-clause-drills g c =
    let day = c.in_ok-day in
    let saw = c.in_ok-lived.ensures.taps in
    unread _ c.args.first c.args.count c.args.taps.now.items c.live_lines.new.taps.items
    c.config_of-config.result day.day.names day.day.heart c.new.result.items
    (g.O.Sink.bytes c.args.out.now) c.from_residual-in_err-entries.result saw.0
    c.config_of-config.ensures day.ensures.names c.new.ensures.items saw.1 saw.2
    c.from_residual-in_err-entries.ensures.1

pub left_by-requires : goal.left_by-requires
left_by-requires g c =
    let day = c.in_ok-day in
    let lived = c.in_ok-lived.lived in
    day_left _ c.args.first c.args.count c.args.taps.now.items c.live_lines.new.taps.items
    (Some lived.client) (Some lived.venue) lived.end lived.image.items
    c.config_of-config.result day.day.names day.day.heart c.in_ok-day.day.life
    c.new.result.items c.new.ensures.items c.config_of-config.ensures day.ensures.names
    day.ensures.heart day.ensures.life c.lives_follow.ensures
    day.ensures.sound c.in_ok-lived.ensures.lived

pub returns-clause-drills : goal.returns-clause-drills
returns-clause-drills g c =
    let day = c.in_ok-day in
    let lived = c.in_ok-lived.lived in
    let seen = c.args.taps.now.items in
    let now = c.live_lines.new.taps.items in
    drilled _ c.args.first c.args.count seen now (Some lived.client) (Some lived.venue)
    lived.end lived.image.items
    (day_lived _ c.args.first c.args.count seen now (Some lived.client) (Some lived.venue)
    lived.end lived.image.items c.config_of-config.result day.day.names day.day.heart
    c.in_ok-day.day.life c.new.result.items c.new.ensures.items c.config_of-config.ensures
    day.ensures.names day.ensures.heart day.ensures.life
    c.lives_follow.ensures day.ensures.sound c.in_ok-lived.ensures.lived)
    c.put_drill.result (g.O.Sink.bytes c.args.out.now) (g.O.Sink.bytes c.put_drill.new.out)
    c.in_ok-entries.entries c.in_ok-entries.next
    (day.day.kinds.filled, day.day.kinds.busted, day.day.kinds.corrected, day.day.kinds.rejected)
    c.end_name-end.result.now
    (ap (λ (k : Kinds). (k.filled, k.busted, k.corrected, k.rejected)) day.ensures.kinds)
    c.end_name-end.ensures c.in_ok-entries.ensures c.put_drill.ensures.lines
    (λ none. ap g.O.Sink.bytes (c.put_drill.ensures.nothing none))
