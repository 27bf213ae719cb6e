use Rattle.std.proofs.Common.{◌∙◌, ◌+◌, ◌≤◌, ◌++◌, [], List, length, drop, refl, ap, rules}
use Rattle.std.specs.List.{concat}
use Rattle.replay_lines.specs.CallLog.{shown, opened_in}
use Rattle.replay_lines.specs.Pieces.{pieces_of}
use Rattle.replay_lines.specs.ReplayLines.{side_lines}
use Rattle.replay_lines.proofs.Kept.{side_shown, part_first, end_first}
use Rattle.replay_lines.proofs.Printed.{begun, printed, broken, stopped, front_prints, with_rest}
use Rattle.replay_lines.proofs.Printed.{all_printed}
use Rattle.replay_lines.proofs.printing.print_side.Goals as goal

pub loop-packed-init : goal.loop-packed-init
loop-packed-init g c =
    let text = c.args.text.now.items in
    let side = c.args.side.now in
    let all = concat c.parts.result.0.now ++ c.parts.result.1.now in
    record {
      so_far = begun (g.O.Sink.bytes c.args.out.now) text (shown side 0 all)
          (text ++ side_lines side 1 (pieces_of c.args.log.now))
          (ap (λ (l : List _). text ++ l) (side_shown side c.args.log.now all
          (c.parts.ensures ∙ c.kept.ensures)));
      faults = refl;
    }

pub returns-in_err-unpack-clause-prints : goal.returns-in_err-unpack-clause-prints
returns-in_err-unpack-clause-prints g c =
    let side = c.args.side.now in
    let all = side_lines side 1 (pieces_of c.args.log.now) in
    let parts = c.parts.result.0.now in
    let rest = concat (drop c.loop-packed.packed-index parts) ++ c.parts.result.1.now in
    front_prints c.from_residual.result c.from_residual.ensures.0 (g.O.Sink.bytes c.args.out.now)
    (g.O.Sink.bytes c.loop-packed.out) c.args.text.now.items c.loop-packed.text.items all
    (stopped (g.O.Sink.bytes c.args.out.now) (g.O.Sink.bytes c.loop-packed.out)
    c.loop-packed.text.items (shown side c.loop-packed.connections rest)
    (c.args.text.now.items ++ all) c.loop-packed.invariant.so_far)

pub returns-in_err-connections-clause-prints : goal.returns-in_err-connections-clause-prints
returns-in_err-connections-clause-prints g c =
    let old = g.O.Sink.bytes c.args.out.now in
    let mid = g.O.Sink.bytes c.loop-packed.out in
    let new = g.O.Sink.bytes c.print_kept.new.out in
    let side = c.args.side.now in
    let connections = c.loop-packed.connections in
    let before = c.loop-packed.text.items in
    let parts = c.parts.result.0.now in
    let end = c.parts.result.1.now in
    let index = c.loop-packed.packed-index in
    let kept = c.deref.result.now in
    let line = shown side connections kept in
    let lines = shown side (opened_in connections kept) (concat (drop (index + 1) parts) ++ end) in
    let all = side_lines side 1 (pieces_of c.args.log.now) in
    let whole = c.args.text.now.items ++ all in
    front_prints c.from_residual-in_err-connections.result
    c.from_residual-in_err-connections.ensures.0 old new c.args.text.now.items
    c.print_kept.new.text.items all
    (broken old mid new before lines whole line
    (with_rest old mid before (shown side connections (concat (drop index parts) ++ end))
    (line ++ lines) whole c.loop-packed.invariant.so_far
    (part_first side parts index c.packed-item.result kept end connections
    (opened_in connections kept) c.loop-packed-test.true c.packed-item.is
    (c.deref.ensures.value ∙ c.in_ok-unpack.ensures) refl))
    c.in_err-connections.ensures.prints)

pub loop-packed-preserved : goal.loop-packed-preserved
loop-packed-preserved g c =
    let old = g.O.Sink.bytes c.args.out.now in
    let mid = g.O.Sink.bytes c.loop-packed.out in
    let new = g.O.Sink.bytes c.print_kept.new.out in
    let side = c.args.side.now in
    let connections = c.loop-packed.connections in
    let next = c.in_ok-connections.connections in
    let before = c.loop-packed.text.items in
    let parts = c.parts.result.0.now in
    let end = c.parts.result.1.now in
    let index = c.loop-packed.packed-index in
    let kept = c.deref.result.now in
    let line = shown side connections kept in
    let lines = shown side next (concat (drop (index + 1) parts) ++ end) in
    let whole = c.args.text.now.items ++ side_lines side 1 (pieces_of c.args.log.now) in
    record {
      so_far = printed old mid new before lines whole line
          (with_rest old mid before (shown side connections (concat (drop index parts) ++ end))
          (line ++ lines) whole c.loop-packed.invariant.so_far
          (part_first side parts index c.packed-item.result kept end connections next
          c.loop-packed-test.true c.packed-item.is
          (c.deref.ensures.value ∙ c.in_ok-unpack.ensures) c.in_ok-connections.ensures.count))
          c.print_kept.new.text.items c.in_ok-connections.ensures.prints;
      faults = c.in_ok-connections.ensures.still (λ no. absurd (cc no))
          ∙ c.loop-packed.invariant.faults;
    }

pub returns-in_err-print_kept-clause-prints : goal.returns-in_err-print_kept-clause-prints
returns-in_err-print_kept-clause-prints g c =
    let old = g.O.Sink.bytes c.args.out.now in
    let mid = g.O.Sink.bytes c.loop-packed.out in
    let new = g.O.Sink.bytes c.print_kept-2.new.out in
    let side = c.args.side.now in
    let connections = c.loop-packed.connections in
    let before = c.loop-packed.text.items in
    let parts = c.parts.result.0.now in
    let end = c.parts.result.1.now in
    let index = c.loop-packed.packed-index in
    let line = shown side connections end in
    let all = side_lines side 1 (pieces_of c.args.log.now) in
    let whole = c.args.text.now.items ++ all in
    let passed : length parts ≤ index = search rules in
    front_prints c.from_residual-in_err-print_kept.result
    c.from_residual-in_err-print_kept.ensures.0 old new c.args.text.now.items
    c.print_kept-2.new.text.items all
    (broken old mid new before [] whole line
    (with_rest old mid before (shown side connections (concat (drop index parts) ++ end))
    (line ++ []) whole c.loop-packed.invariant.so_far
    (end_first side parts index end connections passed)) c.in_err-print_kept.ensures.prints)

pub returns-clause-prints : goal.returns-clause-prints
returns-clause-prints g c =
    let old = g.O.Sink.bytes c.args.out.now in
    let mid = g.O.Sink.bytes c.loop-packed.out in
    let new = g.O.Sink.bytes c.print_kept-2.new.out in
    let side = c.args.side.now in
    let connections = c.loop-packed.connections in
    let before = c.loop-packed.text.items in
    let parts = c.parts.result.0.now in
    let end = c.parts.result.1.now in
    let index = c.loop-packed.packed-index in
    let line = shown side connections end in
    let all = side_lines side 1 (pieces_of c.args.log.now) in
    let whole = c.args.text.now.items ++ all in
    let passed : length parts ≤ index = search rules in
    all_printed old new c.args.text.now.items c.print_kept-2.new.text.items all
    (printed old mid new before [] whole line
    (with_rest old mid before (shown side connections (concat (drop index parts) ++ end))
    (line ++ []) whole c.loop-packed.invariant.so_far
    (end_first side parts index end connections passed))
    c.print_kept-2.new.text.items c.in_ok-print_kept.ensures.prints)
