use Rattle.std.proofs.Common.{◌≡◌, ◌∙◌, ◌∷◌, [], rules, List, ℕ, length, ap, sym}
use Rattle.frame_grammar.specs.Frame.{frame_of}
use Rattle.kept_pieces.specs.Pieces.{bytes_of}
use Rattle.wires.specs.Wire.{Came, Bytes}
use Rattle.wires.specs.Script.{next_of}
use Rattle.capture_text.specs.Capture.{kind_of}
use Rattle.capture_text.specs.declared.capture.Line.{Line}
use Rattle.capture_text.specs.Kept.{event_of}
use Rattle.capture_replay.specs.Rounds.{arrival}
use Rattle.capture_replay.proofs.Coming.{frame_comes}
use Rattle.capture_replay.proofs.wire.give_line.Goals as goal

pub returns-in_ok-frame-in-Frame-clause-came : goal.returns-in_ok-frame-in-Frame-clause-came
returns-in_ok-frame-in-Frame-clause-came c =
    let side = c.args.side in
    let body = bytes_of c.in-Frame.body in
    let room = length c.args.buf.now in
    let same : c.in-Frame.of ≡ side = search rules in
    let frame : c.deref-in-Frame.result.now ≡ frame_of (kind_of side) body = search rules in
    c.arrive-in-Frame.ensures.came
    ∙ ap (λ (bytes : List ℕ). next_of c.args.within room (Bytes bytes ∷ [])) frame
    ∙ ap (λ (came : Came). next_of c.args.within room (came ∷ []))
    (frame_comes side c.in-Frame.of body same)
    ∙ ap (λ (line : Line). next_of c.args.within room (arrival side (event_of line) ∷ []))
    (sym c.in-Frame.is)
