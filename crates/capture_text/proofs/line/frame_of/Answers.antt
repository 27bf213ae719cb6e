use Rattle.std.proofs.Common.{List, ℕ, sym, subst}
use Rattle.frame_grammar.specs.Frame.{IsBody, frame_of}
use Rattle.capture_text.specs.Capture.{kind_of, IsRound}
use Rattle.capture_text.specs.Line.{Writes}
use Rattle.capture_text.proofs.Bytes.{not_both}
use Rattle.capture_text.proofs.EventLines.{no_round}
use Rattle.capture_text.proofs.line.frame_of.Goals as goal

pub returns-then-not-branch : goal.returns-then-not-branch
returns-then-not-branch c =
    no_round c.args.side c.args.text.now c.in-Some.body
    (subst (Writes c.args.text.now) c.in-Some.is c.in_ok-body.ensures)
    (λ both. not_both c.in_ok-is_round_of.field-0 c.if-not-branch.true
    (c.in_ok-is_round_of.ensures.1
    (subst (λ (b : List ℕ). IsBody b × IsRound (frame_of (kind_of c.args.side) b))
    (sym c.as_slice.ensures) both)))
