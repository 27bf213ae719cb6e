use Rattle.std.proofs.Common.{◌≡◌, refl, rules}
use Rattle.capture_text.specs.Capture.{title}
use Rattle.capture_text.proofs.Whole.{no_second}
use Rattle.capture_text.proofs.reading.read_title.Goals as goal

pub returns-in-None-clause-err : goal.returns-in-None-clause-err
returns-in-None-clause-err c =
    let is : c.in-Some.line.now ≡ title = search rules in
    no_second c.args.text.now c.in-Some.line.now c.in-Some.behind.now c.in-Some.ensures.some is
    (c.in-None.ensures.none refl)
