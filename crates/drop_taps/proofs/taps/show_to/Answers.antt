use Rattle.std.proofs.Common.{◌∙◌, ◌∷◌, [], sym}
use Rattle.drop_taps.proofs.Showing.{saw_passed, saw_one}
use Rattle.drop_taps.proofs.taps.show_to.Goals as goal

pub returns-then-is_failed : goal.returns-then-is_failed
returns-then-is_failed g c =
    saw_passed _ c.args.tap.now (c.args.entry.now ∷ [])
    (sym c.is_failed.ensures ∙ c.if-is_failed.true)

pub returns : goal.returns
returns g c =
    let seen = c.tell.ensures in
    saw_one _ _ _ c.args.tap.now c.tell.new.tap c.args.entry.now c.tell.result
    (sym c.is_failed.ensures ∙ c.if-is_failed.false) seen.entries seen.tally seen.counts seen.failed
    seen.refused
