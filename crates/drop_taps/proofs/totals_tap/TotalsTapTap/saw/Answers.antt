use Rattle.std.proofs.Common.{ap, ◌∙◌}
use Rattle.pair_entries.specs.declared.entry.Entry.{Entry}
use Rattle.drop_taps.specs.Tap.{all_counted}
use Rattle.drop_taps.specs.Totals.{seen_by}
use Rattle.drop_taps.proofs.totals_tap.TotalsTapTap.saw.Goals as goal

pub returns-clause-tally : goal.returns-clause-tally
returns-clause-tally c = c.count.ensures
    ∙ ap (λ (e : Entry). all_counted e (seen_by c.args.self.now)) c.as_ref.ensures
