use Rattle.std.proofs.Common.{◌∙◌, sym, ap}
use Rattle.kept_entries.specs.Numbers.{first_numbers, numbers_after}
use Rattle.kept_entries.specs.Days.{last_day}
use Rattle.pair_journal.specs.State.{JournalState}
use Rattle.kept_entries.specs.declared.spot.Spot.{Spot}
use Rattle.kept_entries.proofs.Dating.{last_numbers}
use Rattle.pair_journal.proofs.look.Look.next.Goals as goal

pub returns : goal.returns
returns c = ap (λ (s : Spot). s.next) c.end.ensures.end
    ∙ sym (last_numbers c.self.inside.reached c.end.ensures.sound)
    ∙ ap (λ (s : JournalState). numbers_after first_numbers (last_day s.entries)) c.self.view_is
