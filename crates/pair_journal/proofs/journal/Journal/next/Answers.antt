use Rattle.std.proofs.Common.{◌∙◌, sym, ap, subst}
use Rattle.pair_entries.specs.Payload.{AreNext}
use Rattle.kept_entries.specs.declared.spot.Spot.{Spot}
use Rattle.kept_entries.specs.Numbers.{first_numbers, numbers_after}
use Rattle.kept_entries.specs.Days.{last_day}
use Rattle.kept_entries.specs.Entries.{DaysGoOn}
use Rattle.pair_journal.specs.State.{JournalState}
use Rattle.pair_journal.proofs.Adding.{next_bounds}
use Rattle.kept_entries.proofs.Dating.{last_numbers}
use Rattle.pair_journal.proofs.journal.Journal.next.Goals as goal

pub returns-clause-bounds : goal.returns-clause-bounds
returns-clause-bounds c = subst (λ (s : Spot). AreNext s.next) (sym c.end.ensures.end)
    (next_bounds c.self.inside.kept.entries c.end.ensures.sound)

pub returns-clause-next : goal.returns-clause-next
returns-clause-next c = ap (λ (s : Spot). s.next) c.end.ensures.end
    ∙ sym (last_numbers c.self.inside.kept.entries c.end.ensures.sound)
    ∙ ap (λ (s : JournalState). numbers_after first_numbers (last_day s.entries)) c.self.view_is

pub returns-clause-sound : goal.returns-clause-sound
returns-clause-sound c = subst (λ (s : JournalState). DaysGoOn first_numbers s.entries)
    c.self.view_is c.end.ensures.sound
