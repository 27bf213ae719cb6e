-- What was put of the lines of a journal that a look found.
use Rattle.std.proofs.Common.{◌≡◌, ◌≢◌, ℕ, List, refl, subst, inr}
use Rattle.std.proofs.Common.{Some, None, IfSome, Result, Ok, Err}
use Rattle.std.specs.declared.option.Option.{Option}
use Rattle.std.specs.Option.{ForSome}
use Rattle.outside.specs.Bytes.{PutAppends}
use Rattle.pair_entries.specs.declared.entry.Entry.{Entry}
use Rattle.pair_journal.specs.State.{JournalState}
use Rattle.pair_journal.specs.Calls.{Looks}
use Rattle.pair_journal.specs.Journal.{JournalOf, Born}
use Rattle.journal_show.specs.declared.journal_lines.ShowError.{ShowError}
use Rattle.journal_show.specs.declared.journal_lines.ShowError.TheVariants as errors
use Rattle.journal_show.specs.JournalLines.{Shows, lines_from}

born_shows : {T : Type 0} (bytes : List ℕ) (old new : Option (List ℕ)) (journal : JournalState)
    (result : Result T ShowError)
    → JournalOf bytes (Born journal.names journal.entries)
    → PutAppends old new result (lines_from 1 journal.entries)
    → ((at : ℕ) → result ≢ Err (errors.JournalRefused at)) → Shows bytes result old new
born_shows bytes old new journal (Ok value) born put reads =
    (Born journal.names journal.entries, born, tt, put)
born_shows bytes old new journal (Err errors.OutputFault) born put reads =
    (Born journal.names journal.entries, born, tt, put)
born_shows bytes old new journal (Err (errors.JournalRefused at)) born put reads =
    absurd (reads at refl)
born_shows bytes old new journal (Err errors.DiskFault) born put reads =
    inr (Born journal.names journal.entries, born, tt, put)
born_shows bytes old new journal (Err errors.NoMemory) born put reads =
    inr (Born journal.names journal.entries, born, tt, put)

pub shown_born : {T : Type 0} (told old new : Option (List ℕ)) (found : Option JournalState)
    (journal : JournalState) (result : Result T ShowError) (read : List Entry)
    → found ≡ Some journal → IfSome told (λ b. Looks b (Ok found))
    → PutAppends old new result (lines_from 1 read) → ForSome told (λ b. read ≡ journal.entries)
    → ForSome told (λ b. (at : ℕ) → result ≢ Err (errors.JournalRefused at))
    → IfSome told (λ b. Shows b result old new)
shown_born None old new found journal result read is looks put same reads = tt
shown_born (Some b) old new found journal result read is looks put same reads =
    born_shows b old new journal result
    (subst (λ (f : Option JournalState). Looks b (Ok f)) is looks)
    (subst (λ (es : List Entry). PutAppends old new result (lines_from 1 es)) (same b refl) put)
    (reads b refl)
