-- What a look finds in an image that was known to be a journal, or unborn.
use Rattle.std.proofs.Common.{◌≡◌, ◌∙◌, ℕ, List, [], sym, ap, subst, inl, inr}
use Rattle.std.proofs.Common.{Some, Ok}
use Rattle.std.specs.declared.option.Option.{Option}
use Rattle.order_meaning.specs.declared.names.Names.{Names}
use Rattle.pair_entries.specs.declared.entry.Entry.{Entry}
use Rattle.pair_journal.specs.State.{JournalState}
use Rattle.pair_journal.specs.Calls.{Looks}
use Rattle.pair_journal.specs.Journal.{Reading, JournalOf, Unborn, Born, Refused}
use Rattle.pair_journal.specs.Laws.{HasOneReading}
use Rattle.gateway_life.specs.Life.{IsJournal}

entries_of : Reading → List Entry
entries_of (Born names entries) = entries
entries_of reading = []

found : (image : List ℕ) (names kept : Names) (entries read : List Entry) → HasOneReading image
    → IsJournal names entries image → JournalOf image (Born kept read) → read ≡ entries
unfolding entries_of
found image names kept entries read one (inl born) looked =
    ap entries_of (one (Born kept read) (Born names entries) looked born)
found image names kept entries read one (inr (unborn, none)) looked =
    ap entries_of (one (Born kept read) Unborn looked unborn) ∙ sym none

pub found_entries : (image : List ℕ) (names : Names) (entries : List Entry)
    (looked : Option JournalState) (journal : JournalState) → HasOneReading image
    → IsJournal names entries image → looked ≡ Some journal → Looks image (Ok looked)
    → journal.entries ≡ entries
found_entries image names entries looked journal one is some looks =
    found image names journal.names entries journal.entries one is
    (subst (λ (l : Option JournalState). Looks image (Ok l)) some looks)

pub none_refused : (image : List ℕ) (at : ℕ) → HasOneReading image
    → (names : Names) × (entries : List Entry) × IsJournal names entries image
    → JournalOf image (Refused at) → ⊥
none_refused image at one (names, entries, inl born) refused =
    absurd (cc (one (Refused at) (Born names entries) refused born))
none_refused image at one (names, entries, inr (unborn, none)) refused =
    absurd (cc (one (Refused at) Unborn refused unborn))
