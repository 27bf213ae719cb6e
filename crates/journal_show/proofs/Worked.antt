-- Worked lines of journals, by computation alone.
use Rattle.std.proofs.Common.{◌≡◌, [], ◌∷◌, refl, None, false}
use Rattle.std.specs.Prelude.{codes}
use Rattle.std.specs.Fmt.{digits}
use Rattle.order_meaning.specs.declared.names.Names.{Names}
use Rattle.pair_entries.specs.declared.entry.Entry.{Entry}
use Rattle.pair_journal.specs.Journal.{Unborn, Born, Refused}
use Rattle.entry_lines.specs.EntryLine.{entry_line}
use Rattle.journal_show.specs.JournalLines.{shown}

abbrev names : Names
names = record {
  client_our = codes "GATE";
  client_peer = codes "CLNT";
  venue_our = codes "GATE";
  venue_peer = codes "VENU";
}

abbrev one : Entry
one = record { at = 0; reset = false; took = None; next = (1, 1, 1, 2); outs = [] }

abbrev two : Entry
two = record { at = 258; reset = false; took = None; next = (1, 1, 1, 3); outs = [] }

unborn : shown Unborn ≡ codes "unborn\n"
unborn = refl

no_entry : shown (Born names []) ≡ []
no_entry = refl

two_entries : shown (Born names (one ∷ two ∷ [])) ≡ codes
    "1 at=0 took=none outs=none next=1,1,1,2\n2 at=258 took=none outs=none next=1,1,1,3\n"
unfolding digits entry_line
two_entries = refl

refused : shown (Refused 161) ≡ []
refused = refl
