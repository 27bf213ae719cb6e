-- Own: a journal of format 1, and what its bytes stand for; docs/DEFINITIONS.md, "Disk and
-- journal".
--
-- Its records are those of format 2 without a day in front, and its mark is another one.
use Rattle.std.specs.Prelude.{◌≡◌, ◌⊎◌, ℕ, ◌+◌, ◌<◌, List, [], ◌∷◌, ◌++◌, map, length, take, codes}
use Rattle.order_meaning.specs.declared.names.Names.{Names}
use Rattle.gate_log.specs.Records.{blocks, Stands, IsRefused}
use Rattle.pair_entries.specs.declared.entry.Entry.{Entry}
use Rattle.pair_entries.specs.Payload.{entry_bytes}
use Rattle.pair_entries.specs.Birth.{name_bytes, AreNames}
use Rattle.kept_entries.specs.Numbers.{first_numbers}
use Rattle.kept_entries.specs.Entries.{DaysGoOn}
use Rattle.pair_journal.specs.Journal.{Reading, Unborn, Born, Refused}

-- the mark of the format
abbrev pub mark1 : List ℕ
mark1 = codes "FIXGATEWAY1"

-- the payload of the birth record
abbrev pub birth1_bytes : Names → List ℕ
birth1_bytes names = mark1 ++ name_bytes names.client_our
    ++ name_bytes names.client_peer ++ name_bytes names.venue_our ++ name_bytes names.venue_peer

-- the payloads of a journal
abbrev pub payloads1_of : Names → List Entry → List (List ℕ)
payloads1_of names entries = birth1_bytes names ∷ map entry_bytes entries

-- these payloads are those of a journal of these names and entries
pub record Spells1 (payloads : List (List ℕ)) (names : Names) (entries : List Entry) : Type 0 where
  pub written : payloads ≡ payloads1_of names entries
  pub named : AreNames names
  pub sound : DaysGoOn first_numbers entries

-- these payloads are those of a journal
abbrev pub AreSpelt1 : List (List ℕ) → Type 0
AreSpelt1 payloads = (names : Names) × (entries : List Entry) × Spells1 payloads names entries

-- The first payload that is not of the right form stands at this place: so many before it are those
-- of a journal, or there is none before it, and with it they are not.
pub record Misspells1 (payloads : List (List ℕ)) (at : ℕ) : Type 0 where
  pub number : ℕ
  pub within : number < length payloads
  pub place : at ≡ length (blocks (take number payloads))
  pub sound : (number ≡ 0) ⊎ AreSpelt1 (take number payloads)
  pub none : AreSpelt1 (take (number + 1) payloads) → ⊥

-- THE BYTES OF A DISK, AND WHAT THEY STAND FOR in format 1
abbrev pub JournalOf1 : List ℕ → Reading → Type 0
JournalOf1 image Unborn = Stands image []
JournalOf1 image (Born names entries) =
    (payloads : List (List ℕ)) × Stands image payloads × Spells1 payloads names entries
JournalOf1 image (Refused at) = IsRefused image at ⊎
    ((payloads : List (List ℕ)) × Stands image payloads × Misspells1 payloads at)
