-- Own: what was written and read, where a journal justifies it; docs/DEFINITIONS.md, "A life".
use Rattle.std.specs.Prelude.{◌≡◌, ◌⊎◌, ℕ, Bool, List, [], ◌∷◌, ◌++◌, Some, None, fold}
use Rattle.std.specs.Prelude.{if◌then◌else◌}
use Rattle.std.specs.declared.option.Option.{Option}
use Rattle.std.specs.List.{flat_map, filter_map}
use Rattle.order_meaning.specs.declared.Side.{Side}
use Rattle.order_meaning.specs.declared.Side.TheVariants.{Client, Venue}
use Rattle.order_meaning.specs.declared.names.Names.{Names}
use Rattle.pair_entries.specs.declared.entry.Took.{Took}
use Rattle.pair_entries.specs.declared.entry.Entry.{Entry}
use Rattle.kept_entries.specs.Numbers.{is_side}
use Rattle.event_decisions.specs.Decide.{Asked, Words, IsLawful}
use Rattle.wires.specs.Wire.{WireCall, Connection, connections_after}
use Rattle.life_laws.specs.Bodies.{bodies_read}
use Rattle.life_laws.specs.Forms.{Form, First, form_frame, AreForms}

-- the numbers of the outs that are sent first, and not again
abbrev pub first_numbers_of : List Form → List ℕ
first_numbers_of [] = []
first_numbers_of (First p ∷ forms) = p.out.number ∷ first_numbers_of forms
first_numbers_of (form ∷ forms) = first_numbers_of forms

abbrev pub NotAmong : ℕ → List ℕ → Type 0
NotAmong n [] = Unit {0}
NotAmong n (m ∷ ms) = (n ≡ m → ⊥) × NotAmong n ms

abbrev pub EachOnce : List ℕ → Type 0
EachOnce [] = Unit {0}
EachOnce (n ∷ ns) = NotAmong n ns × EachOnce ns

-- the first list is the second with some left out
abbrev pub IsSublist : List (List ℕ) → List (List ℕ) → Type 0
IsSublist [] ys = Unit {0}
IsSublist (x ∷ xs) [] = ⊥
IsSublist (x ∷ xs) (y ∷ ys) = ((x ≡ y) × IsSublist xs ys) ⊎ IsSublist (x ∷ xs) ys

-- the body that a side's message had
abbrev pub raw_of : Side → Option Took → Option (List ℕ)
raw_of side None = None
raw_of side (Some took) = if is_side side took.side then Some took.raw else None

-- the bodies that a journal took from a side, in order
abbrev pub tooks_of : Side → List Entry → List (List ℕ)
tooks_of side entries = filter_map (λ entry. raw_of side entry.took) entries

module _ (names : Names) where
  -- what was written on a connection is a front of the frames of these forms
  abbrev pub IsFrontOf : Side → List ℕ → List Form → Type 0
  IsFrontOf side written forms =
      (missing : List ℕ) × (written ++ missing ≡ flat_map (form_frame names side) forms)

  -- on each connection these forms of the journal were written, the last of them maybe in part
  abbrev pub ShowsAll : List Entry → Side → List Connection → List (List Form) → Type 0
  ShowsAll entries side [] [] = Unit {0}
  ShowsAll entries side [] (forms ∷ more) = ⊥
  ShowsAll entries side (connection ∷ rest) [] = ⊥
  ShowsAll entries side (connection ∷ rest) (forms ∷ more) =
      AreForms entries side forms
      × IsFrontOf side connection.written forms × ShowsAll entries side rest more

  -- THE JOURNAL JUSTIFIES WHAT WAS WRITTEN AND READ: frames of its outs were written, of which none
  -- was written twice but as a repeat, and what it took was read, in order.
  pub record IsJustified (entries : List Entry) (side : Side) (connections : List Connection)
      : Type 0 where
    pub forms : List (List Form)
    pub shows : ShowsAll entries side connections forms
    pub once : EachOnce (flat_map first_numbers_of forms)
    pub tooks : IsSublist (tooks_of side entries) (bodies_read side connections)

-- the connections after these calls
abbrev pub transcript_from : List Connection → List WireCall → List Connection
transcript_from connections calls = fold connections_after connections calls

module _ (answers : List Entry → (active : Bool) → Option Asked → Option Words → Type 0)
    (names : Names) where
  -- WHAT THE END OF A LIFE LEAVES: a lawful journal that justifies what was written and read
  pub record Leaves (entries : List Entry) (client_side venue_side : List Connection)
      : Type 0 where
    pub lawful : IsLawful answers names entries
    pub client : IsJustified names entries Client client_side
    pub venue : IsJustified names entries Venue venue_side
