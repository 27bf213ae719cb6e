-- Own: an out of a journal by its side and number, and the message that it translated;
-- docs/DEFINITIONS.md, "Disk and journal".
use Rattle.std.specs.Prelude.{ℕ, ◌==◌, ◌&&◌, not, Bool, true, false, List, [], ◌∷◌, ◌++◌, take}
use Rattle.std.specs.Prelude.{Some, None}
use Rattle.std.specs.Prelude.{codes, if◌then◌else◌}
use Rattle.std.specs.List.{list_any}
use Rattle.std.specs.Str.{bytes_eq}
use Rattle.std.specs.declared.option.Option.{Option}
use Rattle.order_meaning.specs.declared.Side.{Side}
use Rattle.order_meaning.specs.declared.Side.TheVariants.{Client, Venue}
use Rattle.pair_entries.specs.declared.entry.Took.{Took}
use Rattle.pair_entries.specs.declared.entry.Out.{Out}
use Rattle.pair_entries.specs.declared.entry.Entry.{Entry}
use Rattle.kept_entries.specs.Numbers.{is_side, outs_to}

-- an out beside its entry
pub record Given : Type 0 where
  pub entry : Entry
  pub out : Out

-- the out of this number among these
abbrev pub numbered : ℕ → List Out → Option Out
numbered number [] = None
numbered number (out ∷ outs) = elim (out.number == number) [
  | true ↦ Some out
  | false ↦ numbered number outs
]

-- the out of this side and number in an entry
abbrev pub given_in : Side → ℕ → Entry → Option Given
given_in side number entry = elim (numbered number (outs_to side entry.outs)) [
  | None ↦ None
  | Some out ↦ Some (record { entry = entry; out = out })
]

-- the out of this side and number, beside its entry
abbrev pub given : Side → ℕ → List Entry → Option Given
given side number [] = None
given side number (entry ∷ entries) = elim (given_in side number entry) [
  | None ↦ given side number entries
  | Some one ↦ Some one
]

-- the types of the messages that are translated to a side
abbrev pub letters_to : Side → List ℕ
letters_to Client = codes "89"
letters_to Venue = codes "DFGH"

-- a body begins with MsgType(35) of this letter
abbrev pub has_letter : ℕ → List ℕ → Bool
has_letter letter raw = bytes_eq (take 5 raw) (codes "35=" ++ letter ∷ 1 ∷ [])

-- what was taken is of the other side, and an out of this letter translates it
abbrev pub is_source : Took → Side → ℕ → Bool
is_source took side letter =
    not (is_side side took.side) && list_any (λ b. letter == b) (letters_to side)
    && has_letter letter took.raw

-- the one byte of a type
abbrev pub letter_of : List ℕ → Option ℕ
letter_of [] = None
letter_of (letter ∷ []) = Some letter
letter_of (letter ∷ more ∷ rest) = None

-- the number and the type's letter of the message that an out translates
abbrev pub source_in : Given → Option (ℕ × ℕ)
source_in one = elim one.entry.took [
  | None ↦ None
  | Some took ↦ elim (letter_of one.out.msg_type) [
    | None ↦ None
    | Some letter ↦ if is_source took one.out.side letter then Some (took.number, letter) else None
  ]
]

-- the same of the out of this side and number
abbrev pub source_of : Side → ℕ → List Entry → Option (ℕ × ℕ)
source_of side number entries = elim (given side number entries) [
  | None ↦ None
  | Some one ↦ source_in one
]
