-- Own: the payload of an entry as bytes, numbers with the highest byte first; docs/DEFINITIONS.md,
-- "Disk and journal".
use Rattle.std.specs.Prelude.{◌≡◌, ℕ, ◌+◌, ◌≤◌, Bool, true, false, List, [], ◌∷◌, ◌++◌, length}
use Rattle.std.specs.Prelude.{Some, None}
use Rattle.std.specs.Prelude.{if◌then◌else◌, IfSome}
use Rattle.std.specs.List.{flat_map}
use Rattle.std.specs.Int.{w32, w64, to_be_bytes}
use Rattle.std.specs.declared.option.Option.{Option}
use Rattle.order_meaning.specs.declared.Side.{Side}
use Rattle.order_meaning.specs.declared.Side.TheVariants.{Client, Venue}
use Rattle.pair_entries.specs.declared.TheConstants.{MAX_AT, MAX_NUMBER, MAX_NEXT, MAX_RAW}
use Rattle.pair_entries.specs.declared.TheConstants.{MAX_TYPE, MAX_CONTENT, MAX_OUTS}
use Rattle.pair_entries.specs.declared.entry.Took.{Took}
use Rattle.pair_entries.specs.declared.entry.Out.{Out}
use Rattle.pair_entries.specs.declared.entry.Entry.{Entry}

-- the next numbers: client in, client out, venue in, venue out
abbrev pub Next : Type 0
Next = ℕ × ℕ × ℕ × ℕ

abbrev pub side_byte : Side → ℕ
side_byte Client = 1
side_byte Venue = 2

-- 0 neither, 1 administrative, 2 a resend, 3 both
abbrev pub flags_byte : Bool → Bool → ℕ
flags_byte admin resend = (if admin then 1 else 0) + (if resend then 2 else 0)

-- a length of four bytes, and so many bytes
abbrev pub counted : List ℕ → List ℕ
counted bytes = to_be_bytes w32 (length bytes) ++ bytes

abbrev pub took_bytes : Option Took → List ℕ
took_bytes None = 0 ∷ []
took_bytes (Some took) = side_byte took.side ∷ to_be_bytes w32 took.number ++ counted took.raw

-- a new day, or what was taken
abbrev pub taken_bytes : Bool → Option Took → List ℕ
taken_bytes true took = 3 ∷ []
taken_bytes false took = took_bytes took

abbrev pub next_bytes : Next → List ℕ
next_bytes next =
    to_be_bytes w32 next.0
    ++ to_be_bytes w32 next.1 ++ to_be_bytes w32 next.2 ++ to_be_bytes w32 next.3

abbrev pub out_bytes : Out → List ℕ
out_bytes out = side_byte out.side ∷ to_be_bytes w32 out.number ++ flags_byte out.admin out.resend ∷
    length out.msg_type ∷ out.msg_type ++ counted out.content

abbrev pub entry_bytes : Entry → List ℕ
entry_bytes entry =
    to_be_bytes w64 entry.at ++ taken_bytes entry.reset entry.took ++ next_bytes entry.next ++
    length entry.outs ∷ flat_map out_bytes entry.outs

-- THE PAYLOAD of an entry on a day
abbrev pub payload_on : (day : ℕ) → Entry → List ℕ
payload_on day entry = to_be_bytes w32 day ++ entry_bytes entry

-- the bounds of an entry
pub record IsTook (took : Took) : Type 0 where
  pub above : 1 ≤ took.number
  pub below : took.number ≤ MAX_NUMBER
  pub short : length took.raw ≤ MAX_RAW

pub record IsOut (out : Out) : Type 0 where
  pub below : out.number ≤ MAX_NUMBER
  pub typed : 1 ≤ length out.msg_type
  pub short : length out.msg_type ≤ MAX_TYPE
  pub bounded : length out.content ≤ MAX_CONTENT

abbrev pub AreOuts : List Out → Type 0
AreOuts [] = Unit {0}
AreOuts (out ∷ outs) = IsOut out × AreOuts outs

abbrev pub IsNextNumber : ℕ → Type 0
IsNextNumber next = (1 ≤ next) × (next ≤ MAX_NEXT)

abbrev pub AreNext : Next → Type 0
AreNext next = IsNextNumber next.0 × IsNextNumber next.1 × IsNextNumber next.2 × IsNextNumber next.3

-- an entry with which a day begins takes nothing and gives nothing out, and both sides count from 1
pub record IsReset (entry : Entry) : Type 0 where
  pub took : entry.took ≡ None
  pub next : entry.next ≡ (1, 1, 1, 1)
  pub outs : entry.outs ≡ []

pub record IsEntry (entry : Entry) : Type 0 where
  pub at : entry.at ≤ MAX_AT
  pub reset : entry.reset ≡ true → IsReset entry
  pub took : IfSome entry.took IsTook
  pub next : AreNext entry.next
  pub few : length entry.outs ≤ MAX_OUTS
  pub outs : AreOuts entry.outs
