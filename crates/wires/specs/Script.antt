-- Own: what a script lets come at each poll; docs/DEFINITIONS.md, "Wires and clocks".
use Rattle.std.specs.Prelude.{◌≡◌, ℕ, Bool, ◌&&◌, nat_lt, if◌then◌else◌, List, [], ◌∷◌, length}
use Rattle.std.specs.Prelude.{take, drop}
use Rattle.wires.specs.Wire.{Came, Nothing, Opened, Bytes, Closed, Broken, may_come}
use Rattle.wires.specs.Wire.{WireCall, Poll, within_after}
use Rattle.wires.specs.declared.wire.TheConstants.{POLL_LEN}
use Rattle.wires.specs.declared.script.Script.{Script}
use Rattle.wires.specs.declared.script.Script.TheVariants as script

abbrev pub item_of : Script → Came
item_of script.Nothing = Nothing
item_of script.Opened = Opened
item_of (script.Bytes bytes) = Bytes bytes.items
item_of script.Closed = Closed

-- what may not come at its place is nothing
abbrev pub allowed : Bool → Came → Came
allowed within came = if may_come within came then came else Nothing

-- what a poll with room for so many bytes gives of a script
abbrev pub next_of : Bool → ℕ → List Came → Came
next_of within room [] = Nothing
next_of within room (Bytes bytes ∷ rest) = allowed within (Bytes (take room bytes))
next_of within room (item ∷ rest) = allowed within item

-- what is left of the script then: of bytes that come, those for which there was no room
abbrev pub rest_of : Bool → ℕ → List Came → List Came
rest_of within room [] = []
rest_of within room (Bytes bytes ∷ rest) =
    if within && nat_lt room (length bytes) then Bytes (drop room bytes) ∷ rest else rest
rest_of within room (item ∷ rest) = rest

-- what a call takes of a script: a poll with room for POLL_LEN bytes what it gives, and one that
-- fails nothing
abbrev pub Takes : Bool → WireCall → (script left : List Came) → Type 0
Takes within (Poll Broken) script left = left ≡ script
Takes within (Poll came) script left =
    (came ≡ next_of within POLL_LEN script) × (left ≡ rest_of within POLL_LEN script)
Takes within call script left = left ≡ script

-- THE POLLS OF A RECORD PLAY A SCRIPT, of which so much is left.
abbrev pub Plays : Bool → (script : List Came) → List WireCall → (left : List Came) → Type 0
Plays within script [] left = left ≡ script
Plays within script (call ∷ calls) left = (between : List Came)
    × Takes within call script between × Plays (within_after within call) between calls left
