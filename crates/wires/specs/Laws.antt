-- Own: a record of which each call has its place, and what each call reads and writes.
use Rattle.std.specs.Prelude.{◌≡◌, ℕ, Bool, true, List, [], ◌∷◌, ⊤}
use Rattle.wires.specs.Wire.{WireCall, Poll, Send, HangUp, Bytes, may_come, within_after}

-- a call that may be made within a connection, or between two
abbrev pub has_place : Bool → WireCall → Bool
has_place within (Poll came) = may_come within came
has_place within (Send piece wrote done) = within
has_place within HangUp = within

-- each call of a record has its place
abbrev pub AreInPlace : Bool → List WireCall → Type 0
AreInPlace within [] = ⊤
AreInPlace within (call ∷ rest) =
    (has_place within call ≡ true) × AreInPlace (within_after within call) rest

abbrev pub read_by : WireCall → List ℕ
read_by (Poll (Bytes bytes)) = bytes
read_by call = []

abbrev pub written_by : WireCall → List ℕ
written_by (Send piece wrote done) = wrote
written_by call = []
