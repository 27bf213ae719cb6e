-- Own: what is kept of sends that the system did not take; docs/DECISIONS.md, "The edge".
use Rattle.std.specs.Prelude.{ℕ, ◌+◌, ◌-◌, ◌<◌, ◌==◌, Bool, true, false, ◌&&◌, nat_le}
use Rattle.std.specs.Prelude.{if◌then◌else◌, List, [], ◌∷◌, take, length}
use Rattle.std.specs.declared.option.Option.{Option}
use Rattle.std.specs.Io.KnownBytes.{Keeps, Appends, append_known}
use Rattle.edge_logic.specs.declared.fault.Fault.{Fault}
use Rattle.edge_logic.specs.declared.fault.Fault.TheVariants as fault
use Rattle.edge_logic.specs.declared.outbox.TheConstants.{ROOM}

-- the bytes that wait for a peer, and since when it has taken none of them, in milliseconds
pub record Waiting : Type 0 where
  pub bytes : List ℕ
  pub since : ℕ

-- What went out and what waits, where the writer tells its bytes, are together as they were.
abbrev pub StaysWhole : Option (List ℕ) → Option (List ℕ) → List ℕ → List ℕ → Type 0
StaysWhole out_old out_new old new = Keeps (append_known out_old old) (append_known out_new new)

-- What went out and what waits have together grown by just this piece.
abbrev pub GrowsWhole : Option (List ℕ) → Option (List ℕ) → List ℕ → List ℕ → List ℕ → Type 0
GrowsWhole out_old out_new old new piece =
    Appends (append_known out_old old) (append_known out_new new) piece

-- a front of these bytes went out
abbrev pub FrontWent : Option (List ℕ) → Option (List ℕ) → List ℕ → Type 0
FrontWent old new bytes = (n : ℕ) × Appends old new (take n bytes)

-- whether there are bytes
abbrev pub has_bytes : List ℕ → Bool
has_bytes [] = false
has_bytes (byte ∷ bytes) = true

-- whether a peer has taken nothing for 5 s of what waits for it
abbrev pub took_nothing : Waiting → ℕ → Bool
took_nothing waiting now = has_bytes waiting.bytes && nat_le 5_000 (now - waiting.since)

-- since when it has taken nothing, once a piece was sent: as before where something waited and none
-- of it was taken, and else since now
abbrev pub since_behind : (old new : Waiting) → (piece : List ℕ) → (now : ℕ) → ℕ
since_behind old new piece now =
    if has_bytes old.bytes && (length new.bytes == length old.bytes + length piece) then old.since
    else now

-- why a send fails, behind which so many bytes would wait: the system's reason, want of memory, or
-- want of room, and that only for more bytes than there is room for
abbrev pub IsSendFault : ℕ → Fault → Type 0
IsSendFault waiting (fault.System error) = Unit {0}
IsSendFault waiting fault.NoMemory = Unit {0}
IsSendFault waiting fault.NoRoom = ROOM < waiting
IsSendFault waiting other = ⊥
