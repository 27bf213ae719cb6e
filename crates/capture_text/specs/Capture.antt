-- Own: a capture, and the lines in which it is written; docs/DEFINITIONS.md, "Captures".
use Rattle.std.specs.Prelude.{◌≡◌, ◌≢◌, ℕ, ◌≤◌, ◌<◌, ◌^◌, ◌==◌, ◌⊎◌, Bool, true, false}
use Rattle.std.specs.Prelude.{List, [], ◌∷◌, ◌++◌, map, length, All, codes}
use Rattle.std.specs.Prelude.{if◌then◌else◌, Some, None, IfSome}
use Rattle.std.specs.declared.option.Option.{Option}
use Rattle.std.specs.List.{flat_map, join_with_byte}
use Rattle.std.specs.Fmt.{decimal}
use Rattle.frame_grammar.specs.declared.frame.Kind.{Kind}
use Rattle.frame_grammar.specs.declared.frame.Kind.TheVariants.{Fix42, Fixt11}
use Rattle.frame_grammar.specs.Frame.{IsBody, frame_of}
use Rattle.order_meaning.specs.declared.Side.{Side}
use Rattle.order_meaning.specs.declared.Side.TheVariants.{Client, Venue}
use Rattle.order_meaning.specs.declared.names.Names.{Names}
use Rattle.outside.specs.declared.mem_disk.Image.{Image}
use Rattle.outside.specs.declared.mem_disk.Image.TheVariants as image
use Rattle.capture_text.specs.declared.capture.Event.{Event}
use Rattle.capture_text.specs.declared.capture.Event.TheVariants as event
use Rattle.capture_text.specs.declared.capture.Capture.{Capture}

-- ---- how it is written

-- `|` stands for SOH
abbrev pub written : ℕ → ℕ
written byte = if byte == 1 then 124 else byte

abbrev pub letter : Side → List ℕ
letter Client = codes "c"
letter Venue = codes "v"

abbrev pub image_word : Image → List ℕ
image_word image.Old = codes "old"
image_word image.New = codes "new"
image_word image.Torn = codes "torn"

-- the line of an event
abbrev pub line_of : Event → List ℕ
line_of (event.Stop call image) =
    codes "stop " ++ decimal call ++ (codes " " ++ image_word image)
line_of (event.At ms) = codes "at " ++ decimal ms
line_of event.Tick = codes "tick"
line_of (event.Opened side) = letter side ++ codes "+"
line_of (event.Closed side) = letter side ++ codes "-"
line_of (event.Text side bytes) = letter side ++ codes " " ++ map written bytes
line_of (event.Frame side body) = letter side ++ codes "f " ++ map written body

abbrev pub life_lines : List Event → List (List ℕ)
life_lines events = codes "life" ∷ map line_of events ++ codes "end" ∷ []

abbrev pub title : List ℕ
title = codes "fixgate capture 1"

-- HeartBtInt(108), and the minute of the day at which a session day begins, where one does
abbrev pub times : ℕ → Option ℕ → List (List ℕ)
times heart None = decimal heart ∷ []
times heart (Some minute) = decimal heart ∷ decimal minute ∷ []

-- `names A B C D H`, or `names A B C D H M`
abbrev pub names_line : Names → ℕ → Option ℕ → List ℕ
names_line names heart reset = join_with_byte 32 (codes "names"
    ∷ names.client_our ∷ names.client_peer ∷ names.venue_our ∷ names.venue_peer
    ∷ times heart reset)

-- the lines of a capture
abbrev pub lines_of : Capture → List (List ℕ)
lines_of capture =
    title ∷ names_line capture.names capture.heart capture.reset
    ∷ flat_map life_lines capture.lives

-- ---- its bounds

-- a CompID: 1 to 35 bytes from 33 to 126
pub record IsName (name : List ℕ) : Type 0 where
  pub some : 1 ≤ length name
  pub short : length name ≤ 35
  pub printable : All (λ byte. (33 ≤ byte) × (byte ≤ 126)) name

-- what a line may write: bytes from 32 to 126, but no `|`, or SOH
abbrev pub IsByte : ℕ → Type 0
IsByte byte = (byte ≡ 1) ⊎ ((32 ≤ byte) × (byte ≤ 126) × (byte ≢ 124))

-- a side is open behind these events, the last of which stands first: its last `+` or `-` is a `+`
abbrev pub is_open : Side → List Event → Bool
is_open Client (event.Opened Client ∷ before) = true
is_open Venue (event.Opened Venue ∷ before) = true
is_open Client (event.Closed Client ∷ before) = false
is_open Venue (event.Closed Venue ∷ before) = false
is_open side (event ∷ before) = is_open side before
is_open side [] = false

-- no line stands before
abbrev pub is_fresh : List Event → Bool
is_fresh [] = true
is_fresh (event ∷ before) = false

abbrev pub kind_of : Side → Kind
kind_of Client = Fix42
kind_of Venue = Fixt11

-- the bytes of a round
abbrev pub IsRound : List ℕ → Type 0
IsRound bytes = (1 ≤ length bytes) × (length bytes ≤ 4096)

-- an event may stand behind these, the last of which stands first
abbrev pub MayStand : List Event → Event → Type 0
MayStand before (event.Stop call image) =
    (is_fresh before ≡ true) × (1 ≤ call) × (call ≤ 1000000)
MayStand before (event.At ms) = ms < 2 ^ 64
MayStand before event.Tick = Unit {0}
MayStand before (event.Opened side) = is_open side before ≡ false
MayStand before (event.Closed side) = is_open side before ≡ true
MayStand before (event.Text side bytes) =
    (is_open side before ≡ true) × All IsByte bytes × IsRound bytes
MayStand before (event.Frame side body) =
    (is_open side before ≡ true) × All IsByte body × IsBody body
    × IsRound (frame_of (kind_of side) body)

-- each event of a life may stand where it does, behind these
abbrev pub AreEvents : List Event → List Event → Type 0
AreEvents before [] = Unit {0}
AreEvents before (event ∷ events) = MayStand before event × AreEvents (event ∷ before) events

-- the number of the first write or sync that a stop lets fail, and the image that it leaves
abbrev pub told_stop : Event → Option (ℕ × Image)
told_stop (event.Stop call image) = Some (call, image)
told_stop event = None

-- the stop of a life, which its first line tells
abbrev pub stop_of : List Event → Option (ℕ × Image)
stop_of [] = None
stop_of (event ∷ events) = told_stop event

pub record IsCapture (capture : Capture) : Type 0 where
  pub client_our : IsName capture.names.client_our
  pub client_peer : IsName capture.names.client_peer
  pub venue_our : IsName capture.names.venue_our
  pub venue_peer : IsName capture.names.venue_peer
  pub heart : capture.heart ≤ 3600
  pub reset : IfSome capture.reset (λ minute. minute ≤ 1439)
  pub some : 1 ≤ length capture.lives
  pub lives : All (AreEvents []) capture.lives
