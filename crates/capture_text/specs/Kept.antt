-- Inside: the events of a life as they are kept, by marks, numbers and pieces.
use Rattle.std.specs.Prelude.{ℕ, List, [], ◌∷◌, drop, ⊤}
use Rattle.kept_pieces.specs.Pieces.{bytes_of, first_piece}
use Rattle.capture_text.specs.declared.capture.Event.{Event}
use Rattle.capture_text.specs.declared.capture.Event.TheVariants as event
use Rattle.capture_text.specs.declared.capture.Line.{Line}
use Rattle.capture_text.specs.declared.capture.Line.TheVariants as line
use Rattle.capture_text.specs.declared.capture.Mark.{Mark}
use Rattle.capture_text.specs.declared.capture.Mark.TheVariants as mark

-- the event that a reader is given
abbrev pub event_of : Line → Event
event_of (line.Stop call image) = event.Stop call image
event_of (line.At ms) = event.At ms
event_of line.Tick = event.Tick
event_of (line.Opened side) = event.Opened side
event_of (line.Closed side) = event.Closed side
event_of (line.Text side piece) = event.Text side (bytes_of piece)
event_of (line.Frame side piece) = event.Frame side (bytes_of piece)

abbrev pub first_number : List ℕ → ℕ
first_number [] = 0
first_number (number ∷ numbers) = number

-- the events of marks, each with the next number or the next piece where it takes one
abbrev pub events_of : List Mark → List ℕ → List (List ℕ) → List Event
events_of [] numbers pieces = []
events_of (mark.Stop image ∷ marks) numbers pieces =
    event.Stop (first_number numbers) image ∷ events_of marks (drop 1 numbers) pieces
events_of (mark.At ∷ marks) numbers pieces =
    event.At (first_number numbers) ∷ events_of marks (drop 1 numbers) pieces
events_of (mark.Tick ∷ marks) numbers pieces = event.Tick ∷ events_of marks numbers pieces
events_of (mark.Opened side ∷ marks) numbers pieces =
    event.Opened side ∷ events_of marks numbers pieces
events_of (mark.Closed side ∷ marks) numbers pieces =
    event.Closed side ∷ events_of marks numbers pieces
events_of (mark.Text side ∷ marks) numbers pieces =
    event.Text side (first_piece pieces) ∷ events_of marks numbers (drop 1 pieces)
events_of (mark.Frame side ∷ marks) numbers pieces =
    event.Frame side (first_piece pieces) ∷ events_of marks numbers (drop 1 pieces)

-- there are just the numbers and the pieces that the marks take
abbrev pub AreWhole : List Mark → List ℕ → List (List ℕ) → Type 0
AreWhole [] [] [] = ⊤
AreWhole (mark.Stop image ∷ marks) (call ∷ numbers) pieces = AreWhole marks numbers pieces
AreWhole (mark.At ∷ marks) (ms ∷ numbers) pieces = AreWhole marks numbers pieces
AreWhole (mark.Tick ∷ marks) numbers pieces = AreWhole marks numbers pieces
AreWhole (mark.Opened side ∷ marks) numbers pieces = AreWhole marks numbers pieces
AreWhole (mark.Closed side ∷ marks) numbers pieces = AreWhole marks numbers pieces
AreWhole (mark.Text side ∷ marks) numbers (piece ∷ pieces) = AreWhole marks numbers pieces
AreWhole (mark.Frame side ∷ marks) numbers (piece ∷ pieces) = AreWhole marks numbers pieces
AreWhole marks numbers pieces = ⊥
