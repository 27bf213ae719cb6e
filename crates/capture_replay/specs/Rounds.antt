-- Own: what the lines of a life let come, round by round; docs/DEFINITIONS.md, "A replay".
use Rattle.std.specs.Prelude.{ℕ, Bool, true, false, List, [], ◌∷◌, ◌++◌, map, filter, fold}
use Rattle.std.specs.Prelude.{if◌then◌else◌}
use Rattle.frame_grammar.specs.declared.frame.Kind.TheVariants.{Fix42, Fixt11}
use Rattle.frame_grammar.specs.Frame.{frame_of}
use Rattle.order_meaning.specs.declared.Side.{Side}
use Rattle.order_meaning.specs.declared.Side.TheVariants.{Client, Venue}
use Rattle.wires.specs.Wire.{Came, Nothing, Opened, Bytes, Closed}
use Rattle.capture_text.specs.declared.capture.Event.{Event}
use Rattle.capture_text.specs.declared.capture.Event.TheVariants as event

-- every line but `stop` and `at` is a round
abbrev pub is_round : Event → Bool
is_round (event.Stop call image) = false
is_round (event.At ms) = false
is_round event = true

-- what a line lets come of a side
abbrev pub arrival : Side → Event → Came
arrival Client (event.Opened Client) = Opened
arrival Venue (event.Opened Venue) = Opened
arrival Client (event.Closed Client) = Closed
arrival Venue (event.Closed Venue) = Closed
arrival Client (event.Text Client bytes) = Bytes bytes
arrival Venue (event.Text Venue bytes) = Bytes bytes
arrival Client (event.Frame Client body) = Bytes (frame_of Fix42 body)
arrival Venue (event.Frame Venue body) = Bytes (frame_of Fixt11 body)
arrival side event = Nothing

-- what comes of a side, round by round
abbrev pub script_of : Side → List Event → List Came
script_of side life = map (arrival side) (filter is_round life)

-- the moment that the clock says behind a line, and behind lines
abbrev pub now_after : ℕ → Event → ℕ
now_after now (event.At ms) = ms
now_after now event = now

abbrev pub moment_after : ℕ → List Event → ℕ
moment_after now life = fold now_after now life

-- the moment of a line that is a round
abbrev pub moments_at : ℕ → Event → List ℕ
moments_at now event = if is_round event then now ∷ [] else []

-- the moment of each round, from this one on, and that of the end
abbrev pub moments_from : ℕ → List Event → List ℕ
moments_from now [] = now ∷ []
moments_from now (event ∷ life) =
    moments_at now event ++ moments_from (now_after now event) life
