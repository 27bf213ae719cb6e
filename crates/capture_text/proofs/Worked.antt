-- Worked lines of captures, by computation alone.
use Rattle.std.proofs.Common.{◌≡◌, [], ◌∷◌, ◌++◌, refl, true, false, Some, None}
use Rattle.std.specs.Prelude.{codes}
use Rattle.std.specs.Fmt.{digits}
use Rattle.order_meaning.specs.declared.Side.TheVariants.{Client, Venue}
use Rattle.outside.specs.declared.mem_disk.Image.TheVariants as image
use Rattle.capture_text.specs.declared.capture.Event.TheVariants as event
use Rattle.capture_text.specs.declared.capture.Capture.{Capture}
use Rattle.capture_text.specs.Capture.{lines_of, names_line, is_open}
use Rattle.capture_text.specs.Reading.{parts}

abbrev capture : Capture
capture = record {
  names = record {
    client_our = codes "GATE";
    client_peer = codes "CLNT";
    venue_our = codes "HUB";
    venue_peer = codes "VENU";
  };
  heart = 30;
  reset = None;
  lives = (event.Stop 21 image.Torn ∷ event.At 1704189600000 ∷ event.Opened Client
      ∷ event.Text Client (codes "8=FIX" ++ 1 ∷ [])
      ∷ event.Opened Venue ∷ event.Frame Venue (codes "35=0" ++ 1 ∷ []) ∷ event.Closed Client
      ∷ event.Tick ∷ []) ∷ [] ∷ [];
}

lines : lines_of capture ≡ codes "fixgate capture 1" ∷ codes "names GATE CLNT HUB VENU 30"
    ∷ codes "life" ∷ codes "stop 21 torn" ∷ codes "at 1704189600000" ∷ codes "c+" ∷ codes "c 8=FIX|"
    ∷ codes "v+" ∷ codes "vf 35=0|" ∷ codes "c-" ∷ codes "tick" ∷ codes "end"
    ∷ codes "life" ∷ codes "end" ∷ []
unfolding digits
lines = refl

-- the minute at which a day begins stands last
with_minute : names_line capture.names 30 (Some 600) ≡ codes "names GATE CLNT HUB VENU 30 600"
unfolding digits
with_minute = refl

-- a line that no LF ends is the last part
cut : parts (codes "life\nend") ≡ codes "life" ∷ codes "end" ∷ []
cut = refl

ended : parts (codes "life\nend\n") ≡ codes "life" ∷ codes "end" ∷ [] ∷ []
ended = refl

-- the last `+` or `-` of a side says whether it is open; the last event stands first
open_again : is_open Client
    (event.Tick ∷ event.Opened Client ∷ event.Closed Client ∷ event.Opened Venue ∷ []) ≡ true
open_again = refl

closed : is_open Client
    (event.Opened Venue ∷ event.Closed Client ∷ event.Opened Client ∷ []) ≡ false
closed = refl

not_yet : is_open Venue (event.Opened Client ∷ []) ≡ false
not_yet = refl
