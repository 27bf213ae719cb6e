-- The names of a capture can be shown in a header, and its lines are within their bounds.
use Rattle.std.proofs.Common.{◌≡◌, ℕ, suc, ◌≤◌, ◌<◌, false, List, [], ◌∷◌, length, refl, sym}
use Rattle.std.proofs.Common.{get_or, All, subst, arith}
use Rattle.std.specs.List.{list_any}
use Rattle.std.proofs.lemmas.Bool.{or_from}
use Rattle.std.proofs.lemmas.Bool.Decides.{nat_tests}
use Rattle.field_groups.specs.Field.{is_soh}
use Rattle.session_frames.specs.Laws.{IsShown}
use Rattle.gateway_life.specs.Laws.{AreShown}
use Rattle.capture_text.specs.declared.capture.Capture.{Capture}
use Rattle.capture_text.specs.declared.capture.Event.{Event}
use Rattle.capture_text.specs.Capture.{IsName, IsCapture}
use Rattle.capture_text.specs.Line.{IsBounded}
use Rattle.capture_replay.proofs.EachLine.{all_bounded}

byte_plain : (byte : ℕ) → (33 ≤ byte) × (byte ≤ 126) → is_soh byte ≡ false
byte_plain byte visible = let low = visible.0 in grind (arith, nat_tests)

text_plain : (text : List ℕ) → All (λ byte. (33 ≤ byte) × (byte ≤ 126)) text
    → list_any is_soh text ≡ false
text_plain [] all = refl
text_plain (byte ∷ text) all = or_from (is_soh byte) (list_any is_soh text)
    (byte_plain byte (all 0 byte (omega arith)))
    (text_plain text (λ i d within. all (suc i) d (omega (arith, within))))

name_shown : (text : List ℕ) → IsName text → IsShown text
name_shown text name = record { short = name.short; plain = text_plain text name.printable }

pub are_shown : (capture : Capture) → IsCapture capture → AreShown capture.names
are_shown capture is = record {
  client_our = name_shown capture.names.client_our is.client_our;
  client_peer = name_shown capture.names.client_peer is.client_peer;
  venue_our = name_shown capture.names.venue_our is.venue_our;
  venue_peer = name_shown capture.names.venue_peer is.venue_peer;
}

pub life_bounded : (capture : Capture) → IsCapture capture → (index : ℕ) (lines : List Event)
    → index < length capture.lives → lines ≡ get_or capture.lives index lines
    → All IsBounded lines
life_bounded capture is index lines within there = subst (λ (l : List Event). All IsBounded l)
    (sym there) (all_bounded (get_or capture.lives index lines) (is.lives index lines within))
