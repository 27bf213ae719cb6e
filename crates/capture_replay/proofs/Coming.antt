-- What comes of the lines of a life, and the next of it.
use Rattle.std.proofs.Common.{◌≡◌, ◌∙◌, ℕ, suc, ◌≤◌, Bool, true, false, List, [], ◌∷◌}
use Rattle.std.proofs.Common.{drop, filter, map, All, refl, sym, ap, subst, arith}
use Rattle.std.proofs.Common.{if◌then◌else◌}
use Rattle.std.proofs.lemmas.List.Elements.{All-filter, All-head, All-tail}
use Rattle.wires.specs.Wire.{Came, Nothing, Opened, Bytes, Closed, Broken}
use Rattle.wires.specs.Script.{next_of, rest_of}
use Rattle.wires.specs.Play.{bytes_ahead}
use Rattle.wires.specs.declared.wire.TheConstants.{POLL_LEN}
use Rattle.wires.proofs.Played.{rest_short}
use Rattle.frame_grammar.specs.Frame.{frame_of}
use Rattle.order_meaning.specs.declared.Side.{Side}
use Rattle.order_meaning.specs.declared.Side.TheVariants.{Client, Venue}
use Rattle.capture_text.specs.declared.capture.Event.{Event}
use Rattle.capture_text.specs.declared.capture.Event.TheVariants as event
use Rattle.capture_text.specs.Capture.{kind_of}
use Rattle.capture_text.specs.Line.{IsBounded}
use Rattle.capture_replay.specs.Rounds.{is_round, arrival, script_of}

-- each line comes whole at one poll
short : (side : Side) (line : Event) (rest : List Came) → IsBounded line
    → bytes_ahead (arrival side line ∷ rest) ≤ POLL_LEN
short Client (event.Opened Client) rest bounded = omega arith
short Client (event.Closed Client) rest bounded = omega arith
short Client (event.Text Client bytes) rest bounded = bounded.1.1
short Client (event.Frame Client body) rest bounded = bounded.2.1
short Venue (event.Opened Venue) rest bounded = omega arith
short Venue (event.Closed Venue) rest bounded = omega arith
short Venue (event.Text Venue bytes) rest bounded = bounded.1.1
short Venue (event.Frame Venue body) rest bounded = bounded.2.1
short side line rest bounded = omega arith

all_short : (side : Side) (rounds : List Event) → All IsBounded rounds
    → bytes_ahead (map (arrival side) rounds) ≤ POLL_LEN
all_short side [] all = omega arith
all_short side (line ∷ rounds) all =
    short side line (map (arrival side) rounds) (All-head IsBounded line rounds all)

-- so a poll with room for a round goes on by one
pub goes_on : (within : Bool) (side : Side) (lines : List Event) → All IsBounded lines
    → drop 1 (script_of side lines) ≡ rest_of within POLL_LEN (script_of side lines)
goes_on within side lines all =
    sym (rest_short within POLL_LEN (script_of side lines)
    (all_short side (filter is_round lines) (All-filter is_round IsBounded lines all)))

-- ---- the next line that is a round

module _ (line : Event) (lines rest : List Event) (is : lines ≡ line ∷ rest) where
  pub at_round : is_round line ≡ true → filter is_round lines ≡ line ∷ filter is_round rest
  at_round round = ap (filter is_round) is
      ∙ ap (λ (b : Bool). if b then line ∷ filter is_round rest else filter is_round rest) round

  pub at_none : is_round line ≡ false → filter is_round lines ≡ filter is_round rest
  at_none round = ap (filter is_round) is
      ∙ ap (λ (b : Bool). if b then line ∷ filter is_round rest else filter is_round rest) round

  pub first_bounded : All IsBounded lines → IsBounded line
  first_bounded all =
      All-head IsBounded line rest (subst (λ (l : List Event). All IsBounded l) is all)

  pub rest_bounded : All IsBounded lines → All IsBounded rest
  rest_bounded all =
      All-tail IsBounded line rest (subst (λ (l : List Event). All IsBounded l) is all)

pub none_bounded : (lines : List Event) → lines ≡ [] → All IsBounded lines
none_bounded lines none = subst (λ (l : List Event). All IsBounded l) (sym none)
    (λ k d within. absurd (omega (arith, within)))

pub ruleset looking = (at_round, at_none, first_bounded, rest_bounded)

-- a frame of a side
pub frame_comes : (side of : Side) (body : List ℕ) → of ≡ side
    → Bytes (frame_of (kind_of side) body) ≡ arrival side (event.Frame of body)
frame_comes Client Client body same = refl
frame_comes Client Venue body same = absurd (cc same)
frame_comes Venue Client body same = absurd (cc same)
frame_comes Venue Venue body same = refl

-- what comes next is of the first item
next_first : (within : Bool) (room : ℕ) (item : Came) (rest : List Came)
    → next_of within room (item ∷ rest) ≡ next_of within room (item ∷ [])
next_first within room (Bytes bytes) rest = refl
next_first within room Nothing rest = refl
next_first within room Opened rest = refl
next_first within room Closed rest = refl
next_first within room Broken rest = refl

module _ (side : Side) (lines rest : List Event) where
  pub comes : (line : Event) (within : Bool) (room : ℕ)
      → filter is_round lines ≡ line ∷ filter is_round rest
      → next_of within room (arrival side line ∷ []) ≡ next_of within room (script_of side lines)
  comes line within room is =
      sym (next_first within room (arrival side line) (script_of side rest))
      ∙ ap (λ (l : List Event). next_of within room (map (arrival side) l)) (sym is)

  pub none_comes : (within : Bool) (room : ℕ) → filter is_round lines ≡ []
      → next_of within room (script_of side lines) ≡ Nothing
  none_comes within room is = ap (λ (l : List Event). next_of within room (map (arrival side) l)) is

  pub is_behind : (line : Event) → filter is_round lines ≡ line ∷ filter is_round rest
      → script_of side rest ≡ drop 1 (script_of side lines)
  is_behind line is = ap (λ (l : List Event). drop 1 (map (arrival side) l)) (sym is)

  pub all_behind : filter is_round lines ≡ [] → filter is_round rest ≡ []
      → script_of side rest ≡ drop 1 (script_of side lines)
  all_behind none past = ap (map (arrival side)) past
      ∙ ap (λ (l : List Event). drop 1 (map (arrival side) l)) (sym none)

pub ruleset giving = (comes, none_comes, is_behind, all_behind)
