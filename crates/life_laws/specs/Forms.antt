-- Own: what a frame that is written shows of the journal; docs/DEFINITIONS.md, "A life".
use Rattle.std.specs.Prelude.{◌≡◌, ℕ, ◌-◌, ◌<◌, ◌≤◌, IsTrue, ◌==◌, Bool, true, false, List}
use Rattle.std.specs.Prelude.{[], ◌∷◌, map, slice_get, if◌then◌else◌, Some, None, IsSomeAnd}
use Rattle.std.specs.declared.option.Option.{Option}
use Rattle.std.specs.List.{flat_map}
use Rattle.order_meaning.specs.declared.Side.{Side}
use Rattle.order_meaning.specs.declared.names.Names.{Names}
use Rattle.pair_entries.specs.declared.entry.Out.{Out}
use Rattle.pair_entries.specs.declared.entry.Entry.{Entry}
use Rattle.kept_entries.specs.Numbers.{outs_to}
use Rattle.session_frames.specs.Frames.{frame_out, fill_out}

-- an out, and the moment of its entry
pub record Placed : Type 0 where
  pub out : Out
  pub at : ℕ

abbrev pub placed_at : ℕ → Out → Placed
placed_at at out = record { out = out; at = at }

-- the outs of a side, in order: the first has number 1
abbrev pub all_placed : Side → List Entry → List Placed
all_placed side entries =
    flat_map (λ entry. map (placed_at entry.at) (outs_to side entry.outs)) entries

-- the out of a side that has this number
abbrev pub placed : Side → ℕ → List Entry → Option Placed
placed side n entries = if n == 0 then None else slice_get (all_placed side entries) (n - 1)

-- what a frame shows: an out as it is sent first, an out that is sent again now, or a gap fill in
-- place of the outs from one number to before another, of which the first was given at a moment
pub data Form : Type 0 where
  First : (out : Placed) → Form
  Again : (out : Placed) (now : ℕ) → Form
  Fill : (from : ℕ) (to : ℕ) (first : ℕ) (now : ℕ) → Form

-- the frame of an out, at a moment
abbrev pub out_frame : Names → Side → Placed → ℕ → Bool → List ℕ
out_frame names side p now again =
    frame_out names side p.out.number p.out.msg_type p.out.content p.out.resend p.at now again

-- THE FRAME OF A FORM
unfoldable pub form_frame : Names → Side → Form → List ℕ
form_frame names side (First p) = out_frame names side p p.at false
form_frame names side (Again p now) = out_frame names side p now true
form_frame names side (Fill from to first now) = fill_out names side from (to - 1) first now

-- the journal has what a form shows
abbrev pub IsForm : List Entry → Side → Form → Type 0
IsForm entries side (First p) = placed side p.out.number entries ≡ Some p
IsForm entries side (Again p now) = placed side p.out.number entries ≡ Some p
IsForm entries side (Fill from to first now) =
    (from < to)
    × ((n : ℕ) → from ≤ n → n < to → IsSomeAnd (placed side n entries) (λ p. IsTrue p.out.admin))
    × IsSomeAnd (placed side from entries) (λ p. p.at ≡ first)

abbrev pub AreForms : List Entry → Side → List Form → Type 0
AreForms entries side [] = Unit {0}
AreForms entries side (form ∷ forms) = IsForm entries side form × AreForms entries side forms
