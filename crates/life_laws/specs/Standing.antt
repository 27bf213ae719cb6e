-- Inside: what holds between two events. A life begins with it where its journal is lawful and
-- justifies what was written and read before, and what it leaves is justified: by the laws.
use Rattle.std.specs.Prelude.{◌≡◌, ℕ, ◌+◌, Bool, true, if◌then◌else◌, List, [], ◌∷◌, ◌++◌, length}
use Rattle.std.specs.declared.option.Option.{Option}
use Rattle.std.specs.List.{flat_map}
use Rattle.order_meaning.specs.declared.Side.{Side}
use Rattle.order_meaning.specs.declared.Side.TheVariants.{Client, Venue}
use Rattle.order_meaning.specs.declared.names.Names.{Names}
use Rattle.pair_entries.specs.declared.entry.Entry.{Entry}
use Rattle.kept_entries.specs.Numbers.{is_side, next_out, numbers_after, first_numbers}
use Rattle.event_decisions.specs.Event.{Event, Frame}
use Rattle.event_decisions.specs.Decide.{Asked, Words, AreSides, numbers_of, IsLawful}
use Rattle.wires.specs.Wire.{Connection}
use Rattle.life_laws.specs.Bodies.{bodies_read}
use Rattle.life_laws.specs.Forms.{Placed, Form, form_frame, all_placed}
use Rattle.life_laws.specs.Justified.{first_numbers_of, EachOnce, IsSublist, tooks_of}
use Rattle.life_laws.specs.Justified.{ShowsAll}
use Rattle.life_laws.specs.Happens.{World}

-- what was written on the last connection is whole frames
abbrev pub LastIsWhole : (Form → List ℕ) → List Connection → List (List Form) → Type 0
LastIsWhole frame [] forms = ⊥
LastIsWhole frame (connection ∷ rest) [] = ⊥
LastIsWhole frame (connection ∷ []) (forms ∷ more) = connection.written ≡ flat_map frame forms
LastIsWhole frame (connection ∷ next ∷ rest) (forms ∷ more) = LastIsWhole frame (next ∷ rest) more

abbrev pub without_first : List (List ℕ) → List (List ℕ)
without_first [] = []
without_first (body ∷ bodies) = bodies

-- the bodies that wait behind an event: its own frame is dealt with
abbrev pub pending_after : Side → Event → List (List ℕ) → List (List ℕ)
pending_after side (Frame s body) pending = if is_side side s then without_first pending else
    pending
pending_after side event pending = pending

-- the frame of an event is the first that waits
abbrev pub IsNext : Side → Event → List (List ℕ) → Type 0
IsNext side (Frame s body) pending =
    is_side side s ≡ true → (rest : List (List ℕ)) × (pending ≡ body ∷ rest)
IsNext side event pending = Unit {0}

-- outs numbered n, n + 1, ..
abbrev pub NumberedFrom : ℕ → List Placed → Type 0
NumberedFrom n [] = Unit {0}
NumberedFrom n (p ∷ ps) = (p.out.number ≡ n) × NumberedFrom (n + 1) ps

-- What was written and read on a side, with a connection that stands or not, and the bodies that no
-- event has dealt with.
pub record Standing (names : Names) (entries : List Entry) (side : Side)
    (connections : List Connection) (up : Bool) (pending : List (List ℕ)) : Type 0 where
  pub forms : List (List Form)
  pub shows : ShowsAll names entries side connections forms
  pub once : EachOnce (flat_map first_numbers_of forms)
  pub whole : up ≡ true → LastIsWhole (form_frame names side) connections forms
  pub done : List (List ℕ)
  pub bodies : bodies_read side connections ≡ done ++ pending
  pub tooks : IsSublist (tooks_of side entries) done

module _ (answers : List Entry → (active : Bool) → Option Asked → Option Words → Type 0)
    (names : Names) where
  -- what holds between two events
  pub record Holds (w : World) (client_connections venue_connections : List Connection)
      (client_pending venue_pending : List (List ℕ)) : Type 0 where
    pub lawful : IsLawful answers names w.entries
    pub sides : AreSides w.sessions
    pub numbers : numbers_of w.sessions ≡ numbers_after first_numbers w.entries
    -- the next out is one past the outs given
    pub counted : (side : Side) → next_out side (numbers_after first_numbers w.entries)
        ≡ length (all_placed side w.entries) + 1
    pub in_order : (side : Side) → NumberedFrom 1 (all_placed side w.entries)
    pub client :
        Standing names w.entries Client client_connections w.client_up client_pending
    pub venue : Standing names w.entries Venue venue_connections w.venue_up venue_pending
