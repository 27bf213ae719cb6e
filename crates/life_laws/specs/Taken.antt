-- Standard: FIX 4.2 and FIXT 1.1, "Ordered Message Processing" and "Gap Fill".
-- Own: a receiver that takes each message with the number that it expects, and no other;
-- docs/DECISIONS.md, "A life".
--
-- What a receiver takes of the frames that come to it.
use Rattle.std.specs.Prelude.{◌≡◌, ℕ, ◌+◌, ◌-◌, Bool, ◌==◌, not, if◌then◌else◌, List, [], ◌∷◌}
use Rattle.std.specs.Prelude.{◌++◌, map, filter, take}
use Rattle.std.specs.List.{flat_map}
use Rattle.frame_grammar.specs.Frame.{IsFrame}
use Rattle.order_meaning.specs.declared.Side.{Side}
use Rattle.order_meaning.specs.declared.names.Names.{Names}
use Rattle.pair_entries.specs.declared.entry.Out.{Out}
use Rattle.pair_entries.specs.declared.entry.Entry.{Entry}
use Rattle.wires.specs.Wire.{Connection}
use Rattle.session_frames.specs.Frames.{kind_of}
use Rattle.life_laws.specs.Bodies.{bodies_of}
use Rattle.life_laws.specs.Forms.{Form, First, Again, Fill, form_frame, IsForm, all_placed}

-- a message as a receiver sees it: its fields are those behind the header
pub record Message : Type 0 where
  pub number : ℕ
  pub msg_type : List ℕ
  pub resend : Bool
  pub fields : List (ℕ × List ℕ)

-- a frame as it is read: a SequenceReset with GapFillFlag(123) of `Y`, one without, or a message
pub data Read : Type 0 where
  GapFill : (number : ℕ) (to : ℕ) → Read
  Reset : Read
  Other : (message : Message) (is_admin : Bool) → Read

-- the number that is expected next, and the messages of the application that were taken
pub record Taking : Type 0 where
  pub next : ℕ
  pub taken : List Message

-- what a receiver that expects this number takes of these frames
abbrev pub take_more : ℕ → List Read → Taking
take_more e [] = record { next = e; taken = [] }
take_more e (GapFill n to ∷ frames) = if n == e then take_more to frames else take_more e frames
take_more e (Reset ∷ frames) = take_more e frames
take_more e (Other message is_admin ∷ frames) =
    if message.number == e then
    (let rest = take_more (e + 1) frames in
    if is_admin then rest else record rest { taken = message ∷ rest.taken })
    else take_more e frames

-- of what was written on each connection some front arrives
abbrev pub AreFronts : List (List ℕ) → List Connection → Type 0
AreFronts [] [] = Unit {0}
AreFronts [] (connection ∷ rest) = ⊥
AreFronts (front ∷ fronts) [] = ⊥
AreFronts (front ∷ fronts) (connection ∷ rest) =
    ((missing : List ℕ) × (front ++ missing ≡ connection.written)) × AreFronts fronts rest

-- (read: a body as the receiver reads it; message_of: an out as a message)
module _ (read : List ℕ → Read) (message_of : Out → Message) where
  -- what a receiver that expects number 1 takes of these fronts, each cut into frames by itself
  abbrev pub taken_from : Side → List (List ℕ) → Taking
  taken_from side fronts =
      take_more 1 (flat_map (λ front. map read (bodies_of (kind_of side) front)) fronts)

  -- the messages of the application to a side with numbers below n
  abbrev pub committed_below : Side → ℕ → List Entry → List Message
  committed_below side n entries =
      map (λ p. message_of p.out)
      (filter (λ p. not p.out.admin) (take (n - 1) (all_placed side entries)))

  -- WHATEVER ARRIVES of each connection, what is taken is the beginning of what was committed, each
  -- message once and in order.
  abbrev pub TakesInOrder : Side → List Entry → List Connection → Type 0
  TakesInOrder side entries connections =
      (fronts : List (List ℕ)) → AreFronts fronts connections →
      (taken_from side fronts).taken ≡ committed_below side (taken_from side fronts).next entries

  -- a form as its frame is read
  abbrev pub read_of_form : Form → Read
  read_of_form (First p) = Other (message_of p.out) p.out.admin
  read_of_form (Again p now) = Other (message_of p.out) p.out.admin
  read_of_form (Fill from to first now) = GapFill from to

  -- what is written of each form that the journal has is a frame, and is read as that form
  pub record AreReadAsForms (names : Names) (entries : List Entry) (side : Side) : Type 0 where
    pub body : Form → List ℕ
    pub frames : (form : Form) → IsForm entries side form
        → IsFrame (kind_of side) (body form) (form_frame names side form)
    pub reads : (form : Form) → IsForm entries side form → read (body form) ≡ read_of_form form
