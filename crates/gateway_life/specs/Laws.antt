-- Own: what every life leaves; docs/DEFINITIONS.md, "A life".
use Rattle.std.specs.Prelude.{◌≡◌, ℕ, ◌+◌, ◌≤◌, List, [], ◌∷◌, map, length, Ok}
use Rattle.std.specs.List.{flat_map}
use Rattle.order_meaning.specs.declared.Side.{Side}
use Rattle.order_meaning.specs.declared.Side.TheVariants.{Client, Venue}
use Rattle.order_meaning.specs.declared.names.Names.{Names}
use Rattle.pair_entries.specs.declared.entry.Entry.{Entry}
use Rattle.kept_entries.specs.Numbers.{first_numbers}
use Rattle.kept_entries.specs.Entries.{AreEntries}
use Rattle.session_frames.specs.Laws.{IsShown}
use Rattle.message_answers.specs.Answer.{Answers}
use Rattle.gateway_config.specs.declared.config.Config.{Config}
use Rattle.gateway_config.specs.Reading.{Reads}
use Rattle.wires.specs.Wire.{Connection}
use Rattle.session_frames.specs.Frames.{kind_of}
use Rattle.life_laws.specs.Bodies.{bodies_of}
use Rattle.life_laws.specs.Forms.{all_placed, form_frame}
use Rattle.life_laws.specs.Repeats.{repeat_forms}
use Rattle.kept_entries.specs.Days.{Days, days_of}
use Rattle.life_laws.specs.Justified.{Leaves}
use Rattle.life_laws.specs.Days.{DayEnded, DayLeft, Transcript, LeavesDays, transcript_after}
use Rattle.life_laws.specs.Days.{days_after}
use Rattle.life_laws.specs.Receiver.{read_body, message_of_out}
use Rattle.life_laws.specs.Taken.{TakesInOrder, take_more, AreReadAsForms}
use Rattle.book_laws.specs.HeardLaws.{LearnsWhatWasSaid}
use Rattle.book_laws.specs.Laws.{BooksAreEqual}
use Rattle.gateway_life.specs.declared.end.LifeEnd.{LifeEnd}
use Rattle.gateway_life.specs.Life.{Done, Follows}

-- names that a header can show: none has a byte that ends a field
pub record AreShown (names : Names) : Type 0 where
  pub client_our : IsShown names.client_our
  pub client_peer : IsShown names.client_peer
  pub venue_our : IsShown names.venue_our
  pub venue_peer : IsShown names.venue_peer

-- those of a configuration that was read are such
abbrev pub ReadNamesAreShown : Type 0
ReadNamesAreShown =
    (text : List ℕ) (config : Config) → Reads text (Ok config) → AreShown config.names

-- ---- what a side takes

-- GAPS ARE FILLED: whoever expects a number, and asks for what it lacks from there to another,
-- comes to the number behind by the frames that are sent again.
abbrev pub FillsGaps : Names → Side → List Entry → Type 0
FillsGaps names side entries =
    (from to now : ℕ) → 1 ≤ from → from ≤ to + 1 → to ≤ length (all_placed side entries) →
    let frames = flat_map (form_frame names side) (repeat_forms entries side from to now) in
    let taking = take_more from (map read_body (bodies_of (kind_of side) frames)) in
    taking.next ≡ to + 1

-- What is written is read as what it shows; whatever of it arrives, a receiver takes the beginning
-- of what was committed to the side, each message once and in order, and learns of it what the
-- other side said; and its gaps are filled.
pub record IsTaken (names : Names) (side : Side) (entries : List Entry)
    (connections : List Connection) : Type 0 where
  pub read : AreReadAsForms read_body message_of_out names entries side
  pub took : TakesInOrder read_body message_of_out side entries connections
  pub learned : LearnsWhatWasSaid side entries connections
  pub gaps : FillsGaps names side entries

-- the same on both sides; and where both peers keep their numbers and no gap is left, the books
-- that they rebuild are equal
pub record AreTaken (names : Names) (entries : List Entry)
    (client_side venue_side : List Connection) : Type 0 where
  pub client : IsTaken names Client entries client_side
  pub venue : IsTaken names Venue entries venue_side
  pub books : BooksAreEqual entries client_side venue_side

abbrev pub AllTaken : Names → List (List Entry) → (client venue : List (List Connection)) → Type 0
AllTaken names [] [] [] = Unit {0}
AllTaken names (day ∷ days) (client ∷ clients) (venue ∷ venues) =
    AreTaken names day client venue × AllTaken names days clients venues
AllTaken names days clients venues = ⊥

-- the same on each day, of the messages of that day
pub record AreTakenDays (names : Names) (days : Days) (client venue : Transcript) : Type 0 where
  pub ended : AllTaken names days.ended client.ended venue.ended
  pub present : AreTaken names days.present client.present venue.present

-- ---- what a life leaves

-- Of a journal that is lawful and justifies what was written and read, the messages are taken,
-- where its names can be shown and its entries are within their bounds, as those of a disk are.
abbrev pub MessagesAreTaken : Type 0
MessagesAreTaken =
    (names : Names) (entries : List Entry) (client venue : List Connection) →
    Leaves Answers names entries client venue → AreShown names →
    AreEntries first_numbers entries → AreTaken names entries client venue

-- HOWEVER A LIFE ENDED over a journal of which each day is lawful and justifies what was written
-- and read on it, what is left is such a journal, with what was written and read in this life: so
-- lives follow one another.
abbrev pub LivesLeave : Type 0
LivesLeave =
    (end : LifeEnd) (config : Config) (before : List Entry) (days : List DayEnded) (left : DayLeft)
    (client venue : Transcript) (rounds : ℕ) (did : Done) →
    LeavesDays Answers config.names (days_of before) client venue →
    Follows end config before rounds did days left →
    LeavesDays Answers config.names (days_after (days_of before) days left.entries)
    (transcript_after Client client days left) (transcript_after Venue venue days left)

abbrev nothing_yet : Transcript
nothing_yet = record { ended = []; present = [] }

-- The first of them begins with a journal without entries, where nothing was written or read.
abbrev pub FirstLivesBegin : Type 0
FirstLivesBegin = (names : Names) → LeavesDays Answers names (days_of []) nothing_yet nothing_yet
