-- Own: that both peers rebuild the same books on a session day.
use Rattle.std.specs.Prelude.{◌≡◌, ℕ, false, List, IfSome, Some, None, Ok}
use Rattle.std.specs.List.{AllByRecursion}
use Rattle.order_meaning.specs.declared.Side.{Side}
use Rattle.order_meaning.specs.declared.Side.TheVariants.{Client, Venue}
use Rattle.order_meaning.specs.declared.names.Names.{Names}
use Rattle.frame_grammar.specs.Frame.{IsBody}
use Rattle.order_chains.specs.declared.item.ChainItem.{ChainItem}
use Rattle.pair_entries.specs.declared.entry.Took.{Took}
use Rattle.pair_entries.specs.declared.entry.Entry.{Entry}
use Rattle.kept_entries.specs.Numbers.{first_numbers}
use Rattle.kept_entries.specs.Entries.{AreEntries}
use Rattle.event_decisions.specs.Body.{fields_of, type_of}
use Rattle.event_decisions.specs.Decide.{IsLawful}
use Rattle.message_tables.specs.Tables.{Message, Tag, said_at, text_in}
use Rattle.wires.specs.Wire.{Connection}
use Rattle.life_laws.specs.Justified.{IsJustified}
use Rattle.life_laws.specs.Receiver.{AreSent, behind_header, message_of_out, read_body}
use Rattle.life_laws.specs.Taken as receiver
use Rattle.life_laws.specs.Taken.{TakesInOrder}
use Rattle.message_answers.specs.Answer.{Answers, other}
use Rattle.message_answers.specs.Chains.{item_in}
use Rattle.message_answers.specs.Message.{message_of, said_by}
use Rattle.book_laws.specs.Books.{book42, book50}
use Rattle.book_laws.specs.Pairs.{pair}
use Rattle.book_laws.specs.Keeps.{Keeps, KeepsJournal, Filled, conversation}

-- A BODY MEANS WHAT ITS FIELDS WITHOUT THE HEADER MEAN: of the header PossResend(97) alone counts.
abbrev pub HeadersSayNothing : Type 0
HeadersSayNothing = (side : Side) (body : List ℕ) (m : Message) → message_of side body ≡ Ok m →
    said_by side (type_of body) (behind_header (fields_of body)) None
    ≡ Ok (record m { resend = false })

-- a request is at no fault, and an item has what it says of an order
pub record IsJudged (took : Took) (item : ChainItem) : Type 0 where
  pub m : Message
  pub reads : message_of Client took.raw ≡ Ok m
  pub id : item.id ≡ text_in m.cells 11
  pub orig : item.orig ≡ said_at m.cells (Tag 41)
  pub number : item.number ≡ took.number
  pub letter : item.letter ≡ m.letter

-- EACH REQUEST THAT A LAWFUL JOURNAL FORWARDED IS AT NO FAULT, though the chains read its fields
-- and do not judge them.
abbrev pub RequestsAreJudged : Type 0
RequestsAreJudged = (names : Names) (entries : List Entry) → IsLawful Answers names entries →
    AllByRecursion (λ e. (item : ChainItem) → item_in e ≡ Some item →
    IfSome e.took (λ took. IsJudged took item)) entries

-- what an entry took is the body of a frame
abbrev pub TookBody : Entry → Type 0
TookBody e = IfSome e.took (λ took. IsBody took.raw)

-- BOTH BOOKS OF A JOURNAL ARE EQUAL, where both peers keep what a journal shows of it.
abbrev pub JournalsAgree : Type 0
JournalsAgree =
    (names : Names) (entries : List Entry) → IsLawful Answers names entries →
    AreEntries first_numbers entries → AllByRecursion TookBody entries →
    AreSent names Client entries → AreSent names Venue entries →
    KeepsJournal Client entries → KeepsJournal Venue entries →
    book42 (pair Client entries) ≡ book50 (pair Venue entries)

-- THE BOOKS OF A PEER ARE THOSE OF THE JOURNAL, where it keeps its numbers and no gap is left.
pub record IsShared (side : Side) (messages : List receiver.Message) (fronts : List (List ℕ))
    (entries : List Entry) : Type 0 where
  pub client : book42 (conversation side messages fronts) ≡ book42 (pair side entries)
  pub venue : book50 (conversation side messages fronts) ≡ book50 (pair side entries)

abbrev pub ConversationsAgree : Type 0
ConversationsAgree =
    (names : Names) (side : Side) (entries : List Entry) (connections : List Connection)
    (messages : List receiver.Message) (fronts : List (List ℕ)) → IsLawful Answers names entries →
    AreEntries first_numbers entries → AreSent names side entries →
    KeepsJournal (other side) entries → IsJustified names entries side connections →
    TakesInOrder read_body message_of_out side entries connections →
    Keeps side messages connections entries → Filled side messages connections fronts entries →
    IsShared side messages fronts entries

-- BOTH PEERS REBUILD THE SAME BOOKS, whatever their messages are and whatever came, where they keep
-- their numbers and no gap is left.
abbrev pub BooksAreEqual : List Entry → (client_side venue_side : List Connection) → Type 0
BooksAreEqual entries client_side venue_side =
    (client venue : List receiver.Message) (client_fronts venue_fronts : List (List ℕ)) →
    Keeps Client client client_side entries → Keeps Venue venue venue_side entries →
    Filled Client client client_side client_fronts entries →
    Filled Venue venue venue_side venue_fronts entries →
    book42 (conversation Client client client_fronts)
    ≡ book50 (conversation Venue venue venue_fronts)

abbrev pub PeersAgree : Type 0
PeersAgree =
    (names : Names) (entries : List Entry) (client_side venue_side : List Connection) →
    IsLawful Answers names entries → AreEntries first_numbers entries →
    AreSent names Client entries → AreSent names Venue entries →
    IsJustified names entries Client client_side → IsJustified names entries Venue venue_side →
    TakesInOrder read_body message_of_out Client entries client_side →
    TakesInOrder read_body message_of_out Venue entries venue_side →
    BooksAreEqual entries client_side venue_side
