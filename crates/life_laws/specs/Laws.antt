-- Own: what holds of every life, whatever answers its messages; docs/DEFINITIONS.md, "A life".
use Rattle.std.specs.Prelude.{◌≡◌, ℕ, ◌+◌, ◌≤◌, Bool, true, false, List, [], ◌++◌, map, length}
use Rattle.std.specs.Prelude.{Some}
use Rattle.std.specs.declared.option.Option.{Option}
use Rattle.std.specs.List.{flat_map}
use Rattle.order_meaning.specs.declared.Side.{Side}
use Rattle.order_meaning.specs.declared.Side.TheVariants.{Client, Venue}
use Rattle.order_meaning.specs.declared.names.Names.{Names}
use Rattle.pair_entries.specs.declared.entry.Out.{Out}
use Rattle.pair_entries.specs.declared.entry.Entry.{Entry}
use Rattle.kept_entries.specs.Numbers.{numbers_after, first_numbers}
use Rattle.event_decisions.specs.Event.{Event}
use Rattle.event_decisions.specs.Decide.{Asked, Words, Sessions, AreSides, numbers_of, IsLawful}
use Rattle.event_decisions.specs.Decide.{Repeat}
use Rattle.wires.specs.Wire.{Connection, may_come}
use Rattle.session_frames.specs.Frames.{kind_of}
use Rattle.life_laws.specs.Bodies.{bodies_of}
use Rattle.life_laws.specs.Forms.{Form, AreForms, all_placed, form_frame}
use Rattle.life_laws.specs.Repeats.{repeat_forms}
use Rattle.life_laws.specs.Justified.{IsJustified, transcript_from, Leaves}
use Rattle.life_laws.specs.Taken.{Message, Read, take_more, committed_below, TakesInOrder}
use Rattle.life_laws.specs.Taken.{read_of_form, AreReadAsForms}
use Rattle.life_laws.specs.Receiver.{read_body, message_of_out, AreSent}
use Rattle.life_laws.specs.Happens.{World, Added, Happens, Stops, Fails, pieces_to}
use Rattle.life_laws.specs.Standing.{Holds, IsNext, pending_after, NumberedFrom}
use Rattle.life_laws.specs.Ends.{LifeUpTo}
use Rattle.life_laws.specs.Turn.{Turn, Lives, Reads, LastRead, last_read, both}

-- an out shows its number
abbrev pub ShowsNumbers : (Out → Message) → Type 0
ShowsNumbers message_of = (out : Out) → (message_of out).number ≡ out.number

-- Of frames that show outs of a journal, in any order, a receiver takes the committed ones, each
-- once and in order.
abbrev pub FormsAreTakenInOrder : Type 0
FormsAreTakenInOrder =
    (read : List ℕ → Read) (message_of : Out → Message) (side : Side) (entries : List Entry)
    (forms : List Form) → ShowsNumbers message_of → AreForms entries side forms →
    let taking = take_more 1 (map (read_of_form read message_of) forms) in
    taking.taken ≡ committed_below read message_of side taking.next entries

-- Whatever of what was written on each connection arrives, a receiver takes the beginning of what
-- was committed, each once and in order.
abbrev pub JustifiedIsTakenInOrder : Type 0
JustifiedIsTakenInOrder =
    (read : List ℕ → Read) (message_of : Out → Message) (names : Names) (side : Side)
    (entries : List Entry) (connections : List Connection) →
    AreReadAsForms read message_of names entries side → ShowsNumbers message_of →
    IsJustified names entries side connections →
    TakesInOrder read message_of side entries connections

-- What is sent again leads a receiver that expects the first number to the number past the last,
-- where all of it arrives.
abbrev pub RepeatsFillGaps : Type 0
RepeatsFillGaps =
    (read : List ℕ → Read) (message_of : Out → Message) (side : Side) (entries : List Entry)
    (from to now : ℕ) → ShowsNumbers message_of → NumberedFrom 1 (all_placed side entries) →
    1 ≤ from → from ≤ to + 1 → to ≤ length (all_placed side entries) →
    let taking =
    take_more from (map (read_of_form read message_of) (repeat_forms entries side from to now)) in
    taking.next ≡ to + 1

-- It is so of the frames that are written of it, where they are read as what they show.
abbrev pub FramesFillGaps : Type 0
FramesFillGaps =
    (read : List ℕ → Read) (message_of : Out → Message) (names : Names) (side : Side)
    (entries : List Entry) (from to now : ℕ) → ShowsNumbers message_of →
    NumberedFrom 1 (all_placed side entries) →
    AreReadAsForms read message_of names entries side →
    1 ≤ from → from ≤ to + 1 → to ≤ length (all_placed side entries) →
    let frames = flat_map (form_frame names side) (repeat_forms entries side from to now) in
    let taking = take_more from (map read (bodies_of (kind_of side) frames)) in
    taking.next ≡ to + 1

-- Where each out can be sent, what is written of each form is read as that form.
abbrev pub WhatIsSentIsRead : Type 0
WhatIsSentIsRead =
    (names : Names) (side : Side) (entries : List Entry) → AreSent names side entries →
    NumberedFrom 1 (all_placed side entries) →
    AreReadAsForms read_body message_of_out names entries side

-- The first of these frames lead a receiver that expects the first number that was asked for to the
-- number past the last.
pub record FillsGap (read : List ℕ → Read) (asked : Repeat) (pieces : List (List ℕ)) : Type 0 where
  pub frames : List (List ℕ)
  pub rest : List (List ℕ)
  pub joined : pieces ≡ frames ++ rest
  pub filled :
      let bodies = bodies_of (kind_of asked.side) (flat_map (λ frame. frame) frames) in
      (take_more asked.from (map read bodies)).next ≡ asked.to + 1

module _ (answers : List Entry → (active : Bool) → Option Asked → Option Words → Type 0) where
  -- One event keeps all that holds between events: a lawful journal, its numbers, and what was
  -- written and read.
  abbrev pub EventsKeep : Type 0
  EventsKeep =
      (names : Names) (window : ℕ) (before after : World) (event : Event) (now : ℕ)
      (added : Added) (client_side venue_side : List Connection)
      (client_pending venue_pending : List (List ℕ)) →
      Holds answers names before client_side venue_side client_pending venue_pending →
      IsNext Client event client_pending → IsNext Venue event venue_pending →
      Happens answers names window before event now added after →
      Holds answers names after
      (transcript_from client_side added.client) (transcript_from venue_side added.venue)
      (pending_after Client event client_pending) (pending_after Venue event venue_pending)

  -- AN EVENT THAT SENDS AGAIN FILLS THE GAP, where what is written is read as what it shows: the
  -- frames that a ResendRequest is answered by go first.
  abbrev pub EventsFillGaps : Type 0
  EventsFillGaps =
      (read : List ℕ → Read) (message_of : Out → Message) (names : Names) (window : ℕ)
      (before after : World) (event : Event) (now : ℕ) (added : Added)
      (client_side venue_side : List Connection)
      (client_pending venue_pending : List (List ℕ)) → ShowsNumbers message_of →
      Holds answers names before client_side venue_side client_pending venue_pending →
      IsNext Client event client_pending → IsNext Venue event venue_pending →
      (happens : Happens answers names window before event now added after) (asked : Repeat) →
      happens.decision.repeat ≡ Some asked → asked.from ≤ asked.to + 1 →
      AreReadAsForms read message_of names after.entries asked.side →
      FillsGap read asked
      (pieces_to names asked.side after.entries event now happens.decision)

  -- Between events the transcript is justified.
  abbrev pub HoldingLeaves : Type 0
  HoldingLeaves =
      (names : Names) (w : World) (client_side venue_side : List Connection)
      (client_pending venue_pending : List (List ℕ)) →
      Holds answers names w client_side venue_side client_pending venue_pending →
      Leaves answers names w.entries client_side venue_side

  -- It is so where an event ended the life, with its entry.
  abbrev pub StopsLeave : Type 0
  StopsLeave =
      (names : Names) (window : ℕ) (before : World) (event : Event) (now : ℕ) (added : Added)
      (entries : List Entry) (client_side venue_side : List Connection)
      (client_pending venue_pending : List (List ℕ)) →
      Holds answers names before client_side venue_side client_pending venue_pending →
      IsNext Client event client_pending → IsNext Venue event venue_pending →
      Stops answers names window before event now added entries →
      Leaves answers names entries
      (transcript_from client_side added.client) (transcript_from venue_side added.venue)

  -- A side's turn keeps all that holds between turns, whatever its poll brought.
  abbrev pub ClientTurnsKeep : Type 0
  ClientTurnsKeep =
      (names : Names) (window : ℕ) (before after : World) (now : ℕ) (added : Added)
      (read : List ℕ) (client_side venue_side : List Connection) →
      Holds answers names before client_side venue_side [] [] →
      (turn : Turn answers names window Client read before now added after) →
      may_come before.client_up turn.came ≡ true →
      (before.client_up ≡ true → LastRead client_side read) →
      Holds answers names after
      (transcript_from client_side added.client) (transcript_from venue_side added.venue) [] []

  abbrev pub VenueTurnsKeep : Type 0
  VenueTurnsKeep =
      (names : Names) (window : ℕ) (before after : World) (now : ℕ) (added : Added)
      (read : List ℕ) (client_side venue_side : List Connection) →
      Holds answers names before client_side venue_side [] [] →
      (turn : Turn answers names window Venue read before now added after) →
      may_come before.venue_up turn.came ≡ true →
      (before.venue_up ≡ true → LastRead venue_side read) →
      Holds answers names after
      (transcript_from client_side added.client) (transcript_from venue_side added.venue) [] []

  -- A LIFE OF ANY LENGTH leaves a lawful journal and a transcript that it justifies; and so, where
  -- what is written is read as what it shows, on each side a receiver that has taken the beginning
  -- of what was committed, each once and in order.
  abbrev pub LivesLeave : Type 0
  LivesLeave =
      (names : Names) (window : ℕ) (reads : Reads) (before after : World) (moments : List ℕ)
      (last : ℕ) (added : Added) (client_side venue_side : List Connection) →
      Holds answers names before client_side venue_side [] [] →
      last_read client_side ≡ reads.client → last_read venue_side ≡ reads.venue →
      Lives answers names window reads before moments last added after →
      Leaves answers names after.entries
      (transcript_from client_side added.client) (transcript_from venue_side added.venue)
      × ((read : List ℕ → Read) (message_of : Out → Message) → ShowsNumbers message_of →
      AreReadAsForms read message_of names after.entries Client →
      AreReadAsForms read message_of names after.entries Venue →
      TakesInOrder read message_of Client after.entries
      (transcript_from client_side added.client)
      × TakesInOrder read message_of Venue after.entries
      (transcript_from venue_side added.venue))

  -- A LIFE THAT AN EVENT ENDED leaves the same, over the entries that are left.
  abbrev pub LivesThatFailLeave : Type 0
  LivesThatFailLeave =
      (names : Names) (window : ℕ) (reads : Reads) (before : World) (moments : List ℕ) (now : ℕ)
      (first : Added) (mid : World) (event : Event) (part added : Added) (entries : List Entry)
      (client_side venue_side : List Connection) →
      Holds answers names before client_side venue_side [] [] →
      last_read client_side ≡ reads.client → last_read venue_side ≡ reads.venue →
      LifeUpTo answers names window reads before moments now first mid event →
      Fails answers names window mid event now part entries → added ≡ both first part →
      Leaves answers names entries
      (transcript_from client_side added.client) (transcript_from venue_side added.venue)
      × ((read : List ℕ → Read) (message_of : Out → Message) → ShowsNumbers message_of →
      AreReadAsForms read message_of names entries Client →
      AreReadAsForms read message_of names entries Venue →
      TakesInOrder read message_of Client entries (transcript_from client_side added.client)
      × TakesInOrder read message_of Venue entries (transcript_from venue_side added.venue))

  -- A LIFE BEGINS with all that holds between events, where its journal is lawful and justifies
  -- what was written and read before: so lives follow one another.
  abbrev pub LivesBegin : Type 0
  LivesBegin =
      (names : Names) (entries : List Entry) (s : Sessions)
      (client_side venue_side : List Connection) → IsLawful answers names entries → AreSides s →
      numbers_of s ≡ numbers_after first_numbers entries →
      IsJustified names entries Client client_side →
      IsJustified names entries Venue venue_side →
      Holds answers names
      (record { entries = entries; sessions = s; client_up = false; venue_up = false })
      client_side venue_side [] []
