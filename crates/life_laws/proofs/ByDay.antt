-- A life over days leaves each day as a life leaves its journal.
use Rattle.std.proofs.Common.{◌≡◌, ℕ, Bool, true, false, List, [], ◌∷◌, ◌++◌, map, refl, sym, ◌∙◌}
use Rattle.std.proofs.Common.{ap, subst, append_assoc, append-nil, Some}
use Rattle.std.specs.declared.option.Option.{Option}
use Rattle.order_meaning.specs.declared.Side.{Side}
use Rattle.order_meaning.specs.declared.Side.TheVariants.{Client, Venue}
use Rattle.order_meaning.specs.declared.names.Names.{Names}
use Rattle.pair_entries.specs.declared.entry.Entry.{Entry}
use Rattle.kept_entries.specs.Numbers.{first_numbers}
use Rattle.event_decisions.specs.Decide.{Asked, Words, Sessions, AreSides, numbers_of}
use Rattle.wires.specs.Wire.{WireCall, Connection}
use Rattle.life_laws.specs.Sends.{hang_up_if}
use Rattle.life_laws.specs.Happens.{World, Added}
use Rattle.life_laws.specs.Justified.{IsJustified, Leaves, transcript_from}
use Rattle.life_laws.specs.Standing.{Holds}
use Rattle.life_laws.specs.Turn.{Reads, last_read}
use Rattle.life_laws.specs.Days.{DayLeft, DayEnded, Transcript, AllLeave, LeavesDays, nothing_read}
use Rattle.life_laws.specs.Days.{fresh, LivesDay, EndsDay, OverDays, LastDay, days_after}
use Rattle.life_laws.specs.Days.{transcript_after}
use Rattle.life_laws.proofs.Begun.{begins}
use Rattle.life_laws.proofs.Line.{links-both}
use Rattle.life_laws.proofs.Lives.{life-keeps}
use Rattle.life_laws.proofs.World.{leaves}

-- a hang up adds nothing to a transcript
hung-links : (links : List Connection) (calls : List WireCall) (up : Bool)
    → transcript_from links (calls ++ hang_up_if up) ≡ transcript_from links calls
hung-links links calls true = links-both links calls (hang_up_if true)
hung-links links calls false = links-both links calls (hang_up_if false)

no_session : (names : Names) (side : Side) → IsJustified names [] side []
no_session names side = record { forms = []; shows = tt; once = tt; tooks = tt }

module _ (answers : List Entry → (active : Bool) → Option Asked → Option Words → Type 0)
    (names : Names) where
  all-push : (days : List (List Entry)) (client venue : List (List Connection)) (day : List Entry)
      (cl vl : List Connection) → AllLeave answers names days client venue
      → Leaves answers names day cl vl
      → AllLeave answers names (days ++ day ∷ []) (client ++ cl ∷ []) (venue ++ vl ∷ [])
  all-push [] [] [] day cl vl all leaf = (leaf, tt)
  all-push (d ∷ ds) (c ∷ cs) (v ∷ vs) day cl vl all leaf =
      (all.0, all-push ds cs vs day cl vl all.1 leaf)
  all-push days client venue day cl vl all leaf = absurd all

  pub held-leaves : (w : World) (cl vl : List Connection) → Holds answers names w cl vl [] []
      → Leaves answers names w.entries cl vl
  held-leaves w cl vl h = leaves answers names w cl vl [] [] h

  module _ (window : ℕ) (minute : Option ℕ) where
    day-leaves : (began : Option ℕ) (reads : Reads) (before after : World) (moments : List ℕ)
        (last : ℕ) (added : Added) (cl vl : List Connection) (entries : List Entry)
        → Holds answers names before cl vl [] [] → last_read cl ≡ reads.client
        → last_read vl ≡ reads.venue
        → LivesDay answers names window minute began reads before moments last added after
        → entries ≡ after.entries → Leaves answers names entries
        (transcript_from cl added.client) (transcript_from vl added.venue)
    day-leaves began reads before after moments last added cl vl entries h rc rv lived is =
        let client = transcript_from cl added.client in
        let venue = transcript_from vl added.venue in
        subst (λ l. Leaves answers names l client venue) (sym is)
        (leaves answers names after client venue [] [] (life-keeps answers names window reads
        before after moments last added cl vl (record { holds = h; client = rc; venue = rv })
        lived.lives))

    -- a day that ended: a hang up adds nothing
    pub ends-leave : (began : Option ℕ) (reads : Reads) (before : World) (moments : List ℕ)
        (day : DayEnded) (cl vl : List Connection) → Holds answers names before cl vl [] []
        → last_read cl ≡ reads.client → last_read vl ≡ reads.venue
        → EndsDay answers names window minute began reads before moments day
        → Leaves answers names day.left.entries (transcript_from cl day.left.added.client)
        (transcript_from vl day.left.added.venue)
    ends-leave began reads before moments day cl vl h rc rv ends =
        let leaf = day-leaves began reads before ends.after moments day.at ends.added cl vl
        day.left.entries h rc rv ends.lived ends.entries in
        let calls : transcript_from cl day.left.added.client
        ≡ transcript_from cl ends.added.client =
        ap (λ (a : Added). transcript_from cl a.client) ends.all
        ∙ hung-links cl ends.added.client ends.after.client_up in
        let others : transcript_from vl day.left.added.venue ≡ transcript_from vl ends.added.venue =
        ap (λ (a : Added). transcript_from vl a.venue) ends.all
        ∙ hung-links vl ends.added.venue ends.after.venue_up in
        subst (λ l. Leaves answers names day.left.entries l
        (transcript_from vl day.left.added.venue)) (sym calls)
        (subst (λ l. Leaves answers names day.left.entries
        (transcript_from cl ends.added.client) l) (sym others) leaf)

    -- what a last day leaves, by what holds of it
    abbrev pub LastLeaves : DayLeft → (Option ℕ → Reads → World → List ℕ → Type 0) → Type 0
    LastLeaves left Last = (began : Option ℕ) (reads : Reads) (before : World) (moments : List ℕ)
        (cl vl : List Connection) → Holds answers names before cl vl [] []
        → last_read cl ≡ reads.client → last_read vl ≡ reads.venue → Last began reads before moments
        → Leaves answers names left.entries (transcript_from cl left.added.client)
        (transcript_from vl left.added.venue)

    module _ (rested : Sessions) (sides : AreSides rested)
        (first : numbers_of rested ≡ first_numbers) (left : DayLeft)
        (Last : Option ℕ → Reads → World → List ℕ → Type 0) (last : LastLeaves left Last) where
      pub over-leaves : (days : List DayEnded) (began : Option ℕ) (reads : Reads) (before : World)
          (moments : List ℕ) (ended : List (List Entry)) (client venue : Transcript)
          → Holds answers names before client.present venue.present [] []
          → last_read client.present ≡ reads.client → last_read venue.present ≡ reads.venue
          → AllLeave answers names ended client.ended venue.ended
          → OverDays answers names window minute Last rested began reads before moments days
          → LeavesDays answers names
          (days_after (record { ended = ended; present = before.entries }) days left.entries)
          (transcript_after Client client days left) (transcript_after Venue venue days left)
      over-leaves [] began reads before moments ended client venue h rc rv all is = record {
        ended = subst (λ l. AllLeave answers names l client.ended venue.ended)
            (sym (append-nil ended)) all;
        present = last began reads before moments client.present venue.present h rc rv is;
      }
      over-leaves (day ∷ days) began reads before moments ended client venue h rc rv all is =
          let cl : List Connection = transcript_from client.present day.left.added.client in
          let vl : List Connection = transcript_from venue.present day.left.added.venue in
          let whole = ends-leave began reads before is.0 day client.present venue.present h rc rv
          is.3 in
          let client1 : Transcript = record { ended = client.ended ++ cl ∷ []; present = [] } in
          let venue1 : Transcript = record { ended = venue.ended ++ vl ∷ []; present = [] } in
          let more = over-leaves days (Some day.at) nothing_read (fresh rested) (day.at ∷ is.1)
          (ended ++ day.left.entries ∷ []) client1 venue1
          (begins answers names [] rested [] [] tt sides first (no_session names Client)
          (no_session names Venue)) refl refl
          (all-push ended client.ended venue.ended day.left.entries cl vl all whole) is.4 in
          subst (λ e. LeavesDays answers names (record { ended = e; present = left.entries })
          (transcript_after Client client (day ∷ days) left)
          (transcript_after Venue venue (day ∷ days) left))
          (append_assoc ended (day.left.entries ∷ []) (map (λ d. d.left.entries) days)) more

    pub days-leave : (rested : Sessions) (sides : AreSides rested)
        (first : numbers_of rested ≡ first_numbers) (last : ℕ) (left : DayLeft)
        (days : List DayEnded) (began : Option ℕ) (reads : Reads) (before : World)
        (moments : List ℕ) (ended : List (List Entry)) (client venue : Transcript)
        → Holds answers names before client.present venue.present [] []
        → last_read client.present ≡ reads.client → last_read venue.present ≡ reads.venue
        → AllLeave answers names ended client.ended venue.ended
        → OverDays answers names window minute
        (LastDay answers names window minute last left) rested began reads before moments days
        → LeavesDays answers names
        (days_after (record { ended = ended; present = before.entries }) days left.entries)
        (transcript_after Client client days left) (transcript_after Venue venue days left)
    days-leave rested sides first last left = over-leaves rested sides first left
        (LastDay answers names window minute last left) (λ began reads before moments cl vl h rc rv
        is. day-leaves began reads before is.after moments last left.added cl vl left.entries h rc
        rv is.lived is.entries)
