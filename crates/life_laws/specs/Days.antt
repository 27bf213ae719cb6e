-- Own: a life over session days; docs/DEFINITIONS.md, "A life".
--
-- A day of a life is a life by itself: its rounds, and the end of both sides. So what holds of a
-- life within a day holds of each day, by the same words.
use Rattle.std.specs.Prelude.{◌≡◌, ℕ, Bool, true, false, List, [], ◌∷◌, ◌++◌, fold, map, Some}
use Rattle.std.specs.declared.option.Option.{Option}
use Rattle.order_meaning.specs.declared.Side.{Side}
use Rattle.order_meaning.specs.declared.Side.TheVariants.{Client, Venue}
use Rattle.order_meaning.specs.declared.names.Names.{Names}
use Rattle.pair_entries.specs.declared.entry.Entry.{Entry}
use Rattle.kept_entries.specs.Days.{Days, begun_with}
use Rattle.kept_entries.specs.Numbers.{first_numbers}
use Rattle.event_decisions.specs.Days.{is_due, new_day}
use Rattle.event_decisions.specs.Decide.{Sessions, AreSides, Asked, Words, numbers_of}
use Rattle.wires.specs.Wire.{WireCall, Connection}
use Rattle.life_laws.specs.Sends.{hang_up_if}
use Rattle.life_laws.specs.Happens.{World, Added}
use Rattle.life_laws.specs.Justified.{Leaves, transcript_from}
use Rattle.life_laws.specs.Standing.{Holds}
use Rattle.life_laws.specs.Turn.{Reads, Rounds, Lives, both, last_read}

-- ---- what days leave

-- what a day left: its entries, and what was done on the wires
pub record DayLeft : Type 0 where
  pub entries : List Entry
  pub added : Added

-- a day that ended, and the moment at which the next one began
pub record DayEnded : Type 0 where
  pub left : DayLeft
  pub at : ℕ

-- the entries of days as they stand in the journal, each behind the entry with which it begins
abbrev pub written : List DayEnded → (present : List Entry) → List Entry
written [] present = present
written (day ∷ days) present = day.left.entries ++ new_day day.at ∷ written days present

-- what was done on the wires on all of them
abbrev pub all_added : List DayEnded → (present : Added) → Added
all_added [] present = present
all_added (day ∷ days) present = both day.left.added (all_added days present)

-- ---- transcripts by days

-- the connections of the days that have ended, and of the present one: each belongs to the day on
-- which it was opened
pub record Transcript : Type 0 where
  pub ended : List (List Connection)
  pub present : List Connection

-- a transcript after the calls of days, of which each but the first begins without a connection
abbrev pub after_days : Transcript → (ended : List (List WireCall)) → (present : List WireCall)
    → Transcript
after_days t [] present =
    record { ended = t.ended; present = transcript_from t.present present }
after_days t (calls ∷ days) present =
    after_days (record { ended = t.ended ++ transcript_from t.present calls ∷ []; present = [] })
    days present

module _ (answers : List Entry → (active : Bool) → Option Asked → Option Words → Type 0)
    (names : Names) where
  abbrev pub AllLeave : List (List Entry) → (client venue : List (List Connection)) → Type 0
  AllLeave [] [] [] = Unit {0}
  AllLeave (day ∷ days) (client ∷ clients) (venue ∷ venues) =
      Leaves answers names day client venue × AllLeave days clients venues
  AllLeave days clients venues = ⊥

  -- WHAT THE END OF A LIFE LEAVES, day by day: each day is lawful, and justifies what was written
  -- and read on it
  pub record LeavesDays (days : Days) (client venue : Transcript) : Type 0 where
    pub ended : AllLeave days.ended client.ended venue.ended
    pub present : Leaves answers names days.present client.present venue.present

-- ---- a life

-- a new day is due behind these entries of one that began at a moment
abbrev pub due_in : (minute began : Option ℕ) → List Entry → (now : ℕ) → Bool
due_in minute began entries now = is_due minute (fold begun_with began entries) now

abbrev pub nothing_read : Reads
nothing_read = record { client = []; venue = [] }

-- the gateway as a day begins: no entry, and no connection
abbrev pub fresh : Sessions → World
fresh sessions =
    record { entries = []; sessions = sessions; client_up = false; venue_up = false }

-- hung up, where a connection still stands
abbrev pub hung : Added → World → Added
hung added w = record {
  client = added.client ++ hang_up_if w.client_up;
  venue = added.venue ++ hang_up_if w.venue_up;
}

module _ (answers : List Entry → (active : Bool) → Option Asked → Option Words → Type 0)
    (names : Names) (window : ℕ) (minute : Option ℕ) where
  -- no new day was due at these rounds of a day
  abbrev pub NoneDue : (began : Option ℕ) (reads : Reads) (before : World) (moments : List ℕ)
      (added : Added) (reads' : Reads) (after : World)
      → Rounds answers names window reads before moments added reads' after → Type 0
  NoneDue began reads before [] added reads' after rounds = Unit {0}
  NoneDue began reads before (now ∷ moments) added reads' after
      (first, mid, mid_reads, rest, round, rounds, all) =
      (due_in minute began before.entries now ≡ false)
      × NoneDue began mid_reads mid moments rest reads' after rounds

  -- A DAY OF A LIFE: rounds at which no new day is due, and then the end of both sides
  pub record LivesDay (began : Option ℕ) (reads : Reads) (before : World) (moments : List ℕ)
      (last : ℕ) (added : Added) (after : World) : Type 0 where
    pub lives : Lives answers names window reads before moments last added after
    pub none_due : NoneDue began reads before moments lives.first lives.read lives.mid lives.rounds

  -- A DAY THAT ENDED within a life, at the moment of a round at which a new one is due; a
  -- connection that still stands is hung up, so none spans two days
  pub record EndsDay (began : Option ℕ) (reads : Reads) (before : World) (moments : List ℕ)
      (day : DayEnded) : Type 0 where
    pub added : Added
    pub after : World
    pub lived : LivesDay began reads before moments day.at added after
    pub due : due_in minute began lived.lives.mid.entries day.at ≡ true
    pub entries : day.left.entries ≡ after.entries
    pub all : day.left.added ≡ hung added after

  -- Days that ended one after another, and what is left is the beginning of one more, of which this
  -- holds. With each new day both sessions are as these, and it begins with the round at whose
  -- moment it was due.
  abbrev pub OverDays : (Option ℕ → Reads → World → List ℕ → Type 0) → Sessions
      → (began : Option ℕ) → Reads → World → (moments : List ℕ) → List DayEnded → Type 0
  OverDays Last rested began reads before moments [] = Last began reads before moments
  OverDays Last rested began reads before moments (day ∷ days) =
      (first : List ℕ) × (rest : List ℕ) × (moments ≡ first ++ day.at ∷ rest)
      × EndsDay began reads before first day
      × OverDays Last rested (Some day.at) nothing_read (fresh rested) (day.at ∷ rest) days

  -- the last day of a life, and what it left
  pub record LastDay (last : ℕ) (left : DayLeft) (began : Option ℕ) (reads : Reads) (before : World)
      (moments : List ℕ) : Type 0 where
    pub after : World
    pub lived : LivesDay began reads before moments last left.added after
    pub entries : left.entries ≡ after.entries

  -- A LIFE OVER DAYS, that came to its end
  abbrev pub LivesDays : Sessions → (began : Option ℕ) → Reads → World → (moments : List ℕ)
      → (last : ℕ) → List DayEnded → DayLeft → Type 0
  LivesDays rested began reads before moments last days left =
      OverDays (LastDay last left) rested began reads before moments days

-- when the last of days that ended one after another gave way to the present one
abbrev pub began_after : Option ℕ → List DayEnded → Option ℕ
began_after began [] = began
began_after began (day ∷ days) = began_after (Some day.at) days

-- ---- what holds of every life over days

-- the days of a journal behind these, where days of a life ended and one was left
abbrev pub days_after : Days → List DayEnded → (present : List Entry) → Days
days_after days ended present = record {
  ended = days.ended ++ map (λ day. day.left.entries) ended;
  present = present;
}

abbrev pub calls_on : Side → Added → List WireCall
calls_on Client added = added.client
calls_on Venue added = added.venue

-- the transcript of a side behind this one, by what was done on its wire on these days
abbrev pub transcript_after : Side → Transcript → List DayEnded → DayLeft → Transcript
transcript_after side t days left =
    after_days t (map (λ day. calls_on side day.left.added) days) (calls_on side left.added)

module _ (answers : List Entry → (active : Bool) → Option Asked → Option Words → Type 0) where
  -- A LIFE OVER DAYS leaves each day as a life leaves its journal: lawful, and justifying what was
  -- written and read on it. The days that had ended before are left alone.
  abbrev pub DaysLeave : Type 0
  DaysLeave =
      (names : Names) (window : ℕ) (minute began : Option ℕ) (rested : Sessions) (reads : Reads)
      (before : World) (moments : List ℕ) (last : ℕ) (ended : List (List Entry))
      (days : List DayEnded) (left : DayLeft) (client venue : Transcript) →
      AreSides rested → numbers_of rested ≡ first_numbers →
      Holds answers names before client.present venue.present [] [] →
      last_read client.present ≡ reads.client → last_read venue.present ≡ reads.venue →
      AllLeave answers names ended client.ended venue.ended →
      LivesDays answers names window minute rested began reads before moments last days left →
      LeavesDays answers names
      (days_after (record { ended = ended; present = before.entries }) days left.entries)
      (transcript_after Client client days left) (transcript_after Venue venue days left)
