-- Own: a life over what the disk, the wires and the clock tell; docs/DEFINITIONS.md, "A life".
use Rattle.std.specs.Prelude.{◌≡◌, ℕ, List, [], ◌++◌, Some, IfSome}
use Rattle.std.specs.declared.option.Option.{Option}
use Rattle.outside.specs.Disk.{Only, HasOneImage}
use Rattle.gate_log.specs.Log.{OnlyRead}
use Rattle.order_meaning.specs.declared.names.Names.{Names}
use Rattle.pair_entries.specs.declared.entry.Entry.{Entry}
use Rattle.kept_entries.specs.Days.{Days, days_of}
use Rattle.pair_journal.specs.Journal.{JournalOf, Born}
use Rattle.order_meaning.specs.declared.Side.TheVariants.{Client, Venue}
use Rattle.message_answers.specs.Answer.{Answers}
use Rattle.gateway_config.specs.declared.config.Config.{Config}
use Rattle.wires.specs.Told.{GrowsBy}
use Rattle.wires.specs.Wire.{WireCall}
use Rattle.life_laws.specs.Days.{DayEnded, DayLeft, Transcript, LeavesDays, transcript_after}
use Rattle.gateway_life.specs.declared.end.LifeEnd.{LifeEnd}
use Rattle.gateway_life.specs.declared.end.LifeEnd.TheVariants as ends
use Rattle.gateway_life.specs.Life.{Done, Follows, IsJournal, IsAnswered, IfRefused, IsForeign}
use Rattle.gateway_life.specs.Life.{counted_on, went_on}
use Rattle.gateway_life.specs.Causes.{HasJournalCause}
use Rattle.gateway_life.specs.Laws.{AreShown, AreTakenDays}

-- what the disk, the wires and the clock tell, and how often the wires were polled
pub record Told : Type 0 where
  pub bytes : Option (List ℕ)
  pub client : Option (List WireCall)
  pub venue : Option (List WireCall)
  pub moments : Option (List ℕ)
  pub client_polls : ℕ
  pub venue_polls : ℕ

abbrev pub told : (bytes : Option (List ℕ)) → (client venue : Option (List WireCall))
    → (moments : Option (List ℕ)) → (client_polls venue_polls : ℕ) → Told
told bytes client venue moments client_polls venue_polls = record {
  bytes = bytes;
  client = client;
  venue = venue;
  moments = moments;
  client_polls = client_polls;
  venue_polls = venue_polls;
}

-- these were added to a list that is told
abbrev pub Adds : {A : Type 0} → Option (List A) → Option (List A) → List A → Type 0
Adds {A} old new more = (before : List A) × (old ≡ Some before) × (new ≡ Some (before ++ more))

-- THE PREMISES OF A LIFE: the disk told its bytes, and a crash would have left these; they are the
-- journal of these names with these entries, or unborn; and both wires and the clock tell what was
-- done.
pub record Premises (names : Names) (images : List ℕ → Type 0) (old new : Told) : Type 0 where
  pub bytes : List ℕ
  pub tells : old.bytes ≡ Some bytes
  pub only : Only bytes images
  pub before : List Entry
  pub journal : IsJournal names before bytes
  pub did : Done
  pub client : Adds old.client new.client did.client
  pub venue : Adds old.venue new.venue did.venue
  pub clock : Adds old.moments new.moments did.moments

-- WHAT IS LEFT ACCOUNTS, day by day, for what was written and read: the day is lawful and justifies
-- it, and whatever of it arrives, each side takes the beginning of what was committed to it on that
-- day, each message once and in order, and learns of it what the other side said; and where both
-- peers keep their numbers and no gap is left, the books that they rebuild are equal.
pub record Accounts (names : Names) (days : Days) (client venue : Transcript) : Type 0 where
  pub leaves : LeavesDays Answers names days client venue
  pub taken : AreShown names → AreTakenDays names days client venue

-- WHAT AN IMAGE OF THE DISK IS after a life, by how it ended: the journal of these entries, which
-- goes on from the one at entry by the events of this life, day by day, as what was done on the
-- wires is what these events call for: these days ended in it, and this one was left. Where each
-- day of the one at entry was lawful and justified what was written and read on it, each day of
-- this one accounts for that, and for what was written and read in this life.
pub record IsLeft (end : LifeEnd) (config : Config) (before : List Entry) (rounds : ℕ) (did : Done)
    (days : List DayEnded) (left : DayLeft) (image : List ℕ) (entries : List Entry) : Type 0 where
  pub journal : IsJournal config.names entries image
  pub born : end ≡ ends.Done → JournalOf image (Born config.names entries)
  pub goes_on : entries ≡ went_on before days left.entries
  pub follows : Follows end config before rounds did days left
  pub accounts : (client venue : Transcript)
      → LeavesDays Answers config.names (days_of before) client venue
      → Accounts config.names (days_of entries)
      (transcript_after Client client days left) (transcript_after Venue venue days left)

-- nothing was done on either wire, the clock was not read, and the disk was only read
pub record IsIdle (before after : List ℕ → Type 0) (old new : Told) : Type 0 where
  pub disk : OnlyRead old.bytes new.bytes before after
  pub client : GrowsBy old.client new.client []
  pub venue : GrowsBy old.venue new.venue []
  pub clock : new.moments ≡ old.moments

-- A LIFE, by how it ended, between what was told before and after, over a disk that might leave
-- these images before and after.
pub record Lived (end : LifeEnd) (config : Config) (rounds : ℕ) (before after : List ℕ → Type 0)
    (old new : Told) : Type 0 where
  pub images : (given : Premises config.names before old new) → (image : List ℕ) → after image
      → (days : List DayEnded) × (left : DayLeft) × (entries : List Entry)
      × IsLeft end config given.before rounds given.did days left image entries
  -- What is no journal, or one of other names, is refused. It is only read, and nothing is done,
  -- also where a disk fault or want of memory comes first.
  pub begins : IfSome old.bytes (IsAnswered end config.names)
  pub idle : IfSome old.bytes (λ bytes. IfRefused end (IsIdle before after old new))
  pub foreign : IfSome old.bytes (λ bytes. IsForeign config.names bytes →
      IsIdle before after old new)
  -- A full journal has no room for what some event decides behind its entries, and of spent numbers
  -- the next is the last, or past it, whatever the wires and the clock tell.
  pub journal_cause : HasJournalCause end config.names old.bytes before after
  -- A life that came to its end leaves one image, from which the next one goes on, and each wire
  -- was polled once a round.
  pub durable : end ≡ ends.Done → HasOneImage old.bytes before → HasOneImage new.bytes after
  pub client_polls : end ≡ ends.Done → new.client_polls ≡ counted_on rounds old.client_polls
  pub venue_polls : end ≡ ends.Done → new.venue_polls ≡ counted_on rounds old.venue_polls
