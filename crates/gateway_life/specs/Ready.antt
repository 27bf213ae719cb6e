-- Inside: what holds of an engine between events, and what of a disk.
use Rattle.std.specs.Prelude.{◌≡◌, ℕ, true, false, List, ◌++◌, IfSome, is_some}
use Rattle.std.specs.declared.option.Option.{Option}
use Rattle.std.specs.Option.{ForSome}
use Rattle.outside.specs.Disk.{Only}
use Rattle.order_meaning.specs.declared.names.Names.{Names}
use Rattle.pair_entries.specs.declared.entry.Entry.{Entry}
use Rattle.kept_entries.specs.Numbers.{numbers_after, first_numbers}
use Rattle.kept_entries.specs.Entries.{DaysGoOn}
use Rattle.pair_journal.specs.Journal.{JournalOf, Born}
use Rattle.kept_entries.specs.Days.{last_day}
use Rattle.event_decisions.specs.Decide.{AreSides, numbers_of, Decision}
use Rattle.message_answers.specs.Chains.{chains_of}
use Rattle.gateway_core.specs.State.{CoreState, sessions_in}
use Rattle.wires.specs.Wire.{WireCall}
use Rattle.life_laws.specs.Happens.{World}
use Rattle.gateway_life.specs.declared.engine.Made.{Made}
use Rattle.gateway_life.specs.State.{EngineState}
use Rattle.wire_sends.specs.Again.{repeat_in}
use Rattle.wire_sends.specs.Sent.{Agrees}

-- the world of a life, as the engine has it, with the entries of the last day
abbrev pub world_of : EngineState → World
world_of engine = record {
  entries = last_day engine.journal.entries;
  sessions = sessions_in engine.core;
  client_up = engine.client_up;
  venue_up = engine.venue_up;
}

-- what an event decided, where these are the sessions afterwards
abbrev pub made_of : Made → CoreState → Decision
made_of made core = record {
  entry = made.entry;
  sessions = sessions_in core;
  repeat = repeat_in made.resend;
  hang_up = made.hang_up;
}

-- The journal has the names of the configuration and goes on from its first entry; the core is
-- that of the journal; and where the disk tells its bytes, they are the journal.
pub record IsReady (engine : EngineState) (disk : Option (List ℕ)) : Type 0 where
  pub names : engine.journal.names ≡ engine.core.config.names
  pub whole : engine.journal.broken ≡ false
  pub sound : DaysGoOn first_numbers engine.journal.entries
  pub chains : engine.core.chains ≡ chains_of (last_day engine.journal.entries)
  pub sides : AreSides (sessions_in engine.core)
  pub numbers :
      numbers_of (sessions_in engine.core) ≡ numbers_after first_numbers engine.journal.entries
  pub stands :
      ForSome disk (λ b. JournalOf b (Born engine.journal.names engine.journal.entries))

-- and the wires agree on which connections stand
pub record Ready (engine : EngineState) (disk : Option (List ℕ))
    (client_told venue_told : Option (List WireCall)) : Type 0 where
  pub ready : IsReady engine disk
  pub client : Agrees client_told engine.client_up
  pub venue : Agrees venue_told engine.venue_up

-- each image that a crash may leave is a journal of these names, of whose entries this holds
abbrev pub AreLeft : (List ℕ → Type 0) → Names → (List Entry → Type 0) → Type 0
AreLeft image names P =
    (bytes : List ℕ) → image bytes → (entries : List Entry) × JournalOf bytes (Born names entries)
    × P entries

-- the same, where the disk told its bytes before and a crash left them alone
abbrev pub LeavesOf : Option (List ℕ) → (before after : List ℕ → Type 0) → Names
    → (List Entry → Type 0) → Type 0
LeavesOf told before after names P =
    IfSome told (λ bytes. Only bytes before → AreLeft after names P)

-- it holds of a disk that tells its bytes
abbrev pub IfTold : Option (List ℕ) → Type 0 → Type 0
IfTold told P = is_some told ≡ true → P

-- entries of the days before, and behind them some of the last day, of which this holds
abbrev pub Behind : (past : List Entry) → (List Entry → Type 0) → List Entry → Type 0
Behind past P entries = (today : List Entry) × (entries ≡ past ++ today) × P today
