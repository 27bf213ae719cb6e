-- Own: what a core is seen as, and what its calls answer.
use Rattle.std.specs.Prelude.{◌≡◌, ℕ, false, List, [], ◌∷◌, ◌++◌, Option, Some, None, Result, Ok}
use Rattle.std.specs.Prelude.{Err, IfOk}
use Rattle.std.specs.Option.{option_map, option_to_list}
use Rattle.order_meaning.specs.declared.Side.{Side}
use Rattle.order_meaning.specs.declared.Side.TheVariants.{Client, Venue}
use Rattle.message_tables.specs.Tables.{◌>>=◌}
use Rattle.order_chains.specs.declared.item.ChainItem.{ChainItem}
use Rattle.order_chains.specs.Chains.{has_id}
use Rattle.session_core.specs.declared.session.Session.{Session}
use Rattle.session_core.specs.declared.session.LinkState.TheVariants.{Down}
use Rattle.pair_entries.specs.declared.entry.Entry.{Entry}
use Rattle.kept_entries.specs.Given.{source_of}
use Rattle.kept_entries.specs.Numbers.{numbers_after, first_numbers, next_in, next_out}
use Rattle.pair_entries.specs.Payload.{Next}
use Rattle.gateway_config.specs.declared.config.Config.{Config}
use Rattle.gateway_core.specs.declared.plan.Plan.{Plan}
use Rattle.gateway_core.specs.declared.plan.PlanError.{PlanError}
use Rattle.gateway_core.specs.declared.plan.PlanError.TheVariants as errors
use Rattle.message_answers.specs.Chains.{chains_of, new_item}
use Rattle.event_decisions.specs.Days.{new_day}
use Rattle.event_decisions.specs.Decide.{Sessions, Decision, Decides}
use Rattle.message_answers.specs.Answer.{Answers}
use Rattle.event_decisions.specs.Event.{Event, Opened, Frame, Closed, Tick, End}
use Rattle.gateway_core.specs.declared.event.Event.{Event as GivenEvent}
use Rattle.gateway_core.specs.declared.event.Event.TheVariants as given

-- an event as the code is handed it: what happens to a side, or none, where a new day begins
abbrev pub event_of : GivenEvent → Option Event
event_of (given.Opened side) = Some (Opened side)
event_of (given.Frame side body) = Some (Frame side body.now)
event_of (given.Closed side) = Some (Closed side)
event_of (given.Tick side) = Some (Tick side)
event_of (given.End side) = Some (End side)
event_of given.NewDay = None

-- the configuration, the two sessions and the chains
pub record CoreState : Type 0 where
  pub config : Config
  pub client : Session
  pub venue : Session
  pub chains : List ChainItem

abbrev pub sessions_in : CoreState → Sessions
sessions_in core = record { client = core.client; venue = core.venue }

-- a session with no connection
abbrev pub at_rest : Side → (heart : ℕ) → Next → Session
at_rest side heart next = record {
  side = side;
  link = Down;
  numbers = record { next_in = next_in side next; next_out = next_out side next };
  heart = heart;
  seen = 0;
  said = 0;
  tested = None;
  ask = None;
}

-- the core behind the entries of a journal, before anything happens
abbrev pub loaded : Config → List Entry → CoreState
loaded config entries = record {
  config = config;
  client = at_rest Client config.heart (numbers_after first_numbers entries);
  venue = at_rest Venue config.heart (numbers_after first_numbers entries);
  chains = chains_of entries;
}

-- entries whose chains are the core's and whose outs translate what those of the journal do
pub record Stand (core : CoreState) (journal entries : List Entry) : Type 0 where
  pub chains : chains_of entries ≡ core.chains
  pub sources : (side : Side) (number : ℕ) →
      source_of side number entries ≡ source_of side number journal

-- a decision of nothing: both sessions stay as they are
abbrev pub no_change : CoreState → Decision
no_change core =
    record { entry = None; sessions = sessions_in core; repeat = None; hang_up = None }

-- an item whose id is not in the chains
abbrev pub IsNew : List ChainItem → Option ChainItem → Type 0
IsNew items None = Unit {0}
IsNew items (Some item) = has_id items item.id ≡ false

-- a plan as a decision
abbrev pub decision_of : Plan → Decision
decision_of plan = record {
  entry = plan.entry;
  sessions = record { client = plan.client; venue = plan.venue };
  repeat = option_map (λ r. record { side = r.0; from = r.1; to = r.2 }) plan.resend;
  hang_up = plan.hang_up;
}

-- what a plan is, or why there is none, behind these entries; want of memory is free
abbrev pub Plans : CoreState → List Entry → Event → ℕ → Result Plan PlanError → Type 0
Plans core entries event now (Ok plan) =
    Decides Answers core.config.names core.config.window entries (sessions_in core) event now
    (Ok (decision_of plan))
Plans core entries event now (Err (errors.NumbersSpent side)) =
    Decides Answers core.config.names core.config.window entries (sessions_in core) event now
    (Err side)
Plans core entries event now (Err errors.NoMemory) = Unit {0}

-- THE PLAN OF A NEW DAY: its entry, and the sessions and the chains of a core of no entries
abbrev pub plan_of_day : CoreState → ℕ → Plan
plan_of_day core now = record {
  entry = Some (new_day now);
  item = None;
  client = (loaded core.config []).client;
  venue = (loaded core.config []).venue;
  resend = None;
  hang_up = None;
  fresh = Some [];
}

-- the same of any event: one of a side leaves the chains in their place, and a new day has exactly
-- that plan, or there is no memory
abbrev pub PlansEvent : CoreState → List Entry → Option Event → ℕ → Result Plan PlanError → Type 0
PlansEvent core entries (Some event) now result =
    Plans core entries event now result × IfOk result (λ plan. plan.fresh ≡ None)
PlansEvent core entries None now (Ok plan) = plan ≡ plan_of_day core now
PlansEvent core entries None now (Err (errors.NumbersSpent side)) = ⊥
PlansEvent core entries None now (Err errors.NoMemory) = Unit {0}

-- the item of a plan is the request that its entry forwards
abbrev pub HasItem : CoreState → Plan → Type 0
HasItem core plan = plan.item ≡ (plan.entry >>= new_item core.chains)

-- the chains behind a decision's entry, where it has one, are the core's and its item
abbrev pub Grows : CoreState → List Entry → Plan → Type 0
Grows core entries plan =
    chains_of (entries ++ option_to_list plan.entry) ≡ core.chains ++ option_to_list plan.item

-- the chains of a journal with one entry more
abbrev pub ChainsGoOn : Type 0
ChainsGoOn = (entries : List Entry) (entry : Entry) → chains_of (entries ++ entry ∷ [])
    ≡ chains_of entries ++ option_to_list (new_item (chains_of entries) entry)
