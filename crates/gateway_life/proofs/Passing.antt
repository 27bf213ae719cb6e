-- A tick at which nothing is done.
use Rattle.std.proofs.Common.{◌≡◌, ℕ, Bool, true, false, List, [], ◌++◌, refl, sym}
use Rattle.std.proofs.Common.{append-nil, Ok}
use Rattle.std.specs.Prelude.{◌&&◌}
use Rattle.std.specs.declared.option.Option.{Option}
use Rattle.order_meaning.specs.declared.Side.{Side}
use Rattle.kept_entries.specs.Days.{last_day}
use Rattle.event_decisions.specs.Event.{Tick}
use Rattle.event_decisions.specs.Decide.{Decides}
use Rattle.message_answers.specs.Answer.{Answers}
use Rattle.gateway_core.specs.State.{sessions_in, no_change}
use Rattle.wires.specs.Wire.{WireCall}
use Rattle.life_laws.specs.Sends.{hang_up_if}
use Rattle.life_laws.specs.Happens.{standing}
use Rattle.wire_sends.proofs.Sendings.{grows_none}
use Rattle.gateway_life.specs.Acted.{Acted}
use Rattle.gateway_life.specs.State.{EngineState}
use Rattle.gateway_life.specs.Ready.{world_of}
use Rattle.gateway_life.specs.Stepped.{Records, Stepped}
use Rattle.gateway_life.proofs.Acting.{stepped}

none_hung : (up : Bool) → [] ≡ [] ++ hang_up_if (up && false)
none_hung true = refl
none_hung false = refl

-- nothing is done on a wire
idle : (told : Option (List WireCall)) (up : Bool) → Acted told told up [] false up
idle told up = record {
  calls = [];
  grows = grows_none told;
  acts = record {
    sent = [];
    still = up;
    sends = (refl, refl);
    all = none_hung up;
    ends = refl;
  };
}

pub rested : (e : EngineState) (side : Side) (now : ℕ) (told : Records)
    → Decides Answers e.core.config.names e.core.config.window (last_day e.journal.entries)
    (sessions_in e.core) (Tick side) now (Ok (no_change e.core))
    → standing e.client_up e.core.client ≡ e.core.client
    → standing e.venue_up e.core.venue ≡ e.core.venue
    → Stepped e.core.config (world_of e) (Tick side) now (world_of e) told told
rested e side now told decides client venue =
    stepped e.core.config (world_of e) (world_of e) (Tick side) now (no_change e.core)
    e.core.config.names (last_day e.journal.entries) e.client_up e.venue_up
    told.client told.client told.venue told.venue refl refl refl
    (sym (append-nil (last_day e.journal.entries))) refl decides
    (λ i. record { client = sym client i; venue = sym venue i })
    (idle told.client e.client_up) (idle told.venue e.venue_up)
