-- A session day that begins: its entry, and what stands where it was not committed.
use Rattle.std.proofs.Common.{◌≡◌, ◌+◌, ◌≤◌, Bool, true, false, List, ◌∷◌, ◌++◌, length, [], ℕ}
use Rattle.std.proofs.Common.{refl, sym, ◌∙◌, ap, subst, arith, Some, inl, inr}
use Rattle.std.specs.declared.option.Option.{Option}
use Rattle.std.specs.Option.{option_to_list}
use Rattle.outside.specs.declared.disk.TheConstants.{MAX_DISK}
use Rattle.wires.specs.Told.{GrowsBy}
use Rattle.wires.specs.Wire.{WireCall}
use Rattle.order_meaning.specs.declared.names.Names.{Names}
use Rattle.gate_log.specs.Records.{blocks}
use Rattle.pair_entries.specs.declared.TheConstants.{MAX_AT}
use Rattle.pair_entries.specs.declared.entry.Entry.{Entry}
use Rattle.pair_entries.specs.Payload.{Next, IsEntry}
use Rattle.pair_journal.specs.declared.error.JournalError.{JournalError}
use Rattle.pair_journal.specs.declared.error.JournalError.TheVariants as errors
use Rattle.pair_journal.specs.Calls.{payloads_of}
use Rattle.kept_entries.specs.Days.{last_day, payload_behind}
use Rattle.kept_entries.specs.Numbers.{GoesOn, numbers_before}
use Rattle.pair_journal.specs.State.{JournalState}
use Rattle.kept_entries.proofs.Dating.{last_day-reset}
use Rattle.event_decisions.specs.Days.{new_day}
use Rattle.life_laws.specs.Sends.{hang_up_if}
use Rattle.gateway_config.specs.declared.config.Config.{Config}
use Rattle.gateway_core.specs.State.{loaded, sessions_in, CoreState}
use Rattle.wire_sends.specs.Sent.{Hung}
use Rattle.gateway_life.specs.declared.end.LifeEnd.{LifeEnd}
use Rattle.gateway_life.specs.declared.end.LifeEnd.TheVariants as ends
use Rattle.gateway_life.specs.Ended.{end_of}
use Rattle.gateway_life.specs.State.{EngineState}
use Rattle.gateway_life.specs.Ready.{IsReady, world_of}
use Rattle.gateway_life.specs.Fails.{IsWhyOfDay}
use Rattle.gateway_life.specs.Committed.{OldOrNew, IsFull}
use Rattle.gateway_life.specs.Life.{begun}
use Rattle.gateway_life.specs.Rounds.{MayTurn}
use Rattle.gateway_life.specs.Stepped.{EndsEvent}
use Rattle.gateway_life.specs.Watched.{WereCommitted}
use Rattle.gateway_life.specs.Causes.{IsCause}
use Rattle.gateway_life.proofs.Watching.{were_same}

-- ---- its entry

pub is_new_day : (now : ℕ) → now ≤ MAX_AT → IsEntry (new_day now)
is_new_day now bound = record {
  at = bound;
  reset = λ is. record { took = refl; next = refl; outs = refl };
  took = tt;
  next = (
    (omega arith, omega arith),
    (omega arith, omega arith),
    (omega arith, omega arith),
    (omega arith, omega arith),
  );
  few = omega arith;
  outs = tt;
}

-- it goes on from any numbers
pub day_goes_on : (before : Next) (now : ℕ)
    → GoesOn (numbers_before before (new_day now)) (new_day now)
day_goes_on before now = record {
  client_out = record { numbered = tt; next = refl };
  venue_out = record { numbered = tt; next = refl };
  client_in = refl;
  venue_in = refl;
}

-- ---- the engine before and behind it

-- what stands on the wires is nothing to the journal and the core
pub ready_hung : (old : EngineState) (told : Option (List ℕ)) (cu vu : Bool) → IsReady old told
    → IsReady (record old { client_up = cu; venue_up = vu }) told
ready_hung old told cu vu ready = record {
  names = ready.names;
  whole = ready.whole;
  sound = ready.sound;
  chains = ready.chains;
  sides = ready.sides;
  numbers = ready.numbers;
  stands = ready.stands;
}

pub ready_same : (old new : EngineState) (told : Option (List ℕ)) → new.journal ≡ old.journal
    → new.core ≡ old.core → IsReady old told → IsReady new told
ready_same old new told journal core ready =
    subst (λ (j : JournalState). IsReady (record new { journal = j }) told) (sym journal)
    (subst (λ (k : CoreState). IsReady (record new { journal = old.journal; core = k }) told)
    (sym core) (ready_hung old told new.client_up new.venue_up ready))

pub world_fresh : (new : EngineState) (config : Config) (before : List Entry) (now : ℕ)
    (entry : Option Entry) → new.journal.entries ≡ before ++ option_to_list entry
    → entry ≡ Some (new_day now) → new.core ≡ loaded config [] → (cu vu : Bool)
    → new.client_up ≡ cu → new.venue_up ≡ vu → cu ≡ false → vu ≡ false
    → world_of new ≡ begun config []
world_fresh new config before now entry all its is cu vu same_client same_venue client venue =
    let entries = all ∙ ap (λ o. before ++ option_to_list o) its in
    let anew : last_day new.journal.entries ≡ [] =
    ap last_day entries ∙ last_day-reset before (new_day now) refl in
    λ i. record {
      entries = anew i;
      sessions = sessions_in (is i);
      client_up = (same_client ∙ client) i;
      venue_up = (same_venue ∙ venue) i;
    }

-- a connection that stands is hung up
pub hung_whole : (old new : Option (List WireCall)) (up after : Bool) → Hung old new up true after
    → GrowsBy old new (hang_up_if up)
hung_whole old new true after hung = hung.grows
hung_whole old new false after hung = hung.grows

-- ---- where it was not committed

pub may_turn : (error : JournalError) (before : List Entry) (now : ℕ) (found : List Entry)
    → OldOrNew error before (Some (new_day now)) found → MayTurn (end_of error) before now found
may_turn errors.DiskFault before now found (inl same) = inl same
may_turn errors.DiskFault before now found (inr more) = inr (refl, more)
may_turn error before now found same = inl same

pub why_day : (error : JournalError) (names : Names) (whole : List Entry) (now : ℕ)
    (journal : JournalState) → journal.names ≡ names → journal.entries ≡ whole
    → IsFull journal (Some (new_day now)) error → IsWhyOfDay (end_of error) names whole now
why_day errors.DiskFault names whole now journal same all full = tt
why_day errors.Full names whole now journal same all full =
    let here : full.0 ≡ new_day now = cc full.1 in
    subst (λ (n : Names). MAX_DISK ≤ length (blocks (payloads_of n whole)) + 5
    + length (payload_behind whole (new_day now))) same
    (subst (λ l. MAX_DISK ≤ length (blocks (payloads_of journal.names l)) + 5
    + length (payload_behind l (new_day now))) all
    (subst (λ (e : Entry). MAX_DISK ≤ length (blocks (payloads_of journal.names journal.entries))
    + 5 + length (payload_behind journal.entries e)) here full.3))
why_day error names whole now journal same all full = absurd full

-- ---- what it says of the journal that is left

pub were_turned : (end : LifeEnd) (whole kept : List Entry) (now : ℕ) (found : List Entry)
    → kept ≡ whole → MayTurn end whole now found → WereCommitted end kept found
were_turned end whole kept now found same (inl is) = were_same end kept found (is ∙ sym same)
were_turned end whole kept now found same (inr more) =
    subst (λ (e : LifeEnd). WereCommitted e kept found) (sym more.0)
    (Some (new_day now), more.1 ∙ ap (λ l. l ++ new_day now ∷ []) (sym same))

pub why_event : (end : LifeEnd) (told : Option (List ℕ)) (names : Names) (whole : List Entry)
    (now : ℕ) → IsWhyOfDay end names whole now → EndsEvent told end
why_event ends.JournalFull told names whole now why =
    record { not_done = tt; of_event = λ t. tt }
why_event ends.DiskFault told names whole now why = record { not_done = tt; of_event = λ t. tt }
why_event ends.NoMemory told names whole now why = record { not_done = tt; of_event = λ t. tt }
why_event end told names whole now why = absurd why

cause_by : (end : LifeEnd) (names : Names) (whole : List Entry) (now : ℕ) → now ≤ MAX_AT
    → IsWhyOfDay end names whole now → IsCause end names whole
cause_by ends.JournalFull names whole now bound why = record {
  entry = new_day now;
  comes = inr (now, refl);
  bounded = is_new_day now bound;
  no_room = λ room. omega (arith, room, why);
}
cause_by ends.DiskFault names whole now bound why = tt
cause_by ends.NoMemory names whole now bound why = tt
cause_by end names whole now bound why = absurd why

pub why_cause : (end : LifeEnd) (names names' : Names) (whole kept : List Entry) (now : ℕ)
    → now ≤ MAX_AT → names ≡ names' → kept ≡ whole → IsWhyOfDay end names whole now
    → IsCause end names' kept
why_cause end names names' whole kept now bound same all why =
    subst (λ (n : Names). IsCause end n kept) same
    (subst (λ l. IsCause end names l) (sym all) (cause_by end names whole now bound why))
