-- The turn of a day: both sides end, and a new day begins.
use Rattle.std.proofs.Common.{◌≡◌, Bool, true, List, ◌∷◌, ◌++◌, sym, ◌∙◌, ap, [], ℕ, subst, Ok, Err}
use Rattle.std.proofs.Common.{inl}
use Rattle.std.specs.Prelude.{Result, OnOk, IfErr, is_some}
use Rattle.std.specs.declared.option.Option.{Option}
use Rattle.outside.specs.Disk.{HasOneImage}
use Rattle.wires.specs.Told.{GrowsBy}
use Rattle.order_meaning.specs.declared.names.Names.{Names}
use Rattle.pair_entries.specs.declared.entry.Entry.{Entry}
use Rattle.kept_entries.specs.Days.{last_day, past_of, day_at}
use Rattle.kept_entries.specs.Entries.{DaysGoOn}
use Rattle.kept_entries.specs.Numbers.{first_numbers}
use Rattle.kept_entries.proofs.Dating.{past-last}
use Rattle.event_decisions.specs.Days.{is_due, new_day}
use Rattle.life_laws.specs.Sends.{hang_up_if}
use Rattle.life_laws.specs.Happens.{World}
use Rattle.life_laws.specs.Days.{hung}
use Rattle.gateway_config.specs.declared.config.Config.{Config}
use Rattle.gateway_life.specs.declared.end.LifeEnd.{LifeEnd}
use Rattle.gateway_life.specs.State.{EngineState}
use Rattle.gateway_life.specs.Ready.{IfTold, LeavesOf, world_of}
use Rattle.gateway_life.specs.Fails.{IsWhyOfDay}
use Rattle.gateway_life.specs.Life.{begun}
use Rattle.gateway_life.specs.Stepped.{Records, Grew, AllStepped}
use Rattle.gateway_life.specs.Rounds.{ends_of, DayDone, DayTurned, DayBroken, AtEntry, MayTurn}
use Rattle.gateway_life.proofs.Turning.{grew_append}
use Rattle.gateway_life.proofs.Telling.{leaves_from, leaves_told}

pub day_due : (minute minute' began began' : Option ℕ) (now : ℕ) (r b : Bool)
    → r ≡ is_due minute' began' now → minute' ≡ minute → began' ≡ began → r ≡ b
    → is_due minute began now ≡ b
day_due minute minute' began began' now r b is same at test =
    ap (λ m. is_due m began now) (sym same) ∙ ap (λ o. is_due minute' o now) (sym at) ∙ sym is
    ∙ test

-- what stands before the new day
stood : (past : List Entry) (x : EngineState) → DaysGoOn first_numbers x.journal.entries
    → past_of x.journal.entries ≡ past → past ++ last_day x.journal.entries ≡ x.journal.entries
stood past x sound same = ap (λ l. l ++ last_day x.journal.entries) (sym same)
    ∙ past-last x.journal.entries sound

-- both sides ended, and what still stood was hung up
grew_hung : (config : Config) (w : World) (x : EngineState) (now : ℕ) (r0 r2 r3 : Records)
    (all : AllStepped config w ends_of now (world_of x) r0 r2)
    → GrowsBy r2.client r3.client (hang_up_if x.client_up)
    → GrowsBy r2.venue r3.venue (hang_up_if x.venue_up) → Grew r0 r3 (hung all.added (world_of x))
grew_hung config w x now r0 r2 r3 all client venue = grew_append r0 r2 r3 all.added (record {
  client = hang_up_if x.client_up;
  venue = hang_up_if x.venue_up;
}) all.grew (record { client = client; venue = venue })

-- a new day began
day_turned : (config : Config) (old x new : EngineState) (now : ℕ) (r0 r2 r3 : Records)
    → is_due config.reset (day_at old.journal.entries) now ≡ true
    → AllStepped config (world_of old) ends_of now (world_of x) r0 r2
    → DaysGoOn first_numbers x.journal.entries
    → past_of x.journal.entries ≡ past_of old.journal.entries
    → new.journal.entries ≡ x.journal.entries ++ new_day now ∷ []
    → GrowsBy r2.client r3.client (hang_up_if x.client_up)
    → GrowsBy r2.venue r3.venue (hang_up_if x.venue_up) → world_of new ≡ begun config []
    → DayTurned config old new now r0 r3
day_turned config old x new now r0 r2 r3 due all sound same entries client venue fresh = record {
  due = due;
  added = all.added;
  mid = world_of x;
  ends = all.happen;
  grew = grew_hung config (world_of old) x now r0 r2 r3 all client venue;
  entries = entries ∙ ap (λ l. l ++ new_day now ∷ [])
      (sym (stood (past_of old.journal.entries) x sound same));
  fresh = fresh;
}

-- its entry was not committed
entry_fails : (end : LifeEnd) (config : Config) (old x : EngineState) (now : ℕ)
    (r0 r2 r3 : Records) (entries : List Entry)
    → is_due config.reset (day_at old.journal.entries) now ≡ true
    → AllStepped config (world_of old) ends_of now (world_of x) r0 r2
    → DaysGoOn first_numbers x.journal.entries
    → past_of x.journal.entries ≡ past_of old.journal.entries
    → GrowsBy r2.client r3.client (hang_up_if x.client_up)
    → GrowsBy r2.venue r3.venue (hang_up_if x.venue_up)
    → IsWhyOfDay end config.names x.journal.entries now
    → MayTurn end x.journal.entries now entries → DayBroken end config old now r0 r3 entries
entry_fails end config old x now r0 r2 r3 entries due all sound same client venue why may =
    let here = sym (stood (past_of old.journal.entries) x sound same) in
    AtEntry due all.added (world_of x) all.happen
    (grew_hung config (world_of old) x now r0 r2 r3 all client venue)
    (subst (λ l. IsWhyOfDay end config.names l now) here why)
    (subst (λ l. MayTurn end l now entries) here may)

-- ---- by the answer of the new day

pub day_done : {T : Type 0} (r : Result T LifeEnd) (told : Option (List ℕ))
    (config config' : Config) (old x new : EngineState) (now : ℕ) (r0 r2 r3 : Records)
    → is_due config.reset (day_at old.journal.entries) now ≡ true
    → (is_some told ≡ true → AllStepped config (world_of old) ends_of now (world_of x) r0 r2)
    → DaysGoOn first_numbers x.journal.entries
    → past_of x.journal.entries ≡ past_of old.journal.entries → config' ≡ config
    → OnOk r (new.journal.entries ≡ x.journal.entries ++ new_day now ∷ [])
    → GrowsBy r2.client r3.client (hang_up_if x.client_up)
    → GrowsBy r2.venue r3.venue (hang_up_if x.venue_up)
    → OnOk r (world_of new ≡ begun config' [])
    → OnOk r (IfTold told (DayDone config old new now r0 r3))
day_done (Err end) told config config' old x new now r0 r2 r3 due all sound same at entries client
    venue fresh = tt
day_done (Ok value) told config config' old x new now r0 r2 r3 due all sound same at entries client
    venue fresh = λ t. inl (day_turned config old x new now r0 r2 r3 due (all t) sound same entries
    client venue (fresh ∙ ap (λ (k : Config). begun k []) at))

pub entry_left : {T : Type 0} (r : Result T LifeEnd) (t0 t2 : Option (List ℕ))
    (i0 i1 i2 : List ℕ → Type 0) (config config' : Config) (old x : EngineState) (now : ℕ)
    (r0 r2 r3 : Records) → is_due config.reset (day_at old.journal.entries) now ≡ true
    → (is_some t0 ≡ true → AllStepped config (world_of old) ends_of now (world_of x) r0 r2)
    → DaysGoOn first_numbers x.journal.entries
    → past_of x.journal.entries ≡ past_of old.journal.entries → config' ≡ config
    → is_some t2 ≡ is_some t0 → (HasOneImage t0 i0 → HasOneImage t2 i1)
    → GrowsBy r2.client r3.client (hang_up_if x.client_up)
    → GrowsBy r2.venue r3.venue (hang_up_if x.venue_up)
    → IfErr r (λ end. IsWhyOfDay end config'.names x.journal.entries now)
    → IfErr r (λ end. LeavesOf t2 i1 i2 config'.names (MayTurn end x.journal.entries now))
    → IfErr r (λ end. LeavesOf t0 i0 i2 config.names (DayBroken end config old now r0 r3))
entry_left (Ok value) t0 t2 i0 i1 i2 config config' old x now r0 r2 r3 due all sound same at told
    one client venue why left = tt
entry_left (Err end) t0 t2 i0 i1 i2 config config' old x now r0 r2 r3 due all sound same at told one
    client venue why left =
    let names = ap (λ (k : Config). k.names) at in
    leaves_told t0 i0 i2 config.names (DayBroken end config old now r0 r3) (λ t.
    leaves_from t0 t2 i0 i1 i2 config.names config'.names (MayTurn end x.journal.entries now)
    (DayBroken end config old now r0 r3) told one names (λ xs may. entry_fails end config old x now
    r0 r2 r3 xs due (all t) sound same client venue (subst (λ (n : Names).
    IsWhyOfDay end n x.journal.entries now) names why) may) left)
