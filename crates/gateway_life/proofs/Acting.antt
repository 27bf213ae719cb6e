-- What an event does on the wires, part after part.
use Rattle.std.proofs.Common.{◌≡◌, Bool, true, false, List, ◌++◌, refl, sym, ◌∙◌, ap, ◌∷◌, [], ℕ}
use Rattle.std.proofs.Common.{subst, append_assoc, Some, None, inl, inr, Ok}
use Rattle.std.specs.Prelude.{map, ◌&&◌}
use Rattle.std.specs.declared.option.Option.{Option}
use Rattle.std.specs.Option.{option_to_list, ForSome}
use Rattle.std.proofs.lemmas.List.{map-append}
use Rattle.wires.specs.Wire.{WireCall}
use Rattle.order_meaning.specs.declared.Side.{Side}
use Rattle.order_meaning.specs.declared.Side.TheVariants.{Client, Venue}
use Rattle.order_meaning.specs.declared.names.Names.{Names}
use Rattle.session_core.specs.declared.session.Session.{Session}
use Rattle.pair_entries.specs.declared.entry.Entry.{Entry}
use Rattle.kept_entries.specs.Numbers.{numbers_after, first_numbers}
use Rattle.kept_entries.specs.Days.{last_day}
use Rattle.kept_entries.specs.Entries.{DaysGoOn}
use Rattle.pair_journal.specs.Journal.{JournalOf, Born}
use Rattle.event_decisions.specs.Event.{Event}
use Rattle.event_decisions.specs.Decide.{Sessions, AreSides, numbers_of, Decision, Decides}
use Rattle.message_answers.specs.Answer.{Answers}
use Rattle.message_answers.specs.Chains.{chains_of}
use Rattle.life_laws.specs.Forms.{Form}
use Rattle.life_laws.specs.Sends.{Sends, Front, hang_up_if}
use Rattle.life_laws.specs.Happens.{World, nothing, pieces_to, hangs, standing, both_standing}
use Rattle.life_laws.specs.Turn.{counts}
use Rattle.gateway_config.specs.declared.config.Config.{Config}
use Rattle.gateway_core.specs.State.{sessions_in}
use Rattle.wire_sends.specs.Sent.{Agrees, Sent, FrontSent, Hung}
use Rattle.wire_sends.proofs.Sendings.{sent_append, sent_none, grows_append, sends_none}
use Rattle.gateway_life.specs.declared.end.LifeEnd.{LifeEnd}
use Rattle.gateway_life.specs.declared.end.LifeEnd.TheVariants as ends
use Rattle.gateway_life.specs.Acted.{Acted}
use Rattle.gateway_life.specs.State.{EngineState}
use Rattle.gateway_life.specs.Ready.{LeavesOf, IsReady, Ready, Behind}
use Rattle.gateway_life.specs.Fails.{IsWhy, FailsBy}
use Rattle.gateway_life.specs.Stepped.{Records, records, Stepped, MayStand, Broken, Failed}
use Rattle.gateway_life.proofs.Today.{behind_map}
use Rattle.gateway_life.proofs.Turning.{grew_none, failed_one}
use Rattle.gateway_life.proofs.Telling.{leaves_map}

pub acted : (a b c d : Option (List WireCall)) (up mid still after hang_up : Bool)
    (frame : Form → List ℕ) (xs ys : List Form) → Sent a b up (map frame xs) mid
    → Sent b c mid (map frame ys) still → Hung c d still hang_up after
    → Acted a d up (map frame (xs ++ ys)) hang_up after
acted a b c d up mid still after hang_up frame xs ys first second hung =
    let sent : Sent a c up (map frame xs ++ map frame ys) still =
    sent_append a b c up mid still (map frame xs) (map frame ys) first second in
    record {
      calls = sent.calls ++ hang_up_if (still && hang_up);
      grows = grows_append a c d sent.calls (hang_up_if (still && hang_up)) sent.grows hung.grows;
      acts = record {
        sent = sent.calls;
        still = still;
        sends = subst (λ l. Sends up l sent.calls still) (sym (map-append frame xs ys)) sent.sends;
        all = refl;
        ends = hung.ends;
      };
    }

pub part_front : (a b : Option (List WireCall)) (up : Bool) (frame : Form → List ℕ)
    (xs ys : List Form) → FrontSent a b up (map frame xs) → FrontSent a b up (map frame (xs ++ ys))
part_front a b up frame xs ys part = record {
  front = part.front;
  rest = part.rest ++ map frame ys;
  joined = sym (append_assoc part.front part.rest (map frame ys))
      ∙ ap (λ l. l ++ map frame ys) part.joined ∙ sym (map-append frame xs ys);
  after = part.after;
  sent = part.sent;
}

pub part_whole : (a b : Option (List WireCall)) (up mid : Bool) (frame : Form → List ℕ)
    (xs ys : List Form) → Sent a b up (map frame xs) mid
    → FrontSent a b up (map frame (xs ++ ys))
part_whole a b up mid frame xs ys sent = record {
  front = map frame xs;
  rest = map frame ys;
  joined = sym (map-append frame xs ys);
  after = mid;
  sent = sent;
}

pub part_none : (a : Option (List WireCall)) (up : Bool) (pieces : List (List ℕ))
    → FrontSent a a up pieces
part_none a up pieces =
    record { front = []; rest = pieces; joined = refl; after = up; sent = sent_none a up }

-- ---- sessions without a connection

standing_same : (up : Bool) (s : Session)
    → ((standing up s).side ≡ s.side) × ((standing up s).numbers ≡ s.numbers)
standing_same true s = (refl, refl)
standing_same false s = (refl, refl)

pub both_sides : (client_up venue_up : Bool) (s : Sessions) → AreSides s
    → AreSides (both_standing client_up venue_up s)
both_sides client_up venue_up s sides = record {
  client = (standing_same client_up s.client).0 ∙ sides.client;
  venue = (standing_same venue_up s.venue).0 ∙ sides.venue;
}

pub both_numbers : (client_up venue_up : Bool) (s : Sessions)
    → numbers_of (both_standing client_up venue_up s) ≡ numbers_of s
both_numbers client_up venue_up s =
    let c = (standing_same client_up s.client).1 in
    let v = (standing_same venue_up s.venue).1 in
    λ i. ((c i).next_in, (c i).next_out, (v i).next_in, (v i).next_out)

-- ---- an event, whole or not

abbrev part_of : (a b : Option (List WireCall)) (up : Bool) (pieces : List (List ℕ))
    (sent : FrontSent a b up pieces) → Front up pieces sent.sent.calls
part_of a b up pieces sent = record {
  front = sent.front;
  rest = sent.rest;
  joined = sent.joined;
  after = sent.after;
  sends = sent.sent.sends;
}

pub stepped : (config : Config) (before after : World) (event : Event) (now : ℕ) (d : Decision)
    (names : Names) (entries : List Entry) (cu vu : Bool) (c0 c1 v0 v1 : Option (List WireCall))
    → names ≡ config.names → cu ≡ before.client_up → vu ≡ before.venue_up
    → entries ≡ before.entries ++ option_to_list d.entry → after.entries ≡ entries
    → Decides Answers config.names config.window before.entries before.sessions event now (Ok d)
    → after.sessions ≡ both_standing after.client_up after.venue_up d.sessions
    → Acted c0 c1 cu (pieces_to names Client entries event now d) (hangs Client d) after.client_up
    → Acted v0 v1 vu (pieces_to names Venue entries event now d) (hangs Venue d) after.venue_up
    → Stepped config before event now after (records c0 v0) (records c1 v1)
stepped config before after event now d names entries cu vu c0 c1 v0 v1 sn sc sv se sa decides
    sessions client' venue' =
    let moved : (side : Side) → pieces_to names side entries event now d
    ≡ pieces_to config.names side after.entries event now d =
    λ side. ap (λ n. pieces_to n side entries event now d) sn
    ∙ ap (λ l. pieces_to config.names side l event now d) (sym sa) in
    let client : Acted c0 c1 before.client_up
    (pieces_to config.names Client after.entries event now d) (hangs Client d) after.client_up =
    subst (λ u. Acted c0 c1 u (pieces_to config.names Client after.entries event now d)
    (hangs Client d) after.client_up) sc
    (subst (λ l. Acted c0 c1 cu l (hangs Client d) after.client_up) (moved Client) client') in
    let venue : Acted v0 v1 before.venue_up
    (pieces_to config.names Venue after.entries event now d) (hangs Venue d) after.venue_up =
    subst (λ u. Acted v0 v1 u (pieces_to config.names Venue after.entries event now d)
    (hangs Venue d) after.venue_up) sv
    (subst (λ l. Acted v0 v1 vu l (hangs Venue d) after.venue_up) (moved Venue) venue') in
    record {
      added = record { client = client.calls; venue = venue.calls };
      grew = record { client = client.grows; venue = venue.grows };
      happens = record {
        decision = d;
        decides = decides;
        entries = sa ∙ se;
        client = client.acts;
        venue = venue.acts;
        sessions = sessions;
      };
    }

broken_none : (end : LifeEnd) (config : Config) (past : List Entry) (before : World)
    (event : Event) (now : ℕ) (r : Records) (found : List Entry)
    → IsWhy end config past before event now → MayStand end config before event now found
    → Broken end config past before event now r r found
broken_none end config past before event now r found why may =
    record { why = why; added = nothing; grew = grew_none r; fails = at end may }
  where
    at : (e : LifeEnd) → MayStand e config before event now found
        → FailsBy e config before event now nothing found
    at ends.DiskFault (inl same) = inl (same, refl)
    at ends.DiskFault (inr made) = inr (record {
      decision = made.0;
      decides = made.1;
      is = made.2;
      client = record {
        front = [];
        rest = pieces_to config.names Client found event now made.0;
        joined = refl;
        after = before.client_up;
        sends = sends_none before.client_up;
      };
      venue = record {
        front = [];
        rest = pieces_to config.names Venue found event now made.0;
        joined = refl;
        after = before.venue_up;
        sends = sends_none before.venue_up;
      };
    })
    at end same = (same, refl)

-- a part was sent, and the entry stands
pub parts_fail : (told : Option (List ℕ)) (before' after' : List ℕ → Type 0) (config : Config)
    (past : List Entry) (before : World) (event : Event) (now : ℕ) (d : Decision) (names : Names)
    (entries whole : List Entry) (end : LifeEnd) → end ≡ ends.DiskFault
    → counts before event ≡ true → whole ≡ past ++ entries → (cu vu : Bool)
    (c0 c1 v0 v1 : Option (List WireCall))
    → names ≡ config.names → cu ≡ before.client_up → vu ≡ before.venue_up
    → entries ≡ before.entries ++ option_to_list d.entry
    → Decides Answers config.names config.window before.entries before.sessions event now (Ok d)
    → ((bytes : List ℕ) → after' bytes → before' bytes)
    → FrontSent c0 c1 cu (pieces_to names Client entries event now d)
    → FrontSent v0 v1 vu (pieces_to names Venue entries event now d)
    → (image0 : List ℕ → Type 0)
    → LeavesOf told image0 before' config.names (λ found. found ≡ whole)
    → LeavesOf told image0 after' config.names (Behind past
    (Failed end config past before (event ∷ []) now (records c0 v0) (records c1 v1)))
parts_fail told before' after' config past before event now d names entries whole end is counted
    all cu vu c0 c1 v0 v1 sn sc sv se decides among client' venue' image0 only = at told only
  where
    part : (side : Side) (a b : Option (List WireCall)) (up up' : Bool) → up' ≡ up
        → FrontSent a b up' (pieces_to names side entries event now d)
        → FrontSent a b up (pieces_to config.names side entries event now d)
    part side a b up up' same sent =
        subst (λ n. FrontSent a b up (pieces_to n side entries event now d)) sn
        (subst (λ u. FrontSent a b u (pieces_to names side entries event now d)) same sent)

    client : FrontSent c0 c1 before.client_up (pieces_to config.names Client entries event now d)
    client = part Client c0 c1 before.client_up cu sc client'

    venue : FrontSent v0 v1 before.venue_up (pieces_to config.names Venue entries event now d)
    venue = part Venue v0 v1 before.venue_up vu sv venue'

    failed : Failed end config past before (event ∷ []) now (records c0 v0) (records c1 v1) entries
    failed = subst (λ (e : LifeEnd). Failed e config past before (event ∷ []) now (records c0 v0)
        (records c1 v1) entries) (sym is)
        (failed_one config ends.DiskFault past before event now (records c0 v0) (records c1 v1)
        entries counted (record {
          why = tt;
          added = record { client = client.sent.calls; venue = venue.sent.calls };
          grew = record { client = client.sent.grows; venue = venue.sent.grows };
          fails = inr (record {
            decision = d;
            decides = decides;
            is = se;
            client = part_of c0 c1 before.client_up
                (pieces_to config.names Client entries event now d) client;
            venue = part_of v0 v1 before.venue_up
                (pieces_to config.names Venue entries event now d) venue;
          });
        }))

    at : (t : Option (List ℕ)) → LeavesOf t image0 before' config.names (λ found. found ≡ whole)
        → LeavesOf t image0 after' config.names (Behind past
        (Failed end config past before (event ∷ []) now (records c0 v0) (records c1 v1)))
    at None h = tt
    at (Some b) h = λ left bytes here.
        let found = h left bytes (among bytes here) in
        (found.0, found.1, (entries, found.2 ∙ all, failed))

-- ---- an engine that has acted

pub ready_acted : (old new : EngineState) (t0 t1 : Option (List ℕ))
    (c1 v1 : Option (List WireCall)) → IsReady old t0 → t1 ≡ t0
    → new.journal ≡ old.journal → new.core.config ≡ old.core.config
    → new.core.chains ≡ old.core.chains
    → sessions_in new.core ≡ both_standing new.client_up new.venue_up (sessions_in old.core)
    → Agrees c1 new.client_up → Agrees v1 new.venue_up → Ready new t1 c1 v1
ready_acted old new t0 t1 c1 v1 ready told journal config chains sessions client venue = record {
  ready = record {
    names = ap (λ j. j.names) journal ∙ ready.names ∙ ap (λ k. k.names) (sym config);
    whole = ap (λ j. j.broken) journal ∙ ready.whole;
    sound = subst (λ j. DaysGoOn first_numbers j.entries) (sym journal) ready.sound;
    chains = chains ∙ ready.chains ∙ ap (λ j. chains_of (last_day j.entries)) (sym journal);
    sides = subst AreSides (sym sessions)
        (both_sides new.client_up new.venue_up (sessions_in old.core) ready.sides);
    numbers = ap numbers_of sessions
        ∙ both_numbers new.client_up new.venue_up (sessions_in old.core) ∙ ready.numbers
        ∙ ap (λ j. numbers_after first_numbers j.entries) (sym journal);
    stands = subst (λ t. ForSome t (λ b. JournalOf b (Born new.journal.names new.journal.entries)))
        (sym told) (subst (λ j. ForSome t0 (λ b. JournalOf b (Born j.names j.entries)))
        (sym journal) ready.stands);
  };
  client = client;
  venue = venue;
}

-- nothing of it stands, or its entry
pub made_fails : (end : LifeEnd) (told : Option (List ℕ)) (i0 i1 : List ℕ → Type 0)
    (config : Config) (past : List Entry) (before : World) (event : Event) (now : ℕ) (r : Records)
    → counts before event ≡ true → IsWhy end config past before event now
    → LeavesOf told i0 i1 config.names (Behind past (MayStand end config before event now))
    → LeavesOf told i0 i1 config.names
    (Behind past (Failed end config past before (event ∷ []) now r r))
made_fails end told i0 i1 config past before event now r counted why =
    leaves_map told i0 i1 config.names (Behind past (MayStand end config before event now))
    (Behind past (Failed end config past before (event ∷ []) now r r))
    (behind_map past past (MayStand end config before event now)
    (Failed end config past before (event ∷ []) now r r) refl (λ xs may.
    failed_one config end past before event now r r xs counted
    (broken_none end config past before event now r xs why may)))
