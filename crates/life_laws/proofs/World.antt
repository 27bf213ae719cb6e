-- One event keeps all that holds between events.
use Rattle.std.proofs.Common.{◌≡◌, ℕ, ◌+◌, Bool, true, false, List, [], ◌∷◌, ◌++◌, length, refl}
use Rattle.std.proofs.Common.{sym, ◌∙◌, ap, subst, append_assoc, append-nil, length-append, Some}
use Rattle.std.proofs.Common.{None}
use Rattle.std.specs.Prelude.{map, Ok}
use Rattle.std.specs.Option.{option_to_list}
use Rattle.std.specs.declared.option.Option.{Option}
use Rattle.order_meaning.specs.declared.Side.{Side}
use Rattle.order_meaning.specs.declared.Side.TheVariants.{Client, Venue}
use Rattle.order_meaning.specs.declared.names.Names.{Names}
use Rattle.pair_entries.specs.declared.entry.Out.{Out}
use Rattle.pair_entries.specs.declared.entry.Entry.{Entry}
use Rattle.kept_entries.specs.Numbers.{outs_to, next_out, numbers_after, first_numbers}
use Rattle.event_decisions.specs.Event.{Event}
use Rattle.event_decisions.specs.Decide.{Asked, Words, Sessions, AreSides, Decision, Decides}
use Rattle.event_decisions.specs.Decide.{numbers_of, IsDecided, LawfulAfter, IsLawful}
use Rattle.wires.specs.Wire.{Connection}
use Rattle.life_laws.specs.Justified.{transcript_from, Leaves, IsSublist, tooks_of, IsJustified}
use Rattle.life_laws.specs.Forms.{all_placed}
use Rattle.life_laws.specs.Sends.{Acts, Front}
use Rattle.life_laws.specs.Happens.{pieces_to, hangs, standing, World, Added, Happens, Stops}
use Rattle.life_laws.specs.Standing.{pending_after, IsNext, NumberedFrom, Standing, Holds}
use Rattle.std.proofs.lemmas.List.{length-map}
use Rattle.life_laws.proofs.Grown.{sublist-more}
use Rattle.life_laws.proofs.Decided.{Extends, extends, numbers-push}
use Rattle.life_laws.proofs.Keep.{placed-push, numbered-keep, acts-stand, front-stand}

push : (answers : List Entry → (active : Bool) → Option Asked → Option Words
    → Type 0) (names : Names) (before entries : List Entry) (e : Entry)
    → LawfulAfter answers names before entries → IsDecided answers names (before ++ entries) e
    → LawfulAfter answers names before (entries ++ e ∷ [])
push answers names before [] e so_far is = (
  subst (λ l. IsDecided answers names l e) (append-nil before) is,
  tt,
)
push answers names before (x ∷ entries) e so_far is = (
  so_far.0,
  push answers names (before
      ++ x ∷ []) entries e so_far.1 (subst (λ l. IsDecided answers names l e) (sym
      (append_assoc before (x ∷ []) entries)) is),
)

numbers-standing : (c v : Bool) (s : Sessions) → numbers_of
    (record { client = standing c s.client; venue = standing v s.venue }) ≡ numbers_of s
numbers-standing true true s = refl
numbers-standing false true s = refl
numbers-standing c v s = refl

sides-standing : (c v : Bool) (s : Sessions) → AreSides s
    → AreSides (record { client = standing c s.client; venue = standing v s.venue })
sides-standing true true s is = record { client = is.client; venue = is.venue }
sides-standing false true s is = record { client = is.client; venue = is.venue }
sides-standing c v s is = record { client = is.client; venue = is.venue }

-- a decision's entry is lawful behind those before it
lawful : (answers : List Entry → (active : Bool) → Option Asked → Option Words
    → Type 0) (names : Names) (window : ℕ) (entries : List Entry) (s : Sessions) (event : Event)
    (now : ℕ) (d : Decision)
    → Decides answers names window entries s event now (Ok d) → Extends entries event now d
    → IsLawful answers names entries → AreSides s → numbers_of s
    ≡ numbers_after first_numbers entries → IsLawful answers names (entries
    ++ option_to_list d.entry)
lawful answers names window entries s event now d decides adds so_far sides numbers = go d.entry
    refl
  where
    go : (o : Option Entry) → d.entry ≡ o → IsLawful answers names (entries ++ option_to_list o)
    go None none = subst (IsLawful answers names) (sym (append-nil entries)) so_far
    go (Some e) some = push answers names [] entries e so_far (record {
      window = window;
      sessions = s;
      sides = sides;
      numbers = numbers;
      event = event;
      decision = d;
      decides = subst (λ t. Decides answers names window entries s event t (Ok d)) (sym
          (adds.at e some)) decides;
      is = some;
    })

pub counted-keep : (side : Side) (entries : List Entry) (event : Event) (now : ℕ) (d : Decision)
    → Extends entries event now d → next_out side (numbers_after first_numbers entries)
    ≡ length (all_placed side entries) + 1
    → next_out side (numbers_after first_numbers (entries ++ option_to_list d.entry))
    ≡ length (all_placed side (entries ++ option_to_list d.entry)) + 1
counted-keep side entries event now d adds counted = go d.entry refl
  where
    go : (o : Option Entry) → d.entry ≡ o → next_out side (numbers_after first_numbers (entries
        ++ option_to_list o)) ≡ length (all_placed side (entries ++ option_to_list o)) + 1
    go None is = subst (λ l. next_out side (numbers_after first_numbers l)
        ≡ length (all_placed side l) + 1) (sym (append-nil entries)) counted
    go (Some e) is =
        let size : length (all_placed side (entries ++ e ∷ []))
        ≡ length (all_placed side entries) + length (outs_to side e.outs) =
        ap length (placed-push side entries e) ∙ length-append (all_placed side entries) (map (λ
        (out : Out). record { out = out; at = e.at }) (outs_to side e.outs))
        ∙ ap (λ n. length (all_placed side entries) + n) (length-map (outs_to side e.outs) (λ
        (out : Out). record { out = out; at = e.at })) in
        ap (next_out side) (numbers-push first_numbers entries e) ∙ adds.next side e is
        ∙ ap (λ n. n + 1) (sym size)

justified : (names : Names) (side : Side) (entries : List Entry) (links : List Connection)
    (up : Bool) (pending : List (List ℕ)) → Standing names entries side links up pending
    → IsJustified names entries side links
justified names side entries links up pending s = record {
  forms = s.forms;
  shows = s.shows;
  once = s.once;
  tooks = subst (IsSublist (tooks_of side entries)) (sym s.bodies) (sublist-more
      (tooks_of side entries) s.done pending s.tooks);
}

pub leaves : (answers : List Entry → (active : Bool) → Option Asked → Option Words
    → Type 0) (names : Names) (w : World) (cl vl : List Connection) (cp vp : List (List ℕ))
    → Holds answers names w cl vl cp vp → Leaves answers names w.entries cl vl
leaves answers names w cl vl cp vp h = record {
  lawful = h.lawful;
  client = justified names Client w.entries cl w.client_up cp h.client;
  venue = justified names Venue w.entries vl w.venue_up vp h.venue;
}

module _ (answers : List Entry → (active : Bool) → Option Asked → Option Words
    → Type 0) (names : Names) (window : ℕ) (before : World) (event : Event) (now : ℕ)
    (added : Added) (cl vl : List Connection) (cp vp : List (List ℕ))
    (h : Holds answers names before cl vl cp vp) (cn : IsNext Client event cp)
    (vn : IsNext Venue event vp) where
  pub adds-to : (d : Decision)
      → Decides answers names window before.entries before.sessions event now (Ok d)
      → Extends before.entries event now d
  adds-to d decides = extends names window before.entries before.sessions event now decides.words d
      decides.decided h.sides h.numbers h.counted

  pub keeps : (after : World) → Happens answers names window before event now added after
      → Holds answers names after (transcript_from cl added.client)
      (transcript_from vl added.venue) (pending_after Client event cp)
      (pending_after Venue event vp)
  keeps after does =
      let d = does.decision in
      let adds = adds-to d does.decides in
      let client = acts-stand Client before.entries event now d adds names cl before.client_up cp
      cn (h.in_order Client) h.client added.client after.client_up (subst
      (λ l. Acts before.client_up (pieces_to names Client l event now d)
      (hangs Client d) added.client after.client_up) does.entries does.client) in
      let venue = acts-stand Venue before.entries event now d adds names vl before.venue_up vp vn
      (h.in_order Venue) h.venue added.venue after.venue_up (subst (λ l. Acts before.venue_up
      (pieces_to names Venue l event now d)
      (hangs Venue d) added.venue after.venue_up) does.entries does.venue) in
      record {
        lawful = subst (IsLawful answers names) (sym does.entries)
            (lawful answers names window before.entries before.sessions event now d does.decides
            adds h.lawful h.sides h.numbers);
        sides = subst AreSides (sym does.sessions)
            (sides-standing after.client_up after.venue_up d.sessions adds.sides);
        numbers = ap numbers_of does.sessions ∙ numbers-standing after.client_up after.venue_up
            d.sessions ∙ adds.numbers ∙ ap (numbers_after first_numbers) (sym does.entries);
        counted = λ side. subst (λ l. next_out side (numbers_after first_numbers l)
            ≡ length (all_placed side l) + 1) (sym does.entries)
            (counted-keep side before.entries event now d adds (h.counted side));
        in_order = λ side. subst (λ l. NumberedFrom 1 (all_placed side l)) (sym does.entries)
            (numbered-keep side before.entries event now d adds (h.in_order side));
        client = subst (λ l. Standing names l Client
            (transcript_from cl added.client) after.client_up (pending_after Client event cp))
            (sym does.entries) client;
        venue = subst (λ l. Standing names l Venue (transcript_from vl added.venue) after.venue_up
            (pending_after Venue event vp)) (sym does.entries) venue;
      }

  pub stops-leave : (entries : List Entry) → Stops answers names window before event now added
      entries
      → Leaves answers names entries (transcript_from cl added.client)
      (transcript_from vl added.venue)
  stops-leave entries stops =
      let d = stops.decision in
      let adds = adds-to d stops.decides in
      let client = front-stand Client before.entries event now d adds names cl before.client_up cp
      cn (h.in_order Client) h.client added.client (subst (λ l. Front before.client_up
      (pieces_to names Client l event now d) added.client) stops.is stops.client) in
      let venue = front-stand Venue before.entries event now d adds names vl before.venue_up vp vn
      (h.in_order Venue) h.venue added.venue (subst (λ l. Front before.venue_up
      (pieces_to names Venue l event now d) added.venue) stops.is stops.venue) in
      subst (λ l. Leaves answers names l (transcript_from cl added.client)
      (transcript_from vl added.venue)) (sym stops.is)
      (record {
        lawful = lawful answers names window before.entries before.sessions event now d
            stops.decides adds h.lawful h.sides h.numbers;
        client = justified names Client _ (transcript_from cl added.client) _
            (pending_after Client event cp) client;
        venue = justified names Venue _ (transcript_from vl added.venue) _
            (pending_after Venue event vp) venue;
      })
