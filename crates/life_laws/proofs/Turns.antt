-- Events one after another keep all that holds between events.
use Rattle.std.proofs.Common.{◌≡◌, ℕ, Bool, true, false, List, [], ◌∷◌, ◌++◌, sym, ◌∙◌, ap, subst}
use Rattle.std.proofs.Common.{append_assoc}
use Rattle.std.specs.declared.option.Option.{Option}
use Rattle.order_meaning.specs.declared.Side.{Side}
use Rattle.order_meaning.specs.declared.Side.TheVariants.{Client, Venue}
use Rattle.order_meaning.specs.declared.names.Names.{Names}
use Rattle.pair_entries.specs.declared.entry.Entry.{Entry}
use Rattle.event_decisions.specs.Event.{Event}
use Rattle.event_decisions.specs.Decide.{Asked, Words}
use Rattle.wires.specs.Wire.{Connection}
use Rattle.life_laws.specs.Justified.{transcript_from, tooks_of}
use Rattle.life_laws.specs.Happens.{World, Added}
use Rattle.life_laws.specs.Standing.{pending_after, IsNext, Standing, Holds}
use Rattle.life_laws.specs.Turn.{both, counts, HappensIf, HappensOrNot, AllHappen}
use Rattle.life_laws.proofs.Grown.{sublist-more}
use Rattle.life_laws.proofs.Line.{links-both}
use Rattle.life_laws.proofs.Keep.{dealt_with, split}
use Rattle.life_laws.proofs.World.{keeps}

-- each frame's event is that of the next body that waits
abbrev pub Queue : Side → List Event → List (List ℕ) → Type 0
Queue side [] pending = Unit {0}
Queue side (event ∷ events) pending =
    IsNext side event pending × Queue side events (pending_after side event pending)

abbrev pub queue_after : Side → List Event → List (List ℕ) → List (List ℕ)
queue_after side [] pending = pending
queue_after side (event ∷ events) pending =
    queue_after side events (pending_after side event pending)

-- a frame that no event deals with
pub skip : (names : Names) (side : Side) (entries : List Entry) (links : List Connection)
    (up : Bool) (event : Event) (pending : List (List ℕ)) → IsNext side event pending
    → Standing names entries side links up pending → Standing names entries side links up
    (pending_after side event pending)
skip names side entries links up event pending next s = record {
  forms = s.forms;
  shows = s.shows;
  once = s.once;
  whole = s.whole;
  done = s.done ++ dealt_with side event;
  bodies = s.bodies ∙ ap (λ l. s.done ++ l) (split side event pending next)
      ∙ sym (append_assoc s.done (dealt_with side event) (pending_after side event pending));
  tooks = sublist-more (tooks_of side entries) s.done (dealt_with side event) s.tooks;
}

-- what was added in two steps
pub holds-join : (answers : List Entry → (active : Bool) → Option Asked → Option Words → Type 0)
    (names : Names) (w : World) (cl vl : List Connection) (a b added : Added)
    (cp vp : List (List ℕ)) → added ≡ both a b
    → Holds answers names w (transcript_from (transcript_from cl a.client) b.client)
    (transcript_from (transcript_from vl a.venue) b.venue) cp vp
    → Holds answers names w (transcript_from cl added.client) (transcript_from vl added.venue) cp vp
holds-join answers names w cl vl a b added cp vp all h =
    subst (λ (x : Added). Holds answers names w (transcript_from cl x.client)
    (transcript_from vl x.venue) cp vp) (sym all)
    (subst (λ l. Holds answers names w l (transcript_from vl (a.venue ++ b.venue)) cp vp)
    (sym (links-both cl a.client b.client))
    (subst (λ l. Holds answers names w (transcript_from (transcript_from cl a.client) b.client) l
    cp vp) (sym (links-both vl a.venue b.venue)) h))

module _ (answers : List Entry → (active : Bool) → Option Asked → Option Words
    → Type 0) (names : Names) (window : ℕ) (now : ℕ) where
  pub one-keeps : (before after : World) (event : Event) (added : Added) (cl vl : List Connection)
      (cp vp : List (List ℕ)) → Holds answers names before cl vl cp vp → IsNext Client event cp
      → IsNext Venue event vp → HappensOrNot answers names window before event now added after
      → Holds answers names after (transcript_from cl added.client)
      (transcript_from vl added.venue) (pending_after Client event cp)
      (pending_after Venue event vp)
  one-keeps before after event added cl vl cp vp h cn vn does = go (counts before event) does
    where
      go : (b : Bool) → HappensIf answers names window b before event now added after
          → Holds answers names after (transcript_from cl added.client)
          (transcript_from vl added.venue) (pending_after Client event cp)
          (pending_after Venue event vp)
      go true happens = keeps answers names window before event now added cl vl cp vp h cn vn after
          happens
      go false none =
          subst (λ (w : World). Holds answers names w (transcript_from cl added.client)
          (transcript_from vl added.venue) (pending_after Client event cp)
          (pending_after Venue event vp)) (sym none.1)
          (subst (λ (a : Added). Holds answers names before (transcript_from cl a.client)
          (transcript_from vl a.venue) (pending_after Client event cp)
          (pending_after Venue event vp)) (sym none.0)
          (record {
            lawful = h.lawful;
            sides = h.sides;
            numbers = h.numbers;
            counted = h.counted;
            in_order = h.in_order;
            client = skip names Client before.entries cl before.client_up event cp cn h.client;
            venue = skip names Venue before.entries vl before.venue_up event vp vn h.venue;
          }))

  pub all-keep : (events : List Event) (before after : World) (added : Added)
      (cl vl : List Connection) (cp vp : List (List ℕ)) → Holds answers names before cl vl cp vp
      → Queue Client events cp → Queue Venue events vp
      → AllHappen answers names window before events now added after
      → Holds answers names after (transcript_from cl added.client)
      (transcript_from vl added.venue) (queue_after Client events cp) (queue_after Venue events vp)
  all-keep [] before after added cl vl cp vp h cq vq all =
      subst (λ (w : World). Holds answers names w (transcript_from cl added.client)
      (transcript_from vl added.venue) cp vp) (sym all.1)
      (subst (λ (a : Added). Holds answers names before (transcript_from cl a.client)
      (transcript_from vl a.venue) cp vp) (sym all.0) h)
  all-keep (event ∷ events) before after added cl vl cp vp h cq vq all =
      let first = all.0 in
      let mid = all.1 in
      let rest = all.2 in
      let one = one-keeps before mid event first cl vl cp vp h cq.0 vq.0 all.3 in
      let more = all-keep events mid after rest (transcript_from cl first.client)
      (transcript_from vl first.venue) (pending_after Client event cp)
      (pending_after Venue event vp)
      one cq.1 vq.1 all.4 in
      holds-join answers names after cl vl first rest added
      (queue_after Client (event ∷ events) cp) (queue_after Venue (event ∷ events) vp) all.5 more
