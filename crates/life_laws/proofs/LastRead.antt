-- What was read on the last connection.
use Rattle.std.proofs.Common.{◌≡◌, ℕ, Bool, true, false, List, [], ◌∷◌, ◌++◌, take, refl, ◌∙◌, ap}
use Rattle.std.proofs.Common.{inl, inr}
use Rattle.std.specs.Prelude.{◌&&◌, if◌then◌else◌}
use Rattle.std.specs.declared.option.Option.{Option}
use Rattle.order_meaning.specs.declared.names.Names.{Names}
use Rattle.pair_entries.specs.declared.entry.Entry.{Entry}
use Rattle.event_decisions.specs.Event.{Event}
use Rattle.event_decisions.specs.Decide.{Asked, Words}
use Rattle.wires.specs.Wire as wire
use Rattle.wires.specs.Wire.{WireCall, Came, Connection, change_last, may_come, add_read}
use Rattle.wires.specs.Wire.{add_written}
use Rattle.life_laws.specs.Justified.{transcript_from}
use Rattle.life_laws.specs.Forms.{Form}
use Rattle.life_laws.specs.Sends.{Sends, Acts}
use Rattle.life_laws.specs.Happens.{World, Added}
use Rattle.life_laws.specs.Standing.{LastIsWhole}
use Rattle.life_laws.specs.Turn.{read_after, last_read, LastRead, counts, HappensIf, AllHappen}
use Rattle.life_laws.proofs.Polls.{new_link, bytes_up}
use Rattle.life_laws.proofs.Line.{links-both}

write-last : (wrote : List ℕ) (links : List Connection) → last_read (change_last
    (add_written wrote) links) ≡ last_read links
write-last wrote (link ∷ next ∷ other ∷ links) = write-last wrote (next ∷ other ∷ links)
write-last wrote links = refl

sends-last : (up : Bool) (pieces : List (List ℕ)) (steps : List WireCall) (after : Bool)
    (links : List Connection) → Sends up pieces steps after
    → last_read (transcript_from links steps) ≡ last_read links
sends-last true (p ∷ pieces) steps after links (inl more) =
    ap (λ s. last_read (transcript_from links s)) more.1
    ∙ sends-last true pieces more.0 after (change_last (add_written p) links) more.2
    ∙ write-last p links
sends-last true (p ∷ pieces) steps after links (inr cut) = ap (λ s. last_read
    (transcript_from links s)) cut.1 ∙ write-last (take cut.0 p) links
sends-last false (p ∷ pieces) steps after links sends =
    ap (λ s. last_read (transcript_from links s)) sends.0
sends-last up pieces steps after links sends = ap (λ s. last_read (transcript_from links s)) sends.0

acts-last : (up : Bool) (pieces : List (List ℕ)) (hang_up : Bool) (steps : List WireCall)
    (after : Bool) (links : List Connection) → Acts up pieces hang_up steps after
    → last_read (transcript_from links steps) ≡ last_read links
acts-last up pieces hang_up steps after links acts =
    ap (λ s. last_read (transcript_from links s)) acts.all
    ∙ ap last_read (links-both links acts.sent
    (if acts.still && hang_up then wire.HangUp ∷ [] else [])) ∙ go (acts.still && hang_up)
    ∙ sends-last up pieces acts.sent acts.still links acts.sends
  where
    go : (b : Bool) → last_read (transcript_from (transcript_from links acts.sent)
        (if b then wire.HangUp ∷ [] else [])) ≡ last_read (transcript_from links acts.sent)
    go true = refl
    go false = refl

module _ (answers : List Entry → (active : Bool) → Option Asked → Option Words
    → Type 0) (names : Names) (window : ℕ) (now : ℕ) where
  one-last : (b : Bool) (before after : World) (event : Event) (added : Added)
      (cl vl : List Connection) → HappensIf answers names window b before event now added after
      → (last_read (transcript_from cl added.client) ≡ last_read cl)
      × (last_read (transcript_from vl added.venue) ≡ last_read vl)
  one-last true before after event added cl vl does =
      (acts-last _ _ _ added.client _ cl does.client, acts-last _ _ _ added.venue _ vl does.venue)
  one-last false before after event added cl vl none = (
    ap (λ (a : Added). last_read
        (transcript_from cl a.client)) none.0,
    ap (λ (a : Added). last_read
        (transcript_from vl a.venue)) none.0,
  )

  pub all-last : (events : List Event) (before after : World) (added : Added)
      (cl vl : List Connection) → AllHappen answers names window before events now added after
      → (last_read (transcript_from cl added.client) ≡ last_read cl)
      × (last_read (transcript_from vl added.venue) ≡ last_read vl)
  all-last [] before after added cl vl all = (
    ap (λ (a : Added). last_read
        (transcript_from cl a.client)) all.0,
    ap (λ (a : Added). last_read
        (transcript_from vl a.venue)) all.0,
  )
  all-last (event ∷ events) before after added cl vl all =
      let one = one-last (counts before event) before all.1 event all.0 cl vl all.3 in
      let more = all-last events all.1 after all.2 (transcript_from cl all.0.client)
      (transcript_from vl all.0.venue) all.4 in (
        ap (λ (a : Added). last_read (transcript_from cl a.client)) all.5
            ∙ ap last_read (links-both cl all.0.client all.2.client) ∙ more.0 ∙ one.0,
        ap (λ (a : Added). last_read (transcript_from vl a.venue)) all.5
            ∙ ap last_read (links-both vl all.0.venue all.2.venue) ∙ more.1 ∙ one.1,
      )

open-last : (links : List Connection) → last_read (links ++ new_link ∷ []) ≡ []
open-last [] = refl
open-last (link ∷ []) = refl
open-last (link ∷ next ∷ links) = open-last (next ∷ links)

bytes-last : (bytes : List ℕ) (link : Connection) (links : List Connection)
    → last_read (change_last (add_read bytes) (link ∷ links)) ≡ last_read (link ∷ links) ++ bytes
bytes-last bytes link [] = refl
bytes-last bytes link (next ∷ []) = refl
bytes-last bytes link (next ∷ other ∷ links) = bytes-last bytes next (other ∷ links)

-- the last connection is there while it is open
pub is-last : (frame : Form → List ℕ) (links : List Connection) (forms : List (List Form))
    → LastIsWhole frame links forms → LastRead links (last_read links)
is-last frame [] forms whole = absurd whole
is-last frame (link ∷ []) forms whole = refl
is-last frame (link ∷ next ∷ links) [] whole = absurd whole
is-last frame (link ∷ next ∷ links) (fs ∷ forms) whole = is-last frame (next ∷ links) forms whole

pub poll-last : (frame : Form → List ℕ) (links : List Connection) (forms : List (List Form))
    (up : Bool) (came : Came) → may_come up came ≡ true → (up ≡ true
    → LastIsWhole frame links forms)
    → last_read (transcript_from links (wire.Poll came ∷ [])) ≡ read_after (last_read links) came
poll-last frame links forms up wire.Opened may whole = open-last links
poll-last frame links forms up (wire.Bytes bytes) may whole = go links (whole
    (bytes_up up bytes may))
  where
    go : (l : List Connection) → LastIsWhole frame l forms
        → last_read (change_last (add_read bytes) l) ≡ last_read l ++ bytes
    go [] h = absurd h
    go (link ∷ l) h = bytes-last bytes link l
poll-last frame links forms up came may whole = refl
