-- A life keeps all that holds, and leaves a justified transcript.
use Rattle.std.proofs.Common.{◌≡◌, ℕ, Bool, true, List, [], ◌∷◌, ◌++◌, sym, ◌∙◌, ap, subst}
use Rattle.std.specs.declared.option.Option.{Option}
use Rattle.order_meaning.specs.declared.Side.TheVariants.{Client, Venue}
use Rattle.order_meaning.specs.declared.names.Names.{Names}
use Rattle.pair_entries.specs.declared.entry.Entry.{Entry}
use Rattle.event_decisions.specs.Event.{End}
use Rattle.event_decisions.specs.Decide.{Asked, Words}
use Rattle.wires.specs.Wire as wire
use Rattle.wires.specs.Wire.{Connection, may_come}
use Rattle.life_laws.specs.Justified.{transcript_from}
use Rattle.life_laws.specs.Forms.{form_frame}
use Rattle.life_laws.specs.Happens.{World, Added}
use Rattle.life_laws.specs.Standing.{Holds}
use Rattle.life_laws.specs.Turn.{both, read_after, last_read, LastRead, Reads, Turn, Round}
use Rattle.life_laws.specs.Turn.{Rounds, Lives}
use Rattle.life_laws.proofs.Line.{links-both}
use Rattle.life_laws.proofs.Turns.{holds-join, all-keep}
use Rattle.life_laws.proofs.OneTurn.{client-keeps, venue-keeps}
use Rattle.life_laws.proofs.LastRead.{all-last, is-last, poll-last}

module _ (answers : List Entry → (active : Bool) → Option Asked → Option Words → Type 0)
    (names : Names) (window : ℕ) where
  -- what holds between turns, with what was read on the last connections
  pub record Between (reads : Reads) (w : World) (cl vl : List Connection) : Type 0 where
    pub holds : Holds answers names w cl vl [] []
    pub client : last_read cl ≡ reads.client
    pub venue : last_read vl ≡ reads.venue

  pub client-last : (reads : Reads) (w : World) (cl vl : List Connection) → Between reads w cl vl
      → w.client_up ≡ true → LastRead cl reads.client
  client-last reads w cl vl b up = subst (LastRead cl) b.client
      (is-last (form_frame names Client) cl b.holds.client.forms (b.holds.client.whole up))

  pub venue-last : (reads : Reads) (w : World) (cl vl : List Connection) → Between reads w cl vl
      → w.venue_up ≡ true → LastRead vl reads.venue
  venue-last reads w cl vl b up = subst (LastRead vl) b.venue
      (is-last (form_frame names Venue) vl b.holds.venue.forms (b.holds.venue.whole up))

  pub client-between : (reads : Reads) (before after : World) (now : ℕ) (added : Added)
      (cl vl : List Connection) → Between reads before cl vl
      → (turn : Turn answers names window Client reads.client before now added after)
      → may_come before.client_up turn.came ≡ true
      → Between (record reads { client = read_after reads.client turn.came }) after
      (transcript_from cl added.client) (transcript_from vl added.venue)
  client-between reads before after now added cl vl b turn may =
      let polled = transcript_from cl (wire.Poll turn.came ∷ []) in
      let later = all-last answers names window now _ _ _ turn.rest polled vl turn.events in
      record {
        holds = client-keeps answers names before cl vl b.holds window now reads.client after added
            turn may (client-last reads before cl vl b);
        client = ap (λ (a : Added). last_read (transcript_from cl a.client)) turn.all
            ∙ ap last_read (links-both cl (wire.Poll turn.came ∷ []) turn.rest.client) ∙ later.0
            ∙ poll-last (form_frame names Client) cl b.holds.client.forms before.client_up turn.came
            may b.holds.client.whole ∙ ap (λ l. read_after l turn.came) b.client;
        venue = ap (λ (a : Added). last_read (transcript_from vl a.venue)) turn.all ∙ later.1
            ∙ b.venue;
      }

  pub venue-between : (reads : Reads) (before after : World) (now : ℕ) (added : Added)
      (cl vl : List Connection) → Between reads before cl vl
      → (turn : Turn answers names window Venue reads.venue before now added after)
      → may_come before.venue_up turn.came ≡ true
      → Between (record reads { venue = read_after reads.venue turn.came }) after
      (transcript_from cl added.client) (transcript_from vl added.venue)
  venue-between reads before after now added cl vl b turn may =
      let polled = transcript_from vl (wire.Poll turn.came ∷ []) in
      let later = all-last answers names window now _ _ _ turn.rest cl polled turn.events in
      record {
        holds = venue-keeps answers names before cl vl b.holds window now reads.venue after added
            turn may (venue-last reads before cl vl b);
        client = ap (λ (a : Added). last_read (transcript_from cl a.client)) turn.all ∙ later.0
            ∙ b.client;
        venue = ap (λ (a : Added). last_read (transcript_from vl a.venue)) turn.all
            ∙ ap last_read (links-both vl (wire.Poll turn.came ∷ []) turn.rest.venue) ∙ later.1
            ∙ poll-last (form_frame names Venue) vl b.holds.venue.forms before.venue_up turn.came
            may b.holds.venue.whole ∙ ap (λ l. read_after l turn.came) b.venue;
      }

  -- what was added in two steps
  between-join : (reads : Reads) (w : World) (cl vl : List Connection) (a b added : Added)
      → added ≡ both a b
      → Between reads w (transcript_from (transcript_from cl a.client) b.client)
      (transcript_from (transcript_from vl a.venue) b.venue)
      → Between reads w (transcript_from cl added.client) (transcript_from vl added.venue)
  between-join reads w cl vl a b added all h =
      subst (λ (x : Added). Between reads w (transcript_from cl x.client)
      (transcript_from vl x.venue)) (sym all)
      (subst (λ l. Between reads w l (transcript_from vl (a.venue ++ b.venue)))
      (sym (links-both cl a.client b.client))
      (subst (λ l. Between reads w (transcript_from (transcript_from cl a.client) b.client) l)
      (sym (links-both vl a.venue b.venue)) h))

  round-keeps : (reads reads' : Reads) (before after : World) (now : ℕ) (added : Added)
      (cl vl : List Connection) → Between reads before cl vl
      → Round answers names window reads before now added reads' after
      → Between reads' after (transcript_from cl added.client) (transcript_from vl added.venue)
  round-keeps reads reads' before after now added cl vl b r =
      let cl1 = transcript_from cl r.client_added.client in
      let vl1 = transcript_from vl r.client_added.venue in
      let mid : Reads = record reads { client = read_after reads.client r.client.came } in
      let first = client-between reads before r.mid now r.client_added cl vl b r.client
      r.client_may in
      let second = venue-between mid r.mid after now r.venue_added cl1 vl1 first r.venue
      r.venue_may in
      between-join reads' after cl vl r.client_added r.venue_added added r.all
      (subst (λ (q : Reads). Between q after (transcript_from cl1 r.venue_added.client)
      (transcript_from vl1 r.venue_added.venue)) (sym r.read) second)

  pub rounds-keep : (moments : List ℕ) (reads reads' : Reads) (before after : World)
      (added : Added) (cl vl : List Connection) → Between reads before cl vl
      → Rounds answers names window reads before moments added reads' after
      → Between reads' after (transcript_from cl added.client) (transcript_from vl added.venue)
  rounds-keep [] reads reads' before after added cl vl b all =
      subst (λ (w : World). Between reads' w (transcript_from cl added.client)
      (transcript_from vl added.venue)) (sym all.2)
      (subst (λ (r : Reads). Between r before (transcript_from cl added.client)
      (transcript_from vl added.venue)) (sym all.1)
      (subst (λ (a : Added). Between reads before (transcript_from cl a.client)
      (transcript_from vl a.venue)) (sym all.0) b))
  rounds-keep (now ∷ moments) reads reads' before after added cl vl b all =
      let one = round-keeps reads all.2 before all.1 now all.0 cl vl b all.4 in
      let more = rounds-keep moments all.2 reads' all.1 after all.3
      (transcript_from cl all.0.client) (transcript_from vl all.0.venue) one all.5 in
      between-join reads' after cl vl all.0 all.3 added all.6 more

  pub life-keeps : (reads : Reads) (before after : World) (moments : List ℕ) (last : ℕ)
      (added : Added) (cl vl : List Connection) → Between reads before cl vl
      → Lives answers names window reads before moments last added after
      → Holds answers names after (transcript_from cl added.client)
      (transcript_from vl added.venue) [] []
  life-keeps reads before after moments last added cl vl b life =
      let rounds = rounds-keep moments reads life.read before life.mid life.first cl vl b
      life.rounds in
      let ends = all-keep answers names window last (End Client ∷ End Venue ∷ []) life.mid after
      life.rest (transcript_from cl life.first.client) (transcript_from vl life.first.venue) [] []
      rounds.holds (tt, (tt, tt)) (tt, (tt, tt)) life.ends in
      holds-join answers names after cl vl life.first life.rest added [] [] life.all ends
