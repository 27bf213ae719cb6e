-- All that both books need of the entries of a lawful journal.
use Rattle.std.proofs.Common.{◌≡◌, ◌≤◌, ◌⊎◌, List, [], ◌∷◌, ◌++◌, Option, Some, IfSome}
use Rattle.std.proofs.Common.{refl, sym, ap, subst, ◌∙◌, inl, inr}
use Rattle.std.specs.List.{AllByRecursion}
use Rattle.order_meaning.specs.declared.Side.{Side}
use Rattle.order_meaning.specs.declared.Side.TheVariants.{Client, Venue}
use Rattle.order_meaning.specs.declared.names.Names.{Names}
use Rattle.frame_grammar.specs.Frame.{IsBody}
use Rattle.pair_entries.specs.declared.entry.Took.{Took}
use Rattle.pair_entries.specs.declared.entry.Out.{Out}
use Rattle.pair_entries.specs.declared.entry.Entry.{Entry}
use Rattle.pair_entries.specs.Payload.{Next}
use Rattle.kept_entries.specs.Entries.{AreEntries}
use Rattle.kept_entries.specs.Numbers.{GoesOn, TookGoesOn, first_numbers, next_in, numbers_after}
use Rattle.kept_entries.specs.Numbers.{outs_to}
use Rattle.event_decisions.specs.Decide.{IsDecided, IsLawful, LawfulAfter, asked_of, is_active}
use Rattle.event_decisions.specs.Decide.{numbers_of}
use Rattle.event_decisions.specs.Laws.{Breaks, DecisionsMake, Makes, counts, taking_of}
use Rattle.message_answers.specs.Answer.{Answers}
use Rattle.message_answers.specs.Laws.{AreNumbered}
use Rattle.life_laws.specs.Receiver.{AreSent, IsSent}
use Rattle.book_laws.specs.HeardLaws.{AnswersAreHeard, BodiesAreReadAlike, IdsAreCompared}
use Rattle.book_laws.specs.HeardLaws.{RefusalsAreHeard, SentSessionsAreHeardPlain}
use Rattle.book_laws.specs.Keeps.{Each, In, KeepsHeads, KeepsJournal, KeepsRefusals}
use Rattle.book_laws.specs.Laws.{HeadersSayNothing, TookBody}
use Rattle.book_laws.specs.Proper.{ProperFrom}
use Rattle.book_laws.proofs.Does.{AreBefore, AreSentBy, does, new_ids, no_ids}
use Rattle.book_laws.proofs.Made.{made, none_breaks, silent_by}
use Rattle.book_laws.proofs.EntryFollows.{number_of, numbered_more}
use Rattle.book_laws.proofs.New.{AllCounted, Counted, is_new, move_more, moves}
use Rattle.book_laws.proofs.Outs.{out_sent}
use Rattle.book_laws.proofs.Places.{in-one}
use Rattle.book_laws.proofs.Shapes.{Goes}
use Rattle.book_laws.proofs.Sources.{IsKnown}

pub numbers_last : (next : Next) (before : List Entry) (e : Entry)
    → numbers_after next (before ++ e ∷ []) ≡ e.next
numbers_last next [] e = refl
numbers_last next (x ∷ before) e = numbers_last x.next before e

body_of : (t : Option Took) (took : Took) → IfSome t (λ x. IsBody x.raw) → t ≡ Some took
    → IsBody took.raw
body_of t took is same = subst (λ (o : Option Took). IfSome o (λ x. IsBody x.raw)) same is

module _ (makes : DecisionsMake) (names : Names) where
  -- what a decided entry is, where the sessions before it have these numbers
  makes_of : (before : List Entry) (e : Entry) → (d : IsDecided Answers names before e)
      → Makes d.sessions (asked_of names d.window d.sessions d.event e.at) d.decides.words e
  makes_of before e d =
      let active = is_active d.sessions.venue.link in
      let asked = asked_of names d.window d.sessions d.event e.at in
      let silence = silent_by before active asked d.decides.words d.decides.answer in
      makes names d.window d.sessions d.event e.at d.decides.words d.decision e d.sides silence
      d.decides.decided d.is

  -- what a decided entry does to the numbers
  pub decided_counts : (before : List Entry) (e : Entry) (next : Next)
      → next ≡ numbers_after first_numbers before → GoesOn next e → (Breaks e.outs → ⊥)
      → IsDecided Answers names before e → Counted next e
  decided_counts before e next at goes unbroken d =
      let m = makes_of before e d in
      let same : numbers_of d.sessions ≡ next = d.numbers ∙ sym at in
      let taking : TookGoesOn taking_of next e = elim m.taken [
        | inl took ↦ subst (λ n. TookGoesOn taking_of n e) same took
        | inr breaks ↦ absurd (unbroken breaks.1)
      ] in
      record {
        goes = goes;
        taking = taking;
        numbered = m.numbered;
        rises = λ side. subst (λ n. next_in side n ≤ next_in side e.next) same (m.rises side);
      }

  -- and so all of a lawful journal
  pub all_counted : (before entries : List Entry) (next : Next)
      → next ≡ numbers_after first_numbers before → AreEntries next entries
      → AllByRecursion (KeepsHeads Client) entries → AllByRecursion (KeepsHeads Venue) entries
      → LawfulAfter Answers names before entries → AllCounted next entries
  all_counted before [] next at sound client venue lawful = tt
  all_counted before (e ∷ entries) next at sound client venue lawful = (
    decided_counts before e next at sound.1 (none_breaks e.outs client.0 venue.0) lawful.0,
    all_counted (before ++ e ∷ []) entries e.next (sym (numbers_last first_numbers before e))
        sound.2 client.1 venue.1 lawful.1,
  )

  -- so the numbers of a lawful day are proper
  pub proper_after : (before entries : List Entry) (next : Next)
      → next ≡ numbers_after first_numbers before → AreEntries next entries
      → LawfulAfter Answers names before entries → ProperFrom next entries
  proper_after before [] next at sound lawful = tt
  proper_after before (e ∷ entries) next at sound lawful =
      let d = lawful.0 in
      let same : numbers_of d.sessions ≡ next = d.numbers ∙ sym at in
      let taking : TookGoesOn taking_of next e ⊎ TookGoesOn counts next e =
      elim (makes_of before e d).taken [
        | inl took ↦ inl (subst (λ n. TookGoesOn taking_of n e) same took)
        | inr breaks ↦ inr (subst (λ n. TookGoesOn counts n e) same breaks.0)
      ] in (
        sound.1,
        taking,
        proper_after (before ++ e ∷ []) entries e.next (sym (numbers_last first_numbers before e))
            sound.2 lawful.1,
      )

-- what is asked of the entries that follow
pub record AreGood (names : Names) (before entries : List Entry) : Type 0 where
  pub lawful : LawfulAfter Answers names before entries
  pub sound : AreEntries (numbers_after first_numbers before) entries
  pub bodies : AllByRecursion TookBody entries
  pub sent : (e : Entry) → In e entries → AreSentBy names e
  pub client_heads : AllByRecursion (KeepsHeads Client) entries
  pub venue_heads : AllByRecursion (KeepsHeads Venue) entries
  pub client : Each (KeepsRefusals Client) before entries
  pub venue : Each (KeepsRefusals Venue) before entries

module _ (makes : DecisionsMake) (hears : AnswersAreHeard) (says : HeadersSayNothing)
    (ids : IdsAreCompared) (refusals : RefusalsAreHeard) (alike : BodiesAreReadAlike)
    (plain : SentSessionsAreHeardPlain) (names : Names) where
  pub all_go : (before entries : List Entry) → AreBefore names before → AreNumbered before
      → AreGood names before entries → Each Goes before entries
  all_go before [] b numbered good = tt
  all_go before (e ∷ entries) b numbered good =
      let unbroken = none_breaks e.outs good.client_heads.0 good.venue_heads.0 in
      let sent = good.sent e (inl refl) in
      let decided = good.lawful.0 in
      let is = made makes hears refusals names before numbered e good.sound.0 unbroken sent decided
      in
      let next = numbers_after first_numbers before in
      let moving = moves alike next e
      (decided_counts makes names before e next refl good.sound.1 unbroken decided) in
      let b2 : AreBefore names (before ++ e ∷ []) = record {
        known = λ x i. elim (in-one x e before i) [
          | inl front ↦ b.known x front
          | inr same ↦ subst (IsKnown names) (sym same)
              (record { past = before; made = is; sent = sent })
        ];
        moves = move_more first_numbers before e b.moves moving;
        bodies = λ x i took is_took. elim (in-one x e before i) [
          | inl front ↦ b.bodies x front took is_took
          | inr same ↦ body_of e.took took good.bodies.0
              (ap (λ (y : Entry). y.took) (sym same) ∙ is_took)
        ];
      } in (
        record {
          does = does says ids refusals plain names before b e sent is;
          new_ids = new_ids says ids refusals plain names before b e sent is;
          no_ids = no_ids says ids refusals plain names before b e sent is;
          is_new = is_new before e b.moves moving;
          keeps = keeps_of good.client.0 good.venue.0;
        },
        all_go (before ++ e ∷ []) entries b2 (numbered_more before e numbered
            (number_of e.took good.sound.0.took)) (record {
              lawful = good.lawful.1;
              sound = subst (λ n. AreEntries n entries) (sym (numbers_last first_numbers before e))
                  good.sound.2;
              bodies = good.bodies.1;
              sent = λ x i. good.sent x (inr i);
              client_heads = good.client_heads.1;
              venue_heads = good.venue_heads.1;
              client = good.client.1;
              venue = good.venue.1;
            }),
      )
    where
      keeps_of : KeepsRefusals Client before e → KeepsRefusals Venue before e → (side : Side)
          → KeepsRefusals side before e
      keeps_of client venue Client = client
      keeps_of client venue Venue = venue

  -- EACH ENTRY OF A LAWFUL JOURNAL HAS WHAT BOTH BOOKS NEED.
  pub lawful_goes : (entries : List Entry) → IsLawful Answers names entries
      → AreEntries first_numbers entries → AllByRecursion TookBody entries
      → AreSent names Client entries → AreSent names Venue entries → KeepsJournal Client entries
      → KeepsJournal Venue entries → Each Goes [] entries
  lawful_goes entries lawful sound bodies client_sent venue_sent client venue =
      all_go [] entries (record {
        known = λ x i. absurd i;
        moves = tt;
        bodies = λ x i. absurd i;
      }) tt (record {
        lawful = lawful;
        sound = sound;
        bodies = bodies;
        sent = λ e i side. sent_of side e i;
        client_heads = client.heads;
        venue_heads = venue.heads;
        client = client.refusals;
        venue = venue.refusals;
      })
    where
      sent_of : (side : Side) (e : Entry) → In e entries → (out : Out)
          → In out (outs_to side e.outs) → IsSent names side out
      sent_of Client e i = out_sent Client names entries client_sent e i
      sent_of Venue e i = out_sent Venue names entries venue_sent e i
