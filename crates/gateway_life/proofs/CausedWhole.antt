-- The cause of an end, of a whole life.
use Rattle.std.proofs.Common.{◌≡◌, List, ◌++◌, sym, ◌∙◌, ap, subst, append-nil, Some, None, [], ℕ}
use Rattle.std.proofs.Common.{Ok, Err, IfSome}
use Rattle.std.specs.Prelude.{Result, IfErr, IsErrAnd, is_some}
use Rattle.std.specs.declared.option.Option.{Option}
use Rattle.outside.specs.Disk.{HasOneImage}
use Rattle.order_meaning.specs.declared.names.Names.{Names}
use Rattle.pair_entries.specs.declared.entry.Entry.{Entry}
use Rattle.pair_journal.specs.Calls.{BornOrNot}
use Rattle.pair_journal.specs.Laws.{HasOneReading}
use Rattle.drop_taps.specs.Shown.{TapState}
use Rattle.gateway_config.specs.declared.config.Config.{Config}
use Rattle.gateway_life.specs.declared.end.LifeEnd.{LifeEnd}
use Rattle.gateway_life.specs.declared.end.LifeEnd.TheVariants as ends
use Rattle.gateway_life.specs.State.{LifeState}
use Rattle.gateway_life.specs.Rounds.{Begins}
use Rattle.gateway_life.specs.Watched.{end_in}
use Rattle.gateway_life.specs.Causes.{IsCause, IsCauseIn, HasJournalCause}
use Rattle.gateway_life.specs.Dealt.{Around, Kept}
use Rattle.gateway_life.specs.Life.{IsJournal}
use Rattle.gateway_life.proofs.Living.{same_journal, unbegun_image}
use Rattle.gateway_life.proofs.TapsShown.{left_whole}
use Rattle.gateway_life.proofs.Watching.{were_same}

module _ (one : (image : List ℕ) → HasOneReading image) where
  -- of one that did not begin
  pub cause_unbegun : {V : Type 0} (r : Result V LifeEnd) (error : LifeEnd) (names : Names)
      (told : Option (List ℕ)) (i0 i1 : List ℕ → Type 0) → IsErrAnd r (λ e. e ≡ error)
      → IfSome told (λ b. Begins {T = LifeState} (λ life. life.engine.journal.entries) names b
      (Err error))
      → BornOrNot told i0 i1 names → HasJournalCause (end_in r) names told i0 i1
  cause_unbegun r error names None i0 i1 is begins images = tt
  cause_unbegun (Ok value) error names (Some b) i0 i1 is begins images = absurd is
  cause_unbegun (Err end) error names (Some b) i0 i1 is begins images =
      λ only before journal. (
        [],
        at end (before ++ []) (subst (λ (e : LifeEnd). Begins {T = LifeState}
            (λ life. life.engine.journal.entries) names b (Err e)) (sym is) begins),
        λ image here. let found = images only image here in (
          before,
          unbegun_image one names b image before journal found.0 found.1,
          were_same end (before ++ []) before (sym (append-nil before)),
        ),
      )
    where
      at : (e : LifeEnd) (xs : List Entry) → Begins {T = LifeState}
          (λ life. life.engine.journal.entries) names b (Err e) → IsCause e names xs
      at ends.JournalFull xs never = absurd never
      at (ends.NumbersSpent side) xs never = absurd never
      at e xs may = tt

  -- of one that did
  pub cause_whole : {T V : Type 0} (state : T → TapState) (r : Result V LifeEnd)
      (olds news : List T) (names : Names) (told : Option (List ℕ)) (i0 : List ℕ → Type 0)
      (a z : Around) → Kept state olds news a z r → a.engine.core.config.names ≡ names
      → IfSome told (IsJournal names a.engine.journal.entries) → is_some a.disk ≡ is_some told
      → (HasOneImage told i0 → HasOneImage a.disk a.image)
      → HasJournalCause (end_in r) names told i0 z.image
  cause_whole state r olds news names None i0 a z kept same begins told began = tt
  cause_whole {V = V} state r olds news names (Some b) i0 a z kept same begins told began =
      λ only before journal. (
        kept.taps.more,
        subst (IsCause (end_in r) names) (kept.taps.goes_on ∙ ap (λ l. l ++ kept.taps.more)
            (same_journal one names b a.engine.journal.entries before begins journal))
            (at r kept.journal_cause),
        left_whole one state r names b i0 olds news a z kept same begins told began only before
            journal,
      )
    where
      at : (q : Result V LifeEnd) → IfErr q (λ end. IsCauseIn end z.engine)
          → IsCause (end_in q) names z.engine.journal.entries
      at (Ok value) found = tt
      at (Err end) found = subst (λ n. IsCause end n z.engine.journal.entries)
          (ap (λ (k : Config). k.names) kept.config ∙ same) found
