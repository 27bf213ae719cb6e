-- What the taps saw of a whole life.
use Rattle.std.proofs.Common.{◌≡◌, true, List, ◌++◌, sym, ◌∙◌, ap, subst, append-nil, [], ℕ, refl}
use Rattle.std.proofs.Common.{Some, None, Ok, Err, inl}
use Rattle.std.specs.Prelude.{Result, IfErr, IfSome, is_some}
use Rattle.std.specs.declared.option.Option.{Option}
use Rattle.outside.specs.Disk.{Only, HasOneImage}
use Rattle.order_meaning.specs.declared.names.Names.{Names}
use Rattle.pair_entries.specs.declared.entry.Entry.{Entry}
use Rattle.pair_journal.specs.Calls.{BornOrNot}
use Rattle.pair_journal.specs.Journal.{JournalOf, Born}
use Rattle.pair_journal.specs.Laws.{HasOneReading}
use Rattle.drop_taps.specs.Shown.{TapState}
use Rattle.drop_taps.proofs.Showing.{seen_none}
use Rattle.gateway_life.specs.declared.end.LifeEnd.{LifeEnd}
use Rattle.gateway_life.specs.Stepped.{EndsEvent}
use Rattle.gateway_life.specs.Life.{IsJournal, IsForeign, IfRefused}
use Rattle.gateway_life.specs.Watched.{WereCommitted, end_in, TapsSaw}
use Rattle.gateway_life.specs.Dealt.{Around, Kept}
use Rattle.gateway_life.proofs.Watching.{were_same}
use Rattle.gateway_life.proofs.Telling.{leaves_from}
use Rattle.gateway_life.proofs.Living.{unbegun_image, same_journal, image_of, refused_if}
use Rattle.gateway_life.proofs.Living.{refused_not}
use Rattle.gateway_life.proofs.Joining.{stands_kept}

abbrev no_entries : List Entry
no_entries = []

whole_shown : {V : Type 0} (P : Type 0) (r : Result V LifeEnd) (told : Option (List ℕ))
    → is_some told ≡ true → IfErr r (EndsEvent told) → IfRefused (end_in r) P
whole_shown P (Ok value) told t of = tt
whole_shown P (Err end) told t of = refused_not P end (of.of_event t)

-- each image of a life that began is the journal of what was committed
pub left_whole : {T V : Type 0} (one : (image : List ℕ) → HasOneReading image)
    (state : T → TapState) (r : Result V LifeEnd) (names : Names) (b : List ℕ)
    (i0 : List ℕ → Type 0) (olds news : List T) (a z : Around)
    (kept : Kept state olds news a z r) → a.engine.core.config.names ≡ names
    → IsJournal names a.engine.journal.entries b → is_some a.disk ≡ true
    → (Only b i0 → HasOneImage a.disk a.image) → Only b i0 → (before : List Entry)
    → IsJournal names before b → (image : List ℕ) → z.image image
    → (found : List Entry) × IsJournal names found image
    × WereCommitted (end_in r) (before ++ kept.taps.more) found
left_whole one state (Ok value) names b i0 olds news a z kept same begins told began only before
    journal image at_exit =
    let entries = z.engine.journal.entries in (
      entries,
      inl (subst (λ n. JournalOf image (Born n entries)) same
          (image_of z.disk z.image
          (λ c. JournalOf c (Born a.engine.core.config.names entries)) image (kept.told ∙ told)
          (stands_kept state olds news a z (Ok value) kept) (kept.durable (began only)) at_exit)),
      kept.taps.goes_on ∙ ap (λ l. l ++ kept.taps.more)
          (same_journal one names b a.engine.journal.entries before begins journal),
    )
left_whole one state (Err end) names b i0 olds news a z kept same begins told began only before
    journal image at_exit =
    let were = WereCommitted end z.engine.journal.entries in
    let found = leaves_from (Some b) a.disk i0 a.image z.image names a.engine.core.config.names
    were were told began same (λ xs h. h) kept.left only image at_exit in (
      found.0,
      inl found.1,
      subst (λ l. WereCommitted end l found.0) (kept.taps.goes_on
          ∙ ap (λ l. l ++ kept.taps.more)
          (same_journal one names b a.engine.journal.entries before begins journal)) found.2,
    )

module _ (one : (image : List ℕ) → HasOneReading image) {T : Type 0} (state : T → TapState) where
  -- a life that did not begin
  pub taps_unbegun : {V : Type 0} (r : Result V LifeEnd) (taps : List T) (names : Names)
      (told : Option (List ℕ)) (i0 i1 : List ℕ → Type 0) → BornOrNot told i0 i1 names
      → TapsSaw state taps taps names told i0 i1 (end_in r)
  taps_unbegun r taps names told i0 i1 images = record {
    more = [];
    seen = seen_none state taps;
    refused = not_shown told;
    foreign = none told;
    left = at told images;
  }
    where
      not_shown : (t : Option (List ℕ))
          → IfSome t (λ b. IfRefused (end_in r) (no_entries ≡ no_entries))
      not_shown None = tt
      not_shown (Some b) = refused_if (no_entries ≡ no_entries) (end_in r) refl

      none : (t : Option (List ℕ)) → IfSome t (λ b. IsForeign names b → no_entries ≡ no_entries)
      none None = tt
      none (Some b) = λ foreign. refl

      at : (t : Option (List ℕ)) → BornOrNot t i0 i1 names → IfSome t (λ bytes. Only bytes i0 →
          (before : List Entry) → IsJournal names before bytes → (image : List ℕ) → i1 image
          → (found : List Entry) × IsJournal names found image
          × WereCommitted (end_in r) (before ++ []) found)
      at None h = tt
      at (Some b) h = λ only before journal image here.
          let found = h only image here in (
            before,
            unbegun_image one names b image before journal found.0 found.1,
            were_same (end_in r) (before ++ []) before (sym (append-nil before)),
          )

  -- one that did
  pub taps_whole : {V : Type 0} (r : Result V LifeEnd) (olds news : List T) (names : Names)
      (told : Option (List ℕ)) (i0 : List ℕ → Type 0) (a z : Around)
      → Kept state olds news a z r → a.engine.core.config.names ≡ names
      → IfSome told (IsJournal names a.engine.journal.entries) → is_some a.disk ≡ is_some told
      → (HasOneImage told i0 → HasOneImage a.disk a.image)
      → TapsSaw state olds news names told i0 z.image (end_in r)
  taps_whole r olds news names None i0 a z kept same begins told began = record {
    more = kept.taps.more;
    seen = kept.taps.seen;
    refused = tt;
    foreign = tt;
    left = tt;
  }
  taps_whole r olds news names (Some b) i0 a z kept same begins told began = record {
    more = kept.taps.more;
    seen = kept.taps.seen;
    refused = whole_shown (kept.taps.more ≡ []) r a.disk told kept.only;
    foreign = λ foreign. absurd (foreign a.engine.journal.entries begins);
    left = left_whole one state r names b i0 olds news a z kept same begins told began;
  }
