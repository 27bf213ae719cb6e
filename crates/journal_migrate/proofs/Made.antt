-- The records of a journal in format 2, one more at a time, whatever the disk tells.
use Rattle.std.proofs.Common.{◌≡◌, inr, ℕ, List, [], ◌∷◌, ◌++◌, length, refl, sym, ◌∙◌, ap}
use Rattle.std.proofs.Common.{subst, arith, Result, Ok, Err}
use Rattle.std.specs.Prelude.{⊤, IsErr}
use Rattle.std.specs.declared.option.Option.{Option}
use Rattle.std.specs.Io.KnownBytes.{Appends}
use Rattle.std.proofs.KnownBytes.{Appends-trans}
use Rattle.std.proofs.lemmas.List.{take_all}
use Rattle.outside.specs.Bytes.{AppendsFront, PutAppends}
use Rattle.outside.proofs.Fronts.{appended_front, front_on}
use Rattle.order_meaning.specs.declared.names.Names.{Names}
use Rattle.gate_log.specs.Records.{blocks}
use Rattle.gate_log.proofs.Blocks.{blocks-append}
use Rattle.pair_entries.specs.declared.entry.Entry.{Entry}
use Rattle.pair_entries.specs.Payload.{Next, payload_on}
use Rattle.pair_entries.specs.Birth.{AreNames}
use Rattle.kept_entries.specs.Numbers.{GoesOn, first_numbers, numbers_before, numbers_after}
use Rattle.kept_entries.specs.Days.{day_after, day_number, payload_behind}
use Rattle.kept_entries.specs.Entries.{DaysGoOn}
use Rattle.pair_journal.specs.Calls.{payloads_of}
use Rattle.pair_journal.proofs.Carrying.{payloads-push}
use Rattle.kept_entries.proofs.Dating.{day_number-push, DaysGoOn-push, numbers_after-push}
use Rattle.journal_migrate.specs.declared.migrating.MigrateError.{MigrateError}
use Rattle.journal_migrate.specs.Migrating.{image_of, PutsImage}
use Rattle.journal_migrate.specs.Walk.{IsBirth, IsNext}

-- ---- one entry more

module _ (names : Names) (entries : List Entry) (day : ℕ) (numbers : Next)
    (sound : DaysGoOn first_numbers entries) (on_day : day ≡ day_number entries)
    (reached : numbers ≡ numbers_after first_numbers entries) (p made : List ℕ) (day_now : ℕ)
    (numbers_now : Next) (next : IsNext day numbers p day_now numbers_now made) where
  abbrev longer : List Entry
  longer = entries ++ next.entry ∷ []

  dated_now : day_now ≡ day_after (day_number entries) next.entry
  dated_now = next.day_is ∙ ap (λ (n : ℕ). day_after n next.entry) on_day

  pub one_more : DaysGoOn first_numbers longer × (day_now ≡ day_number longer)
      × (numbers_now ≡ numbers_after first_numbers longer)
      × (blocks (payloads_of names longer) ≡ blocks (payloads_of names entries) ++ made)
  one_more = (
    DaysGoOn-push first_numbers entries next.entry sound next.follows.sound
        (subst (λ (n : Next). GoesOn (numbers_before n next.entry) next.entry) reached
        next.follows.goes_on),
    dated_now ∙ sym (day_number-push entries next.entry),
    next.numbers_are ∙ sym (numbers_after-push first_numbers entries next.entry),
    ap blocks (sym (payloads-push names entries next.entry))
        ∙ blocks-append (payloads_of names entries) (payload_behind entries next.entry ∷ [])
        ∙ ap (λ (l : List ℕ). blocks (payloads_of names entries) ++ l)
        (ap (λ (n : ℕ). blocks (payload_on n next.entry ∷ [])) (sym dated_now)
        ∙ sym next.record_is),
  )

-- ---- what is put of them

-- the records of a journal of these names were put, with some entries, and it is at this day and
-- these numbers
pub record IsMade (day : ℕ) (numbers : Next) (old new : Option (List ℕ)) : Type 0 where
  pub names : Names
  pub entries : List Entry
  pub named : AreNames names
  pub sound : DaysGoOn first_numbers entries
  pub on_day : day ≡ day_number entries
  pub reached : numbers ≡ numbers_after first_numbers entries
  pub put : Appends old new (blocks (payloads_of names entries))

-- a front of its records was put, and no more is
cut : (names : Names) (entries : List Entry) (old new : Option (List ℕ))
    (result : Result ⊤ MigrateError) → IsErr result → AreNames names
    → DaysGoOn first_numbers entries → AppendsFront old new (blocks (payloads_of names entries))
    → PutsImage result old new
cut names entries old new (Ok value) failed named sound front = absurd (cc failed)
cut names entries old new (Err error) failed named sound front = inr (
  names,
  entries,
  named,
  sound,
  front_on old new (blocks (payloads_of names entries)) (0 ∷ []) (image_of names entries) refl
      front,
)

module _ (p made : List ℕ) (birth : IsBirth p made) (old now : Option (List ℕ)) where
  pub first_made : (day : ℕ) (numbers : Next) → day ≡ 0 → numbers ≡ first_numbers
      → Appends old now made → IsMade day numbers old now
  first_made day numbers on reached put = record {
    names = birth.names;
    entries = [];
    named = birth.named;
    sound = tt;
    on_day = on;
    reached = reached;
    put = subst (Appends old now) birth.record_is put;
  }

  pub first_cut : (result : Result ⊤ MigrateError) → IsErr result → AppendsFront old now made
      → PutsImage result old now
  first_cut result failed front = cut birth.names [] old now result failed birth.named tt
      (subst (AppendsFront old now) birth.record_is front)

module _ (day : ℕ) (numbers : Next) (old now : Option (List ℕ))
    (so_far : IsMade day numbers old now) where
  abbrev text : List ℕ
  text = blocks (payloads_of so_far.names so_far.entries)

  -- a walk gave up
  pub cut_off : (result : Result ⊤ MigrateError) → IsErr result → PutsImage result old now
  cut_off result failed = cut so_far.names so_far.entries old now result failed so_far.named
      so_far.sound (
        length text,
        subst (Appends old now) (sym (take_all (length text) text (omega arith)))
            so_far.put,
      )

  -- its last gate was put, or not
  pub closed : (result : Result ⊤ MigrateError) (new : Option (List ℕ))
      → PutAppends now new result (0 ∷ []) → PutsImage result old new
  closed (Ok value) new last = inr (
    so_far.names,
    so_far.entries,
    so_far.named,
    so_far.sound,
    Appends-trans old now new text (0 ∷ []) so_far.put last,
  )
  closed (Err error) new last = inr (
    so_far.names,
    so_far.entries,
    so_far.named,
    so_far.sound,
    appended_front old now new text (0 ∷ []) so_far.put last,
  )

  module _ (p made : List ℕ) (day_now : ℕ) (numbers_now : Next)
      (next : IsNext day numbers p day_now numbers_now made) (new : Option (List ℕ)) where
    abbrev more : List Entry
    more = so_far.entries ++ next.entry ∷ []

    goes_on : DaysGoOn first_numbers more × (day_now ≡ day_number more)
        × (numbers_now ≡ numbers_after first_numbers more)
        × (blocks (payloads_of so_far.names more) ≡ text ++ made)
    goes_on = one_more so_far.names so_far.entries day numbers so_far.sound so_far.on_day
        so_far.reached p made day_now numbers_now next

    pub next_made : Appends now new made → IsMade day_now numbers_now old new
    next_made put = record {
      names = so_far.names;
      entries = more;
      named = so_far.named;
      sound = goes_on.0;
      on_day = goes_on.1;
      reached = goes_on.2;
      put = subst (Appends old new) (sym goes_on.3)
          (Appends-trans old now new text made so_far.put put);
    }

    pub next_cut : (result : Result ⊤ MigrateError) → IsErr result → AppendsFront now new made
        → PutsImage result old new
    next_cut result failed front = cut so_far.names more old new result failed so_far.named
        goes_on.0 (subst (AppendsFront old new) (sym goes_on.3)
        (appended_front old now new text made so_far.put front))
