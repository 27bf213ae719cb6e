-- An image that is refused.
use Rattle.std.proofs.Common.{◌≡◌, inl, inr, ℕ, ◌<◌, List, [], ◌∷◌, ◌++◌, length}
use Rattle.std.proofs.Common.{refl, sym, ◌∙◌, ap, subst, arith, length-append}
use Rattle.std.specs.Int.{w32, to_be_bytes}
use Rattle.outside.specs.declared.disk.TheConstants.{MAX_DISK}
use Rattle.gate_log.specs.Records.{blocks, Fits, IsSized, AllSized, AllFit, IsLog, IsShut}
use Rattle.gate_log.specs.Records.{IsUnborn, Stands, HoldsRecord, BreaksAt, IsRefused}
use Rattle.gate_log.proofs.Blocks.{GoesOn, compared, fit_told, blocks-append}

sized_at : (front more : List (List ℕ)) (payload : List ℕ)
    → AllSized (front ++ payload ∷ more) → IsSized payload
sized_at [] more payload all = all.0
sized_at (p ∷ ps) more payload all = sized_at ps more payload all.1

fits_at_front : (front more : List (List ℕ)) (payload : List ℕ)
    → AllFit (front ++ payload ∷ more) → Fits front payload
fits_at_front [] more payload all = all.0
fits_at_front (p ∷ ps) more payload all = sized_at ps more payload all.1

-- a gate stands behind the payload
next_gate : (more : List (List ℕ)) (gate : ℕ) (after : List ℕ)
    → (next : ℕ) × (rest : List ℕ) × (blocks more ++ gate ∷ after ≡ next ∷ rest)
next_gate [] gate after = (gate, after, refl)
next_gate (p ∷ ps) gate after =
    (1, to_be_bytes w32 (length p) ++ p ++ blocks ps ++ gate ∷ after, refl)

-- where a list goes on from a front, a record stands behind that
holds_next : (front whole : List (List ℕ)) (behind : List ℕ) (gate : ℕ) (after : List ℕ)
    → AllFit whole → length (blocks whole) < MAX_DISK → GoesOn front behind whole (gate ∷ after)
    → (payload : List ℕ) × HoldsRecord front behind payload
holds_next front whole behind gate after fit within on =
    let gate_there = next_gate on.more gate after in (
      on.payload,
      record {
        next = gate_there.0;
        after = gate_there.1;
        split = on.record_there
            ∙ ap (λ l. to_be_bytes w32 (length on.payload) ++ on.payload ++ l) gate_there.2;
        fits = fits_at_front front on.more on.payload (subst AllFit on.split fit);
        within = omega (
          arith,
          within,
          ap (λ l. length (blocks l)) on.split,
          ap length (blocks-append front (on.payload ∷ on.more)),
          length-append (blocks front) (blocks (on.payload ∷ on.more)),
          length-append on.payload (blocks on.more),
        );
      },
    )

-- ---- no image of a log

begins_open : (ps : List (List ℕ)) (gate : ℕ) (after behind : List ℕ)
    → gate ∷ after ≡ blocks ps ++ 1 ∷ behind → gate ≡ 1
begins_open [] gate after behind is = cc is
begins_open (p ∷ ps) gate after behind is = cc is

breaks_open : (image : List ℕ) (at : ℕ) → BreaksAt image at → IsShut image → ⊥
breaks_open image at breaks shut = shut.3
    (begins_open breaks.before shut.0 shut.1 breaks.behind (sym shut.2 ∙ breaks.split))

refused_unborn : (image : List ℕ) (at : ℕ) → IsRefused image at → IsUnborn image → ⊥
refused_unborn image at (inl breaks) (inl short) = omega (arith, breaks.0, short)
refused_unborn image at (inl breaks) (inr shut) = breaks_open image at breaks.1 shut.1
refused_unborn image at (inr long) (inl short) = omega (arith, long.0, short)
refused_unborn image at (inr long) (inr shut) = omega (arith, long.0, shut.0)

breaks_log : (image : List ℕ) (at : ℕ) (ps : List (List ℕ))
    → BreaksAt image at → IsLog image ps → ⊥
breaks_log image at ps breaks log = elim (compared breaks.before ps 1 log.gate breaks.behind
    log.after (fit_told _ breaks.fit) (fit_told ps log.fit) (sym breaks.split ∙ log.split)) [
      | inl same ↦ log.shut (sym same.1)
      | inr (inl on) ↦ let there = holds_next
          breaks.before ps breaks.behind log.gate log.after log.fit log.within on.1 in
          breaks.none there.0 there.1
      | inr (inr on) ↦ log.shut on.0
    ]

shut_log : (image birth : List ℕ) (ps : List (List ℕ))
    → IsShut image → IsLog image (birth ∷ ps) → ⊥
shut_log image birth ps shut log =
    let is_open : shut.0 ≡ 1 = cc (sym shut.2 ∙ log.split) in shut.3 is_open

pub refused_stands : (image : List ℕ) (at : ℕ) (ps : List (List ℕ))
    → IsRefused image at → Stands image ps → ⊥
refused_stands image at [] refused stands = refused_unborn image at refused stands
refused_stands image at (b ∷ ps) (inl breaks) stands =
    breaks_log image at (b ∷ ps) breaks.1 stands
refused_stands image at (b ∷ ps) (inr shut) stands = shut_log image b ps shut.2 stands

-- ---- one place

breaks_once : (image : List ℕ) (m n : ℕ) → BreaksAt image m → BreaksAt image n → m ≡ n
breaks_once image m n one two = elim (compared one.before two.before 1 1 one.behind two.behind
    (fit_told _ one.fit) (fit_told _ two.fit) (sym one.split ∙ two.split)) [
      | inl same ↦ one.place ∙ ap (λ l. length (blocks l)) same.0 ∙ sym two.place
      | inr (inl on) ↦ let there = holds_next one.before
          two.before one.behind 1 two.behind two.fit (omega (arith, two.within, two.place)) on.1 in
          absurd (one.none there.0 there.1)
      | inr (inr on) ↦ let there = holds_next two.before
          one.before two.behind 1 one.behind one.fit (omega (arith, one.within, one.place)) on.1 in
          absurd (two.none there.0 there.1)
    ]

pub refused_once : (image : List ℕ) (m n : ℕ) → IsRefused image m → IsRefused image n → m ≡ n
refused_once image m n (inl one) (inl two) = breaks_once image m n one.1 two.1
refused_once image m n (inl one) (inr two) = absurd (breaks_open image m one.1 two.2)
refused_once image m n (inr one) (inl two) = absurd (breaks_open image n two.1 one.2)
refused_once image m n (inr one) (inr two) = one.1 ∙ sym two.1
