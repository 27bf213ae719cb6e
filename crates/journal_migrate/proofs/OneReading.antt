-- Bytes have one reading in format 1.
use Rattle.std.proofs.Common.{◌≡◌, inl, inr, ℕ, ◌+◌, ◌<◌, List, [], ◌∷◌, length, take}
use Rattle.std.proofs.Common.{refl, sym, ◌∙◌, ap, subst, arith, map}
use Rattle.std.proofs.lemmas.List.{take-take}
use Rattle.std.proofs.lemmas.Bool.{cases_order}
use Rattle.order_meaning.specs.declared.names.Names.{Names}
use Rattle.gate_log.specs.Records.{blocks, Stands}
use Rattle.gate_log.proofs.Blocks.{Stands-unique}
use Rattle.gate_log.proofs.Refused.{refused_stands, refused_once}
use Rattle.pair_entries.specs.declared.entry.Entry.{Entry}
use Rattle.pair_entries.specs.Payload.{entry_bytes}
use Rattle.kept_entries.specs.Numbers.{first_numbers}
use Rattle.pair_journal.specs.Journal.{Reading, Unborn, Born, Refused}
use Rattle.pair_journal.proofs.Walking.{head_of}
use Rattle.journal_migrate.specs.Format1.{JournalOf1, Spells1, AreSpelt1, Misspells1}
use Rattle.journal_migrate.specs.Format1.{birth1_bytes}
use Rattle.journal_migrate.proofs.Spelt.{same_birth1, spelt_take, same_entries}

not_misspelt : (payloads : List (List ℕ)) (at : ℕ)
    → AreSpelt1 payloads → Misspells1 payloads at → ⊥
not_misspelt payloads at spelt m = m.none (spelt_take m.number payloads spelt)

-- with fewer payloads than are spelt nothing is misspelt
none_before : (payloads : List (List ℕ)) (m n : ℕ) (one : Misspells1 payloads m)
    (two : Misspells1 payloads n) → one.number < two.number → ⊥
none_before payloads m n one two less = elim two.sound [
  | inl none ↦ omega (arith, less, none)
  | inr spelt ↦ one.none (subst AreSpelt1
      (take-take (one.number + 1) two.number payloads (omega (arith, less)))
      (spelt_take one.number (take two.number payloads) spelt))
]

misspelt_once : (payloads : List (List ℕ)) (m n : ℕ)
    → Misspells1 payloads m → Misspells1 payloads n → m ≡ n
misspelt_once payloads m n one two = elim (cases_order one.number two.number) [
  | inl same ↦ one.place ∙ ap (λ k. length (blocks (take k payloads))) same ∙ sym two.place
  | inr (inl less) ↦ absurd (none_before payloads m n one two less)
  | inr (inr less) ↦ absurd (none_before payloads n m two one less)
]

spelt_once : (payloads : List (List ℕ)) (names others : Names) (entries more : List Entry)
    → Spells1 payloads names entries → Spells1 payloads others more
    → Born names entries ≡ Born others more
spelt_once payloads names others entries more one two =
    let parts = head_of (birth1_bytes names) (birth1_bytes others) (map entry_bytes entries)
    (map entry_bytes more) (sym one.written ∙ two.written) in
    join (same_birth1 names others parts.0)
    (same_entries first_numbers more entries two.sound one.sound parts.1)
  where
    join : names ≡ others → entries ≡ more → Born names entries ≡ Born others more
    join n e = cc

-- ---- one reading

module _ (image : List ℕ) where
  unborn_born : (names : Names) (entries : List Entry)
      → JournalOf1 image Unborn → JournalOf1 image (Born names entries) → ⊥
  unborn_born names entries unborn journal =
      nothing (birth1_bytes names) (map entry_bytes entries)
      (Stands-unique image [] journal.0 unborn journal.1 ∙ journal.2.written)
    where
      nothing : (x : List ℕ) (xs : List (List ℕ)) → [] ≡ x ∷ xs → ⊥
      nothing x xs is = absurd (cc is)

  stands_refused : (payloads : List (List ℕ)) (at : ℕ) → Stands image payloads
      → (Misspells1 payloads at → ⊥) → JournalOf1 image (Refused at) → ⊥
  stands_refused payloads at stands none (inl refused) =
      refused_stands image at payloads refused stands
  stands_refused payloads at stands none (inr m) = none
      (subst (λ l. Misspells1 l at) (Stands-unique image m.0 payloads m.1 stands) m.2)

  unborn_refused : (at : ℕ) → JournalOf1 image Unborn → JournalOf1 image (Refused at) → ⊥
  unborn_refused at unborn =
      stands_refused [] at unborn (λ m. omega (arith, m.within))

  pub born_refused : (names : Names) (entries : List Entry) (at : ℕ)
      → JournalOf1 image (Born names entries) → JournalOf1 image (Refused at) → ⊥
  born_refused names entries at journal = stands_refused journal.0 at journal.1
      (not_misspelt journal.0 at (names, entries, journal.2))

  one_journal : (names others : Names) (entries more : List Entry)
      → JournalOf1 image (Born names entries) → JournalOf1 image (Born others more)
      → Born names entries ≡ Born others more
  one_journal names others entries more one two =
      let same = Stands-unique image two.0 one.0 two.1 one.1 in
      spelt_once one.0 names others entries more one.2
      (subst (λ (l : List (List ℕ)). Spells1 l others more) same two.2)

  one_place : (m n : ℕ) → JournalOf1 image (Refused m) → JournalOf1 image (Refused n) → m ≡ n
  one_place m n (inl one) (inl two) = refused_once image m n one two
  one_place m n (inl one) (inr two) = absurd (refused_stands image m two.0 one two.1)
  one_place m n (inr one) (inl two) = absurd (refused_stands image n one.0 two one.1)
  one_place m n (inr one) (inr two) = misspelt_once one.0 m n one.2
      (subst (λ l. Misspells1 l n) (Stands-unique image two.0 one.0 two.1 one.1) two.2)

pub one_reading : (image : List ℕ) (x y : Reading)
    → JournalOf1 image x → JournalOf1 image y → x ≡ y
one_reading image Unborn Unborn one two = refl
one_reading image Unborn (Born n e) one two = absurd (unborn_born image n e one two)
one_reading image Unborn (Refused at) one two = absurd (unborn_refused image at one two)
one_reading image (Born n e) Unborn one two = absurd (unborn_born image n e two one)
one_reading image (Born n e) (Born m f) one two = one_journal image n m e f one two
one_reading image (Born n e) (Refused at) one two = absurd (born_refused image n e at one two)
one_reading image (Refused at) Unborn one two = absurd (unborn_refused image at two one)
one_reading image (Refused at) (Born n e) one two = absurd (born_refused image n e at two one)
one_reading image (Refused m) (Refused n) one two = ap Refused (one_place image m n one two)
