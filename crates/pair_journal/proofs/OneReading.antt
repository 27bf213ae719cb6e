-- Bytes have one reading.
use Rattle.std.proofs.Common.{◌≡◌, inl, inr, ◌⊎◌, ℕ, List, [], ◌∷◌, ◌++◌, length, refl, sym, ◌∙◌}
use Rattle.std.proofs.Common.{ap, subst}
use Rattle.std.specs.Prelude.{fold}
use Rattle.order_meaning.specs.declared.names.Names.{Names}
use Rattle.gate_log.specs.Records.{blocks, Stands}
use Rattle.gate_log.proofs.Blocks.{Stands-unique}
use Rattle.gate_log.proofs.Refused.{refused_stands, refused_once}
use Rattle.pair_entries.specs.declared.entry.Entry.{Entry}
use Rattle.pair_entries.specs.Payload.{Next, IsEntry, payload_on}
use Rattle.pair_entries.specs.Birth.{birth_bytes}
use Rattle.kept_entries.specs.Numbers.{GoesOn, first_numbers, numbers_before, numbers_after}
use Rattle.kept_entries.specs.Days.{dated, day_after}
use Rattle.kept_entries.specs.Entries.{DaysGoOn}
use Rattle.pair_journal.specs.Journal.{Spells, IsMisspelt, Misspells, Reading, Unborn}
use Rattle.pair_journal.specs.Journal.{Born, Refused, JournalOf}
use Rattle.pair_entries.proofs.Names.{same_birth}
use Rattle.pair_journal.proofs.Walking.{head_of, same_entries}

-- ---- payloads that are spelt have none that is misspelt

nothing_behind : (before : List (List ℕ)) (payload : List ℕ) (after : List (List ℕ))
    → [] ≡ before ++ payload ∷ after → ⊥
nothing_behind [] payload after is = absurd (cc is)
nothing_behind (x ∷ before) payload after is = absurd (cc is)

-- an entry among others, by the payloads before its own
record Found (day : ℕ) (numbers : Next) (before : List (List ℕ)) (payload : List ℕ) : Type 0 where
  pub earlier : List Entry
  pub entry : Entry
  pub front : before ≡ dated day earlier
  pub written : payload ≡ payload_on (day_after (fold day_after day earlier) entry) entry
  pub are : DaysGoOn numbers earlier
  pub sound : IsEntry entry
  pub goes_on : GoesOn (numbers_before (numbers_after numbers earlier) entry) entry

found : (day : ℕ) (numbers : Next) (entries : List Entry)
    (before : List (List ℕ)) (payload : List ℕ) (after : List (List ℕ))
    → DaysGoOn numbers entries → dated day entries ≡ before ++ payload ∷ after
    → Found day numbers before payload
found day numbers [] before payload after are is =
    absurd (nothing_behind before payload after is)
found day numbers (e ∷ es) [] payload after are is = record {
  earlier = [];
  entry = e;
  front = refl;
  written = sym (head_of (payload_on (day_after day e) e) payload (dated (day_after day e) es) after
      is).0;
  are = tt;
  sound = are.0;
  goes_on = are.1;
}
found day numbers (e ∷ es) (x ∷ before) payload after are is =
    let parts = head_of (payload_on (day_after day e) e) x (dated (day_after day e) es)
    (before ++ payload ∷ after) is in
    let rest = found (day_after day e) e.next es before payload after are.2 parts.1 in
    record {
      earlier = e ∷ rest.earlier;
      entry = rest.entry;
      front = ap (λ (y : List ℕ). y ∷ before) (sym parts.0)
          ∙ ap (λ (l : List (List ℕ)). payload_on (day_after day e) e ∷ l) rest.front;
      written = rest.written;
      are = (are.0, are.1, rest.are);
      sound = rest.sound;
      goes_on = rest.goes_on;
    }

module _ (payloads : List (List ℕ)) (names : Names) (entries : List Entry)
    (spelt : Spells payloads names entries) where
  none_here : (before : List (List ℕ)) (payload : List ℕ) (after : List (List ℕ))
      → birth_bytes names ∷ dated 0 entries ≡ before ++ payload ∷ after
      → IsMisspelt before payload → ⊥
  none_here [] payload after is none =
      let parts = head_of (birth_bytes names) payload (dated 0 entries) after is in
      none names spelt.named (sym parts.0)
  none_here (x ∷ before) payload after is none =
      let parts = head_of
      (birth_bytes names) x (dated 0 entries) (before ++ payload ∷ after) is in
      let there = found 0 first_numbers entries before payload after spelt.sound parts.1 in
      let front : x ∷ before ≡ birth_bytes names ∷ dated 0 there.earlier =
      ap (λ (y : List ℕ). y ∷ before) (sym parts.0)
      ∙ ap (λ (l : List (List ℕ)). birth_bytes names ∷ l) there.front in
      none names there.earlier there.entry front there.are there.sound there.goes_on there.written

  pub not_misspelt : (at : ℕ) → Misspells payloads at → ⊥
  not_misspelt at m = none_here m.before m.payload m.after (sym spelt.written ∙ m.split) m.none

  pub spelt_once : (others : Names) (more : List Entry)
      → Spells payloads others more → (names ≡ others) × (entries ≡ more)
  spelt_once others more other =
      let parts = head_of (birth_bytes names) (birth_bytes others) (dated 0 entries)
      (dated 0 more) (sym spelt.written ∙ other.written) in (
        same_birth names others parts.0,
        same_entries first_numbers first_numbers 0 0 entries more spelt.sound other.sound parts.1,
      )

-- ---- the first misspelt payload is one

-- one of two fronts of a list ends before the other, or they are one
abbrev IsFirst : List (List ℕ) → List ℕ → List (List ℕ) → Type 0
IsFirst before payload other = (more : List (List ℕ)) × (other ≡ before ++ payload ∷ more)

one_first : (xs : List (List ℕ)) (p : List ℕ) (ps ys : List (List ℕ)) (q : List ℕ)
    (qs : List (List ℕ)) → xs ++ p ∷ ps ≡ ys ++ q ∷ qs
    → (xs ≡ ys) ⊎ (IsFirst xs p ys ⊎ IsFirst ys q xs)
one_first [] p ps [] q qs is = inl refl
one_first [] p ps (y ∷ ys) q qs is =
    let parts = head_of p y ps (ys ++ q ∷ qs) is in
    inr (inl (ys, ap (λ (x : List ℕ). x ∷ ys) (sym parts.0)))
one_first (x ∷ xs) p ps [] q qs is =
    let parts = head_of x q (xs ++ p ∷ ps) qs is in
    inr (inr (xs, ap (λ (y : List ℕ). y ∷ xs) parts.0))
one_first (x ∷ xs) p ps (y ∷ ys) q qs is =
    let parts = head_of x y (xs ++ p ∷ ps) (ys ++ q ∷ qs) is in
    elim (one_first xs p ps ys q qs parts.1) [
      | inl same ↦ inl (cons_both x y xs ys parts.0 same)
      | inr (inl on) ↦ inr (inl (on.0, cons_both y x ys (xs ++ p ∷ on.0) (sym parts.0) on.1))
      | inr (inr on) ↦ inr (inr (on.0, cons_both x y xs (ys ++ q ∷ on.0) parts.0 on.1))
    ]
  where
    cons_both : (a b : List ℕ) (ls ms : List (List ℕ)) → a ≡ b → ls ≡ ms → a ∷ ls ≡ b ∷ ms
    cons_both a b ls ms one rest = cc

-- payloads before a misspelt one are spelt, so none of them is misspelt
none_before : (payloads : List (List ℕ)) (m n : ℕ) (one : Misspells payloads m)
    (two : Misspells payloads n) → IsFirst one.before one.payload two.before → ⊥
none_before payloads m n one two on = elim two.sound [
  | inl none ↦ nothing_behind one.before one.payload on.0 (sym none ∙ on.1)
  | inr spelt ↦ not_misspelt two.before spelt.0 spelt.1 spelt.2 m (record {
    before = one.before;
    payload = one.payload;
    after = on.0;
    split = on.1;
    place = one.place;
    sound = one.sound;
    none = one.none;
  })
]

misspelt_once : (payloads : List (List ℕ)) (m n : ℕ)
    → Misspells payloads m → Misspells payloads n → m ≡ n
misspelt_once payloads m n one two = elim (one_first one.before one.payload one.after
    two.before two.payload two.after (sym one.split ∙ two.split)) [
      | inl same ↦ one.place ∙ ap (λ l. length (blocks l)) same ∙ sym two.place
      | inr (inl on) ↦ absurd (none_before payloads m n one two on)
      | inr (inr on) ↦ absurd (none_before payloads n m two one on)
    ]

-- ---- one reading

module _ (image : List ℕ) where
  unborn_born : (names : Names) (entries : List Entry)
      → JournalOf image Unborn → JournalOf image (Born names entries) → ⊥
  unborn_born names entries unborn journal = nothing_behind
      [] (birth_bytes names) (dated 0 entries)
      (Stands-unique image [] journal.0 unborn journal.1 ∙ journal.2.written)

  stands_refused : (payloads : List (List ℕ)) (at : ℕ) → Stands image payloads
      → (Misspells payloads at → ⊥) → JournalOf image (Refused at) → ⊥
  stands_refused payloads at stands none (inl refused) =
      refused_stands image at payloads refused stands
  stands_refused payloads at stands none (inr m) = none
      (subst (λ l. Misspells l at) (Stands-unique image m.0 payloads m.1 stands) m.2)

  unborn_refused : (at : ℕ) → JournalOf image Unborn → JournalOf image (Refused at) → ⊥
  unborn_refused at unborn = stands_refused
      [] at unborn (λ m. nothing_behind m.before m.payload m.after m.split)

  born_refused : (names : Names) (entries : List Entry) (at : ℕ)
      → JournalOf image (Born names entries) → JournalOf image (Refused at) → ⊥
  born_refused names entries at journal = stands_refused
      journal.0 at journal.1 (not_misspelt journal.0 names entries journal.2 at)

  one_journal : (names others : Names) (entries more : List Entry)
      → JournalOf image (Born names entries) → JournalOf image (Born others more)
      → Born names entries ≡ Born others more
  one_journal names others entries more one two =
      let same = Stands-unique image two.0 one.0 two.1 one.1 in
      let parts = spelt_once one.0 names entries one.2 others more
      (subst (λ (l : List (List ℕ)). Spells l others more) same two.2) in
      joined parts.0 parts.1
    where
      joined : names ≡ others → entries ≡ more → Born names entries ≡ Born others more
      joined n e = cc

  one_place : (m n : ℕ) → JournalOf image (Refused m) → JournalOf image (Refused n) → m ≡ n
  one_place m n (inl one) (inl two) = refused_once image m n one two
  one_place m n (inl one) (inr two) = absurd (refused_stands image m two.0 one two.1)
  one_place m n (inr one) (inl two) = absurd (refused_stands image n one.0 two one.1)
  one_place m n (inr one) (inr two) = misspelt_once one.0 m n one.2
      (subst (λ l. Misspells l n) (Stands-unique image two.0 one.0 two.1 one.1) two.2)

pub one_reading : (image : List ℕ) (x y : Reading) → JournalOf image x → JournalOf image y → x ≡ y
one_reading image Unborn Unborn one two = refl
one_reading image Unborn (Born n e) one two = absurd (unborn_born image n e one two)
one_reading image Unborn (Refused at) one two = absurd (unborn_refused image at one two)
one_reading image (Born n e) Unborn one two = absurd (unborn_born image n e two one)
one_reading image (Born n e) (Born m f) one two = one_journal image n m e f one two
one_reading image (Born n e) (Refused at) one two = absurd (born_refused image n e at one two)
one_reading image (Refused at) Unborn one two = absurd (unborn_refused image at two one)
one_reading image (Refused at) (Born n e) one two = absurd (born_refused image n e at two one)
one_reading image (Refused m) (Refused n) one two = ap Refused (one_place image m n one two)
