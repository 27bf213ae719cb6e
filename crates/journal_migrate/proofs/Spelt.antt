-- The payloads of a journal of format 1, or some of them.
use Rattle.std.proofs.Common.{◌≡◌, ℕ, zero, suc, ◌+◌, List, [], ◌∷◌, ◌++◌, take, drop, map}
use Rattle.std.proofs.Common.{refl, sym, ◌∙◌, ap, subst, arith}
use Rattle.std.proofs.lemmas.List.{take-map}
use Rattle.order_meaning.specs.declared.names.Names.{Names}
use Rattle.pair_entries.specs.declared.entry.Entry.{Entry}
use Rattle.pair_entries.specs.Payload.{Next, entry_bytes}
use Rattle.pair_entries.specs.Birth.{mark, birth_bytes}
use Rattle.pair_entries.proofs.Names.{same_birth}
use Rattle.pair_entries.proofs.Same.{same_entry}
use Rattle.kept_entries.specs.Numbers.{first_numbers, numbers_after}
use Rattle.kept_entries.specs.Entries.{DaysGoOn}
use Rattle.pair_journal.proofs.Walking.{head_of}
use Rattle.journal_migrate.specs.Format1.{birth1_bytes, AreSpelt1}
use Rattle.journal_migrate.specs.Walk.{Follows1}

-- the birth record of format 2 is that of format 1 under another mark
pub remarked : (names : Names) → birth_bytes names ≡ mark ++ drop 11 (birth1_bytes names)
remarked names = refl

pub same_birth1 : (m n : Names) → birth1_bytes m ≡ birth1_bytes n → m ≡ n
same_birth1 m n is = same_birth m n
    (remarked m ∙ ap (λ (b : List ℕ). mark ++ drop 11 b) is ∙ sym (remarked n))

joined : (e f : Entry) (es fs : List Entry) → e ≡ f → es ≡ fs → e ∷ es ≡ f ∷ fs
joined e f es fs h hs = cc

-- ---- some of the payloads

DaysGoOn-take : (before : Next) (k : ℕ) (es : List Entry)
    → DaysGoOn before es → DaysGoOn before (take k es)
DaysGoOn-take before zero es are = tt
DaysGoOn-take before (suc k) [] are = tt
DaysGoOn-take before (suc k) (e ∷ es) are = (are.0, are.1, DaysGoOn-take e.next k es are.2)

pub spelt_take : (k : ℕ) (payloads : List (List ℕ))
    → AreSpelt1 payloads → AreSpelt1 (take (k + 1) payloads)
spelt_take k payloads (names, entries, spelt) =
    let more : suc k ≡ k + 1 = omega arith in
    subst (λ n. AreSpelt1 (take n payloads)) more (
      names,
      take k entries,
      record {
        written = ap (take (suc k)) spelt.written
            ∙ ap (λ (l : List (List ℕ)). birth1_bytes names ∷ l) (take-map entry_bytes k entries);
        named = spelt.named;
        sound = DaysGoOn-take first_numbers k entries spelt.sound;
      },
    )

-- ---- entries, one behind the other

same_head : (x e : Entry) (xs es : List (List ℕ)) (before : Next) (left : List Entry)
    → DaysGoOn before (x ∷ []) → DaysGoOn before (e ∷ left)
    → entry_bytes e ∷ es ≡ entry_bytes x ∷ xs → (e ≡ x) × DaysGoOn x.next left × (es ≡ xs)
same_head x e xs es before left hx he is =
    let parts = head_of (entry_bytes e) (entry_bytes x) es xs is in
    let same : e ≡ x = same_entry e x he.0 hx.0 parts.0 in
    (same, subst (λ (y : Entry). DaysGoOn y.next left) same he.2, parts.1)

pub same_entries : (before : Next) (xs es : List Entry) → DaysGoOn before xs → DaysGoOn before es
    → map entry_bytes es ≡ map entry_bytes xs → es ≡ xs
same_entries before [] [] hx he is = refl
same_entries before [] (e ∷ es) hx he is = absurd (cc is)
same_entries before (x ∷ xs) [] hx he is = absurd (cc is)
same_entries before (x ∷ xs) (e ∷ es) hx he is =
    let one = same_head x e (map entry_bytes xs) (map entry_bytes es) before es (hx.0, hx.1, tt) he
    is in joined e x es xs one.0 (same_entries x.next xs es hx.2 one.1 one.2)

-- entries whose payloads begin with those of others begin with these
pub goes_further : (before : Next) (xs es : List Entry) (after : List (List ℕ))
    → DaysGoOn before xs → DaysGoOn before es
    → map entry_bytes es ≡ map entry_bytes xs ++ after → (more : List Entry) × (es ≡ xs ++ more)
goes_further before [] es after hx he is = (es, refl)
goes_further before (x ∷ xs) [] after hx he is = absurd (cc is)
goes_further before (x ∷ xs) (e ∷ es) after hx he is =
    let one = same_head x e (map entry_bytes xs ++ after) (map entry_bytes es) before es
    (hx.0, hx.1, tt) he is in
    let rest = goes_further x.next xs es after hx.2 one.1 one.2 in
    (rest.0, joined e x es (xs ++ rest.0) one.0 rest.1)

-- the one that stands behind others
pub last_of : (before : Next) (xs es : List Entry) (p : List ℕ) → DaysGoOn before xs
    → DaysGoOn before es → map entry_bytes es ≡ map entry_bytes xs ++ p ∷ []
    → (entry : Entry) × Follows1 (numbers_after before xs) p entry
last_of before [] [] p hx he is = absurd (cc is)
last_of before [] (e ∷ es) p hx he is = (
  e,
  record {
    written = sym (head_of (entry_bytes e) p (map entry_bytes es) [] is).0;
    sound = he.0;
    goes_on = he.1;
  },
)
last_of before (x ∷ xs) [] p hx he is = absurd (cc is)
last_of before (x ∷ xs) (e ∷ es) p hx he is =
    let one = same_head x e (map entry_bytes xs ++ p ∷ []) (map entry_bytes es) before es
    (hx.0, hx.1, tt) he is in last_of x.next xs es p hx.2 one.1 one.2
