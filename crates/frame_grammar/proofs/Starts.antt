-- Where `8=FIX` stands, and what more bytes change in that.
use Rattle.std.proofs.Common.{◌≡◌, ℕ, zero, suc, ◌+◌, ◌<◌, ◌≤◌, Bool, true, false, List, [], ◌∷◌}
use Rattle.std.proofs.Common.{◌++◌, length, take, drop, refl, sym, ◌∙◌, ap, arith, length-take}
use Rattle.std.proofs.Common.{Some, None, inl, inr, ◌⊎◌}
use Rattle.std.specs.Prelude.{nat_eq, if◌then◌else◌, codes}
use Rattle.std.specs.List.{starts_with}
use Rattle.std.specs.Option.{option_map}
use Rattle.std.specs.declared.option.Option.{Option}
use Rattle.std.proofs.lemmas.List.{take-append-le}
use Rattle.std.proofs.lemmas.Slice.Eq.{bytes_eq-Decides}
use Rattle.std.specs.Prelude.{slice_index}
use Rattle.std.proofs.lemmas.List.{get_or-take}
use Rattle.memchr.specs.Find.{Nowhere, OccursAt, FindsNeedle}
use Rattle.frame_grammar.specs.Cut.{start_in}

pub mapped : (o : Option ℕ) (k : ℕ)
    → option_map suc o ≡ Some k → (j : ℕ) × (o ≡ Some j) × (k ≡ suc j)
mapped None k is = absurd (cc is)
mapped (Some j) k is = let same : k ≡ suc j = cc is in (j, refl, same)

-- whether `8=FIX` stands at the front
abbrev pub here : List ℕ → Bool
here xs = starts_with nat_eq xs (codes "8=FIX")

pub here_long : (xs : List ℕ) → here xs ≡ true → 5 ≤ length xs
here_long xs is = let same = (bytes_eq-Decides (codes "8=FIX") (take 5 xs)).0 is
    in omega (arith, ap length same, length-take 5 xs)

pub here_grows : (xs t : List ℕ) → 5 ≤ length xs → here (xs ++ t) ≡ here xs
here_grows xs t long =
    let same : take 5 (xs ++ t) ≡ take 5 xs = take-append-le 5 xs t long in rw same refl

pub start_grows : (xs t : List ℕ) (k : ℕ)
    → start_in xs ≡ Some k → (k + 5 ≤ length xs) × (start_in (xs ++ t) ≡ Some k)
start_grows [] t k is = absurd (cc is)
start_grows (b ∷ xs) t k is = at (λ j e. start_grows xs t j e) (here (b ∷ xs)) refl
  where
    at : ((j : ℕ) → start_in xs ≡ Some j → (j + 5 ≤ length xs) × (start_in (xs ++ t) ≡ Some j))
        → (c : Bool)
        → here (b ∷ xs) ≡ c → (k + 5 ≤ length (b ∷ xs)) × (start_in (b ∷ (xs ++ t)) ≡ Some k)
    at later_grows true found_here =
        let long = here_long (b ∷ xs) found_here in
        let zero_is : Some 0 ≡ Some k =
        sym (ap (λ c. if c then Some 0 else option_map suc (start_in xs)) found_here) ∙ is in
        let same : 0 ≡ k = cc zero_is in (
          omega (arith, long),
          ap (λ c. if c then Some 0 else option_map suc (start_in (xs ++ t)))
              (here_grows (b ∷ xs) t long ∙ found_here) ∙ zero_is,
        )
    at later_grows false not_here =
        let later : option_map suc (start_in xs) ≡ Some k =
        sym (ap (λ c. if c then Some 0 else option_map suc (start_in xs)) not_here) ∙ is in
        let m = mapped (start_in xs) k later in
        let more = later_grows m.0 m.1 in
        let stays : here (b ∷ (xs ++ t)) ≡ false =
        here_grows (b ∷ xs) t (omega (arith, more.0)) ∙ not_here in (
          omega (arith, more.0, m.2),
          ap (λ c. if c then Some 0 else option_map suc (start_in (xs ++ t))) stays
              ∙ ap (option_map suc) more.1 ∙ ap (λ (x : ℕ). Some x) (sym m.2),
        )

mapped_none : (o : Option ℕ) → option_map suc o ≡ None → o ≡ None
mapped_none None is = refl
mapped_none (Some j) is = absurd (cc is)

pub le_or : (m n : ℕ) → (m ≤ n) ⊎ (n < m)
le_or zero n = inl (omega arith)
le_or (suc m) zero = inr (omega arith)
le_or (suc m) (suc n) =
    elim (le_or m n) [ inl h ↦ inl (omega (arith, h)) | inr h ↦ inr (omega (arith, h)) ]

-- Where `8=FIX` stands nowhere, it stands in a longer text only where it goes past these bytes.
pub start_late : (xs t : List ℕ) (k : ℕ)
    → start_in xs ≡ None → start_in (xs ++ t) ≡ Some k → length xs ≤ k + 4
start_late [] t k none is = omega arith
start_late (b ∷ xs) t k none is =
    at (λ j n e. start_late xs t j n e) (here (b ∷ xs)) refl (here (b ∷ (xs ++ t))) refl
  where
    at : ((j : ℕ) → start_in xs ≡ None → start_in (xs ++ t) ≡ Some j → length xs ≤ j + 4)
        → (c : Bool)
        → here (b ∷ xs) ≡ c → (d : Bool) → here (b ∷ (xs ++ t)) ≡ d → length (b ∷ xs) ≤ k + 4
    at later true found_here d is_d = absurd
        (cc (sym (ap (λ c. if c then Some 0 else option_map suc (start_in xs)) found_here) ∙ none))
    at later false not_here true is_here = elim (le_or 5 (length (b ∷ xs))) [
      | inl long ↦ let same : here (b ∷ xs) ≡ true =
          sym (here_grows (b ∷ xs) t long) ∙ is_here in absurd (cc (same, not_here))
      | inr short ↦ omega (arith, short)
    ]
    at later false not_here false not_there =
        let first : option_map suc (start_in xs) ≡ None =
        sym (ap (λ c. if c then Some 0 else option_map suc (start_in xs)) not_here) ∙ none in
        let second : option_map suc (start_in (xs ++ t)) ≡ Some k =
        sym (ap (λ c. if c then Some 0 else option_map suc (start_in (xs ++ t))) not_there) ∙ is
        in
        let m = mapped (start_in (xs ++ t)) k second in
        let more = later m.0 (mapped_none (start_in xs) first) m.1 in
        omega (arith, more, m.2)

moved : (n : ℕ) (o : Option ℕ)
    → option_map suc (option_map (λ k. k + n) o) ≡ option_map (λ k. k + suc n) o
moved n None = refl
moved n (Some k) = let same : suc (k + n) ≡ k + suc n = omega arith in ap (λ (x : ℕ). Some x) same

unmoved : (o : Option ℕ) → option_map (λ k. k + 0) o ≡ o
unmoved None = refl
unmoved (Some k) = let same : k + 0 ≡ k = omega arith in ap (λ (x : ℕ). Some x) same

-- Where it stands nowhere before n, the first n bytes may be dropped.
pub start_skip : (n : ℕ) (xs : List ℕ) → ((k : ℕ) → start_in xs ≡ Some k → n ≤ k)
    → start_in xs ≡ option_map (λ k. k + n) (start_in (drop n xs))
start_skip zero xs past = sym (unmoved (start_in xs))
start_skip (suc n) [] past = refl
start_skip (suc n) (b ∷ xs) past = at (λ h. start_skip n xs h) (here (b ∷ xs)) refl
  where
    at : (((k : ℕ) → start_in xs ≡ Some k → n ≤ k) → start_in xs
        ≡ option_map (λ k. k + n) (start_in (drop n xs))) → (c : Bool) → here (b ∷ xs) ≡ c
        → start_in (b ∷ xs) ≡ option_map (λ k. k + suc n) (start_in (drop n xs))
    at later true found_here =
        let none = past 0 (ap (λ c. if c then Some 0 else option_map suc (start_in xs)) found_here)
        in absurd (omega (arith, none))
    at later false not_here =
        let is : start_in (b ∷ xs) ≡ option_map suc (start_in xs) =
        ap (λ c. if c then Some 0 else option_map suc (start_in xs)) not_here in
        let more =
        later (λ k e. let h = past (suc k) (is ∙ ap (option_map suc) e) in omega (arith, h)) in
        is ∙ ap (option_map suc) more ∙ moved n (start_in (drop n xs))

-- where a search finds `8=FIX` first
occurs_here : (xs : List ℕ) → here xs ≡ true → OccursAt xs (codes "8=FIX") 0
occurs_here xs is =
    let same = (bytes_eq-Decides (codes "8=FIX") (take 5 xs)).0 is in
    record { fits = omega (arith, here_long xs is); reads = λ j below. reads xs j below (sym same) }
  where
    reads : (xs : List ℕ) (j : ℕ)
        → j < 5 → take 5 xs ≡ codes "8=FIX" → slice_index xs (0 + j) ≡ slice_index (codes "8=FIX") j
    reads xs j below is =
        let moved : slice_index (take 5 xs) j ≡ slice_index (codes "8=FIX") j =
        ap (λ (l : List ℕ). slice_index l j) is in
        let place : 0 + j ≡ j = omega arith in
        ap (slice_index xs) place ∙ sym (get_or-take 5 xs j 0 below) ∙ moved

occurs_at_front : (xs : List ℕ) → OccursAt xs (codes "8=FIX") 0 → here xs ≡ true
occurs_at_front [] o = absurd (omega (arith, o.fits))
occurs_at_front (a ∷ []) o = absurd (omega (arith, o.fits))
occurs_at_front (a ∷ b ∷ []) o = absurd (omega (arith, o.fits))
occurs_at_front (a ∷ b ∷ c ∷ []) o = absurd (omega (arith, o.fits))
occurs_at_front (a ∷ b ∷ c ∷ d ∷ []) o = absurd (omega (arith, o.fits))
occurs_at_front (a ∷ b ∷ c ∷ d ∷ e ∷ xs) o =
    let a_is : a ≡ 56 = o.reads 0 (omega arith) in
    let b_is : b ≡ 61 = o.reads 1 (omega arith) in
    let c_is : c ≡ 70 = o.reads 2 (omega arith) in
    let d_is : d ≡ 73 = o.reads 3 (omega arith) in
    let e_is : e ≡ 88 = o.reads 4 (omega arith) in
    (bytes_eq-Decides (codes "8=FIX") (a ∷ b ∷ c ∷ d ∷ e ∷ [])).1
    (cc (a_is, b_is, c_is, d_is, e_is))

occurs_later : (b : ℕ) (xs : List ℕ) (k : ℕ)
    → OccursAt xs (codes "8=FIX") k → OccursAt (b ∷ xs) (codes "8=FIX") (suc k)
occurs_later b xs k o = record {
  fits = omega (arith, o.fits);
  reads = λ j below. let n : suc k + j ≡ suc (k + j) =
      omega arith in ap (slice_index (b ∷ xs)) n ∙ o.reads j below;
}

occurs_earlier : (b : ℕ) (xs : List ℕ) (k : ℕ)
    → OccursAt (b ∷ xs) (codes "8=FIX") (suc k) → OccursAt xs (codes "8=FIX") k
occurs_earlier b xs k o = record {
  fits = omega (arith, o.fits);
  reads = λ j below. let n : suc (k + j) ≡ suc k + j =
      omega arith in ap (slice_index (b ∷ xs)) n ∙ o.reads j below;
}

found_nowhere : (xs : List ℕ)
    → Nowhere (OccursAt xs (codes "8=FIX")) 0 (length xs + 1) → start_in xs ≡ None
found_nowhere [] h = refl
found_nowhere (b ∷ xs) h = at (found_nowhere xs (λ k low high o.
    h (suc k) (omega arith) (omega (arith, high)) (occurs_later b xs k o))) (here (b ∷ xs)) refl
  where
    at : start_in xs ≡ None → (c : Bool) → here (b ∷ xs) ≡ c → start_in (b ∷ xs) ≡ None
    at later true is = absurd (h 0 (omega arith) (omega arith) (occurs_here (b ∷ xs) is))
    at later false is =
        ap (λ c. if c then Some 0 else option_map suc (start_in xs)) is ∙ ap (option_map suc) later

found_first : (xs : List ℕ) (k : ℕ) → Nowhere (OccursAt xs (codes "8=FIX")) 0 k
    → OccursAt xs (codes "8=FIX") k → start_in xs ≡ Some k
found_first [] k before o = absurd (omega (arith, o.fits))
found_first (b ∷ xs) zero before o =
    ap (λ c. if c then Some 0 else option_map suc (start_in xs)) (occurs_at_front (b ∷ xs) o)
found_first (b ∷ xs) (suc k) before o =
    at (found_first xs k (λ j low high p. before (suc j) (omega arith) (omega (arith, high))
    (occurs_later b xs j p)) (occurs_earlier b xs k o)) (here (b ∷ xs)) refl
  where
    at : start_in xs ≡ Some k → (c : Bool) → here (b ∷ xs) ≡ c → start_in (b ∷ xs) ≡ Some (suc k)
    at later true is = absurd (before 0 (omega arith) (omega arith) (occurs_here (b ∷ xs) is))
    at later false is =
        ap (λ c. if c then Some 0 else option_map suc (start_in xs)) is ∙ ap (option_map suc) later

pub start_found : (xs : List ℕ) (r : Option ℕ)
    → FindsNeedle xs (codes "8=FIX") 0 r → r ≡ start_in xs
start_found xs None h = sym (found_nowhere xs h)
start_found xs (Some k) h = sym (found_first xs k h.0.before h.1)
