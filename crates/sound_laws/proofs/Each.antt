-- What holds of each element of a list.
use Rattle.std.proofs.Common.{◌≡◌, ℕ, zero, suc, List, [], ◌∷◌, ◌++◌, map, Option, Some, None, Bool}
use Rattle.std.proofs.Common.{true, false, refl, sym, subst, arith, ◌⊎◌, inl, inr}
use Rattle.std.specs.Prelude.{not, ◌&&◌, ◌||◌, ◌==◌, IfSome, is_some, option_to_list}
use Rattle.std.specs.List.{AllByRecursion, slice_get, flat_map, list_all, list_any}
use Rattle.std.proofs.lemmas.Bool.{eqb-true}
use Rattle.std.proofs.lemmas.Bool.Decides.{nat_tests}
use Rattle.message_tables.specs.Tables.{first_of, is_one_of}
pub use Rattle.message_tables.proofs.Members.{none_each}

-- a proof of a first part, and one of what is behind it
infixr 5 ◌&◌
abbrev pub ◌&◌ : {A B : Type 0} → A → B → A × B
a & b = (a, b)

module _ {A : Type 0} (P : A → Type 0) where
  pub each_at : (xs : List A)
      → ((i : ℕ) (x : A) → slice_get xs i ≡ Some x → P x) → AllByRecursion P xs
  each_at [] h = tt
  each_at (x ∷ xs) h = (h 0 x refl, each_at xs (λ i y at. h (suc i) y at))

  -- the one at a place
  pub at_index : (i : ℕ) (xs : List A) (x : A) → slice_get xs i ≡ Some x → AllByRecursion P xs → P x
  at_index i [] x e h = absurd cc
  at_index zero (y ∷ ys) x e h = let same : y ≡ x = cc in subst P same h.0
  at_index (suc i) (y ∷ ys) x e h = at_index i ys x e h.1

  pub each_by : (Q : A → Type 0)
      → ((x : A) → P x → Q x) → (xs : List A) → AllByRecursion P xs → AllByRecursion Q xs
  each_by Q kept [] h = tt
  each_by Q kept (x ∷ xs) h = (kept x h.0, each_by Q kept xs h.1)

  -- what follows from two facts
  pub each_two : (Q R : A → Type 0) → ((x : A) → P x → Q x → R x) → (xs : List A)
      → AllByRecursion P xs → AllByRecursion Q xs → AllByRecursion R xs
  each_two Q R join [] p q = tt
  each_two Q R join (x ∷ xs) p q = (join x p.0 q.0, each_two Q R join xs p.1 q.1)

  pub each_front : (xs ys : List A) → AllByRecursion P (xs ++ ys) → AllByRecursion P xs
  each_front [] ys h = tt
  each_front (x ∷ xs) ys h = (h.0, each_front xs ys h.1)

  pub each_back : (xs ys : List A) → AllByRecursion P (xs ++ ys) → AllByRecursion P ys
  each_back [] ys h = h
  each_back (x ∷ xs) ys h = each_back xs ys h.1

  pub each_joined : (xs ys : List A)
      → AllByRecursion P xs → AllByRecursion P ys → AllByRecursion P (xs ++ ys)
  each_joined [] ys h k = k
  each_joined (x ∷ xs) ys h k = (h.0, each_joined xs ys h.1 k)

  pub each_part : {B : Type 0} (f : B → List A) (bs : List B)
      → AllByRecursion P (flat_map f bs) → AllByRecursion (λ b. AllByRecursion P (f b)) bs
  each_part f [] h = tt
  each_part f (b ∷ bs) h =
      (each_front (f b) (flat_map f bs) h, each_part f bs (each_back (f b) (flat_map f bs) h))

  pub each_whole : {B : Type 0} (f : B → List A) (bs : List B)
      → AllByRecursion (λ b. AllByRecursion P (f b)) bs → AllByRecursion P (flat_map f bs)
  each_whole f [] h = tt
  each_whole f (b ∷ bs) h = each_joined (f b) (flat_map f bs) h.0 (each_whole f bs h.1)

  -- the one that there may be
  pub each_option : (option : Option A) → IfSome option P
      → AllByRecursion P (option_to_list option)
  each_option None h = tt
  each_option (Some x) h = (h, tt)

pub each_map : {A B : Type 0} (P : B → Type 0) (f : A → B) (xs : List A)
    → AllByRecursion P (map f xs) → AllByRecursion (λ x. P (f x)) xs
each_map P f [] h = tt
each_map P f (x ∷ xs) h = (h.0, each_map P f xs h.1)

pub each_mapped : {A B : Type 0} (P : B → Type 0) (f : A → B) (xs : List A)
    → AllByRecursion (λ x. P (f x)) xs → AllByRecursion P (map f xs)
each_mapped P f [] h = tt
each_mapped P f (x ∷ xs) h = (h.0, each_mapped P f xs h.1)

-- two functions that give the same of a list give the same of each element
pub each_same : {A B : Type 0} (f g : A → B) (xs : List A) → map f xs ≡ map g xs
    → AllByRecursion (λ x. f x ≡ g x) xs
each_same f g [] h = tt
each_same f g (x ∷ xs) h =
    let here : f x ≡ g x = cc in
    let rest : map f xs ≡ map g xs = cc in (here, each_same f g xs rest)

-- what holds of each pair of two lists, the other way round
pub each_swapped : {A B : Type 0} (P : A → B → Type 0) (xs : List A) (ys : List B)
    → AllByRecursion (λ y. AllByRecursion (λ x. P x y) xs) ys
    → AllByRecursion (λ x. AllByRecursion (P x) ys) xs
each_swapped P xs [] h = each_at (λ x. AllByRecursion (P x) []) xs (λ i x at. tt)
each_swapped P xs (y ∷ ys) h = each_two (λ x. P x y) (λ x. AllByRecursion (P x) ys)
    (λ x. P x y × AllByRecursion (P x) ys) (λ x p q. (p, q)) xs h.0 (each_swapped P xs ys h.1)

-- where no element gives an answer, none is given
pub each_none : {X A : Type 0} (f : X → Option A) (xs : List X)
    → AllByRecursion (λ x. f x ≡ None) xs → first_of f xs ≡ None
unfolding first_of
each_none f [] h = refl
each_none f (x ∷ xs) h = rw h.0 (each_none f xs h.1)

-- numbers that stand once each
abbrev pub are_apart : List ℕ → Bool
are_apart [] = true
are_apart (t ∷ ts) = not (is_one_of ts t) && are_apart ts

pub both : (a b : Bool) → (a && b) ≡ true → (a ≡ true) × (b ≡ true)
both true true h = (refl, refl)
both other b h = absurd cc

pub either : (a b : Bool) → (a || b) ≡ false → (a ≡ false) × (b ≡ false)
either false false h = (refl, refl)
either other b h = absurd cc

pub either_true : (a b : Bool) → (a || b) ≡ true → (a ≡ true) ⊎ (b ≡ true)
either_true true b h = inl refl
either_true false b h = inr h

pub not_true : (b : Bool) → not b ≡ true → b ≡ false
not_true true h = absurd cc
not_true false h = refl

pub none_there : {A : Type 0} (one : Option A) → is_some one ≡ false → one ≡ None
none_there None h = refl
none_there (Some one) h = absurd cc

pub neither : (a b : Bool) → a ≡ false → b ≡ false → (a || b) ≡ false
neither false false h k = refl
neither other b h k = absurd cc

-- a number in front of others that stand once each
pub apart_first : (t : ℕ) (ts : List ℕ) → are_apart (t ∷ ts) ≡ true
    → (is_one_of ts t ≡ false) × (are_apart ts ≡ true)
apart_first t ts h =
    let p = both (not (is_one_of ts t)) (are_apart ts) h in (not_true _ p.0, p.1)

pub same_number : (n : ℕ) → (n == n) ≡ true
same_number n = grind (arith, nat_tests)

-- what holds of a number holds of one that is equal to it
pub at_equal : (P : ℕ → Type 0) (t n : ℕ) → (t == n) ≡ true → P n → P t
at_equal P t n e = subst P (sym (eqb-true t n e))

pub apart_same : (t u : ℕ) → (t == u) ≡ false → (u == t) ≡ false
apart_same t u h = grind (arith, nat_tests)

-- a test that all pass
pub all_true : {A : Type 0} (test : A → Bool) (xs : List A)
    → list_all test xs ≡ true → AllByRecursion (λ x. test x ≡ true) xs
all_true test [] h = tt
all_true test (x ∷ xs) h =
    let p = both (test x) (list_all test xs) h in (p.0, all_true test xs p.1)

-- and one that none passes
pub all_false : {A : Type 0} (test : A → Bool) (xs : List A)
    → list_all (λ x. not (test x)) xs ≡ true → AllByRecursion (λ x. test x ≡ false) xs
all_false test xs h = each_by _ _ (λ x. not_true (test x)) xs (all_true (λ x. not (test x)) xs h)

-- what holds of each of some numbers holds of one among them
pub one_of : (P : ℕ → Type 0) (ns : List ℕ) → AllByRecursion P ns → (n : ℕ)
    → is_one_of ns n ≡ true → P n
one_of P [] each n there = absurd cc
one_of P (m ∷ ns) each n there =
    elim (m == n) as (λ b. (m == n) ≡ b → (b || is_one_of ns n) ≡ true → P n) [
      | true ↦ λ e here. subst P (eqb-true m n e) each.0
      | false ↦ λ e later. one_of P ns each.1 n later
    ] refl there

-- a test that none passes
pub none_pass : {A : Type 0} (test : A → Bool) (xs : List A) → list_any test xs ≡ false
    → AllByRecursion (λ x. test x ≡ false) xs
none_pass test [] h = tt
none_pass test (x ∷ xs) h =
    let p = either (test x) (list_any test xs) h in (p.0, none_pass test xs p.1)

-- and each differs from one that is not among them
pub none_is : (n : ℕ) (ns : List ℕ) → is_one_of ns n ≡ false
    → AllByRecursion (λ m. (m == n) ≡ false) ns
none_is n = none_pass (λ m. m == n)
