-- The first answer of the items of a list, and whether one passes a test, as a loop finds it.
use Rattle.std.proofs.Common.{◌≡◌, ℕ, suc, ◌+◌, ◌<◌, ◌≤◌, List, [], ◌∷◌, ◌++◌, length}
use Rattle.std.proofs.Common.{get_or, take, drop, Option, Some, None, Bool, true, false, refl, sym}
use Rattle.std.proofs.Common.{ap, ◌∙◌, arith, leb, leb-false, leb-true, min}
use Rattle.std.proofs.Math.Nat.{min-eq_left, min-eq_right}
use Rattle.std.proofs.Math.Seq.{split_at}
use Rattle.std.proofs.lemmas.List.{take_all, take_more}
use Rattle.std.proofs.lemmas.List.Folds.{list_any-append}
use Rattle.std.specs.List.{list_any}
use Rattle.message_tables.specs.Tables.{or_else, first_of}

pub first_of-append : {X A : Type 0} (f : X → Option A) (xs ys : List X)
    → first_of f (xs ++ ys) ≡ or_else (first_of f xs) (first_of f ys)
unfolding first_of
first_of-append f [] ys = refl
first_of-append {A = A} f (x ∷ xs) ys = here (f x) (first_of-append f xs ys)
  where
    here : (o : Option A) → first_of f (xs ++ ys) ≡ or_else (first_of f xs) (first_of f ys)
        → or_else o (first_of f (xs ++ ys)) ≡ or_else (or_else o (first_of f xs)) (first_of f ys)
    here None e = e
    here (Some a) e = refl

module _ {X A : Type 0} (f : X → Option A) where
  pub first_none : first_of f [] ≡ None
  unfolding first_of
  first_none = refl

  pub first_passed : (xs : List X) (i : ℕ) (x : X) → x ≡ get_or xs i x → i < length xs
      → first_of f (take i xs) ≡ None → f x ≡ None → first_of f (take (i + 1) xs) ≡ None
  unfolding first_of
  first_passed xs i x at lt before none =
      let more : take (i + 1) xs ≡ take i xs ++ x ∷ [] =
      take_more xs i x lt ∙ ap (λ y. take i xs ++ y ∷ []) (sym at) in
      ap (first_of f) more ∙ first_of-append f (take i xs) (x ∷ []) ∙ rw (before, none) refl

  pub first_found : (xs : List X) (i : ℕ) (x : X) (a : A) → x ≡ get_or xs i x
      → i < length xs → first_of f (take i xs) ≡ None → f x ≡ Some a → first_of f xs ≡ Some a
  unfolding first_of
  first_found xs i x a at lt before some =
      let whole : xs ≡ take i xs ++ x ∷ drop (suc i) xs =
      split_at xs i x lt ∙ ap (λ y. take i xs ++ y ∷ drop (suc i) xs) (sym at) in
      ap (first_of f) whole
      ∙ first_of-append f (take i xs) (x ∷ drop (suc i) xs) ∙ rw (before, some) refl

  pub first_ended : (xs : List X) (i : ℕ)
      → length xs ≤ i → first_of f (take i xs) ≡ None → first_of f xs ≡ None
  first_ended xs i le before = ap (first_of f) (sym (take_all i xs le)) ∙ before

module _ {X : Type 0} (p : X → Bool) where
  pub any_passed : (xs : List X) (i : ℕ) (x : X) → x ≡ get_or xs i x → i < length xs
      → list_any p (take i xs) ≡ false → p x ≡ false → list_any p (take (i + 1) xs) ≡ false
  any_passed xs i x at lt before none =
      let more : take (i + 1) xs ≡ take i xs ++ x ∷ [] =
      take_more xs i x lt ∙ ap (λ y. take i xs ++ y ∷ []) (sym at) in
      ap (list_any p) more ∙ list_any-append p (take i xs) (x ∷ []) ∙ rw (before, none) refl

  pub any_found : (xs : List X) (i : ℕ) (x : X) → x ≡ get_or xs i x
      → i < length xs → list_any p (take i xs) ≡ false → p x ≡ true → list_any p xs ≡ true
  any_found xs i x at lt before some =
      let whole : xs ≡ take i xs ++ x ∷ drop (suc i) xs =
      split_at xs i x lt ∙ ap (λ y. take i xs ++ y ∷ drop (suc i) xs) (sym at) in
      ap (list_any p) whole
      ∙ list_any-append p (take i xs) (x ∷ drop (suc i) xs) ∙ rw (before, some) refl

  pub any_ended : (xs : List X) (i : ℕ)
      → length xs ≤ i → list_any p (take i xs) ≡ false → list_any p xs ≡ false
  any_ended xs i le before = ap (list_any p) (sym (take_all i xs le)) ∙ before

pub alone : {A : Type 0} (p : Option A) → p ≡ or_else p None
alone None = refl
alone (Some a) = refl

-- one more at the end
pub one_more : {X A : Type 0} (f : X → Option A) (xs : List X) (x : X) (o : Option A)
    → o ≡ first_of f xs → or_else o (f x) ≡ first_of f (xs ++ x ∷ [])
unfolding first_of
one_more {A = A} f xs x o h = ap (λ (p : Option A). or_else p (f x)) h
    ∙ ap (or_else (first_of f xs)) (alone (f x)) ∙ sym (first_of-append f xs (x ∷ []))

-- what the least of two numbers is below, and at most
pub least : (m n : ℕ) → ((i : ℕ) → i < min m n → (i < m) × (i < n))
    × ((most : ℕ) → m ≤ most → min m n ≤ most)
least m n = by (leb m n) refl
  where
    by : (b : Bool) → leb m n ≡ b → ((i : ℕ) → i < min m n → (i < m) × (i < n))
        × ((most : ℕ) → m ≤ most → min m n ≤ most)
    by true test =
        let low : m ≤ n = leb-true m n test in
        let is : min m n ≡ m = min-eq_left low in (
          λ i lt. (let below : i < m = rw is at lt in below, omega (arith, rw is at lt, low)),
          λ most le. rw is le,
        )
    by false test =
        let low : n < m = leb-false m n test in
        let is : min m n ≡ n = min-eq_right (omega (arith, low)) in (
          λ i lt. (omega (arith, rw is at lt, low), let below : i < n = rw is at lt in below),
          λ most le. rw is (omega (arith, low, le)),
        )
