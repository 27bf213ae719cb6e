-- More bytes change nothing in what was found.
use Rattle.std.proofs.Common.{◌≡◌, ℕ, zero, suc, ◌-◌, ◌<◌, ◌≤◌, Bool, true, false, List, [], ◌∷◌}
use Rattle.std.proofs.Common.{◌++◌, length, take, drop, refl, sym, subst, arith, Some, None, inl}
use Rattle.std.proofs.Common.{inr, ◌⊎◌}
use Rattle.std.specs.Prelude.{◌==◌, ◌&&◌, nat_lt, if◌then◌else◌, slice_get, codes, sum, ◌%◌}
use Rattle.std.specs.declared.option.Option.{Option}
use Rattle.std.proofs.lemmas.Bool.Decides.{nat_tests}
use Rattle.std.proofs.lemmas.List.{take-append-le, drop-append-le}
use Rattle.std.specs.Char.{is_ascii_digit}
use Rattle.std.specs.Str.Parse.{digits_value}
use Rattle.frame_grammar.specs.declared.frame.Kind.{Kind}
use Rattle.frame_grammar.specs.declared.frame.Garble.{Garble}
use Rattle.frame_grammar.specs.declared.frame.Garble.TheVariants.{BeginString, LengthField}
use Rattle.frame_grammar.specs.declared.frame.Garble.TheVariants.{TypeField, Trailer}
use Rattle.frame_grammar.specs.Frame.{begin_string, opening, three_digits}
use Rattle.frame_grammar.specs.Found.{Found, Whole, Short, Broken, expect, expect_sum}
use Rattle.frame_grammar.specs.Found.{found_trailer, found_last, found_type, found_body, found_said}
use Rattle.frame_grammar.specs.Found.{found_length, found}

-- what was found, with t behind it
abbrev pub Grows : List ℕ → Found → Found → Type 0
Grows t (Whole body after) more = more ≡ Whole body (after ++ t)
Grows t Short more = Unit {0}
Grows t (Broken cause after) more = more ≡ Broken cause (after ++ t)

module _ (t : List ℕ) where
  if_grows : (c : Bool) (a a' b b' : Found) → (c ≡ true → Grows t a a')
      → (c ≡ false → Grows t b b') → Grows t (if c then a else b) (if c then a' else b')
  if_grows true a a' b b' f g = f refl
  if_grows false a a' b b' f g = g refl

  expect_grows : (text : List ℕ) (cause : Garble) (go more : List ℕ → Found)
      → ((bytes : List ℕ) → Grows t (go bytes) (more (bytes ++ t))) → (bytes : List ℕ)
      → Grows t (expect text cause go bytes) (expect text cause more (bytes ++ t))
  expect_grows [] cause go more h bytes = h bytes
  expect_grows (x ∷ text) cause go more h [] = tt
  expect_grows (x ∷ text) cause go more h (b ∷ bytes) =
      if_grows (b == x) _ _ _ _ (λ _. expect_grows text cause go more h bytes) (λ _. refl)

  expect_sum_grows : (text : List ℕ) (go more : List ℕ → Found)
      → ((bytes : List ℕ) → Grows t (go bytes) (more (bytes ++ t)))
      → (bytes : List ℕ) → Grows t (expect_sum text go bytes) (expect_sum text more (bytes ++ t))
  expect_sum_grows [] go more h bytes = h bytes
  expect_sum_grows (x ∷ text) go more h [] = tt
  expect_sum_grows (x ∷ text) go more h (b ∷ bytes) =
      if_grows (is_ascii_digit b) _ _ _ _ (λ _. if_grows
      (b == x) _ _ _ _ (λ _. expect_sum_grows text go more h bytes) (λ _. refl)) (λ _. refl)

  trailer_grows : (before body bytes : List ℕ)
      → Grows t (found_trailer before body bytes) (found_trailer before body (bytes ++ t))
  trailer_grows before body bytes =
      expect_grows (codes "10=")
      Trailer _ _ (λ b1. expect_sum_grows (three_digits (sum (before ++ body) % 256))
      _ _ (λ b2. expect_grows (1 ∷ []) Trailer _ _ (λ b3. refl) b2) b1) bytes

  -- a byte that has come stays
  slice_get_grows : (rest : List ℕ) (k : ℕ) → (slice_get rest k ≡ None)
      ⊎ ((k < length rest) × (slice_get (rest ++ t) k ≡ slice_get rest k))
  slice_get_grows [] k = inl refl
  slice_get_grows (b ∷ rest) zero = inr (omega arith, refl)
  slice_get_grows (b ∷ rest) (suc k) = elim (slice_get_grows rest k)
      [ inl none ↦ inl none | inr came ↦ inr (omega (arith, came.0), came.1) ]

  last_grows : (before : List ℕ) (n : ℕ) (rest : List ℕ) (o : Option ℕ)
      → n ≤ length rest → Grows t (found_last before n rest o) (found_last before n (rest ++ t) o)
  last_grows before n rest None long = tt
  last_grows before n rest (Some last) long =
      let front : take n (rest ++ t) ≡ take n rest = take-append-le n rest t long in
      let back : drop n (rest ++ t) ≡ drop n rest ++ t = drop-append-le n rest t long in
      if_grows (last == 1) _ _ _ _
      (λ _. subst (λ p. Grows t (found_trailer before (take n rest) (drop n rest))
      (found_trailer before p (drop n (rest ++ t)))) (sym front)
      (subst (λ p. Grows t (found_trailer before (take n rest) (drop n rest)) (found_trailer
      before (take n rest) p)) (sym back) (trailer_grows before (take n rest) (drop n rest))))
      (λ _. rw (front, back) refl)

  type_grows : (before : List ℕ) (n : ℕ) (rest : List ℕ) (o : Option ℕ) → 1 ≤ n
      → 4 ≤ length rest → Grows t (found_type before n rest o) (found_type before n (rest ++ t) o)
  type_grows before n rest None one four = tt
  type_grows before n rest (Some first) one four =
      let back : drop 4 (rest ++ t) ≡ drop 4 rest ++ t = drop-append-le 4 rest t four in
      if_grows (first == 1) _ _ _ _ (λ _. rw back refl) (λ _. elim (slice_get_grows rest (n - 1)) [
        | inl none ↦ rw none tt
        | inr came ↦
            rw came.1 (last_grows before n rest (slice_get rest (n - 1)) (omega (arith, came.0)))
      ])

  body_grows : (before : List ℕ) (n : ℕ) (rest : List ℕ)
      → 1 ≤ n → Grows t (found_body before n rest) (found_body before n (rest ++ t))
  body_grows before n rest one =
      expect_grows (codes "35=") TypeField _ _ (λ _. elim (slice_get_grows rest 3) [
        | inl none ↦ rw none tt
        | inr came ↦
            rw came.1 (type_grows before n rest (slice_get rest 3) one (omega (arith, came.0)))
      ]) rest

  said_grows : (start digits : List ℕ) (said : ℕ) (rest : List ℕ)
      → Grows t (found_said start digits said rest) (found_said start digits said (rest ++ t))
  said_grows start [] said rest = refl
  said_grows start (d ∷ digits) said rest =
      if_grows (nat_lt 8192 said) _ _ _ _ (λ _. refl) (λ _.
      if_grows (nat_lt said 5) _ _ _ _ (λ _. refl) (λ not_short.
      let least : 5 ≤ said = grind (arith, nat_tests) in
      body_grows (start ++ (d ∷ digits) ++ 1 ∷ []) said rest (omega arith)))

  length_grows : (start digits bytes : List ℕ)
      → Grows t (found_length start digits bytes) (found_length start digits (bytes ++ t))
  length_grows start digits [] = tt
  length_grows start digits (b ∷ bytes) =
      if_grows (b == 1) _ _ _ _ (λ _. said_grows start digits (digits_value 10 digits) bytes) (λ _.
      if_grows (is_ascii_digit b && nat_lt (length digits) 7)
      _ _ _ _ (λ _. length_grows start (digits ++ b ∷ []) bytes) (λ _. refl))

  -- what was found stays found, whatever comes
  pub found_grows : (kind : Kind) (bytes : List ℕ)
      → Grows t (found kind bytes) (found kind (bytes ++ t))
  found_grows kind bytes =
      expect_grows (begin_string kind) BeginString _ _ (λ b1. expect_grows
      (codes "9=") LengthField _ _ (λ b2. length_grows (opening kind) [] b2) b1) bytes
