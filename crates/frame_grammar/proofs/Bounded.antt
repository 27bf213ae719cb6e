-- Less than a frame is less than 8,221 bytes.
use Rattle.std.proofs.Common.{◌≡◌, ℕ, zero, suc, ◌+◌, ◌-◌, ◌%◌, ◌<◌, ◌≤◌, Bool, true, false, List}
use Rattle.std.proofs.Common.{[], ◌∷◌, ◌++◌, length, take, drop, refl, arith, length-drop, Some}
use Rattle.std.proofs.Common.{None, inl, inr, ◌⊎◌}
use Rattle.std.specs.Prelude.{◌==◌, ◌&&◌, nat_lt, if◌then◌else◌, slice_get, codes, sum}
use Rattle.std.specs.declared.option.Option.{Option}
use Rattle.std.proofs.lemmas.Bool.Decides.{nat_tests}
use Rattle.std.specs.Char.{is_ascii_digit}
use Rattle.std.specs.Str.Parse.{digits_value}
use Rattle.frame_grammar.specs.declared.frame.Kind.{Kind}
use Rattle.frame_grammar.specs.declared.frame.Kind.TheVariants.{Fix42, Fix44, Fixt11}
use Rattle.frame_grammar.specs.declared.frame.Garble.{Garble}
use Rattle.frame_grammar.specs.declared.frame.Garble.TheVariants.{BeginString, LengthField}
use Rattle.frame_grammar.specs.declared.frame.Garble.TheVariants.{TypeField, Trailer}
use Rattle.frame_grammar.specs.Frame.{opening, three_digits}
use Rattle.frame_grammar.specs.Found.{Found, Short, Broken, expect, expect_sum, found_trailer}
use Rattle.frame_grammar.specs.Found.{found_last, found_type, found_body, found_said, found_length}
use Rattle.frame_grammar.specs.Found.{found}

-- what a choice that is Short was
if_short : (P : Type 0) (c : Bool) (a b : Found)
    → (if c then a else b) ≡ Short → (c ≡ true → a ≡ Short → P) → (c ≡ false → b ≡ Short → P) → P
if_short P true a b is f g = f refl is
if_short P false a b is f g = g refl is

expect_short : (text : List ℕ) (cause : Garble) (go : List ℕ → Found) (n : ℕ)
    → ((rest : List ℕ) → go rest ≡ Short → length rest ≤ n)
    → (bytes : List ℕ) → expect text cause go bytes ≡ Short → length bytes ≤ length text + n
expect_short [] cause go n h bytes is = omega (arith, h bytes is)
expect_short (t ∷ text) cause go n h [] is = omega arith
expect_short (t ∷ text) cause go n h (b ∷ bytes) is =
    if_short (length (b ∷ bytes) ≤ length (t ∷ text) + n) (b == t) _ _ is (λ _ more.
    omega (arith, expect_short text cause go n h bytes more)) (λ _ broken. absurd (cc broken))

expect_sum_short : (text : List ℕ) (go : List ℕ → Found) (n : ℕ)
    → ((rest : List ℕ) → go rest ≡ Short → length rest ≤ n)
    → (bytes : List ℕ) → expect_sum text go bytes ≡ Short → length bytes ≤ length text + n
expect_sum_short [] go n h bytes is = omega (arith, h bytes is)
expect_sum_short (t ∷ text) go n h [] is = omega arith
expect_sum_short (t ∷ text) go n h (b ∷ bytes) is =
    if_short (length (b ∷ bytes) ≤ length (t ∷ text) + n) (is_ascii_digit b) _ _ is
    (λ _ digit. if_short (length (b ∷ bytes) ≤ length (t ∷ text) + n) (b == t) _ _ digit (λ _ more.
    omega (arith, expect_sum_short text go n h bytes more)) (λ _ broken. absurd (cc broken)))
    (λ _ broken. absurd (cc broken))

trailer_short : (before body bytes : List ℕ)
    → found_trailer before body bytes ≡ Short → length bytes ≤ 7
trailer_short before body bytes is =
    expect_short (codes "10=") Trailer _ 4 (λ b1 i1.
    expect_sum_short (three_digits (sum (before ++ body) % 256)) _ 1 (λ b2 i2.
    expect_short (1 ∷ []) Trailer _ 0 (λ b3 i3. absurd (cc i3)) b2 i2) b1 i1) bytes is

last_short : (before : List ℕ) (n : ℕ) (rest : List ℕ) (o : Option ℕ)
    → slice_get rest (n - 1) ≡ o → found_last before n rest o ≡ Short → length rest ≤ n + 7
last_short before n rest None none is = omega (arith, past rest (n - 1) none)
  where
    past : (xs : List ℕ) (k : ℕ) → slice_get xs k ≡ None → length xs ≤ k
    past [] k h = omega arith
    past (x ∷ xs) zero h = absurd (cc h)
    past (x ∷ xs) (suc k) h = omega (arith, past xs k h)
last_short before n rest (Some last) here is =
    if_short (length rest ≤ n + 7) (last == 1) _ _ is (λ _ t. omega (
      arith,
      trailer_short
          before (take n rest) (drop n rest) t,
      length-drop n rest,
    )) (λ _ broken. absurd (cc broken))

type_short : (before : List ℕ) (n : ℕ) (rest : List ℕ) (o : Option ℕ) → slice_get rest 3 ≡ o
    → found_type before n rest o ≡ Short → (length rest ≤ n + 7) ⊎ (length rest ≤ 3)
type_short before n rest None none is = inr (past rest 3 none)
  where
    past : (xs : List ℕ) (k : ℕ) → slice_get xs k ≡ None → length xs ≤ k
    past [] k h = omega arith
    past (x ∷ xs) zero h = absurd (cc h)
    past (x ∷ xs) (suc k) h = omega (arith, past xs k h)
type_short before n rest (Some first) here is =
    if_short ((length rest ≤ n + 7) ⊎ (length rest ≤ 3)) (first == 1) _ _ is (λ _ broken.
    absurd (cc broken)) (λ _ l. inl (last_short before n rest (slice_get rest (n - 1)) refl l))

-- less than the text, or what goes on after it
expect_at : (text : List ℕ) (cause : Garble) (f : Found) (bytes : List ℕ)
    → expect text cause (λ _. f) bytes ≡ Short → (length bytes ≤ length text) ⊎ (f ≡ Short)
expect_at [] cause f bytes is = inr is
expect_at (t ∷ text) cause f [] is = inl (omega arith)
expect_at (t ∷ text) cause f (b ∷ bytes) is =
    if_short ((length (b ∷ bytes) ≤ length (t ∷ text)) ⊎ (f ≡ Short)) (b == t) _ _ is
    (λ _ more. elim (expect_at text cause f bytes more) [
      | inl short ↦
          inl (omega (arith, short))
      | inr later ↦ inr later
    ]) (λ _ broken. absurd (cc broken))

body_short : (before : List ℕ) (n : ℕ) (rest : List ℕ)
    → found_body before n rest ≡ Short → length rest ≤ n + 7
body_short before n rest is =
    elim (expect_at (codes "35=") TypeField (found_type before n rest (slice_get rest 3)) rest is) [
      | inl short ↦ omega (arith, short)
      | inr typed ↦ elim (type_short before n rest (slice_get rest 3) refl typed)
          [ inl short ↦ short | inr few ↦ omega (arith, few) ]
    ]

said_short : (start digits : List ℕ) (said : ℕ) (rest : List ℕ)
    → found_said start digits said rest ≡ Short → length rest ≤ 8199
said_short start [] said rest is = absurd (cc is)
said_short start (d ∷ digits) said rest is =
    if_short (length rest ≤ 8199)
    (nat_lt 8192 said) _ _ is (λ _ broken. absurd (cc broken)) (λ not_long more.
    if_short
    (length rest ≤ 8199) (nat_lt said 5) _ _ more (λ _ broken. absurd (cc broken)) (λ _ body.
    let most : said ≤ 8192 = grind (arith, nat_tests, not_long) in
    omega (arith, body_short (start ++ (d ∷ digits) ++ 1 ∷ []) said rest body, most)))

length_short : (start digits bytes : List ℕ) → length digits ≤ 7
    → found_length start digits bytes ≡ Short → length bytes + length digits ≤ 8207
length_short start digits [] few is = omega (arith, few)
length_short start digits (b ∷ rest) few is =
    if_short (length (b ∷ rest) + length digits ≤ 8207) (b == 1) _ _ is (λ _ said.
    omega (arith, said_short start digits (digits_value 10 digits) rest said, few)) (λ _ more.
    if_short (length (b ∷ rest) + length digits ≤ 8207)
    (is_ascii_digit b && nat_lt (length digits) 7) _ _ more (λ digit later.
    let room : nat_lt (length digits) 7 ≡ true =
    and_second (is_ascii_digit b) (nat_lt (length digits) 7) digit in
    let below : length digits < 7 = grind (arith, nat_tests, room) in
    let pushed : length (digits ++ b ∷ []) ≡ length digits + 1 =
    omega (arith, length-push digits b) in
    omega (
      arith,
      length_short start (digits ++ b ∷ []) rest (omega (arith, pushed, below)) later,
      pushed,
    )) (λ _ broken. absurd (cc broken)))
  where
    and_second : (c d : Bool) → (c && d) ≡ true → d ≡ true
    and_second true d is = is
    and_second false d is = absurd (cc is)

    length-push : (xs : List ℕ) (x : ℕ) → length (xs ++ x ∷ []) ≡ length xs + 1
    length-push [] x = refl
    length-push (y ∷ xs) x = omega (arith, length-push xs x)

pub short_bounded : (kind : Kind) (bytes : List ℕ) → found kind bytes ≡ Short → length bytes ≤ 8220
short_bounded Fix42 bytes is = omega (
  arith,
  expect_short (codes "8=FIX.4.2" ++ 1 ∷ [])
      BeginString _ 8209 (λ b1 i1. omega (
        arith,
        expect_short (codes "9=") LengthField _ 8207
            (λ b2 i2. omega (arith, length_short (opening Fix42) [] b2 (omega arith) i2)) b1 i1,
      )) bytes is,
)
short_bounded Fix44 bytes is = omega (
  arith,
  expect_short (codes "8=FIX.4.4" ++ 1 ∷ [])
      BeginString _ 8209 (λ b1 i1. omega (
        arith,
        expect_short (codes "9=") LengthField _ 8207
            (λ b2 i2. omega (arith, length_short (opening Fix44) [] b2 (omega arith) i2)) b1 i1,
      )) bytes is,
)
short_bounded Fixt11 bytes is = omega (
  arith,
  expect_short (codes "8=FIXT.1.1" ++ 1 ∷ [])
      BeginString _ 8209 (λ b1 i1. omega (
        arith,
        expect_short (codes "9=") LengthField _ 8207
            (λ b2 i2. omega (arith, length_short (opening Fixt11) [] b2 (omega arith) i2)) b1 i1,
      )) bytes is,
)

-- what is broken or whole has a byte
pub broken_some : (kind : Kind) (bytes after : List ℕ) (cause : Garble)
    → found kind bytes ≡ Broken cause after → 1 ≤ length bytes
broken_some Fix42 [] after cause is = absurd (cc is)
broken_some Fix44 [] after cause is = absurd (cc is)
broken_some Fixt11 [] after cause is = absurd (cc is)
broken_some kind (b ∷ bytes) after cause is = omega arith
