-- Sixteen bytes that have their marks, as they are told at once: with a zero for each digit.
use Rattle.std.proofs.Common.{◌≡◌, ℕ, zero, suc, ◌+◌, ◌*◌, ◌%◌, ◌^◌, ◌<◌, ◌≤◌, leb, eqb, cond, bit_and}
use Rattle.std.proofs.Common.{Bool, true, false, List, [], ◌∷◌, map, length, get_or, take, drop}
use Rattle.std.proofs.Common.{codes, refl, sym, ap, ◌∙◌, arith}
use Rattle.std.specs.Prelude.{◌&&◌, ◌==◌, if◌then◌else◌}
use Rattle.std.specs.Char.{is_ascii_alphabetic, is_ascii_digit}
use Rattle.std.specs.List.{list_all}
use Rattle.std.proofs.lemmas.Bool.{agree_below, agree_below_at}
use Rattle.std.proofs.lemmas.Bool.Decides.{nat_tests}
use Rattle.std.proofs.lemmas.Simd.{mask_l-mod}
use Rattle.std.specs.Simd.Lanes.{mask_l, sel_l, top, zip2}
use Rattle.std.proofs.lemmas.List.{drop_all, drop_more, get_or-take, length-take}
use Rattle.typed_fields.specs.Digits.{has_mark, have_marks, has_pattern}
use Rattle.typed_fields.proofs.StampLemmas.{pattern_apart}

abbrev at_most : ℕ → ℕ → ℕ
at_most a b = cond (leb a b) 255 0

abbrev equal : ℕ → ℕ → ℕ
equal a b = cond (eqb a b) 255 0

-- a mark with a zero for any digit
abbrev plain : ℕ → ℕ
plain mark = if is_ascii_alphabetic mark then 48 else mark

-- what is told of a byte
abbrev told : ℕ → ℕ → Bool
told mark byte =
    top 7 (equal (cond (top 7 (bit_and (at_most 48 byte) (at_most byte 57))) 48 byte) (plain mark))

abbrev are_told : List ℕ → List ℕ → List Bool
are_told marks bytes =
    map (top 7) (zip2 equal (sel_l (map (top 7) (zip2 bit_and
    (zip2 at_most (map (λ _. 48) marks) bytes) (zip2 at_most bytes (map (λ _. 57) marks))))
    (map (λ _. 48) marks) bytes) (map plain marks))

-- a number of so many bits that are all set
abbrev ones : ℕ → ℕ
ones zero = 0
ones (suc n) = 1 + 2 * ones n

one_more : (bit : Bool) (mask all : ℕ)
    → eqb (cond bit 1 0 + 2 * mask) (1 + 2 * all) ≡ (bit && eqb mask all)
one_more true mask all = by (eqb mask all) refl
  where
    by : (b : Bool) → eqb mask all ≡ b → eqb (1 + 2 * mask) (1 + 2 * all) ≡ b
    by true e = grind (arith, nat_tests, e)
    by false e = grind (arith, nat_tests, e)
one_more false mask all = grind (arith, nat_tests)

and_parts : (a b : Bool) → (a && b) ≡ true → (a ≡ true) × (b ≡ true)
and_parts true b h = (refl, h)
and_parts false b h = absurd cc

abbrev agrees : ℕ → Bool
agrees mark = agree_below (told mark) (has_mark mark) 256

pub all_told : (marks bytes : List ℕ) → list_all agrees marks ≡ true
    → length marks ≡ length bytes → ((i : ℕ) → i < length bytes → get_or bytes i 0 < 256)
    → eqb (mask_l (are_told marks bytes)) (ones (length marks)) ≡ have_marks marks bytes
all_told [] [] agree same fit = refl
all_told [] (b ∷ bytes) agree same fit = absurd (omega (arith, same))
all_told (m ∷ marks) [] agree same fit = absurd (omega (arith, same))
all_told (m ∷ marks) (b ∷ bytes) agree same fit =
    let both = and_parts (agrees m) (list_all agrees marks) agree in
    one_more (told m b) (mask_l (are_told marks bytes)) (ones (length marks))
    ∙ (λ i. agree_below_at (told m) (has_mark m) 256 b both.0 (fit 0 (omega arith)) i
    && all_told marks bytes both.1 (omega (arith, same))
    (λ k lt. fit (suc k) (omega (arith, lt))) i)

length_told : (marks bytes : List ℕ) → length marks ≡ length bytes
    → length (are_told marks bytes) ≡ length marks
length_told [] [] same = refl
length_told [] (b ∷ bytes) same = absurd (omega (arith, same))
length_told (m ∷ marks) [] same = absurd (omega (arith, same))
length_told (m ∷ marks) (b ∷ bytes) same =
    let later : length (are_told marks bytes) ≡ length marks =
    length_told marks bytes (omega (arith, same)) in omega (arith, later)

abbrev pub sixteen : List ℕ
sixteen = codes "YYYYMMDD-HH:MM:S"

and_true : (b : Bool) → (b && true) ≡ b
and_true true = refl
and_true false = refl

-- the first sixteen bytes of seventeen, and the last
front : (bytes : List ℕ) → length bytes ≡ 17 → ((i : ℕ) → get_or bytes i 0 < 256)
    → eqb (mask_l (are_told sixteen (take 16 bytes)) % 2 ^ 64) 65535
    ≡ has_pattern sixteen (take 16 bytes)
unfolding has_pattern
front bytes long fit =
    let same : 16 ≡ length (take 16 bytes) = omega (arith, length-take 16 bytes, long) in
    let whole : (16 == length (take 16 bytes)) ≡ true = grind (arith, nat_tests, same) in
    let few : length (are_told sixteen (take 16 bytes)) ≤ 64 =
    omega (arith, length_told sixteen (take 16 bytes) same) in
    ap (λ (mask : ℕ). eqb mask 65535) (mask_l-mod (are_told sixteen (take 16 bytes)) 64 few)
    ∙ all_told sixteen (take 16 bytes) refl same
    (λ i lt. rw (get_or-take 16 bytes i 0 (omega (arith, lt, same))) (fit i))
    ∙ (rw whole refl)

last : (bytes : List ℕ) → length bytes ≡ 17
    → is_ascii_digit (get_or bytes 16 0) ≡ has_pattern (codes "S") (drop 16 bytes)
unfolding has_pattern
last bytes long =
    let one : drop 16 bytes ≡ get_or bytes 16 0 ∷ [] =
    drop_more bytes 16 0 (omega (arith, long))
    ∙ ap (λ (rest : List ℕ). get_or bytes 16 0 ∷ rest) (drop_all 17 bytes (omega (arith, long))) in
    rw one (sym (and_true (is_ascii_digit (get_or bytes 16 0))))

pub moment_told : (bytes : List ℕ) → length bytes ≡ 17 → ((i : ℕ) → get_or bytes i 0 < 256)
    → (eqb (mask_l (are_told sixteen (take 16 bytes)) % 2 ^ 64) 65535
    && is_ascii_digit (get_or bytes 16 0)) ≡ has_pattern (codes "YYYYMMDD-HH:MM:SS") bytes
moment_told bytes long fit =
    (λ i. front bytes long fit i && last bytes long i)
    ∙ pattern_apart sixteen (codes "S") bytes long
