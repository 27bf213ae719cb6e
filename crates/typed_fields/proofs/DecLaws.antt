-- The laws of decimal numbers.
use Rattle.std.proofs.Common.{◌≡◌, ◌==◌, ◌&&◌, not, if◌then◌else◌, ℕ, zero, suc, ◌+◌, ◌-◌, ◌*◌, ◌/◌}
use Rattle.std.proofs.Common.{◌%◌, ◌^◌, ◌<◌, ◌≤◌, nat_le, Bool, true, false, List, [], ◌∷◌, ◌++◌}
use Rattle.std.proofs.Common.{length, take, drop, replicate, Ok, refl, sym, ap, ◌∙◌, arith, ℤ, pos}
use Rattle.std.proofs.Common.{negsuc, unsigned_abs, subst, get_or}
use Rattle.std.specs.Char.{is_ascii_digit}
use Rattle.std.specs.Fmt.{decimal}
use Rattle.std.specs.Int.{is_negative}
use Rattle.std.specs.List.{list_all, position_or_len, before_first, after_first}
use Rattle.std.proofs.lemmas.Bool.Decides.{nat_tests}
use Rattle.std.proofs.lemmas.List.{length-append, length-take, length-drop, take_at, drop_at}
use Rattle.std.proofs.lemmas.List.{drop-drop, append-nil, append_assoc, take-append-drop}
use Rattle.std.proofs.lemmas.List.{length-replicate, take_all}
use Rattle.std.proofs.lemmas.Nat.{div-mul-add, mod-mul-add, pow-add, mul-le}
use Rattle.std.proofs.Math.Nat.{mul-lt-mul_of_pos_right}
use Rattle.typed_fields.specs.declared.dec.Dec.{Dec}
use Rattle.typed_fields.specs.Digits.{are_digits, number_of, zero_padded, without_leading_zeros}
use Rattle.typed_fields.specs.Digits.{without_trailing_zeros, before_others, or_zero}
use Rattle.typed_fields.specs.Dec.{has_minus, is_point, whole_part, fraction_part, is_dec_form}
use Rattle.typed_fields.specs.Dec.{whole_digits, fraction_digits, is_dec_bounded, units_of, signed}
use Rattle.typed_fields.specs.Dec.{read_dec, IsDec, SpellsItself, ReadsPlain, sign_text, with_point}
use Rattle.typed_fields.specs.Dec.{dec_text}
use Rattle.typed_fields.specs.Dec.{plain_dec}
use Rattle.typed_fields.specs.Laws.{ReadsBack, IsPlain, IsStable}
use Rattle.typed_fields.proofs.DigitsLemmas.{both_true, number_of-append, number_of-lt}
use Rattle.typed_fields.proofs.DigitsLemmas.{are_digits-append, are_digits-take, are_digits-drop}
use Rattle.typed_fields.proofs.DigitsLemmas.{are_digits-leading, are_digits-trailing}
use Rattle.typed_fields.proofs.DigitsLemmas.{trailing_other}
use Rattle.typed_fields.proofs.SpellingLemmas.{judged_ok, number_of_first, zero_padded-number_of}
use Rattle.typed_fields.proofs.SpellingLemmas.{digit_bounds, power_some, length-zero_padded}
use Rattle.typed_fields.proofs.SpellingLemmas.{are_digits-zero_padded, number_of-zero_padded}
use Rattle.typed_fields.proofs.NumberLaws.{decimal-number_of, number_of-leading, or_zero_some}
use Rattle.typed_fields.proofs.NumberLaws.{are_digits-or_zero}
use Rattle.typed_fields.proofs.DecLemmas.{read_dec-good, units_of-is, units_of-lt, IsDec-units_of}

-- a digit is no point and no minus sign
digit_is_other : (c : ℕ) → is_ascii_digit c ≡ true → ((c == 46) ≡ false) × ((c == 45) ≡ false)
digit_is_other c h =
    let bounds = digit_bounds c h in (grind (arith, nat_tests), grind (arith, nat_tests))

-- the point stands behind the whole part
point_place : (w f : List ℕ)
    → are_digits w ≡ true → position_or_len is_point (w ++ with_point f) ≡ length w
unfolding are_digits
point_place [] [] h = refl
point_place [] (d ∷ ds) h = refl
point_place (c ∷ cs) f h =
    let parts = both_true (is_ascii_digit c) (list_all is_ascii_digit cs) h in
    let other = (digit_is_other c parts.0).0 in
    let rest = point_place cs f parts.1 in
    rw (other, rest) (omega arith)

whole_back : (w f : List ℕ) → are_digits w ≡ true → before_first is_point (w ++ with_point f) ≡ w
whole_back w f h = ap (λ n. take n (w ++ with_point f)) (point_place w f h)
    ∙ take_at w (with_point f) (length w) refl

fraction_back : (w f : List ℕ) → are_digits w ≡ true → after_first is_point (w ++ with_point f) ≡ f
fraction_back w f h =
    ap (λ n. drop (n + 1) (w ++ with_point f)) (point_place w f h)
    ∙ (sym (drop-drop 1 (length w) (w ++ with_point f))
    ∙ (ap (drop 1) (drop_at w (with_point f) (length w) refl) ∙ behind f))
  where
    behind : (f : List ℕ) → drop 1 (with_point f) ≡ f
    behind [] = refl
    behind (d ∷ ds) = refl

-- the spelling of a sign, a whole part and a fraction
abbrev spelled : Bool → List ℕ → List ℕ → List ℕ
spelled s w f = sign_text s ++ w ++ with_point f

record Parts (s : Bool) (w f : List ℕ) : Type 0 where
  minus : has_minus (spelled s w f) ≡ s
  whole : whole_part (spelled s w f) ≡ w
  fraction : fraction_part (spelled s w f) ≡ f

parts_of : (s : Bool) (w f : List ℕ) → are_digits w ≡ true → 0 < length w → Parts s w f
unfolding are_digits
parts_of true w f h some =
    record { minus = refl; whole = whole_back w f h; fraction = fraction_back w f h }
parts_of false [] f h some = absurd (omega arith)
parts_of false (c ∷ cs) f h some =
    let other =
    (digit_is_other c (both_true (is_ascii_digit c) (list_all is_ascii_digit cs) h).0).1 in
    record {
      minus = other;
      whole = rw other (whole_back (c ∷ cs) f h);
      fraction = rw other (fraction_back (c ∷ cs) f h);
    }

spelled_long : (s : Bool) (w f : List ℕ)
    → (length (spelled s w f) ≤ 2 + length w + length f) × (length w ≤ length (spelled s w f))
spelled_long s w f =
    (simp length-append (omega (arith, sign s, point f)), simp length-append (omega arith))
  where
    sign : (s : Bool) → length (sign_text s) ≤ 1
    sign true = omega arith
    sign false = omega arith

    point : (f : List ℕ) → length (with_point f) ≤ 1 + length f
    point [] = omega arith
    point (d ∷ ds) = omega arith

read_spelled : (s : Bool) (w f : List ℕ)
    → are_digits w ≡ true → are_digits f ≡ true → 0 < length w → length w ≤ 15 → length f ≤ 8
    → length (without_leading_zeros w) + length (without_trailing_zeros f) ≤ 15
    → length (without_trailing_zeros f) ≤ 8
    → read_dec (spelled s w f) ≡ Ok (record {
      units = signed s (units_of (without_leading_zeros w) (without_trailing_zeros f));
    })
read_spelled s w f h k some long places few few_places =
    let p = parts_of s w f h some in
    let v = spelled s w f in
    let size = spelled_long s w f in
    let not_empty : (length v == 0) ≡ false = grind (arith, nat_tests, size.1) in
    let whole : are_digits (whole_part v) ≡ true = rw p.whole h in
    let fraction : are_digits (fraction_part v) ≡ true = rw p.fraction k in
    let any : length (whole_part v) + length (fraction_part v) ≡ 0 → ⊥ =
    rw (p.whole, p.fraction) (λ e. absurd (omega (arith, some))) in
    let few' : length (whole_digits v) + length (fraction_digits v) ≤ 15 =
    rw (p.whole, p.fraction) few in
    let places' : length (fraction_digits v) ≤ 8 = rw p.fraction few_places in
    read_dec-good v not_empty (omega (arith, size.0)) whole fraction any few' places'
    ∙ (λ i. Ok (record {
      units = signed (p.minus i)
          (units_of (without_leading_zeros (p.whole i)) (without_trailing_zeros (p.fraction i)));
    }))

-- zeros that are gone stay gone
leading_twice : (ds : List ℕ)
    → without_leading_zeros (without_leading_zeros ds) ≡ without_leading_zeros ds
unfolding without_leading_zeros
leading_twice [] = refl
leading_twice (d ∷ ds) = go (d == 48) refl (leading_twice ds)
  where
    go : (b : Bool) → (d == 48) ≡ b
        → without_leading_zeros (without_leading_zeros ds) ≡ without_leading_zeros ds
        → without_leading_zeros (if b then without_leading_zeros ds else (d ∷ ds))
        ≡ (if b then without_leading_zeros ds else (d ∷ ds))
    go true e rest = rest
    go false e rest = rw e

leading-or_zero : (ds : List ℕ)
    → without_leading_zeros ds ≡ ds → without_leading_zeros (or_zero ds) ≡ ds
unfolding without_leading_zeros
leading-or_zero [] e = refl
leading-or_zero (d ∷ ds) e = e

trailing_twice : (ds : List ℕ)
    → without_trailing_zeros (without_trailing_zeros ds) ≡ without_trailing_zeros ds
unfolding without_trailing_zeros
trailing_twice [] = refl
trailing_twice (d ∷ ds) = go (without_trailing_zeros ds) (trailing_twice ds)
  where
    last : (b : Bool) → (d == 48) ≡ b
        → without_trailing_zeros (if b then [] else (d ∷ [])) ≡ (if b then [] else (d ∷ []))
    last true e = refl
    last false e = rw e

    go : (ys : List ℕ) → without_trailing_zeros ys ≡ ys
        → without_trailing_zeros (before_others d ys) ≡ before_others d ys
    go [] e = last (d == 48) refl
    go (y ∷ ys) e = rw e

-- zeros behind a fraction
trailing_push : (ds : List ℕ) → without_trailing_zeros (ds ++ (48 ∷ [])) ≡ without_trailing_zeros ds
unfolding without_trailing_zeros
trailing_push [] = refl
trailing_push (d ∷ ds) = ap (before_others d) (trailing_push ds)

trailing-zeros : (ds : List ℕ) (k : ℕ)
    → without_trailing_zeros (ds ++ replicate k 48) ≡ without_trailing_zeros ds
trailing-zeros ds zero = ap without_trailing_zeros (append-nil ds)
trailing-zeros ds (suc k) =
    ap without_trailing_zeros (sym (append_assoc ds (48 ∷ []) (replicate k 48)))
    ∙ (trailing-zeros (ds ++ (48 ∷ [])) k ∙ trailing_push ds)

number_of-zeros : (k : ℕ) → number_of (replicate k 48) ≡ 0
unfolding number_of
number_of-zeros zero = refl
number_of-zeros (suc k) = number_of_first 48 (replicate k 48) (omega arith) (omega arith)
    ∙ omega (arith, number_of-zeros k)

are_digits-zeros : (k : ℕ) → are_digits (replicate k 48) ≡ true
unfolding are_digits
are_digits-zeros zero = refl
are_digits-zeros (suc k) = are_digits-zeros k

-- a number with no needless zero is zero only where no digit is left
no_leading_digit : (ds : List ℕ) → are_digits ds ≡ true
    → number_of (without_leading_zeros ds) ≡ 0 → without_leading_zeros ds ≡ []
unfolding without_leading_zeros are_digits
no_leading_digit [] h e = refl
no_leading_digit (d ∷ ds) h e =
    let parts = both_true (is_ascii_digit d) (list_all is_ascii_digit ds) h in
    go (d == 48) refl (no_leading_digit ds parts.1) (digit_bounds d parts.0) e
  where
    go : (b : Bool)
        → (d == 48) ≡ b → (number_of (without_leading_zeros ds) ≡ 0 → without_leading_zeros ds ≡ [])
        → (48 ≤ d) × (d ≤ 57) → number_of (if b then without_leading_zeros ds else (d ∷ ds)) ≡ 0
        → (if b then without_leading_zeros ds else (d ∷ ds)) ≡ []
    go true t rest bounds e = rest e
    go false t rest bounds e =
        let some : 1 ≤ d - 48 = grind (arith, nat_tests) in
        absurd (omega (
          arith,
          e,
          number_of_first d ds bounds.0 bounds.1,
          mul-le 1 1 (d - 48) (10 ^ length ds) some (power_some (length ds)),
        ))

no_trailing_digit : (ds : List ℕ) → are_digits ds ≡ true
    → number_of (without_trailing_zeros ds) ≡ 0 → without_trailing_zeros ds ≡ []
unfolding without_trailing_zeros are_digits
no_trailing_digit [] h e = refl
no_trailing_digit (d ∷ ds) h e =
    let parts = both_true (is_ascii_digit d) (list_all is_ascii_digit ds) h in
    go (without_trailing_zeros ds) (no_trailing_digit ds parts.1) (digit_bounds d parts.0) e
  where
    last : (b : Bool) → (d == 48) ≡ b → (48 ≤ d) × (d ≤ 57)
        → number_of (if b then [] else (d ∷ [])) ≡ 0 → (if b then [] else (d ∷ [])) ≡ []
    last true t bounds e = refl
    last false t bounds e = absurd (let low = bounds.0 in let some : 1 ≤ d - 48 =
        grind (arith, nat_tests) in omega (arith, e, number_of_first d [] bounds.0 bounds.1))

    go : (ys : List ℕ) → (number_of ys ≡ 0 → ys ≡ [])
        → (48 ≤ d) × (d ≤ 57) → number_of (before_others d ys) ≡ 0 → before_others d ys ≡ []
    go [] rest bounds e = last (d == 48) refl bounds e
    go (y ∷ ys) rest bounds e = absurd (let gone : y ∷ ys ≡ [] =
        rest (omega (arith, e, number_of_first d (y ∷ ys) bounds.0 bounds.1)) in cc)

-- the parts of the units
pub units-parts : (w f : List ℕ)
    → are_digits f ≡ true → length f ≤ 8 → (units_of w f / 10 ^ 8 ≡ number_of w)
    × (units_of w f % 10 ^ 8 ≡ number_of f * 10 ^ (8 - length f))
units-parts w f h places =
    let small : number_of f * 10 ^ (8 - length f) < 10 ^ 8 = below (number_of f)
    (10 ^ length f) (10 ^ (8 - length f)) (number_of-lt f (length f) h (omega arith))
    (power_some (8 - length f)) (sym (pow-add 10 (length f) (8 - length f))
    ∙ ap (λ k. 10 ^ k) (let e : length f + (8 - length f) ≡ 8 = omega arith in e)) in
    (div-mul-add (number_of w) (10 ^ 8) _ small, mod-mul-add (number_of w) (10 ^ 8) _ small)
  where
    below : (n a b : ℕ) → n < a → 0 < b → a * b ≡ 10 ^ 8 → n * b < 10 ^ 8
    below n a b h some e = rw (← e) (mul-lt-mul_of_pos_right h some)

-- eight digits of a fraction, without the zeros behind it
fraction_text_back : (f : List ℕ) → are_digits f ≡ true → length f ≤ 8 → without_trailing_zeros
    (zero_padded 8 (number_of f * 10 ^ (8 - length f))) ≡ without_trailing_zeros f
fraction_text_back f h places =
    let k = 8 - length f in
    let whole = f ++ replicate k 48 in
    let long : length whole ≡ 8 = simp (length-append, length-replicate) (omega arith) in
    let number : number_of whole ≡ number_of f * 10 ^ k =
    number_of-append f (replicate k 48) ∙ (rw (number_of-zeros k, length-replicate) (omega arith))
    in
    let digits = are_digits-append f (replicate k 48) h (are_digits-zeros k) in
    let padded : zero_padded 8 (number_of f * 10 ^ k) ≡ whole =
    (λ i. zero_padded (sym long i) (sym number i)) ∙ zero_padded-number_of whole digits in
    ap without_trailing_zeros padded ∙ trailing-zeros f k

-- what the sign of zero is
negative_of : (s : Bool) (n : ℕ)
    → 0 < n → (is_negative (signed s n) ≡ s) × (unsigned_abs (signed s n) ≡ n)
negative_of true zero h = absurd (omega arith)
negative_of true (suc n) h = (refl, refl)
negative_of false zero h = absurd (omega arith)
negative_of false (suc n) h = (grind (arith, nat_tests), refl)

magnitude_of : (s : Bool) (n : ℕ) → unsigned_abs (signed s n) ≡ n
magnitude_of true zero = refl
magnitude_of true (suc n) = refl
magnitude_of false n = refl

nothing_is_zero : (w f : List ℕ) → length w + length f ≡ 0 → units_of w f ≡ 0
unfolding number_of
nothing_is_zero [] [] e = refl
nothing_is_zero [] (d ∷ ds) e = absurd (omega arith)
nothing_is_zero (d ∷ ds) f e = absurd (omega arith)

-- units are zero only where no digit counts
units_some : (w f : List ℕ) → are_digits w ≡ true → are_digits f ≡ true
    → (length (without_leading_zeros w) + length (without_trailing_zeros f) ≡ 0 → ⊥)
    → 0 < units_of (without_leading_zeros w) (without_trailing_zeros f)
units_some w f h k some = go (units_of (without_leading_zeros w) (without_trailing_zeros f)) refl
  where
    zero_factor : (n p : ℕ) → 0 < p → n * p ≡ 0 → n ≡ 0
    zero_factor zero p h e = refl
    zero_factor (suc n) p h e = absurd (omega (arith, e, mul-le 1 1 (suc n) p (omega arith) h))

    go : (n : ℕ) → units_of (without_leading_zeros w) (without_trailing_zeros f) ≡ n → 0 < n
    go zero e =
        let whole : number_of (without_leading_zeros w) ≡ 0 = omega (arith, e) in
        let product : number_of (without_trailing_zeros f)
        * 10 ^ (8 - length (without_trailing_zeros f)) ≡ 0 = omega (arith, e) in
        let fraction =
        zero_factor _ _ (power_some (8 - length (without_trailing_zeros f))) product in
        let no_w = ap length (no_leading_digit w h whole) in
        let no_f = ap length (no_trailing_digit f k fraction) in
        absurd (some (omega (arith, no_w, no_f)))
    go (suc n) e = omega arith

record Signs (s : Bool) (w f : List ℕ) : Type 0 where
  sign : is_negative (signed s (units_of w f)) ≡ (s && not (length w + length f == 0))
  same : signed (s && not (length w + length f == 0)) (units_of w f) ≡ signed s (units_of w f)

signs : (s : Bool) (w f : List ℕ) → ((length w + length f ≡ 0 → ⊥) → 0 < units_of w f) → Signs s w f
signs s w f some = go (length w + length f == 0) refl
  where
    zero_case : (s : Bool) (n : ℕ)
        → n ≡ 0 → (is_negative (signed s n) ≡ (s && false)) × (signed (s && false) n ≡ signed s n)
    zero_case true n e = rw e (refl, refl)
    zero_case false n e = rw e (refl, refl)

    some_case : (s : Bool) (n : ℕ)
        → 0 < n → (is_negative (signed s n) ≡ (s && true)) × (signed (s && true) n ≡ signed s n)
    some_case true n h = ((negative_of true n h).0, refl)
    some_case false n h = ((negative_of false n h).0, refl)

    go : (b : Bool) → (length w + length f == 0) ≡ b → Signs s w f
    go true t =
        let both = zero_case s (units_of w f) (nothing_is_zero w f (grind (arith, nat_tests))) in
        record { sign = rw t both.0; same = rw t both.1 }
    go false t =
        let any : length w + length f ≡ 0 → ⊥ = λ e. absurd (grind (arith, nat_tests)) in
        let both = some_case s (units_of w f) (some any) in
        record { sign = rw t both.0; same = rw t both.1 }

-- what is known of bytes that are read
record IsRead (v : List ℕ) (d : Dec) : Type 0 where
  whole : are_digits (whole_part v) ≡ true
  fraction : are_digits (fraction_part v) ≡ true
  few : length (whole_digits v) + length (fraction_digits v) ≤ 15
  places : length (fraction_digits v) ≤ 8
  signs : Signs (has_minus v) (whole_digits v) (fraction_digits v)
  value : ◌≡◌ {A = Dec}
      (record { units = signed (has_minus v) (units_of (whole_digits v) (fraction_digits v)) }) d

is_read : (v : List ℕ) (d : Dec) → read_dec v ≡ Ok d → IsRead v d
is_read v d e =
    let j = judged_ok v (is_dec_form v) (is_dec_bounded v) (record {
      units = signed (has_minus v) (units_of (whole_digits v) (fraction_digits v));
    }) d e in
    let form = both_true (nat_le (length v) 32) (are_digits (whole_part v) && (are_digits
    (fraction_part v) && not (length (whole_part v) + length (fraction_part v) == 0))) j.form in
    let digits = both_true (are_digits (whole_part v)) (are_digits (fraction_part v)
    && not (length (whole_part v) + length (fraction_part v) == 0)) form.1 in
    let fraction = both_true (are_digits (fraction_part v))
    (not (length (whole_part v) + length (fraction_part v) == 0)) digits.1 in
    let bound = both_true (nat_le (length (whole_digits v) + length (fraction_digits v)) 15)
    (nat_le (length (fraction_digits v)) 8) j.bound in
    record {
      whole = digits.0;
      fraction = fraction.0;
      few = (let b = bound.0 in grind (arith, nat_tests));
      places = (let b = bound.1 in grind (arith, nat_tests));
      signs = signs (has_minus v) (whole_digits v)
          (fraction_digits v) (units_some (whole_part v) (fraction_part v) digits.0 fraction.0);
      value = j.value;
    }

pub dec_is_plain : IsPlain read_dec dec_text plain_dec
dec_is_plain v d e =
    let r = is_read v d e in
    let w = whole_digits v in
    let f = fraction_digits v in
    let n = units_of w f in
    let digits = are_digits-trailing (fraction_part v) r.fraction in
    let parts = units-parts w f digits r.places in
    let magnitude = magnitude_of (has_minus v) n in
    let small : number_of (whole_part v) < 10 ^ 15 =
    rw (number_of-leading (whole_part v))
    at (number_of-lt w 15 (are_digits-leading (whole_part v) r.whole) (omega (arith, r.few))) in
    let whole : decimal (unsigned_abs (signed (has_minus v) n) / 10 ^ 8) ≡ or_zero w =
    ap (λ k. decimal (k / 10 ^ 8)) magnitude
    ∙ (ap decimal (parts.0 ∙ number_of-leading (whole_part v))
    ∙ decimal-number_of (whole_part v) r.whole (omega (arith, small))) in
    let fraction : without_trailing_zeros
    (zero_padded 8 (unsigned_abs (signed (has_minus v) n) % 10 ^ 8)) ≡ f =
    ap (λ k. without_trailing_zeros (zero_padded 8 (k % 10 ^ 8))) magnitude
    ∙ (ap (λ k. without_trailing_zeros (zero_padded 8 k)) parts.1
    ∙ (fraction_text_back f digits r.places ∙ trailing_twice (fraction_part v))) in
    ap dec_text (sym r.value)
    ∙ (λ i. sign_text (r.signs.sign i) ++ whole i ++ with_point (fraction i))

-- the plain spelling is read as the same
or_zero_short : (w : List ℕ) → length w ≤ 15 → length (or_zero w) ≤ 15
or_zero_short [] h = omega arith
or_zero_short (d ∷ ds) h = h

plain_read : (v : List ℕ) (d : Dec) → read_dec v ≡ Ok d → read_dec (plain_dec v) ≡ Ok d
plain_read v d e =
    let r = is_read v d e in
    let w = whole_digits v in
    let f = fraction_digits v in
    let whole : without_leading_zeros (or_zero w) ≡ w =
    leading-or_zero w (leading_twice (whole_part v)) in
    let fraction : without_trailing_zeros f ≡ f = trailing_twice (fraction_part v) in
    let few : length (without_leading_zeros (or_zero w)) + length (without_trailing_zeros f) ≤ 15 =
    rw (whole, fraction) r.few in
    let places : length (without_trailing_zeros f) ≤ 8 = rw fraction r.places in
    read_spelled (has_minus v && not (length w + length f == 0)) (or_zero w) f
    (are_digits-or_zero w (are_digits-leading (whole_part v) r.whole))
    (are_digits-trailing (fraction_part v) r.fraction) (or_zero_some w)
    (or_zero_short w (omega (arith, r.few))) r.places few places
    ∙ ((λ i. Ok (record {
      units =
          signed (has_minus v && not (length w + length f == 0)) (units_of (whole i) (fraction i));
    }))
    ∙ (ap (λ z. Ok (record { units = z })) r.signs.same ∙ ap Ok r.value))

pub dec_is_stable : IsStable read_dec dec_text
dec_is_stable v d e = ap read_dec (dec_is_plain v d e) ∙ plain_read v d e

-- digits are those that count and zeros behind them
record Kept (f : List ℕ) : Type 0 where
  k : ℕ
  same : f ≡ without_trailing_zeros f ++ replicate k 48

kept : (f : List ℕ) → Kept f
unfolding without_trailing_zeros
kept [] = record { k = 0; same = refl }
kept (d ∷ ds) = go (without_trailing_zeros ds) (kept ds).k (kept ds).same
  where
    last : (b : Bool) → (d == 48) ≡ b → (k : ℕ)
        → ds ≡ replicate k 48 → (j : ℕ) × (d ∷ ds ≡ (if b then [] else (d ∷ [])) ++ replicate j 48)
    last true t k e = let is_zero : d ≡ 48 = grind (arith, nat_tests) in (suc k, rw (is_zero, e))
    last false t k e = (k, rw e)

    cases : (ys : List ℕ) (k : ℕ)
        → ds ≡ ys ++ replicate k 48 → (j : ℕ) × (d ∷ ds ≡ before_others d ys ++ replicate j 48)
    cases [] k e = last (d == 48) refl k e
    cases (y ∷ ys) k e = (k, ap (λ xs. d ∷ xs) e)

    go : (ys : List ℕ) (k : ℕ) → ds ≡ without_trailing_zeros ds ++ replicate k 48 → Kept (d ∷ ds)
    go ys k e =
        let found = cases (without_trailing_zeros ds) k e in record { k = found.0; same = found.1 }

-- zeros behind a fraction do not count
trailing_units : (w f : List ℕ)
    → length f ≤ 8 → units_of w (without_trailing_zeros f) ≡ units_of w f
trailing_units w f places =
    let part = kept f in
    let t = without_trailing_zeros f in
    let long : length f ≡ length t + part.k =
    ap length part.same ∙ simp (length-append, length-replicate) in
    let number : number_of f ≡ number_of t * 10 ^ part.k =
    ap number_of part.same ∙ (number_of-append t (replicate part.k 48)
    ∙ rw (number_of-zeros part.k, length-replicate) (omega arith)) in
    let power : 10 ^ part.k * 10 ^ (8 - length f) ≡ 10 ^ (8 - length t) =
    sym (pow-add 10 part.k (8 - length f)) ∙ ap (λ k. 10 ^ k)
    (let e : part.k + (8 - length f) ≡ 8 - length t = omega (arith, long, places) in e) in
    joined (number_of t) (number_of f) (10 ^ part.k)
    (10 ^ (8 - length f)) (10 ^ (8 - length t)) (number_of w * 10 ^ 8) number power
  where
    joined : (t f p q r x : ℕ) → f ≡ t * p → p * q ≡ r → x + t * r ≡ x + f * q
    joined t f p q r x e g = rw (e, ← g) (omega arith)

-- zeros in front of the whole part do not count
leading_units : (w f : List ℕ) → units_of (without_leading_zeros w) f ≡ units_of w f
leading_units w f = ap (λ n. n * 10 ^ 8 + number_of f * 10 ^ (8 - length f)) (number_of-leading w)

signed_back : (z : ℤ) → signed (is_negative z) (unsigned_abs z) ≡ z
signed_back (pos zero) = refl
signed_back (pos (suc n)) =
    let e : is_negative (pos (suc n)) ≡ false = grind (arith, nat_tests) in rw e
signed_back (negsuc n) = refl

leading_shorter : (ds : List ℕ) → length (without_leading_zeros ds) ≤ length ds
unfolding without_leading_zeros
leading_shorter [] = omega arith
leading_shorter (d ∷ ds) = go (d == 48) (leading_shorter ds)
  where
    go : (b : Bool) → length (without_leading_zeros ds) ≤ length ds
        → length (if b then without_leading_zeros ds else (d ∷ ds)) ≤ length (d ∷ ds)
    go true h = omega arith
    go false h = omega arith

trailing_shorter : (ds : List ℕ) → length (without_trailing_zeros ds) ≤ length ds
trailing_shorter ds =
    let part = kept ds in
    let long : length ds ≡ length (without_trailing_zeros ds) + part.k =
    ap length part.same ∙ simp (length-append, length-replicate) in
    omega (arith, long)

-- at most eight digits behind a point are less than one
pub behind_small : (rest : List ℕ) (places fraction : ℕ) → are_digits (take places rest) ≡ true
    → places ≤ length rest → places ≤ 8 → fraction ≡ number_of (take places rest)
    → fraction * 10 ^ (8 - places) < 10 ^ 8
behind_small rest places fraction digits within few is =
    let f = take places rest in
    let long : length f ≡ places = simp length-take (omega (arith, within)) in
    let parts = (units-parts [] f digits (omega (arith, long, few))).1 in
    let small : number_of f * 10 ^ (8 - length f) < 10 ^ 8 = omega (arith, parts) in
    let small_there : number_of f * 10 ^ (8 - places) < 10 ^ 8 = rw long at small in
    rw is small_there

-- what stands from a place on
pub rest_of : (bytes : List ℕ) (n : ℕ) → take (length bytes - n) (drop n bytes) ≡ drop n bytes
rest_of bytes n = take_all (length bytes - n) (drop n bytes) (simp length-drop (omega arith))

-- digits, of which at most eight stand behind a point, are read as they stand
reads_plain : (w f : List ℕ) → are_digits w ≡ true → are_digits f ≡ true → 0 < length w
    → length w + length f ≤ 15 → length f ≤ 8 → ReadsPlain (w ++ with_point f) (units_of w f)
reads_plain w f h k some few places =
    let shorter_w = leading_shorter w in
    let shorter_f = trailing_shorter f in
    record {
      value = read_spelled false w f h k some (omega (arith, few)) places
          (omega (arith, few, shorter_w, shorter_f)) (omega (arith, places, shorter_f))
          ∙ ap (λ (n : ℕ). Ok (record { units = pos n }))
          (leading_units w (without_trailing_zeros f) ∙ trailing_units w f places);
      bound = IsDec-units_of false w f h k few places;
      small = units_of-lt w f h k few places;
    }

-- the same of digits alone
pub whole_plain : (bytes : List ℕ) (n whole : ℕ) → n ≡ length bytes → 0 < n → n ≤ 15
    → are_digits (take n bytes) ≡ true → whole ≡ number_of (take n bytes)
    → ReadsPlain bytes (whole * 10 ^ 8)
unfolding number_of are_digits
whole_plain bytes n whole all some few digits is =
    let same : take n bytes ≡ bytes = take_all n bytes (omega (arith, all)) in
    let plain : ReadsPlain (bytes ++ []) (units_of bytes []) =
    reads_plain bytes [] (rw same at digits) refl (omega (arith, all, some))
    (omega (arith, all, few)) (omega arith) in
    let units : units_of bytes [] ≡ whole * 10 ^ 8 =
    let number : whole ≡ number_of bytes = rw same at is in omega (arith, number) in
    subst (λ (n : ℕ). ReadsPlain bytes n) units
    (subst (λ (b : List ℕ). ReadsPlain b (units_of bytes [])) (append-nil bytes) plain)

-- the same of digits on both sides of a point
pub point_plain : (bytes rest : List ℕ) (n whole places behind : ℕ) → rest ≡ drop n bytes
    → n ≤ length bytes → 0 < n → are_digits (take n bytes) ≡ true
    → whole ≡ number_of (take n bytes) → rest ≡ with_point (drop 1 rest)
    → are_digits (drop 1 rest) ≡ true → places ≡ length (drop 1 rest) → places ≤ 8
    → n + places ≤ 15 → behind ≡ number_of (drop 1 rest) * 10 ^ (8 - places)
    → ReadsPlain bytes (whole * 10 ^ 8 + behind)
point_plain bytes rest n whole places behind there within some digits is point fraction long few
    most units =
    let w = take n bytes in
    let f = drop 1 rest in
    let long_w : length w ≡ n = simp length-take (omega (arith, within)) in
    let plain : ReadsPlain (w ++ with_point f) (units_of w f) =
    reads_plain w f digits fraction (omega (arith, long_w, some))
    (omega (arith, long_w, long, most)) (omega (arith, long, few)) in
    let text : w ++ with_point f ≡ bytes =
    ap (λ (back : List ℕ). w ++ back) (sym point ∙ there) ∙ take-append-drop n bytes in
    let same : units_of w f ≡ whole * 10 ^ 8 + behind = rw (is, units, long) refl in
    subst (λ (n : ℕ). ReadsPlain bytes n) same
    (subst (λ (b : List ℕ). ReadsPlain b (units_of w f)) text plain)

-- ---- canonical spellings

-- a digit alone, or digits of which the first is no zero
pub one_kept : (w : List ℕ) → length w ≡ 1 → or_zero (without_leading_zeros w) ≡ w
unfolding without_leading_zeros
one_kept [] e = absurd (omega (arith, e))
one_kept (c ∷ []) e = by (c == 48) refl
  where
    by : (b : Bool) → (c == 48) ≡ b → or_zero (if b then [] else (c ∷ [])) ≡ c ∷ []
    by true is = let same : c ≡ 48 = grind (arith, nat_tests, is) in rw same refl
    by false is = refl
one_kept (c ∷ d ∷ ds) e = absurd (omega (arith, e))

pub leads_kept : (w : List ℕ) → 0 < length w → not (get_or w 0 0 == 48) ≡ true
    → or_zero (without_leading_zeros w) ≡ w
unfolding without_leading_zeros
leads_kept [] some other = absurd (omega (arith, some))
leads_kept (c ∷ cs) some other = by (c == 48) other
  where
    by : (b : Bool) → not b ≡ true → or_zero (if b then without_leading_zeros cs else (c ∷ cs)) ≡ c ∷ cs
    by true other = absurd cc
    by false other = refl

-- digits behind a point, of which the last is no zero
pub trails_kept : (bytes : List ℕ) (n : ℕ) → 0 < n → length bytes ≡ n + 1
    → (get_or bytes n 0 ≡ 48 → ⊥) → without_trailing_zeros (drop 1 bytes) ≡ drop 1 bytes
trails_kept [] n some long other = absurd (omega (arith, long))
trails_kept (b ∷ bs) zero some long other = absurd (omega (arith, some))
trails_kept (b ∷ bs) (suc n) some long other =
    subst (λ (f : List ℕ). without_trailing_zeros f ≡ f) (take_all (suc n) bs (omega (arith, long)))
    (trailing_other bs n (suc n) (omega (arith, long)) (omega arith) other)

-- a point and the digits behind it are appended
pub point_pushed : (old bytes f out : List ℕ) (n : ℕ) → bytes ≡ with_point f → 0 < n → n ≡ length f
    → out ≡ (old ++ 46 ∷ []) ++ take n f → out ≡ old ++ bytes
point_pushed old bytes [] out n is some long pushed = absurd (omega (arith, some, long))
point_pushed old bytes (d ∷ ds) out n is some long pushed =
    pushed
    ∙ ap (λ (l : List ℕ). (old ++ 46 ∷ []) ++ l) (take_all n (d ∷ ds) (omega (arith, long)))
    ∙ append_assoc old (46 ∷ []) (d ∷ ds) ∙ ap (λ (l : List ℕ). old ++ l) (sym is)

-- bytes are appended by their front and their rest
pub both_pushed : (old bytes mid rest out : List ℕ) (n : ℕ) → rest ≡ drop n bytes
    → mid ≡ old ++ take n bytes → out ≡ mid ++ rest → out ≡ old ++ bytes
both_pushed old bytes mid rest out n there front behind =
    behind ∙ ap (λ (l : List ℕ). l ++ rest) front ∙ append_assoc old (take n bytes) rest
    ∙ ap (λ (l : List ℕ). old ++ l)
    (ap (λ (l : List ℕ). take n bytes ++ l) there ∙ take-append-drop n bytes)

spelled_plainly : (w f : List ℕ) → are_digits w ≡ true → 0 < length w
    → or_zero (without_leading_zeros w) ≡ w → without_trailing_zeros f ≡ f
    → plain_dec (w ++ with_point f) ≡ w ++ with_point f
spelled_plainly w f h some lead trail =
    let p = parts_of false w f h some in
    (λ i. sign_text (p.minus i
    && not (length (without_leading_zeros (p.whole i))
    + length (without_trailing_zeros (p.fraction i)) == 0))
    ++ or_zero (without_leading_zeros (p.whole i))
    ++ with_point (without_trailing_zeros (p.fraction i)))
    ∙ (λ i. lead i ++ with_point (trail i))

-- bytes that are read as they stand, and have no needless one
canonical : (bytes w f : List ℕ) (units : ℕ) → w ++ with_point f ≡ bytes → ReadsPlain bytes units
    → are_digits w ≡ true → 0 < length w → or_zero (without_leading_zeros w) ≡ w
    → without_trailing_zeros f ≡ f → SpellsItself bytes
canonical bytes w f units is plain h some lead trail = record {
  units = units;
  plain = plain;
  text = dec_is_plain bytes (record { units = pos units }) plain.value
      ∙ ap plain_dec (sym is) ∙ spelled_plainly w f h some lead trail ∙ is;
}

-- digits alone
pub whole_canonical : (bytes : List ℕ) (n whole : ℕ) → n ≡ length bytes → 0 < n → n ≤ 15
    → are_digits (take n bytes) ≡ true → whole ≡ number_of (take n bytes)
    → or_zero (without_leading_zeros (take n bytes)) ≡ take n bytes → SpellsItself bytes
unfolding without_trailing_zeros
whole_canonical bytes n whole all some few digits is lead =
    let same : take n bytes ≡ bytes = take_all n bytes (omega (arith, all)) in
    canonical bytes bytes [] (whole * 10 ^ 8) (append-nil bytes)
    (whole_plain bytes n whole all some few digits is) (rw same at digits)
    (omega (arith, all, some))
    (subst (λ (w : List ℕ). or_zero (without_leading_zeros w) ≡ w) same lead) refl

-- digits on both sides of a point
pub point_canonical : (bytes rest : List ℕ) (n whole places behind : ℕ) → rest ≡ drop n bytes
    → n ≤ length bytes → 0 < n → are_digits (take n bytes) ≡ true
    → whole ≡ number_of (take n bytes) → rest ≡ with_point (drop 1 rest)
    → are_digits (drop 1 rest) ≡ true → places ≡ length (drop 1 rest) → places ≤ 8
    → n + places ≤ 15 → behind ≡ number_of (drop 1 rest) * 10 ^ (8 - places)
    → or_zero (without_leading_zeros (take n bytes)) ≡ take n bytes
    → without_trailing_zeros (drop 1 rest) ≡ drop 1 rest → SpellsItself bytes
point_canonical bytes rest n whole places behind there within some digits is point fraction long few
    most units lead trail =
    let w = take n bytes in
    let f = drop 1 rest in
    let long_w : length w ≡ n = simp length-take (omega (arith, within)) in
    let text : w ++ with_point f ≡ bytes =
    ap (λ (back : List ℕ). w ++ back) (sym point ∙ there) ∙ take-append-drop n bytes in
    canonical bytes w f (whole * 10 ^ 8 + behind) text
    (point_plain bytes rest n whole places behind there within some digits is point fraction long
    few most units) digits (omega (arith, long_w, some)) lead trail

-- a number that can be read has a spelling: its fifteen digits with the point between them
some_spelling : (d : Dec) → IsDec d → (v : List ℕ) × (read_dec v ≡ Ok d)
some_spelling d h =
    let all = zero_padded 15 h.digits in
    let w = take (7 + h.zeros) all in
    let f = drop (7 + h.zeros) all in
    let digits : are_digits all ≡ true = are_digits-zero_padded 15 h.digits in
    let long : length all ≡ 15 = length-zero_padded 15 h.digits in
    let long_w : length w ≡ 7 + h.zeros = simp length-take (omega (arith, long, h.at_most_eight)) in
    let long_f : length f ≡ 8 - h.zeros = simp length-drop (omega (arith, long, h.at_most_eight)) in
    let whole = are_digits-take (7 + h.zeros) all digits in
    let fraction = are_digits-drop (7 + h.zeros) all digits in
    let back : 8 - length f ≡ h.zeros = omega (arith, long_f, h.at_most_eight) in
    let units : units_of (without_leading_zeros w) (without_trailing_zeros f)
    ≡ unsigned_abs d.units =
    leading_units w (without_trailing_zeros f)
    ∙ (trailing_units w f (omega (arith, long_f)) ∙ (units_of-is w f (omega (arith, long_f))
    ∙ ((λ i. number_of (take-append-drop (7 + h.zeros) all i) * 10 ^ (back i))
    ∙ (ap (λ n. n * 10 ^ h.zeros) (number_of-zero_padded 15 h.digits h.at_most_fifteen)
    ∙ sym h.units))))
    in (
      spelled (is_negative d.units) w f,
      read_spelled (is_negative d.units) w f whole fraction
          (omega (arith, long_w)) (omega (arith, long_w, h.at_most_eight)) (omega (arith, long_f))
          (omega (arith, long_w, long_f, h.at_most_eight, leading_shorter w, trailing_shorter f))
          (omega (arith, long_f, trailing_shorter f))
          ∙ ap (λ z. Ok (record { units = z }))
          (ap (signed (is_negative d.units)) units ∙ signed_back d.units),
    )

pub dec_reads_back : ReadsBack read_dec IsDec dec_text
dec_reads_back d h =
    let spelling = some_spelling d h in dec_is_stable spelling.0 d spelling.1
