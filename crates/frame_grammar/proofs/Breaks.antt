-- A broken text has a front that begins no frame, and each shorter one awaits more.
use Rattle.std.proofs.Common.{◌≡◌, ℕ, zero, suc, ◌-◌, ◌%◌, ◌<◌, ◌≤◌, Bool, true, false, List, []}
use Rattle.std.proofs.Common.{◌∷◌, ◌++◌, length, take, drop, refl, sym, ◌∙◌, ap, subst, arith}
use Rattle.std.proofs.Common.{append_assoc, append-nil, length-append, length-drop, length-take}
use Rattle.std.proofs.Common.{take-append-drop, Some, None, inl, inr, ◌⊎◌}
use Rattle.std.specs.Prelude.{◌==◌, ◌&&◌, nat_lt, if◌then◌else◌, slice_get, codes, sum}
use Rattle.std.specs.List.{list_any}
use Rattle.std.specs.declared.option.Option.{Option}
use Rattle.std.proofs.lemmas.Bool.Decides.{nat_tests}
use Rattle.std.proofs.lemmas.List.{take-take, take_at, drop_at, take-append-le, drop_all}
use Rattle.std.specs.Char.{is_ascii_digit}
use Rattle.std.specs.Str.Parse.{digits_value}
use Rattle.frame_grammar.specs.declared.frame.Kind.{Kind}
use Rattle.frame_grammar.specs.declared.frame.Garble.{Garble}
use Rattle.frame_grammar.specs.declared.frame.Garble.TheVariants.{BeginString, LengthField, TooLong}
use Rattle.frame_grammar.specs.declared.frame.Garble.TheVariants.{TypeField, Trailer, Sum}
use Rattle.frame_grammar.specs.Frame.{begin_string, opening, three_digits, IsFrame}
use Rattle.frame_grammar.specs.Found.{Found, Whole, Short, Broken, expect, expect_sum}
use Rattle.frame_grammar.specs.Found.{found_trailer, found_last, found_type, found_body, found_said}
use Rattle.frame_grammar.specs.Found.{found_length, found}
use Rattle.frame_grammar.proofs.Begins.{comes_alike, found_frame}
use Rattle.frame_grammar.proofs.Grow.{Grows, found_grows}

-- What is broken is broken without what comes after.
abbrev Shrinks : (List ℕ → Found) → Type 0
Shrinks go = (bytes : List ℕ) (cause : Garble) (after : List ℕ) → go bytes ≡ Broken cause after
    → (front : List ℕ) × (bytes ≡ front ++ after) × (go front ≡ Broken cause [])

if_true : (c : Bool) (a b : Found) → c ≡ true → (if c then a else b) ≡ a
if_true c a b is = ap (λ t. if t then a else b) is

if_false : (c : Bool) (a b : Found) → c ≡ false → (if c then a else b) ≡ b
if_false c a b is = ap (λ t. if t then a else b) is

if_broken : (P : Type 0) (c : Bool) (a b f : Found)
    → (if c then a else b) ≡ f → (c ≡ true → a ≡ f → P) → (c ≡ false → b ≡ f → P) → P
if_broken P true a b f is g h = g refl is
if_broken P false a b f is g h = h refl is

expect_shrinks : (text : List ℕ) (own : Garble) (go : List ℕ → Found)
    → Shrinks go → Shrinks (expect text own go)
expect_shrinks [] own go shrinks bytes cause after is = shrinks bytes cause after is
expect_shrinks (t ∷ text) own go shrinks [] cause after is = absurd (cc is)
expect_shrinks (t ∷ text) own go shrinks (b ∷ bytes) cause after is =
    if_broken ((front : List ℕ) × (b ∷ bytes ≡ front ++ after)
    × (expect (t ∷ text) own go front ≡ Broken cause [])) (b == t) _ _ _ is
    (λ same more. let r = expect_shrinks text own go shrinks bytes cause after more
    in (b ∷ r.0, ap (λ (l : List ℕ). b ∷ l) r.1, if_true (b == t) _ _ same ∙ r.2))
    (λ other broken. let cause_is : own ≡ cause = cc broken in let after_is : bytes ≡ after =
    cc broken in (
      b ∷ [],
      ap (λ (l : List ℕ). b ∷ l) after_is,
      if_false (b == t) _ _ other ∙ ap (λ k. Broken k []) cause_is,
    ))

sum_shrinks : (text : List ℕ) (go : List ℕ → Found) → Shrinks go → Shrinks (expect_sum text go)
sum_shrinks [] go shrinks bytes cause after is = shrinks bytes cause after is
sum_shrinks (t ∷ text) go shrinks [] cause after is = absurd (cc is)
sum_shrinks (t ∷ text) go shrinks (b ∷ bytes) cause after is =
    let P : Type 0 = (front : List ℕ)
    × (b ∷ bytes ≡ front ++ after) × (expect_sum (t ∷ text) go front ≡ Broken cause []) in
    if_broken P (is_ascii_digit b) _ _ _ is
    (λ digit chosen. if_broken P (b == t) _ _ _ chosen
    (λ same more. let r = sum_shrinks text go shrinks bytes cause after more
    in (
      b ∷ r.0,
      ap (λ (l : List ℕ). b ∷ l) r.1,
      if_true (is_ascii_digit b) _ _ digit ∙ if_true (b == t) _ _ same ∙ r.2,
    ))
    (λ other broken.
    let after_is : bytes ≡ after = cc broken in
    let cause_is : Broken Sum [] ≡ Broken cause [] = cc broken in (
      b ∷ [],
      ap (λ (l : List ℕ). b ∷ l) after_is,
      if_true (is_ascii_digit b) _ _ digit ∙ if_false (b == t) _ _ other ∙ cause_is,
    )))
    (λ none broken.
    let after_is : bytes ≡ after = cc broken in
    let cause_is : Broken Trailer [] ≡ Broken cause [] = cc broken in
    (b ∷ [], ap (λ (l : List ℕ). b ∷ l) after_is, if_false (is_ascii_digit b) _ _ none ∙ cause_is))

trailer_shrinks : (before body : List ℕ) → Shrinks (found_trailer before body)
trailer_shrinks before body =
    expect_shrinks (codes "10=")
    Trailer _ (sum_shrinks (three_digits (sum (before ++ body) % 256)) _ (expect_shrinks
    (1 ∷ []) Trailer (λ after. Whole body after) (λ bytes cause after is. absurd (cc is))))

-- A text breaks within, or it has come and what is known of the whole is broken.
expect_const : (text : List ℕ) (own : Garble) (f : Found) (bytes : List ℕ)
    (cause : Garble) (after : List ℕ) → expect text own (λ _. f) bytes ≡ Broken cause after
    → ((front : List ℕ) × (bytes ≡ front ++ after)
    × ((g : Found) → expect text own (λ _. g) front ≡ Broken cause []))
    ⊎ ((f ≡ Broken cause after) × ((other : List ℕ) (g : Found)
    → take (length text) other ≡ take (length text) bytes → expect text own (λ _. g) other ≡ g))
expect_const [] own f bytes cause after is = inr (is, λ other g same. refl)
expect_const (t ∷ text) own f [] cause after is = absurd (cc is)
expect_const (t ∷ text) own f (b ∷ bytes) cause after is =
    if_broken (((front : List ℕ) × (b ∷ bytes ≡ front ++ after)
    × ((g : Found) → expect (t ∷ text) own (λ _. g) front ≡ Broken cause []))
    ⊎ ((f ≡ Broken cause after) × ((other : List ℕ) (g : Found) → take (length (t ∷ text)) other
    ≡ take (length (t ∷ text)) (b ∷ bytes) → expect (t ∷ text) own (λ _. g) other ≡ g)))
    (b == t) _ _ _ is
    (λ same more. elim (expect_const text own f bytes cause after more) [
      | inl r ↦
          inl (b ∷ r.0, ap (λ (l : List ℕ). b ∷ l) r.1, λ g. if_true (b == t) _ _ same ∙ r.2 g)
      | inr r ↦ inr (r.0, λ other g. comes_alike t b text bytes own same r.1 other g)
    ])
    (λ other broken.
    let after_is : bytes ≡ after = cc broken in
    let cause_is : own ≡ cause = cc broken in
    inl (
      b ∷ [],
      ap (λ (l : List ℕ). b ∷ l) after_is,
      λ g. if_false (b == t) _ _ other ∙ ap (λ k. Broken k []) cause_is,
    ))

get_take : (n k : ℕ) (xs : List ℕ) → k < n → slice_get (take n xs) k ≡ slice_get xs k
get_take zero k xs below = absurd (omega arith)
get_take (suc n) k [] below = refl
get_take (suc n) zero (x ∷ xs) below = refl
get_take (suc n) (suc k) (x ∷ xs) below = get_take n k xs (omega arith)

get_some : (xs : List ℕ) (k x : ℕ) → slice_get xs k ≡ Some x → k < length xs
get_some [] k x is = absurd (cc is)
get_some (y ∷ xs) zero x is = omega arith
get_some (y ∷ xs) (suc k) x is = omega (arith, get_some xs k x is)

get_append : (xs ys : List ℕ) (k : ℕ) → k < length xs → slice_get (xs ++ ys) k ≡ slice_get xs k
get_append [] ys k within = absurd (omega arith)
get_append (x ∷ xs) ys zero within = refl
get_append (x ∷ xs) ys (suc k) within = get_append xs ys k (omega arith)

module _ (before : List ℕ) (n : ℕ) (least : 5 ≤ n) (rest : List ℕ) (cause : Garble) (after : List ℕ)
  where
    abbrev Result : Type 0
    Result =
        (front : List ℕ) × (rest ≡ front ++ after) × (found_body before n front ≡ Broken cause [])

    module _ (come : (other : List ℕ) (g : Found)
        → take 3 other ≡ take 3 rest → expect (codes "35=") TypeField (λ _. g) other ≡ g)
        (first : ℕ) (third : slice_get rest 3 ≡ Some first) (typed : (first == 1) ≡ false)
        (last : ℕ) (at : slice_get rest (n - 1) ≡ Some last) where
      long : n ≤ length rest
      long = omega (arith, get_some rest (n - 1) last at)

      -- a text with the same first n bytes
      body_at : (more : List ℕ) → found_body before n (take n rest ++ more)
          ≡ found_last before n (take n rest ++ more) (Some last)
      body_at more =
          let x = take n rest ++ more in
          let size : length (take n rest) ≡ n = omega (arith, length-take n rest, long) in
          let same : take 3 x ≡ take 3 rest = take-append-le
          3 (take n rest) more (omega (arith, size)) ∙ take-take 3 n rest (omega arith) in
          let third_is : slice_get x 3 ≡ Some first = get_append
          (take n rest) more 3 (omega (arith, size)) ∙ get_take n 3 rest (omega arith) ∙ third in
          let last_is : slice_get x (n - 1) ≡ Some last = get_append (take n rest)
          more (n - 1) (omega (arith, size)) ∙ get_take n (n - 1) rest (omega arith) ∙ at in
          come x (found_type before n x (slice_get x 3)) same ∙ ap (found_type before n x) third_is
          ∙ if_false (first == 1) _ _ typed ∙ ap (found_last before n x) last_is

      front_is : (more : List ℕ) → take n (take n rest ++ more) ≡ take n rest
      front_is more = take_at (take n rest) more n (omega (arith, length-take n rest, long))

      back_is : (more : List ℕ) → drop n (take n rest ++ more) ≡ more
      back_is more = drop_at (take n rest) more n (omega (arith, length-take n rest, long))

      last_shrinks : found_last before n rest (Some last) ≡ Broken cause after → Result
      last_shrinks is = if_broken Result (last == 1) _ _ _ is
          (λ soh trailer.
          let r = trailer_shrinks before (take n rest) (drop n rest) cause after trailer in (
            take n rest ++ r.0,
            sym (take-append-drop n rest) ∙ ap (λ (l : List ℕ). take n rest ++ l) r.1
                ∙ sym (append_assoc (take n rest) r.0 after),
            body_at r.0 ∙ if_true (last == 1) _ _ soh ∙ ap
                (λ (l : List ℕ). found_trailer before l (drop n (take n rest ++ r.0)))
                (front_is r.0)
                ∙ ap (found_trailer before (take n rest)) (back_is r.0) ∙ r.2,
          ))
          (λ other broken.
          let cause_is : (if list_any (λ b. b == 1) (drop 4 (take n rest))
          then Trailer else TypeField) ≡ cause = cc broken in
          let after_is : drop n rest ≡ after = cc broken in (
            take n rest ++ [],
            sym (take-append-drop n rest) ∙ ap (λ (l : List ℕ). take n rest ++ l) after_is
                ∙ ap (λ (l : List ℕ). l ++ after) (sym (append-nil (take n rest))),
            body_at [] ∙ if_false (last == 1) _ _ other
                ∙ ap (λ (l : List ℕ). Broken (if list_any (λ b. b == 1) (drop 4 l)
                then Trailer else TypeField) (drop n (take n rest ++ []))) (front_is [])
                ∙ ap (λ k. Broken k (drop n (take n rest ++ []))) cause_is
                ∙ ap (λ (l : List ℕ). Broken cause l) (back_is []),
          ))

    module _ (come : (other : List ℕ) (g : Found)
        → take 3 other ≡ take 3 rest → expect (codes "35=") TypeField (λ _. g) other ≡ g) where
      none_found : (o : Option ℕ)
          → slice_get rest (n - 1) ≡ o → (first : ℕ) → slice_get rest 3 ≡ Some
          first → (first == 1) ≡ false → found_last before n rest o ≡ Broken cause after → Result
      none_found None at first third typed is = absurd (cc is)
      none_found (Some last) at first third typed is =
          last_shrinks come first third typed last at is

      type_shrinks : (o : Option ℕ)
          → slice_get rest 3 ≡ o → found_type before n rest o ≡ Broken cause after → Result
      type_shrinks None third is = absurd (cc is)
      type_shrinks (Some first) third is = if_broken Result (first == 1) _ _ _ is
          (λ soh broken.
          let cause_is : TypeField ≡ cause = cc broken in
          let after_is : drop 4 rest ≡ after = cc broken in
          let third_is : slice_get (take 4 rest) 3 ≡ Some first =
          get_take 4 3 rest (omega arith) ∙ third in
          let nothing : drop 4 (take 4 rest) ≡ [] =
          drop_all 4 (take 4 rest) (omega (arith, length-take 4 rest)) in (
            take 4 rest,
            sym (take-append-drop 4 rest) ∙ ap (λ (l : List ℕ). take 4 rest ++ l) after_is,
            come (take 4 rest) (found_type before n (take 4 rest) (slice_get (take 4 rest) 3))
                (take-take 3 4 rest (omega arith)) ∙ ap (found_type before n (take 4 rest)) third_is
                ∙ if_true (first == 1) _ _ soh ∙ ap (λ (l : List ℕ). Broken TypeField l) nothing
                ∙ ap (λ k. Broken k []) cause_is,
          ))
          (λ typed more. none_found (slice_get rest (n - 1)) refl first third typed more)

    body_shrinks : found_body before n rest ≡ Broken cause after → Result
    body_shrinks is = elim (expect_const
        (codes "35=") TypeField (found_type before n rest (slice_get rest 3)) rest cause after is) [
          | inl r ↦ (r.0, r.1, r.2 (found_type before n r.0 (slice_get r.0 3)))
          | inr r ↦ type_shrinks r.1 (slice_get rest 3) refl r.0
        ]

said_shrinks : (start digits : List ℕ) (said : ℕ) → Shrinks (found_said start digits said)
said_shrinks start [] said rest cause after is =
    let cause_is : Broken LengthField [] ≡ Broken cause [] = cc is in
    let after_is : rest ≡ after = cc is in
    ([], after_is, cause_is)
said_shrinks start (d ∷ digits) said rest cause after is =
    let P : Type 0 = (front : List ℕ)
    × (rest ≡ front ++ after) × (found_said start (d ∷ digits) said front ≡ Broken cause []) in
    if_broken P (nat_lt 8192 said) _ _ _ is
    (λ big broken.
    let cause_is : Broken (TooLong said) [] ≡ Broken cause [] = cc broken in
    let after_is : rest ≡ after = cc broken in
    ([], after_is, if_true (nat_lt 8192 said) _ _ big ∙ cause_is))
    (λ not_big more. if_broken P (nat_lt said 5) _ _ _ more
    (λ small broken.
    let cause_is : Broken TypeField [] ≡ Broken cause [] = cc broken in
    let after_is : rest ≡ after = cc broken in (
      [],
      after_is,
      if_false (nat_lt 8192 said) _ _ not_big ∙ if_true (nat_lt said 5) _ _ small ∙ cause_is,
    ))
    (λ not_small body.
    let least : 5 ≤ said = grind (arith, nat_tests, not_small) in
    let r = body_shrinks (start ++ (d ∷ digits) ++ 1 ∷ []) said least rest cause after body in (
      r.0,
      r.1,
      if_false (nat_lt 8192 said) _ _ not_big ∙ if_false (nat_lt said 5) _ _ not_small ∙ r.2,
    )))

length_shrinks : (start digits : List ℕ) → Shrinks (found_length start digits)
length_shrinks start digits [] cause after is = absurd (cc is)
length_shrinks start digits (b ∷ rest) cause after is =
    let P : Type 0 = (front : List ℕ)
    × (b ∷ rest ≡ front ++ after) × (found_length start digits front ≡ Broken cause []) in
    if_broken P (b == 1) _ _ _ is
    (λ soh said. let r = said_shrinks start digits (digits_value 10 digits) rest cause after said
    in (b ∷ r.0, ap (λ (l : List ℕ). b ∷ l) r.1, if_true (b == 1) _ _ soh ∙ r.2))
    (λ other more. if_broken P (is_ascii_digit b && nat_lt (length digits) 7) _ _ _ more
    (λ digit later.
    let r = length_shrinks start (digits ++ b ∷ []) rest cause after later in (
      b ∷ r.0,
      ap (λ (l : List ℕ). b ∷ l) r.1,
      if_false (b == 1) _ _ other
          ∙ if_true (is_ascii_digit b && nat_lt (length digits) 7) _ _ digit ∙ r.2,
    ))
    (λ none broken.
    let cause_is : Broken LengthField [] ≡ Broken cause [] = cc broken in
    let after_is : rest ≡ after = cc broken in (
      b ∷ [],
      ap (λ (l : List ℕ). b ∷ l) after_is,
      if_false (b == 1) _ _ other
          ∙ if_false (is_ascii_digit b && nat_lt (length digits) 7) _ _ none ∙ cause_is,
    )))

pub found_shrinks : (kind : Kind) → Shrinks (found kind)
found_shrinks kind =
    expect_shrinks (begin_string kind)
    BeginString _ (expect_shrinks (codes "9=") LengthField _ (length_shrinks (opening kind) []))

pub no_frame : (kind : Kind) (front : List ℕ) (cause : Garble) → found kind front ≡ Broken cause []
    → (body more : List ℕ) → IsFrame kind body (front ++ more) → ⊥
no_frame kind front cause is body more frame =
    let grows : found kind (front ++ more) ≡ Broken cause more =
    subst (λ f. Grows more f (found kind (front ++ more))) is (found_grows more kind front) in
    let whole : found kind (front ++ more) ≡ Whole body [] = ap (found kind)
    (sym (append-nil (front ++ more))) ∙ found_frame kind body (front ++ more) [] frame in
    cc (grows, whole)

pub shorter : (kind : Kind) (front : List ℕ) (cause : Garble) → found kind front ≡ Broken cause []
    → (n : ℕ) → n < length front → found kind (take n front) ≡ Short
shorter kind front cause is n below = at (found kind (take n front)) grows
  where
    grows : Grows (drop n front) (found kind (take n front)) (Broken cause [])
    grows = subst (λ f. Grows (drop n front) (found kind (take n front)) f) (ap (found kind)
        (take-append-drop n front) ∙ is) (found_grows (drop n front) kind (take n front))

    at : (f : Found) → Grows (drop n front) f (Broken cause []) → f ≡ Short
    at (Whole body after) g = absurd (cc g)
    at Short g = refl
    at (Broken other after) g = let nothing : [] ≡ after ++ drop n front = cc g in absurd (omega
        (arith, ap length nothing, length-append after (drop n front), length-drop n front, below))
