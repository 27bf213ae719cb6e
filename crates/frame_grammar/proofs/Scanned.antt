-- What came in the place of a text.
use Rattle.std.proofs.Common.{◌≡◌, ◌≢◌, ℕ, zero, suc, ◌+◌, ◌-◌, ◌<◌, ◌≤◌, Bool, true, false, List}
use Rattle.std.proofs.Common.{[], ◌∷◌, ◌++◌, length, take, drop, refl, sym, ◌∙◌, ap, subst, arith}
use Rattle.std.proofs.Common.{inl, inr, ◌⊎◌, length-append, append_assoc, length-take, length-drop}
use Rattle.std.proofs.Common.{get_or, Some, None}
use Rattle.std.specs.Str.{bytes_eq}
use Rattle.std.specs.Prelude.{◌==◌, ◌&&◌, nat_lt, if◌then◌else◌, codes, slice_get}
use Rattle.std.specs.List.{list_any}
use Rattle.std.proofs.lemmas.List.{take_all, take_at}
use Rattle.std.proofs.lemmas.Bool.{cases_eq}
use Rattle.std.proofs.lemmas.Bool.Decides.{nat_tests}
use Rattle.std.specs.Char.{is_ascii_digit}
use Rattle.frame_grammar.specs.declared.frame.Garble.TheVariants.{LengthField, TooLong, TypeField}
use Rattle.frame_grammar.specs.declared.frame.Garble.TheVariants.{Trailer}
use Rattle.frame_grammar.specs.Frame.{trailer}
use Rattle.frame_grammar.specs.Found.{Found, Whole, Short, Broken, expect, expect_sum, found_length}
use Rattle.frame_grammar.specs.Found.{found_said, found_trailer, found_body, found_type, found_last}
use Rattle.frame_grammar.specs.declared.frame.Garble.{Garble}
use Rattle.frame_grammar.specs.declared.scan.Stop.{Stop}
use Rattle.frame_grammar.specs.Scan.{IsStop, Leads}
use Rattle.std.specs.declared.result.Result.{Result}

pub if_true : {A : Type 0} (c : Bool) (x y : A) → c ≡ true → (if c then x else y) ≡ x
if_true c x y is = ap (λ b. if b then x else y) is

pub if_false : {A : Type 0} (c : Bool) (x y : A) → c ≡ false → (if c then x else y) ≡ y
if_false c x y is = ap (λ b. if b then x else y) is

-- what came of a text: all of it, a front of it, or another byte
pub came : (t bytes : List ℕ) (cause : Garble) (go : List ℕ → Found)
    → take (length t) bytes ≡ t → expect t cause go bytes ≡ go (drop (length t) bytes)
came [] bytes cause go is = refl
came (x ∷ t) [] cause go is = absurd (cc is)
came (x ∷ t) (b ∷ bytes) cause go is =
    let head : b ≡ x = cc is in
    let tail : take (length t) bytes ≡ t = cc is in
    let same : (b == x) ≡ true = grind (arith, nat_tests) in
    if_true (b == x) _ _ same ∙ came t bytes cause go tail

pub more : (t bytes : List ℕ) (cause : Garble) (go : List ℕ → Found)
    → (take (length t) bytes ≡ t → ⊥)
    → take (length bytes) t ≡ bytes → expect t cause go bytes ≡ Short
more [] bytes cause go not_came is = absurd (not_came refl)
more (x ∷ t) [] cause go not_came is = refl
more (x ∷ t) (b ∷ bytes) cause go not_came is =
    let head : x ≡ b = cc is in
    let tail : take (length bytes) t ≡ bytes = cc is in
    let same : (b == x) ≡ true = grind (arith, nat_tests) in
    if_true (b == x) _ _ same ∙ more t bytes cause go (λ all. not_came (cc (head, all))) tail

pub wrong : (t bytes : List ℕ) (cause : Garble) (go : List ℕ → Found)
    → (take (length t) bytes ≡ t → ⊥) → (take (length bytes) t ≡ bytes → ⊥)
    → (after : List ℕ) × (expect t cause go bytes ≡ Broken cause after)
wrong [] bytes cause go not_came not_more = absurd (not_came refl)
wrong (x ∷ t) [] cause go not_came not_more = absurd (not_more refl)
wrong (x ∷ t) (b ∷ bytes) cause go not_came not_more = elim (cases_eq b x) [
  | inl head ↦
      let same : (b == x) ≡ true = grind (arith, nat_tests) in
      let r = wrong
      t bytes cause go (λ all. not_came (cc (head, all))) (λ all. not_more (cc (head, all))) in
      (r.0, if_true (b == x) _ _ same ∙ r.1)
  | inr other ↦
      let differs : (b == x) ≡ false = grind (arith, nat_tests) in
      (bytes, if_false (b == x) _ _ differs)
]

-- one digit more of a length
pub length_step : (start seen : List ℕ) (b : ℕ) (rest : List ℕ)
    → b ≢ 1 → is_ascii_digit b ≡ true → length seen < 7
    → found_length start seen (b ∷ rest) ≡ found_length start (seen ++ b ∷ []) rest
length_step start seen b rest other digit room =
    let not_soh : (b == 1) ≡ false = grind (arith, nat_tests) in
    let short : nat_lt (length seen) 7 ≡ true = grind (arith, nat_tests) in
    let both : (is_ascii_digit b && nat_lt (length seen) 7) ≡ true =
    ap (λ c. c && nat_lt (length seen) 7) digit ∙ short in
    if_false (b == 1) _ _ not_soh ∙ if_true (is_ascii_digit b && nat_lt (length seen) 7) _ _ both

pub length_wrong : (start seen : List ℕ) (b : ℕ) (rest : List ℕ)
    → b ≢ 1 → ((is_ascii_digit b ≡ false) ⊎ (7 ≤ length seen))
    → found_length start seen (b ∷ rest) ≡ Broken LengthField rest
length_wrong start seen b rest other why =
    let not_soh : (b == 1) ≡ false = grind (arith, nat_tests) in
    if_false (b == 1) _ _ not_soh
    ∙ if_false (is_ascii_digit b && nat_lt (length seen) 7) _ _ (neither why)
  where
    and_false : (c : Bool) → (c && false) ≡ false
    and_false true = refl
    and_false false = refl

    neither : ((is_ascii_digit b ≡ false) ⊎ (7 ≤ length seen))
        → (is_ascii_digit b && nat_lt (length seen) 7) ≡ false
    neither (inl no_digit) = ap (λ c. c && nat_lt (length seen) 7) no_digit
    neither (inr long) = let full : nat_lt (length seen) 7 ≡ false = grind (arith, nat_tests)
        in ap (λ c. is_ascii_digit b && c) full ∙ and_false (is_ascii_digit b)

-- what `&xs[k..]` is
pub rest_of : (xs : List ℕ) (k : ℕ) → take (length xs - k) (drop k xs) ≡ drop k xs
rest_of xs k = take_all _ _ (omega (arith, length-drop k xs))

-- a stop that is moved along an equation
pub stop_at : (stop : Stop) (f g : Found) → f ≡ g → IsStop stop g → IsStop stop f
stop_at stop f g is h = subst (IsStop stop) (sym is) h

pub leads_at : (r : Result Unit Stop) (f g next : Found) → f ≡ g → Leads r g next → Leads r f next
leads_at r f g next is h = subst (λ x. Leads r x next) (sym is) h

-- the trailer by its seven bytes, part by part
module _ (before body given : List ℕ) (is : given ≡ trailer (before ++ body)) where
  abbrev closing : List ℕ → Found
  closing = expect (take 1 (drop 6 given)) Trailer (λ after. Whole body after)

  by_parts : (s : List ℕ) → found_trailer before body s
      ≡ expect (take 3 given) Trailer (expect_sum (take 3 (drop 3 given)) closing) s
  by_parts s = sym (ap (λ (l : List ℕ). expect (take 3 l) Trailer (expect_sum
      (take 3 (drop 3 l)) (expect (take 1 (drop 6 l)) Trailer (λ after. Whole body after))) s) is)

  pub trailer_stops : (stop : Stop) (s : List ℕ)
      → ((go : List ℕ → Found) → IsStop stop (expect (take 3 given) Trailer go s))
      → IsStop stop (found_trailer before body s)
  trailer_stops stop s h =
      stop_at stop _ _ (by_parts s) (h (expect_sum (take 3 (drop 3 given)) closing))

  module _ (s s1 : List ℕ)
      (ten : (go : List ℕ → Found) → expect (take 3 given) Trailer go s ≡ go s1) where
    pub digits_stop : (stop : Stop)
        → ((go : List ℕ → Found) → IsStop stop (expect_sum (take 3 (drop 3 given)) go s1))
        → IsStop stop (found_trailer before body s)
    digits_stop stop h =
        stop_at stop _ _ (by_parts s ∙ ten (expect_sum (take 3 (drop 3 given)) closing)) (h closing)

    pub trailer_leads : (s2 s3 : List ℕ)
        → ((go : List ℕ → Found) → expect_sum (take 3 (drop 3 given)) go s1 ≡ go s2)
        → (r : Result Unit Stop)
        → ((go : List ℕ → Found) → Leads r (expect (take 1 (drop 6 given)) Trailer go s2) (go s3))
        → Leads r (found_trailer before body s) (Whole body s3)
    trailer_leads s2 s3 digits r h =
        leads_at r _ _ (Whole body s3)
        (by_parts s ∙ ten (expect_sum (take 3 (drop 3 given)) closing) ∙ digits closing)
        (h (λ after. Whole body after))

get_some : (xs : List ℕ) (k : ℕ) → k < length xs → slice_get xs k ≡ Some (get_or xs k 0)
get_some [] k within = absurd (omega arith)
get_some (x ∷ xs) zero within = refl
get_some (x ∷ xs) (suc k) within = get_some xs k (omega arith)

get_none : (xs : List ℕ) (k : ℕ) → length xs ≤ k → slice_get xs k ≡ None
get_none [] k past = refl
get_none (x ∷ xs) zero past = absurd (omega arith)
get_none (x ∷ xs) (suc k) past = get_none xs k (omega arith)

-- a body, as its bytes come
module _ (before : List ℕ) (n : ℕ) (least : 5 ≤ n) (rest : List ℕ) where
  module _ (begun : (go : List ℕ → Found)
      → expect (codes "35=") TypeField go rest ≡ go (drop 3 rest)) where
    module _ (long : 4 ≤ length rest) where
      at_type : found_body before n rest ≡ found_type before n rest (Some (get_or rest 3 0))
      at_type = begun _ ∙ ap (found_type before n rest) (get_some rest 3 (omega arith))

      pub body_no_type : get_or rest 3 0 ≡ 1
          → found_body before n rest ≡ Broken TypeField (drop 4 rest)
      body_no_type is = at_type ∙ ap (λ (b : ℕ). found_type before n rest (Some b)) is

      module _ (typed : get_or rest 3 0 ≢ 1) where
        at_last : found_body before n rest ≡ found_last before n rest (slice_get rest (n - 1))
        at_last = let differs : (get_or rest 3 0 == 1) ≡ false =
            grind (arith, nat_tests, typed) in at_type ∙ if_false (get_or rest 3 0 == 1) _ _ differs

        pub body_awaited : length rest < n → found_body before n rest ≡ Short
        body_awaited short =
            at_last ∙ ap (found_last before n rest) (get_none rest (n - 1) (omega arith))

        module _ (whole : n ≤ length rest) where
          last_is : found_body before n rest
              ≡ found_last before n rest (Some (get_or rest (n - 1) 0))
          last_is = at_last
              ∙ ap (found_last before n rest) (get_some rest (n - 1) (omega (arith, least, whole)))

          pub body_open : get_or rest (n - 1) 0 ≢ 1 → found_body before n rest ≡ Broken (if list_any
              (λ b. b == 1) (drop 4 (take n rest)) then Trailer else TypeField) (drop n rest)
          body_open other =
              let differs : (get_or rest (n - 1) 0 == 1) ≡ false = grind (arith, nat_tests, other)
              in last_is ∙ if_false (get_or rest (n - 1) 0 == 1) _ _ differs

          pub body_shut : get_or rest (n - 1) 0 ≡ 1
              → found_body before n rest ≡ found_trailer before (take n rest) (drop n rest)
          body_shut is = last_is ∙ ap (λ (b : ℕ). found_last before n rest (Some b)) is

-- the length field has ended
pub said_some : (start digits : List ℕ) (said : ℕ) (rest : List ℕ)
    → 1 ≤ length digits → found_said start digits said rest
    ≡ (if nat_lt 8192 said then Broken (TooLong said) rest else if nat_lt said 5
    then Broken TypeField rest else found_body (start ++ digits ++ 1 ∷ []) said rest)
said_some start [] said rest some = absurd (omega arith)
said_some start (d ∷ digits) said rest some = refl

pub front_of : (l : List ℕ) (count : ℕ) → count < length l
    → l ≡ take count l ++ 1 ∷ drop (count + 1) l → take (count + 1) l ≡ take count l ++ 1 ∷ []
front_of l count within split =
    let size : length (take count l ++ 1 ∷ []) ≡ count + 1 =
    omega (arith, length-append (take count l) (1 ∷ []), length-take count l, within) in
    let grouped : take count l ++ 1 ∷ drop (count + 1) l ≡ (take count l ++ 1 ∷ [])
    ++ drop (count + 1) l = sym (append_assoc (take count l) (1 ∷ []) (drop (count + 1) l)) in
    ap (take (count + 1)) (split ∙ grouped)
    ∙ take_at (take count l ++ 1 ∷ []) (drop (count + 1) l) (count + 1) size

-- bytes that are shorter than a text do not begin with it
pub too_short : (text bytes : List ℕ) → length bytes < length text
    → bytes_eq text (take (length text) bytes) ≡ false
too_short [] bytes lt = absurd (omega (arith, lt))
too_short (t ∷ ts) [] lt = refl
too_short (t ∷ ts) (b ∷ bs) lt =
    ap (λ (same : Bool). (t == b) && same) (too_short ts bs (omega (arith, lt)))
    ∙ with_false (t == b)
  where
    with_false : (b : Bool) → (b && false) ≡ false
    with_false true = refl
    with_false false = refl
