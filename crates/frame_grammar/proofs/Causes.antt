-- The scan names the first rule that is broken.
use Rattle.std.proofs.Common.{◌≡◌, ◌≢◌, ℕ, zero, suc, ◌+◌, ◌-◌, ◌%◌, ◌<◌, ◌≤◌, Bool, true, false}
use Rattle.std.proofs.Common.{List, [], ◌∷◌, ◌++◌, length, take, drop, refl, sym, ◌∙◌, ap, subst}
use Rattle.std.proofs.Common.{arith, append_assoc, append-nil, length-append, length-take}
use Rattle.std.proofs.Common.{take-append-drop, All, Some, None, inl, inr, ◌⊎◌, replicate}
use Rattle.std.specs.Prelude.{◌==◌, ◌&&◌, ◌||◌, nat_lt, if◌then◌else◌, slice_get, codes, sum}
use Rattle.std.specs.Char.{is_ascii_digit}
use Rattle.std.specs.List.{list_any}
use Rattle.std.specs.Str.Parse.{digits_value}
use Rattle.std.specs.declared.option.Option.{Option}
use Rattle.std.proofs.lemmas.Bool.Decides.{nat_tests}
use Rattle.std.proofs.lemmas.List.{take-append-le, drop-append-le}
use Rattle.std.proofs.lemmas.List.Elements.{All-head, All-tail, All-cons}
use Rattle.frame_grammar.specs.declared.frame.Kind.{Kind}
use Rattle.frame_grammar.specs.declared.frame.Garble.{Garble}
use Rattle.frame_grammar.specs.declared.frame.Garble.TheVariants.{BeginString, LengthField, TooLong}
use Rattle.frame_grammar.specs.declared.frame.Garble.TheVariants.{TypeField, Trailer, Sum}
use Rattle.frame_grammar.specs.declared.frame.TheConstants.{SOH}
use Rattle.frame_grammar.specs.Frame.{begin_string, opening, three_digits, IsDigit}
use Rattle.frame_grammar.specs.Frame.{SaysLength}
use Rattle.frame_grammar.specs.Found.{Found, Whole, Short, Broken, expect, expect_sum}
use Rattle.frame_grammar.specs.Found.{found_trailer, found_last, found_type, found_body, found_said}
use Rattle.frame_grammar.specs.Found.{found_length, found}
use Rattle.frame_grammar.specs.Cause.{Says, HasBody, HasType, Meets}
use Rattle.frame_grammar.specs.Cause.{MeetsBefore, BreaksFirst, IsAwaited, IsShortest}
use Rattle.frame_grammar.proofs.Digits.{digit_low}
use Rattle.frame_grammar.proofs.Begins.{expect_text, if_true}
use Rattle.frame_grammar.proofs.Begins.{if_false}
use Rattle.frame_grammar.proofs.Awaits.{awaited}
use Rattle.frame_grammar.proofs.Breaks.{found_shrinks, no_frame, shorter}
use Rattle.frame_grammar.proofs.Grow.{Grows, found_grows}
use Rattle.frame_grammar.proofs.Meets.{choose, body_after, meets_after}

-- what comes before the byte that breaks a rule
expect_past : (text : List ℕ) (own : Garble) (go : List ℕ → Found) (s : List ℕ)
    (cause : Garble) (after : List ℕ) → own ≢ cause → expect text own go s ≡ Broken cause after
    → (rest : List ℕ) × (s ≡ text ++ rest) × (go rest ≡ Broken cause after)
expect_past [] own go s cause after other is = (s, refl, is)
expect_past (t ∷ text) own go [] cause after other is = absurd (cc is)
expect_past (t ∷ text) own go (b ∷ s) cause after other is =
    choose ((rest : List ℕ) × (b ∷ s ≡ (t ∷ text) ++ rest) × (go rest ≡ Broken cause after))
    (b == t) _ _ _ is
    (λ same more.
    let r = expect_past text own go s cause after other more in
    let head : b ≡ t = grind (arith, nat_tests, same) in
    (r.0, cc (head, r.1), r.2))
    (λ _ broken. let mine : own ≡ cause = cc broken in absurd (other mine))

-- BodyLength that goes on to be judged
pub record Read (start seen s : List ℕ) (cause : Garble) (after : List ℕ) : Type 0 where
  pub digits : List ℕ
  pub rest : List ℕ
  pub split : s ≡ digits ++ 1 ∷ rest
  pub each : All IsDigit (seen ++ digits)
  pub few : length (seen ++ digits) ≤ 7
  pub goes_on : found_said start (seen ++ digits) (digits_value 10 (seen ++ digits)) rest
      ≡ Broken cause after

both_true : (c d : Bool) → (c && d) ≡ true → (c ≡ true) × (d ≡ true)
both_true true d is = (refl, is)
both_true false d is = absurd (cc is)

All-snoc : (xs : List ℕ) (x : ℕ) → All IsDigit xs → IsDigit x → All IsDigit (xs ++ x ∷ [])
All-snoc [] x each last = All-cons IsDigit x [] last each
All-snoc (y ∷ xs) x each last = All-cons IsDigit
    y (xs ++ x ∷ []) (All-head IsDigit y xs each) (All-snoc xs x (All-tail IsDigit y xs each) last)

length_past : (start seen s : List ℕ) (cause : Garble) (after : List ℕ) → All IsDigit seen
    → length seen ≤ 7 → LengthField ≢ cause → found_length start seen s ≡ Broken cause after
    → Read start seen s cause after
length_past start seen [] cause after each few other is = absurd (cc is)
length_past start seen (b ∷ s) cause after each few other is =
    choose (Read start seen (b ∷ s) cause after) (b == 1) _ _ _ is
    (λ soh said. let same : b ≡ 1 = grind (arith, nat_tests, soh) in
    record {
      digits = [];
      rest = s;
      split = ap (λ x. x ∷ s) same;
      each = subst (All IsDigit) (sym (append-nil seen)) each;
      few = omega (arith, ap length (append-nil seen), few);
      goes_on = ap (λ l. found_said start l (digits_value 10 l) s) (append-nil seen) ∙ said;
    })
    (λ _ more. choose (Read start seen (b ∷ s) cause after)
    (is_ascii_digit b && nat_lt (length seen) 7) _ _ _ more
    (λ both later.
    let digit = both_true (is_ascii_digit b) (nat_lt (length seen) 7) both in
    let room = digit.1 in
    let below : length seen < 7 = grind (arith, nat_tests, room) in
    let r = length_past start (seen ++ b ∷ []) s cause after (All-snoc seen b each digit.0)
    (omega (arith, length-append seen (b ∷ []), below)) other later in
    let join : (seen ++ b ∷ []) ++ r.digits ≡ seen ++ (b ∷ r.digits) =
    append_assoc seen (b ∷ []) r.digits in
    record {
      digits = b ∷ r.digits;
      rest = r.rest;
      split = ap (λ l. b ∷ l) r.split;
      each = subst (All IsDigit) join r.each;
      few = subst (λ l. length l ≤ 7) join r.few;
      goes_on = ap (λ l. found_said start l (digits_value 10 l) r.rest) (sym join) ∙ r.goes_on;
    })
    (λ _ broken. let mine : LengthField ≡ cause = cc broken in absurd (other mine)))

-- what a judged length was
abbrev Judged : List ℕ → List ℕ → ℕ → List ℕ → Garble → List ℕ → Type 0
Judged start digits said rest cause after = ((cause ≡ TooLong said) × (8192 < said))
    ⊎ ((said ≤ 8192) × ((TypeField ≡ cause)
    ⊎ ((5 ≤ said) × (found_body (start ++ digits ++ 1 ∷ []) said rest ≡ Broken cause after))))

said_past : (start digits : List ℕ) (said : ℕ) (rest : List ℕ) (cause : Garble) (after : List ℕ)
    → LengthField ≢ cause → found_said start digits said rest ≡ Broken cause after
    → (1 ≤ length digits) × Judged start digits said rest cause after
said_past start [] said rest cause after other is =
    let mine : LengthField ≡ cause = cc is in absurd (other mine)
said_past start (d ∷ digits) said rest cause after other is = (
  omega arith,
  choose (Judged start (d ∷ digits) said rest cause after) (nat_lt 8192 said) _ _ _ is
      (λ long broken. let mine : cause ≡ TooLong said = cc (sym broken) in let above : 8192 < said =
      grind (arith, nat_tests, long) in inl (mine, above))
      (λ fits more. let most : said ≤ 8192 = grind (arith, nat_tests, fits) in
      choose (Judged start (d ∷ digits) said rest cause after) (nat_lt said 5) _ _ _ more
      (λ _ broken. let mine : TypeField ≡ cause = cc broken in inr (most, inl mine))
      (λ enough body. let least : 5 ≤ said =
      grind (arith, nat_tests, enough) in inr (most, inr (least, body)))),
)

-- the first SOH of a text that has one
first_soh : (xs : List ℕ) → list_any (λ b. b == 1) xs ≡ true
    → (name rest : List ℕ) × All (λ b. b ≢ SOH) name × (xs ≡ name ++ SOH ∷ rest)
first_soh [] has = absurd (cc has)
first_soh (x ∷ xs) has = at (x == 1) refl (λ h. first_soh xs h) has
  where
    at : (c : Bool) → (x == 1) ≡ c → (list_any (λ b. b == 1) xs ≡ true → (name rest : List ℕ) × All
        (λ b. b ≢ SOH) name × (xs ≡ name ++ SOH ∷ rest)) → (c || list_any (λ b. b == 1) xs) ≡ true
        → (name rest : List ℕ) × All (λ b. b ≢ SOH) name × (x ∷ xs ≡ name ++ SOH ∷ rest)
    at true soh next has = let same : x ≡ 1 = grind (arith, nat_tests, soh)
        in ([], xs, (λ k d within. absurd (omega arith)), ap (λ y. y ∷ xs) same)
    at false other next has =
        let r = next has in
        let differs : x ≢ SOH = λ same. let test : (x == 1) ≡ true =
        grind (arith, nat_tests, same) in absurd (cc (test, other)) in
        (x ∷ r.0, r.1, All-cons (λ b. b ≢ SOH) x r.0 differs r.2, ap (λ l. x ∷ l) r.3)

any_get : (xs : List ℕ) (k m : ℕ)
    → slice_get xs k ≡ Some 1 → k < m → list_any (λ b. b == 1) (take m xs) ≡ true
any_get [] k m is below = absurd (cc is)
any_get (x ∷ xs) k zero is below = absurd (omega arith)
any_get (x ∷ xs) zero (suc m) is below =
    let same : x ≡ 1 = cc is in ap (λ y. list_any (λ b. b == 1) (y ∷ take m xs)) same
any_get (x ∷ xs) (suc k) (suc m) is below = at (x == 1) (any_get xs k m is (omega arith))
  where
    at : (c : Bool) → list_any (λ b. b == 1) (take m xs) ≡ true
        → (c || list_any (λ b. b == 1) (take m xs)) ≡ true
    at true has = refl
    at false has = has

take_last : (xs : List ℕ) (k x : ℕ)
    → slice_get xs k ≡ Some x → (start : List ℕ) × (take (suc k) xs ≡ start ++ x ∷ [])
take_last [] k x is = absurd (cc is)
take_last (y ∷ xs) zero x is = let same : y ≡ x = cc is in ([], ap (λ z. z ∷ []) same)
take_last (y ∷ xs) (suc k) x is = let r = take_last xs k x is in (y ∷ r.0, ap (λ l. y ∷ l) r.1)

get_within : (xs : List ℕ) (k x : ℕ) → slice_get xs k ≡ Some x → k < length xs
get_within [] k x is = absurd (cc is)
get_within (y ∷ xs) zero x is = omega arith
get_within (y ∷ xs) (suc k) x is = omega (arith, get_within xs k x is)

-- a body that has come and has a type
pub record Come (before : List ℕ) (n : ℕ) (rest : List ℕ) (cause : Garble) (after : List ℕ) : Type 0
  where
    pub whole : n ≤ length rest
    pub type : HasType (take n rest)
    pub goes_on : (Trailer ≡ cause) ⊎ (((start : List ℕ) × (take n rest ≡ start ++ SOH ∷ []))
        × (found_trailer before (take n rest) (drop n rest) ≡ Broken cause after))

-- behind `35=` and the first byte of the type
module _ (before : List ℕ) (m first : ℕ) (tail : List ℕ) (cause : Garble)
    (after : List ℕ) (other : TypeField ≢ cause) (not_soh : first ≢ SOH) (some : 1 ≤ m) where
  abbrev n : ℕ
  n = suc (suc (suc (suc m)))

  abbrev rest : List ℕ
  rest = codes "35=" ++ first ∷ tail

  type_of : list_any (λ b. b == 1) (take m tail) ≡ true → HasType (take n rest)
  type_of has =
      let r = first_soh (take m tail) has in (
        first ∷ r.0,
        r.1,
        (λ none. absurd (cc none)),
        All-cons (λ b. b ≢ SOH) first r.0 not_soh r.2,
        ap (λ l. codes "35=" ++ first ∷ l) r.3,
      )

  last_past : (o : Option ℕ) → slice_get rest (n - 1) ≡ o
      → found_last before n rest o ≡ Broken cause after → Come before n rest cause after
  last_past None at is = absurd (cc is)
  last_past (Some last) at is =
      let k : n - 1 ≡ suc (suc (suc m)) = omega arith in
      let here : slice_get rest (suc (suc (suc m))) ≡ Some last =
      ap (slice_get rest) (sym k) ∙ at in
      let long : n ≤ length rest = omega (arith, get_within rest (suc (suc (suc m))) last here) in
      choose (Come before n rest cause after) (last == 1) _ _ _ is
      (λ soh trailing.
      let same : last ≡ 1 = grind (arith, nat_tests, soh) in
      let j : m ≡ suc (m - 1) = omega arith in
      let inner : slice_get tail (m - 1) ≡ Some 1 =
      ap (λ i. slice_get (first ∷ tail) i) (sym j) ∙ here ∙ ap (λ (x : ℕ). Some x) same in
      let end = take_last rest (suc (suc (suc m))) last here in
      record {
        whole = long;
        type = type_of (any_get tail (m - 1) m inner (omega arith));
        goes_on = inr ((end.0, end.1 ∙ ap (λ x. end.0 ++ x ∷ []) same), trailing);
      })
      (λ _ broken. at_any (list_any (λ b. b == 1) (take m tail)) refl long broken)
    where
      at_any : (c : Bool) → list_any (λ b. b == 1) (take m tail) ≡ c → n ≤ length rest
          → Broken (if list_any (λ b. b == 1) (take m tail) then Trailer else TypeField)
          (drop n rest) ≡ Broken cause after → Come before n rest cause after
      at_any true has long broken =
          let mine : Trailer ≡ cause = cc
          (sym (ap (λ c. Broken (if c then Trailer else TypeField) (drop n rest)) has) ∙ broken)
          in
          record { whole = long; type = type_of has; goes_on = inl mine }
      at_any false has long broken =
          let mine : TypeField ≡ cause = cc
          (sym (ap (λ c. Broken (if c then Trailer else TypeField) (drop n rest)) has) ∙ broken)
          in absurd (other mine)

body_past : (before : List ℕ) (n : ℕ) (rest : List ℕ) (cause : Garble) (after : List ℕ)
    → 5 ≤ n → TypeField ≢ cause
    → found_body before n rest ≡ Broken cause after → Come before n rest cause after
body_past before n rest cause after least other is =
    let begun = expect_past (codes "35=")
    TypeField (λ _. found_type before n rest (slice_get rest 3)) rest cause after other is in
    at n rest least begun.0 begun.1 begun.2
  where
    at : (n : ℕ) (rest : List ℕ) → 5 ≤ n → (tail : List ℕ) → rest ≡ codes "35=" ++ tail → found_type
        before n rest (slice_get rest 3) ≡ Broken cause after → Come before n rest cause after
    at zero rest least tail split is = absurd (omega arith)
    at (suc zero) rest least tail split is = absurd (omega arith)
    at (suc (suc zero)) rest least tail split is = absurd (omega arith)
    at (suc (suc (suc zero))) rest least tail split is = absurd (omega arith)
    at (suc (suc (suc (suc m)))) rest least [] split is =
        let none : found_type before (suc (suc (suc (suc m)))) rest (slice_get (codes "35=") 3)
        ≡ Broken cause after = subst (λ l. found_type
        before (suc (suc (suc (suc m)))) rest (slice_get l 3) ≡ Broken cause after) split is in
        absurd (cc none)
    at (suc (suc (suc (suc m)))) rest least (first ∷ tail) split is =
        let k : ℕ = suc (suc (suc (suc m))) in
        let moved : found_type before k (codes "35=" ++ first ∷ tail) (Some first)
        ≡ Broken cause after =
        subst (λ l. found_type before k l (slice_get l 3) ≡ Broken cause after) split is in
        subst (λ l. Come before k l cause after) (sym split)
        (choose (Come before k (codes "35=" ++ first ∷ tail) cause after) (first == 1) _ _ _ moved
        (λ _ broken. let mine : TypeField ≡ cause = cc broken in absurd (other mine))
        (λ typed more.
        let not_soh : first ≢ SOH = λ same. let test : (first == 1) ≡ true =
        grind (arith, nat_tests, same) in absurd (cc (test, typed)) in
        last_past before m first tail cause after other
        not_soh (omega arith) (slice_get (codes "35=" ++ first ∷ tail) (k - 1)) refl more))

-- digits of a sum up to the one that differs
sum_past : (text : List ℕ) (go : List ℕ → Found) (s : List ℕ) (cause : Garble) (after : List ℕ)
    → Trailer ≢ cause → ((l : List ℕ) → go l ≡ Broken cause after → ⊥)
    → expect_sum text go s ≡ Broken cause after → (digits : List ℕ)
    × (s ≡ digits ++ after) × All IsDigit digits × (length digits ≤ length text)
sum_past [] go s cause after other nothing is = absurd (nothing s is)
sum_past (t ∷ text) go [] cause after other nothing is = absurd (cc is)
sum_past (t ∷ text) go (b ∷ s) cause after other nothing is =
    let P : Type 0 = (digits : List ℕ)
    × (b ∷ s ≡ digits ++ after) × All IsDigit digits × (length digits ≤ length (t ∷ text)) in
    choose P (is_ascii_digit b) _ _ _ is
    (λ digit chosen. choose P (b == t) _ _ _ chosen
    (λ _ more. let r = sum_past text go s cause after other nothing more
    in (b ∷ r.0, ap (λ l. b ∷ l) r.1, All-cons IsDigit b r.0 digit r.2, omega (arith, r.3)))
    (λ _ broken. let rest : s ≡ after = cc broken in (
      b ∷ [],
      ap (λ l. b ∷ l) rest,
      All-cons IsDigit b [] digit (λ k d within. absurd (omega arith)),
      omega arith,
    )))
    (λ _ broken. let mine : Trailer ≡ cause = cc broken in absurd (other mine))

trailer_past : (before body s : List ℕ) (cause : Garble) (after : List ℕ)
    → Trailer ≢ cause → found_trailer before body s ≡ Broken cause after
    → (digits : List ℕ)
    × (s ≡ codes "10=" ++ (digits ++ after)) × All IsDigit digits × (length digits ≤ 3)
trailer_past before body s cause after other is =
    let tens = three_digits (sum (before ++ body) % 256) in
    let closing : List ℕ → Found = expect (SOH ∷ []) Trailer (λ a. Whole body a) in
    let begun =
    expect_past (codes "10=") Trailer (expect_sum tens closing) s cause after other is in
    let r = sum_past tens closing begun.0 cause after other (λ l broken. let whole =
    (expect_past (SOH ∷ []) Trailer (λ a. Whole body a) l cause after other broken).2
    in absurd (cc whole)) begun.2 in
    (r.0, begun.1 ∙ ap (λ l. codes "10=" ++ l) r.1, r.2, r.3)

-- a front with BodyLength that was judged
module _ (kind : Kind) (text : List ℕ) (cause : Garble) (after : List ℕ) (begin : BeginString
    ≢ cause) (field : LengthField ≢ cause) (is : found kind text ≡ Broken cause after) where
  head : (rest : List ℕ) × (text ≡ begin_string kind ++ rest)
      × (expect (codes "9=") LengthField (found_length (opening kind) []) rest ≡ Broken cause after)
  head = expect_past (begin_string kind) BeginString
      (expect (codes "9=") LengthField (found_length (opening kind) [])) text cause after begin is

  tag : (rest : List ℕ)
      × (head.0 ≡ codes "9=" ++ rest) × (found_length (opening kind) [] rest ≡ Broken cause after)
  tag = expect_past
      (codes "9=") LengthField (found_length (opening kind) []) head.0 cause after field head.2

  read : Read (opening kind) [] tag.0 cause after
  read = length_past (opening kind)
      [] tag.0 cause after (λ k d within. absurd (omega arith)) (omega arith) field tag.2

  abbrev value : ℕ
  value = digits_value 10 read.digits

  judged : (1 ≤ length read.digits) × Judged (opening kind) read.digits value read.rest cause after
  judged = said_past (opening kind) read.digits value read.rest cause after field read.goes_on

  says : SaysLength read.digits value
  says = record { least = judged.0; most = read.few; each = read.each; value = refl }

  split : text ≡ (opening kind ++ read.digits) ++ SOH ∷ read.rest
  split = head.1 ∙ ap (λ l. begin_string kind ++ l) (tag.1 ∙ ap (λ l. codes "9=" ++ l) read.split)
      ∙ (let e : begin_string kind ++ (codes "9=" ++ (read.digits ++ SOH ∷ read.rest))
      ≡ (opening kind ++ read.digits) ++ SOH ∷ read.rest = simp append_assoc in e)

  said : Says kind value text
  said = (
    read.digits,
    says,
    (read.rest, split ∙ sym (append_assoc (opening kind ++ read.digits) (SOH ∷ []) read.rest)),
  )

  -- with enough bytes more there is a body
  module _ (most : value ≤ 8192) where
    filled : (more : List ℕ) → value ≤ length (read.rest ++ more) → HasBody
        kind (take value (read.rest ++ more)) (drop value (read.rest ++ more)) (text ++ more)
    filled more enough =
        let all = read.rest ++ more in
        let size : length (take value all) ≡ value = omega (arith, length-take value all, enough) in
        record {
          digits = read.digits;
          says = record { least = judged.0; most = read.few; each = read.each; value = sym size };
          most = omega (arith, size, most);
          joined = ap (λ l. l ++ more) split
              ∙ append_assoc (opening kind ++ read.digits) (SOH ∷ read.rest) more
              ∙ ap
              (λ l. (opening kind ++ read.digits) ++ SOH ∷ l) (sym (take-append-drop value all))
              ∙ sym (append_assoc
              (opening kind ++ read.digits) (SOH ∷ take value all) (drop value all));
        }

    measured : (more : List ℕ) × Meets kind (TooLong 0) (text ++ more)
    measured =
        let pad : List ℕ = replicate value 0 in (
          pad,
          (
            take value (read.rest ++ pad),
            drop value (read.rest ++ pad),
            filled pad (omega (arith, length-append read.rest pad, length-pad value)),
          ),
        )
      where
        length-pad : (k : ℕ) → length {A = ℕ} (replicate k 0) ≡ k
        length-pad zero = refl
        length-pad (suc k) = let more = length-pad k in omega (arith, more)

    module _ (least : 5 ≤ value) (type : TypeField ≢ cause) (body : found_body
        (opening kind ++ read.digits ++ 1 ∷ []) value read.rest ≡ Broken cause after) where
      come : Come (opening kind ++ read.digits ++ 1 ∷ []) value read.rest cause after
      come = body_past
          (opening kind ++ read.digits ++ 1 ∷ []) value read.rest cause after least type body

      -- the body is the same, whatever follows
      same_body : (more : List ℕ) → take value (read.rest ++ more) ≡ take value read.rest
      same_body more = take-append-le value read.rest more come.whole

      has_type : (more : List ℕ) → HasType (take value (read.rest ++ more))
      has_type more = subst HasType (sym (same_body more)) come.type

      typed_front : (more : List ℕ) → HasBody
          kind (take value (read.rest ++ more)) (drop value (read.rest ++ more)) (text ++ more)
      typed_front more = filled more (omega (arith, length-append read.rest more, come.whole))

      -- a sum that differs is filled up
      summed : Trailer ≢ cause → after ≡ [] → (more : List ℕ) × Meets kind Trailer (text ++ more)
      summed other none = elim come.goes_on [
        | inl mine ↦ absurd (other mine)
        | inr t ↦
            let r = trailer_past (opening kind ++ read.digits ++ 1 ∷ [])
            (take value read.rest) (drop value read.rest) cause after other t.1 in
            let zeros : List ℕ = replicate (3 - length r.0) 48 in
            let more = zeros ++ SOH ∷ [] in
            let behind : drop value (read.rest ++ more)
            ≡ (codes "10=" ++ (r.0 ++ zeros) ++ SOH ∷ []) ++ [] =
            drop-append-le value read.rest more come.whole
            ∙ ap (λ l. l ++ more) (r.1 ∙ ap (λ l. codes "10=" ++ (r.0 ++ l)) none)
            ∙ (let e : (codes "10=" ++ (r.0 ++ [])) ++ (zeros ++ SOH ∷ []) ≡ (codes "10="
            ++ (r.0 ++ zeros) ++ SOH ∷ []) ++ [] = simp (append_assoc, append-nil) in e) in (
              more,
              (
                take value (read.rest ++ more),
                drop value (read.rest ++ more),
                r.0 ++ zeros,
                typed_front more,
                has_type more,
                record {
                  ends = (t.0.0, same_body more ∙ t.0.1);
                  three =
                      omega (arith, length-append r.0 zeros, length-zeros (3 - length r.0), r.3);
                  each = All-both r.0 zeros r.2 (zeros_are (3 - length r.0));
                  comes = ([], behind);
                },
              ),
            )
      ]
        where
          length-zeros : (k : ℕ) → length {A = ℕ} (replicate k 48) ≡ k
          length-zeros zero = refl
          length-zeros (suc k) = let more = length-zeros k in omega (arith, more)

          zeros_are : (k : ℕ) → All IsDigit (replicate k 48)
          zeros_are zero = λ k d within. absurd (omega arith)
          zeros_are (suc k) = All-cons IsDigit 48 (replicate k 48) refl (zeros_are k)

          All-both : (xs ys : List ℕ) → All IsDigit xs → All IsDigit ys → All IsDigit (xs ++ ys)
          All-both [] ys a b = b
          All-both (x ∷ xs) ys a b = All-cons IsDigit
              x (xs ++ ys) (All-head IsDigit x xs a) (All-both xs ys (All-tail IsDigit x xs a) b)

-- The rules before the one that is named are met.
kept : (kind : Kind) (cause : Garble) (text : List ℕ)
    → found kind text ≡ Broken cause [] → (more : List ℕ) × MeetsBefore kind cause (text ++ more)
kept kind BeginString text is = ([], tt)
kept kind LengthField text is =
    let r = expect_past (begin_string kind) BeginString (expect (codes "9=") LengthField
    (found_length (opening kind) [])) text LengthField [] (λ same. absurd (cc same)) is in
    ([], (r.0, append-nil text ∙ r.1))
kept kind (TooLong n) text is =
    let c = TooLong n in
    let begin : BeginString ≢ c = λ same. absurd (cc same) in
    let field : LengthField ≢ c = λ same. absurd (cc same) in
    elim (judged kind text c [] begin field is).1 [
      | inl long ↦
          let same : value kind text c [] begin field is ≡ n = cc (sym long.0) in (
            [],
            (
              omega (arith, long.1, same),
              subst (Says kind n) (sym (append-nil text))
                  (subst (λ m. Says kind m text) same (said kind text c [] begin field is)),
            ),
          )
      | inr short ↦ elim short.1 [
        | inl mine ↦ absurd (cc mine)
        | inr body ↦
            let r = read kind text c [] begin field is in
            let low = body_after (opening kind ++ r.digits ++ 1 ∷ [])
            (value kind text c [] begin field is) r.rest c [] body.1 in
            absurd (omega (arith, low))
      ]
    ]
kept kind TypeField text is =
    let begin : BeginString ≢ TypeField = λ same. absurd (cc same) in
    let field : LengthField ≢ TypeField = λ same. absurd (cc same) in
    elim (judged kind text TypeField [] begin field is).1 [
      | inl long ↦
          absurd (cc long.0)
      | inr short ↦ measured kind text TypeField [] begin field is short.0
    ]
kept kind Trailer text is =
    let begin : BeginString ≢ Trailer = λ same. absurd (cc same) in
    let field : LengthField ≢ Trailer = λ same. absurd (cc same) in
    let type : TypeField ≢ Trailer = λ same. absurd (cc same) in
    elim (judged kind text Trailer [] begin field is).1 [
      | inl long ↦ absurd (cc long.0)
      | inr short ↦ elim short.1 [
        | inl mine ↦ absurd (cc mine)
        | inr body ↦ (
          [],
          (
            _,
            _,
            typed_front kind text Trailer [] begin field is short.0 body.0 type
                body.1 [],
            has_type kind text Trailer [] begin field is short.0 body.0 type body.1 [],
          ),
        )
      ]
    ]
kept kind Sum text is =
    let begin : BeginString ≢ Sum = λ same. absurd (cc same) in
    let field : LengthField ≢ Sum = λ same. absurd (cc same) in
    let type : TypeField ≢ Sum = λ same. absurd (cc same) in
    elim (judged kind text Sum [] begin field is).1 [
      | inl long ↦ absurd (cc long.0)
      | inr short ↦ elim short.1 [
        | inl mine ↦ absurd (cc mine)
        | inr body ↦ summed kind
            text Sum [] begin field is short.0 body.0 type body.1 (λ same. absurd (cc same)) refl
      ]
    ]

-- digits of BodyLength, which no SOH has ended
digits_open : (start seen digits : List ℕ)
    → All IsDigit digits → length seen + length digits ≤ 7 → found_length start seen digits ≡ Short
digits_open start seen [] each few = refl
digits_open start seen (d ∷ digits) each few =
    let digit = All-head IsDigit d digits each in
    let low = digit_low d digit in
    let not_soh : (d == 1) ≡ false = grind (arith, nat_tests) in
    let room : nat_lt (length seen) 7 ≡ true = grind (arith, nat_tests) in
    let both : (is_ascii_digit d && nat_lt (length seen) 7) ≡ true =
    ap (λ c. c && nat_lt (length seen) 7) digit ∙ room in
    if_false (d == 1) _ _ not_soh ∙ if_true (is_ascii_digit d && nat_lt (length seen) 7) _ _ both
    ∙ digits_open start (seen ++ d ∷ [])
    digits (All-tail IsDigit d digits each) (omega (arith, length-append seen (d ∷ []), few))

not_awaited : (kind : Kind) (text : List ℕ) (cause : Garble)
    → found kind text ≡ Broken cause [] → IsAwaited kind text → ⊥
not_awaited kind text cause is (inl frame) = no_frame kind text cause is frame.0 frame.1 frame.2
not_awaited kind text cause is (inr ends) =
    let go2 : List ℕ → Found = found_length (opening kind) [] in
    let go1 : List ℕ → Found = expect (codes "9=") LengthField go2 in
    let short : found kind text ≡ Short =
    ap (found kind) (ends.1 ∙ append_assoc (begin_string kind) (codes "9=") ends.0)
    ∙ expect_text (begin_string kind) (codes "9=" ++ ends.0) BeginString go1
    ∙ expect_text (codes "9=") ends.0 LengthField go2
    ∙ digits_open (opening kind) [] ends.0 ends.2 (omega (arith, ends.3)) in
    cc (short, is)

-- What is broken has a shortest front that no frame goes on from, and the scan names the first rule
-- that its last byte breaks.
pub first_broken : (kind : Kind) (text : List ℕ) (cause : Garble) (after : List ℕ)
    → found kind text ≡ Broken cause after
    → (front : List ℕ)
    × (text ≡ front ++ after) × IsShortest kind front × BreaksFirst kind cause front
first_broken kind text cause after is =
    let r = found_shrinks kind text cause after is in
    let front = r.0 in (
      front,
      r.1,
      record {
        none = not_awaited kind front cause r.2;
        awaited = λ n below. awaited kind (take n front) (shorter kind front cause r.2 n below);
      },
      record {
        broken = λ more m.
            let stays : found kind (front ++ more) ≡ Broken cause more = subst (λ f.
            Grows more f (found kind (front ++ more))) r.2 (found_grows more kind front) in
            let low = meets_after kind cause (front ++ more) m cause more stays in
            omega (arith, low);
        first = kept kind cause front r.2;
      },
    )
