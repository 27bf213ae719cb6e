-- Less than a frame is a front of one, or ends in the digits of its length.
use Rattle.std.proofs.Common.{◌≡◌, ◌≢◌, ℕ, zero, suc, ◌+◌, ◌-◌, ◌%◌, ◌<◌, ◌≤◌, Bool, true, false}
use Rattle.std.proofs.Common.{List, [], ◌∷◌, ◌++◌, length, take, drop, refl, sym, ◌∙◌, ap, subst}
use Rattle.std.proofs.Common.{arith, append_assoc, append-nil, length-append, length-drop, Some}
use Rattle.std.proofs.Common.{None, inl, inr, ◌⊎◌, All}
use Rattle.std.specs.Prelude.{◌==◌, ◌&&◌, nat_lt, if◌then◌else◌, slice_get, slice_index, codes, sum}
use Rattle.std.specs.Prelude.{replicate}
use Rattle.std.specs.declared.option.Option.{Option}
use Rattle.std.proofs.lemmas.Bool.Decides.{nat_tests}
use Rattle.std.proofs.lemmas.List.{take_at, take-append-le, drop-append-le}
use Rattle.std.proofs.lemmas.List.Elements.{All-tail, All-cons}
use Rattle.std.specs.Char.{is_ascii_digit}
use Rattle.std.specs.Str.Parse.{digits_value}
use Rattle.frame_grammar.specs.declared.frame.Kind.{Kind}
use Rattle.frame_grammar.specs.declared.frame.Kind.TheVariants.{Fix42, Fix44, Fixt11}
use Rattle.frame_grammar.specs.declared.frame.Garble.{Garble}
use Rattle.frame_grammar.specs.declared.frame.Garble.TheVariants.{BeginString, LengthField}
use Rattle.frame_grammar.specs.declared.frame.Garble.TheVariants.{TypeField, Trailer}
use Rattle.frame_grammar.specs.Frame.{begin_string, opening, three_digits, trailer, IsDigit, IsBody}
use Rattle.frame_grammar.specs.Frame.{IsFrame}
use Rattle.frame_grammar.specs.Found.{Found, Whole, Short, expect, expect_sum, found_trailer}
use Rattle.frame_grammar.specs.Found.{found_last, found_type, found_body, found_said, found_length}
use Rattle.frame_grammar.specs.Found.{found}
use Rattle.frame_grammar.proofs.Begins.{expect_text, comes_alike, expect_digits}
use Rattle.frame_grammar.proofs.Begins.{three_digits-digits, found_body-body}
use Rattle.frame_grammar.proofs.Only.{frame_found}
use Rattle.frame_grammar.proofs.Starts.{le_or}

-- these bytes go on to something whole
abbrev GoesOn : (List ℕ → Found) → List ℕ → Type 0
GoesOn go bytes = (more body : List ℕ) × (go (bytes ++ more) ≡ Whole body [])

abbrev Awaits : (List ℕ → Found) → Type 0
Awaits go = (bytes : List ℕ) → go bytes ≡ Short → GoesOn go bytes

if_true : (c : Bool) (a b : Found) → c ≡ true → (if c then a else b) ≡ a
if_true c a b is = ap (λ t. if t then a else b) is

if_false : (c : Bool) (a b : Found) → c ≡ false → (if c then a else b) ≡ b
if_false c a b is = ap (λ t. if t then a else b) is

if_short : (P : Type 0) (c : Bool) (a b : Found)
    → (if c then a else b) ≡ Short → (c ≡ true → a ≡ Short → P) → (c ≡ false → b ≡ Short → P) → P
if_short P true a b is f g = f refl is
if_short P false a b is f g = g refl is

-- the text comes, or what goes on after it awaits more, or the last is so by D
expect_either : (text : List ℕ) (own : Garble) (go : List ℕ → Found) (D : List ℕ → Type 0)
    → ((bytes : List ℕ) → go bytes ≡ Short → GoesOn go bytes ⊎ D bytes) → GoesOn go []
    → (bytes : List ℕ) → expect text own go bytes ≡ Short
    → GoesOn (expect text own go) bytes ⊎ ((rest : List ℕ) × (bytes ≡ text ++ rest) × D rest)
expect_either [] own go D h start bytes is =
    elim (h bytes is) [ inl more ↦ inl more | inr d ↦ inr (bytes, refl, d) ]
expect_either (t ∷ text) own go D h start [] is =
    inl ((t ∷ text) ++ start.0, start.1, expect_text (t ∷ text) start.0 own go ∙ start.2)
expect_either (t ∷ text) own go D h start (b ∷ bytes) is =
    if_short (GoesOn (expect (t ∷ text) own go) (b ∷ bytes)
    ⊎ ((rest : List ℕ) × (b ∷ bytes ≡ (t ∷ text) ++ rest) × D rest)) (b == t) _ _ is
    (λ same short. elim (expect_either text own go D h start bytes short) [
      | inl more ↦ inl (more.0, more.1, if_true (b == t) _ _ same ∙ more.2)
      | inr later ↦ let head : b ≡ t = grind (arith, nat_tests, same) in inr
          (later.0, (let e : b ∷ bytes ≡ (t ∷ text) ++ later.0 = cc (head, later.1) in e), later.2)
    ]) (λ _ broken. absurd (cc broken))

expect_awaits : (text : List ℕ) (own : Garble) (go : List ℕ → Found)
    → Awaits go → GoesOn go [] → Awaits (expect text own go)
expect_awaits [] own go h start bytes is = h bytes is
expect_awaits (t ∷ text) own go h start [] is =
    ((t ∷ text) ++ start.0, start.1, expect_text (t ∷ text) start.0 own go ∙ start.2)
expect_awaits (t ∷ text) own go h start (b ∷ bytes) is =
    if_short (GoesOn (expect (t ∷ text) own go) (b ∷ bytes)) (b == t) _ _ is
    (λ same short. let more = expect_awaits text own go h start bytes short
    in (more.0, more.1, if_true (b == t) _ _ same ∙ more.2)) (λ _ broken. absurd (cc broken))

sum_awaits : (text : List ℕ) (go : List ℕ → Found)
    → All IsDigit text → Awaits go → GoesOn go [] → Awaits (expect_sum text go)
sum_awaits [] go each h start bytes is = h bytes is
sum_awaits (t ∷ text) go each h start [] is =
    ((t ∷ text) ++ start.0, start.1, expect_digits (t ∷ text) start.0 go each ∙ start.2)
sum_awaits (t ∷ text) go each h start (b ∷ bytes) is =
    if_short (GoesOn (expect_sum (t ∷ text) go) (b ∷ bytes)) (is_ascii_digit b) _ _ is
    (λ digit chosen. if_short (GoesOn (expect_sum (t ∷ text) go) (b ∷ bytes)) (b == t) _ _ chosen
    (λ same short. let more =
    sum_awaits text go (All-tail IsDigit t text each) h start bytes short in (
      more.0,
      more.1,
      if_true (is_ascii_digit b) _ _ digit ∙ if_true (b == t) _ _ same ∙ more.2,
    ))
    (λ _ broken. absurd (cc broken))) (λ _ broken. absurd (cc broken))

module _ (before body : List ℕ) where
  closing : GoesOn (expect (1 ∷ []) Trailer (λ after. Whole body after)) []
  closing = (1 ∷ [], body, refl)

  digits : List ℕ
  digits = three_digits (sum (before ++ body) % 256)

  ends : Awaits (expect (1 ∷ []) Trailer (λ after. Whole body after))
  ends = expect_awaits
      (1 ∷ []) Trailer (λ after. Whole body after) (λ bytes is. absurd (cc is)) ([], body, refl)

  trailer_awaits : Awaits (found_trailer before body)
  trailer_awaits =
      let tens = three_digits (sum (before ++ body) % 256) in
      let each = three_digits-digits (sum (before ++ body) % 256) (omega arith) in
      let go : List ℕ → Found = expect (1 ∷ []) Trailer (λ after. Whole body after) in
      expect_awaits
      (codes "10=") Trailer (expect_sum tens go) (sum_awaits tens go each ends closing)
      (tens ++ 1 ∷ [], body, expect_digits tens (1 ∷ []) go each)

-- a text that awaits more after its first bytes has these bytes, and what is known of the whole
-- awaits more
expect_came : (text : List ℕ) (own : Garble) (f : Found) (bytes : List ℕ)
    → length text ≤ length bytes → expect text own (λ _. f) bytes ≡ Short
    → (f ≡ Short) × ((other : List ℕ) (g : Found)
    → take (length text) other ≡ take (length text) bytes → expect text own (λ _. g) other ≡ g)
expect_came [] own f bytes long is = (is, λ other g same. refl)
expect_came (t ∷ text) own f [] long is = absurd (omega arith)
expect_came (t ∷ text) own f (b ∷ bytes) long is =
    if_short ((f ≡ Short) × ((other : List ℕ) (g : Found) → take (length (t ∷ text)) other ≡ take
    (length (t ∷ text)) (b ∷ bytes) → expect (t ∷ text) own (λ _. g) other ≡ g)) (b == t) _ _ is
    (λ same short. let r = expect_came text own f bytes (omega arith) short in (
      r.0,
      λ other g.
          comes_alike t b text bytes own same r.1 other g,
    )) (λ _ broken. absurd (cc broken))

-- what came of a text, filled up with the rest of it, begins with it
filled : (text : List ℕ) (own : Garble) (f : Found) (bytes tail : List ℕ) → expect text own
    (λ _. f) bytes ≡ Short → take (length text) (bytes ++ drop (length bytes) (text ++ tail)) ≡ text
filled [] own f bytes tail is = refl
filled (t ∷ text) own f [] tail is = take_at (t ∷ text) tail (length (t ∷ text)) refl
filled (t ∷ text) own f (b ∷ bytes) tail is =
    if_short (take (length (t ∷ text))
    ((b ∷ bytes) ++ drop (length (b ∷ bytes)) ((t ∷ text) ++ tail)) ≡ t ∷ text) (b == t) _ _ is
    (λ same short. let head : b ≡ t = grind (arith, nat_tests, same) in let rest =
    filled text own f bytes tail short in cc (head, rest)) (λ _ broken. absurd (cc broken))

get_none : (xs : List ℕ) (k : ℕ) → slice_get xs k ≡ None → length xs ≤ k
get_none [] k is = omega arith
get_none (x ∷ xs) zero is = absurd (cc is)
get_none (x ∷ xs) (suc k) is = omega (arith, get_none xs k is)

get_append : (xs ys : List ℕ) (k x : ℕ) → slice_get xs k ≡ Some x → slice_get (xs ++ ys) k ≡ Some x
get_append [] ys k x is = absurd (cc is)
get_append (z ∷ xs) ys zero x is = is
get_append (z ∷ xs) ys (suc k) x is = get_append xs ys k x is

index_is : (xs : List ℕ) (k x : ℕ) → slice_get xs k ≡ Some x → slice_index xs k ≡ x
index_is [] k x is = absurd (cc is)
index_is (z ∷ xs) zero x is = cc is
index_is (z ∷ xs) (suc k) x is = index_is xs k x is

-- the bytes of a template after the first, behind as many others
index_filled : (xs ys : List ℕ) (k : ℕ) → length xs ≤ k
    → length xs ≤ length ys → slice_index (xs ++ drop (length xs) ys) k ≡ slice_index ys k
index_filled [] ys k past long = refl
index_filled (x ∷ xs) ys zero past long = absurd (omega arith)
index_filled (x ∷ xs) [] (suc k) past long = absurd (omega arith)
index_filled (x ∷ xs) (y ∷ ys) (suc k) past long = index_filled xs ys k (omega arith) (omega arith)

first_of_tail : (k : ℕ) → 1 ≤ k → slice_index (replicate k 120 ++ 1 ∷ []) 0 ≡ 120
first_of_tail zero some = absurd (omega arith)
first_of_tail (suc k) some = refl

last_of_tail : (k : ℕ) → slice_index (replicate k 120 ++ 1 ∷ []) k ≡ 1
last_of_tail zero = refl
last_of_tail (suc k) = last_of_tail k

length-replicated : (k : ℕ) → length {A = ℕ} (replicate k 120) ≡ k
length-replicated zero = refl
length-replicated (suc k) = let more = length-replicated k in omega (arith, more)

module _ (before : List ℕ) (n : ℕ)
    (least : 5 ≤ n) (most : n ≤ 8192) (rest : List ℕ) (is : found_body before n rest ≡ Short) where
  -- the body has come
  module _ (long : n ≤ length rest) where
    came : (found_type before n rest (slice_get rest 3) ≡ Short) × ((other : List ℕ) (g : Found)
        → take 3 other ≡ take 3 rest → expect (codes "35=") TypeField (λ _. g) other ≡ g)
    came = expect_came
        (codes "35=") TypeField (found_type before n rest (slice_get rest 3)) rest (omega arith) is

    last_case : (first : ℕ) → slice_get rest 3 ≡ Some first
        → (first == 1) ≡ false → (o : Option ℕ) → slice_get rest (n - 1) ≡ o
        → found_last before n rest o ≡ Short → GoesOn (found_body before n) rest
    last_case first third typed None none short = absurd (omega (arith, get_none rest (n - 1) none))
    last_case first third typed (Some last) at short =
        if_short (GoesOn (found_body before n) rest) (last == 1) _ _ short
        (λ soh trailing.
        let t = trailer_awaits before (take n rest) (drop n rest) trailing in
        let x = rest ++ t.0 in (
          t.0,
          t.1,
          came.1 x (found_type before n x (slice_get x 3)) (take-append-le 3 rest t.0 (omega arith))
              ∙ ap (found_type before n x) (get_append rest t.0 3 first third)
              ∙ if_false (first == 1) _ _ typed
              ∙ ap (found_last before n x) (get_append rest t.0 (n - 1) last at)
              ∙ if_true (last == 1) _ _ soh
              ∙ ap (λ (l : List ℕ). found_trailer before l (drop n x))
              (take-append-le n rest t.0 long)
              ∙ ap (found_trailer before (take n rest)) (drop-append-le n rest t.0 long) ∙ t.2,
        )) (λ _ broken. absurd (cc broken))

    type_case : (o : Option ℕ) → slice_get rest 3 ≡ o
        → found_type before n rest o ≡ Short → GoesOn (found_body before n) rest
    type_case None none short = absurd (omega (arith, get_none rest 3 none))
    type_case (Some first) third short = if_short
        (GoesOn (found_body before n) rest) (first == 1) _ _ short (λ _ broken. absurd (cc broken))
        (λ typed more. last_case first third typed (slice_get rest (n - 1)) refl more)

  -- the body is filled up
  module _ (below : length rest < n) where
    abbrev tail : List ℕ
    tail = replicate (n - 4) 120 ++ 1 ∷ []

    abbrev pad : List ℕ
    pad = drop (length rest) (codes "35=" ++ tail)

    tail_length : length tail ≡ n - 3
    tail_length = omega
        (arith, length-append {A = ℕ} (replicate (n - 4) 120) (1 ∷ []), length-replicated (n - 4))

    full_length : length (rest ++ pad) ≡ n
    full_length = omega (
      arith,
      length-append rest pad,
      length-drop
          (length rest) (codes "35=" ++ tail),
      length-append (codes "35=") tail,
      tail_length,
    )

    template_longer : length rest ≤ length (codes "35=" ++ tail)
    template_longer = omega (arith, length-append (codes "35=") tail, tail_length, below)

    typed_by : (o : Option ℕ) → slice_get rest 3 ≡ o
        → 4 ≤ length rest → found_type before n rest o ≡ Short → slice_index (rest ++ pad) 3 ≢ 1
    typed_by None none long short = absurd (omega (arith, get_none rest 3 none))
    typed_by (Some first) third long short = if_short
        (slice_index (rest ++ pad) 3 ≢ 1) (first == 1) _ _ short (λ _ broken. absurd (cc broken))
        (λ typed _ soh.
        let same : slice_index (rest ++ pad) 3 ≡ first =
        index_is (rest ++ pad) 3 first (get_append rest pad 3 first third) in
        let one : first ≡ 1 = sym same ∙ soh in
        grind (arith, nat_tests, typed, one))

    has_type : slice_index (rest ++ pad) 3 ≢ 1
    has_type = elim (le_or 4 (length rest)) [
      | inl long ↦ typed_by (slice_get rest 3) refl long (expect_came (codes "35=")
          TypeField (found_type before n rest (slice_get rest 3)) rest (omega (arith, long)) is).0
      | inr few ↦ λ soh.
          let same : slice_index (rest ++ pad) 3 ≡ slice_index (codes "35=" ++ tail) 3 =
          index_filled rest (codes "35=" ++ tail) 3 (omega (arith, few)) template_longer in
          let first : slice_index (codes "35=" ++ tail) 3 ≡ 120 =
          first_of_tail (n - 4) (omega arith) in
          omega (arith, same, first, soh)
    ]

    ends_so : slice_index (rest ++ pad) (length (rest ++ pad) - 1) ≡ 1
    ends_so =
        let last : n - 1 ≡ suc (suc (suc (n - 4))) = omega arith in
        ap (λ (k : ℕ). slice_index (rest ++ pad) (k - 1)) full_length
        ∙ index_filled rest (codes "35=" ++ tail) (n - 1) (omega arith) template_longer
        ∙ ap (slice_index (codes "35=" ++ tail)) last ∙ last_of_tail (n - 4)

    is_body : IsBody (rest ++ pad)
    is_body = record {
      writable = record {
        begins =
            filled
            (codes "35=") TypeField (found_type before n rest (slice_get rest 3)) rest tail is;
        has_type = has_type;
        ends = ends_so;
        least = omega (arith, full_length);
      };
      most = omega (arith, full_length);
    }

    fills : GoesOn (found_body before n) rest
    fills =
        let last = trailer (before ++ (rest ++ pad)) ++ [] in (
          pad ++ last,
          rest ++ pad,
          ap (found_body before n) (sym (append_assoc rest pad last))
              ∙ ap (λ (k : ℕ). found_body before k ((rest ++ pad) ++ last)) (sym full_length)
              ∙ found_body-body before (rest ++ pad) [] is_body,
        )

  body_awaits : GoesOn (found_body before n) rest
  body_awaits = elim (le_or n (length rest))
      [ inl long ↦ type_case long (slice_get rest 3) refl (came long).0 | inr below ↦ fills below ]

said_awaits : (start digits : List ℕ) (said : ℕ) → Awaits (found_said start digits said)
said_awaits start [] said rest is = absurd (cc is)
said_awaits start (d ∷ digits) said rest is =
    if_short (GoesOn (found_said start (d ∷ digits) said) rest)
    (nat_lt 8192 said) _ _ is (λ _ broken. absurd (cc broken)) (λ not_big more.
    if_short (GoesOn (found_said start (d ∷ digits) said) rest)
    (nat_lt said 5) _ _ more (λ _ broken. absurd (cc broken)) (λ not_small body.
    let most : said ≤ 8192 = grind (arith, nat_tests, not_big) in
    let least : 5 ≤ said = grind (arith, nat_tests, not_small) in
    let r = body_awaits (start ++ (d ∷ digits) ++ 1 ∷ []) said least most rest body in (
      r.0,
      r.1,
      if_false (nat_lt 8192 said) _ _ not_big ∙ if_false (nat_lt said 5) _ _ not_small ∙ r.2,
    )))

and_first : (c d : Bool) → (c && d) ≡ true → c ≡ true
and_first true d is = refl
and_first false d is = absurd (cc is)

and_second : (c d : Bool) → (c && d) ≡ true → d ≡ true
and_second true d is = is
and_second false d is = absurd (cc is)

length_awaits : (start seen bytes : List ℕ) → length seen ≤ 7
    → found_length start seen bytes ≡ Short → GoesOn (found_length start seen) bytes
    ⊎ (All IsDigit bytes × (length seen + length bytes ≤ 7))
length_awaits start seen [] few is = inr (λ k d h. absurd (omega arith), omega arith)
length_awaits start seen (b ∷ rest) few is =
    let P : Type 0 = GoesOn (found_length start seen) (b ∷ rest)
    ⊎ (All IsDigit (b ∷ rest) × (length seen + length (b ∷ rest) ≤ 7)) in
    if_short P (b == 1) _ _ is (λ soh said. let r = said_awaits start seen (digits_value 10 seen)
    rest said in inl (r.0, r.1, if_true (b == 1) _ _ soh ∙ r.2)) (λ other more.
    if_short P (is_ascii_digit b && nat_lt (length seen) 7) _ _ more (λ both later.
    let room = and_second (is_ascii_digit b) (nat_lt (length seen) 7) both in
    let below : length seen < 7 = grind (arith, nat_tests, room) in
    let pushed = length-append seen (b ∷ []) in
    elim (length_awaits start (seen ++ b ∷ []) rest (omega (arith, pushed, below)) later) [
      | inl r ↦ inl (
        r.0,
        r.1,
        if_false (b == 1) _ _ other
            ∙ if_true (is_ascii_digit b && nat_lt (length seen) 7) _ _ both ∙ r.2,
      )
      | inr r ↦
          inr (
            All-cons IsDigit b rest (and_first (is_ascii_digit b) (nat_lt (length seen) 7) both)
                r.0,
            omega (arith, r.1, pushed),
          )
    ]) (λ _ broken. absurd (cc broken)))

-- the digits of a length
abbrev InDigits : List ℕ → Type 0
InDigits bytes = All IsDigit bytes × (length bytes ≤ 7)

digits_await : (kind : Kind) (bytes : List ℕ) → found_length (opening kind) [] bytes ≡ Short
    → GoesOn (found_length (opening kind) []) bytes ⊎ InDigits bytes
digits_await kind bytes is = elim (length_awaits (opening kind) [] bytes (omega arith) is)
    [ inl r ↦ inl r | inr r ↦ inr (r.0, omega (arith, r.1)) ]

abbrev shortest_body : List ℕ
shortest_body = codes "35=0" ++ 1 ∷ []

start_found : (kind : Kind) → GoesOn (found_length (opening kind) []) []
start_found Fix42 =
    (codes "5" ++ 1 ∷ codes "35=0" ++ 1 ∷ codes "10=161" ++ 1 ∷ [], shortest_body, refl)
start_found Fix44 =
    (codes "5" ++ 1 ∷ codes "35=0" ++ 1 ∷ codes "10=163" ++ 1 ∷ [], shortest_body, refl)
start_found Fixt11 =
    (codes "5" ++ 1 ∷ codes "35=0" ++ 1 ∷ codes "10=241" ++ 1 ∷ [], shortest_body, refl)

length_found : (kind : Kind)
    → GoesOn (expect (codes "9=") LengthField (found_length (opening kind) [])) []
length_found kind = let r = start_found kind in (
  codes "9=" ++ r.0,
  r.1,
  expect_text (codes "9=") r.0 LengthField (found_length (opening kind) []) ∙ r.2,
)

found_awaits : (kind : Kind) (head : List ℕ) → opening kind ≡ head ++ codes "9="
    → begin_string kind ≡ head → (text : List ℕ) → found kind text ≡ Short
    → GoesOn (found kind) text
    ⊎ ((digits : List ℕ) × (text ≡ opening kind ++ digits) × InDigits digits)
found_awaits kind head opens taken text is =
    let go2 : List ℕ → Found = found_length (opening kind) [] in
    let go1 : List ℕ → Found = expect (codes "9=") LengthField go2 in
    let inner = expect_either
    (codes "9=") LengthField go2 InDigits (digits_await kind) (start_found kind) in
    let moved : expect head BeginString go1 text ≡ Short =
    ap (λ l. expect l BeginString go1 text) (sym taken) ∙ is in
    elim (expect_either head BeginString go1 (λ bytes. (rest : List ℕ)
    × (bytes ≡ codes "9=" ++ rest) × InDigits rest) inner (length_found kind) text moved) [
      | inl r ↦ inl (r.0, r.1, ap (λ l. expect l BeginString go1 (text ++ r.0)) taken ∙ r.2)
      | inr r ↦ inr (
        r.2.0,
        r.1 ∙ ap (λ (l : List ℕ). head ++ l) r.2.1 ∙ sym (append_assoc
            head (codes "9=") r.2.0) ∙ ap (λ (l : List ℕ). l ++ r.2.0) (sym opens),
        r.2.2,
      )
    ]

found_awaits_of : (kind : Kind) (text : List ℕ) → found kind text ≡ Short → GoesOn (found kind) text
    ⊎ ((digits : List ℕ) × (text ≡ opening kind ++ digits) × InDigits digits)
found_awaits_of kind text is = found_awaits kind (begin_string kind) refl refl text is

-- less than a frame begins one, or ends in the digits of its length
pub awaited : (kind : Kind) (text : List ℕ) → found kind text ≡ Short
    → ((body more : List ℕ) × IsFrame kind body (text ++ more)) ⊎ ((digits : List ℕ)
    × (text ≡ opening kind ++ digits) × All IsDigit digits × (length digits ≤ 7))
awaited kind text is = elim (found_awaits_of kind text is) [
  | inl r ↦
      let f = frame_found kind (text ++ r.0) r.1 [] r.2 in
      inl (r.1, r.0, subst (IsFrame kind r.1) (sym (f.2 ∙ append-nil f.0)) f.1)
  | inr r ↦ inr (r.0, r.1, r.2.0, r.2.1)
]
