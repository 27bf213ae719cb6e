-- A whole frame is found only where one stands.
use Rattle.std.proofs.Common.{◌≡◌, ◌≢◌, ℕ, zero, suc, ◌+◌, ◌-◌, ◌%◌, ◌<◌, ◌≤◌, Bool, true, false}
use Rattle.std.proofs.Common.{List, [], ◌∷◌, ◌++◌, length, take, drop, refl, sym, ◌∙◌, ap, arith}
use Rattle.std.proofs.Common.{append_assoc, append-nil, length-append, length-take}
use Rattle.std.proofs.Common.{take-append-drop, All, Some, None, inl, inr}
use Rattle.std.specs.Prelude.{◌==◌, ◌&&◌, nat_lt, if◌then◌else◌, slice_get, slice_index, codes, sum}
use Rattle.std.specs.declared.option.Option.{Option}
use Rattle.std.proofs.lemmas.List.Elements.{All-cons}
use Rattle.std.proofs.lemmas.Bool.{cases_eq}
use Rattle.std.proofs.lemmas.Bool.Decides.{nat_tests}
use Rattle.std.specs.Char.{is_ascii_digit}
use Rattle.std.specs.Str.Parse.{digits_value}
use Rattle.frame_grammar.specs.declared.frame.Kind.{Kind}
use Rattle.frame_grammar.specs.declared.frame.Garble.{Garble}
use Rattle.frame_grammar.specs.declared.frame.Garble.TheVariants.{BeginString, LengthField, TooLong}
use Rattle.frame_grammar.specs.declared.frame.Garble.TheVariants.{TypeField, Trailer, Sum}
use Rattle.frame_grammar.specs.Frame.{begin_string, opening, three_digits, IsDigit, IsBody, IsFrame}
use Rattle.frame_grammar.specs.Frame.{front, trailer}
use Rattle.frame_grammar.specs.Found.{Found, Whole, Broken, expect, expect_sum, found_trailer}
use Rattle.frame_grammar.specs.Found.{found_last, found_type, found_body, found_said, found_length}
use Rattle.frame_grammar.specs.Found.{found}

module _ (body after : List ℕ) where
  -- a choice of which one side is no frame
  if_whole : (c : Bool) (x : Found) (cause : Garble) (rest : List ℕ)
      → (if c then x else Broken cause rest) ≡ Whole body after
      → (c ≡ true) × (x ≡ Whole body after)
  if_whole true x cause rest is = (refl, is)
  if_whole false x cause rest is = absurd (cc is)

  else_whole : (c : Bool) (x : Found) (cause : Garble) (rest : List ℕ)
      → (if c then Broken cause rest else x) ≡ Whole body after
      → (c ≡ false) × (x ≡ Whole body after)
  else_whole true x cause rest is = absurd (cc is)
  else_whole false x cause rest is = (refl, is)

  same_of : (b t : ℕ) → (b == t) ≡ true → b ≡ t
  same_of b t is = elim (cases_eq b t) [
    | inl same ↦ same
    | inr other ↦
        let differs : (b == t) ≡ false = grind (arith, nat_tests) in absurd (cc (is, differs))
  ]

  expect_only : (text : List ℕ) (cause : Garble) (go : List ℕ → Found) (s : List ℕ)
      → expect text cause go s ≡ Whole body after
      → (rest : List ℕ) × (s ≡ text ++ rest) × (go rest ≡ Whole body after)
  expect_only [] cause go s is = (s, refl, is)
  expect_only (t ∷ text) cause go [] is = absurd (cc is)
  expect_only (t ∷ text) cause go (b ∷ s) is =
      let both = if_whole (b == t) _ cause s is in
      let more = expect_only text cause go s both.1 in
      let same : b ≡ t = same_of b t both.0 in
      (more.0, cc (same, more.1), more.2)

  sum_only : (text : List ℕ) (go : List ℕ → Found) (s : List ℕ) → expect_sum text go s
      ≡ Whole body after → (rest : List ℕ) × (s ≡ text ++ rest) × (go rest ≡ Whole body after)
  sum_only [] go s is = (s, refl, is)
  sum_only (t ∷ text) go [] is = absurd (cc is)
  sum_only (t ∷ text) go (b ∷ s) is =
      let digit = if_whole (is_ascii_digit b) _ Trailer s is in
      let both = if_whole (b == t) _ Sum s digit.1 in
      let more = sum_only text go s both.1 in
      let same : b ≡ t = same_of b t both.0 in
      (more.0, cc (same, more.1), more.2)

  trailer_only : (before b s : List ℕ) → found_trailer before b s ≡ Whole body after
      → (b ≡ body) × (s ≡ trailer (before ++ b) ++ after)
  trailer_only before b s is =
      let tens = three_digits (sum (before ++ b) % 256) in
      let ten = expect_only
      (codes "10=") Trailer (expect_sum tens (expect (1 ∷ []) Trailer (λ a. Whole b a))) s is in
      let digits = sum_only tens (expect (1 ∷ []) Trailer (λ a. Whole b a)) ten.0 ten.2 in
      let soh = expect_only (1 ∷ []) Trailer (λ a. Whole b a) digits.0 digits.2 in
      let last = soh.2 in
      let same : b ≡ body = cc last in
      let rest : soh.0 ≡ after = cc last in (
        same,
        ten.1 ∙ ap (λ l. codes "10=" ++ l)
            (digits.1 ∙ ap (λ l. tens ++ l) (soh.1 ∙ ap (λ l. (1 ∷ []) ++ l) rest)),
      )

  last_only : (before : List ℕ) (n : ℕ) (rest : List ℕ) (o : Option ℕ)
      → found_last before n rest o ≡ Whole body after
      → (o ≡ Some 1) × (found_trailer before (take n rest) (drop n rest) ≡ Whole body after)
  last_only before n rest None is = absurd (cc is)
  last_only before n rest (Some last) is =
      let both = if_whole (last == 1) _ _ _ is in
      (ap (λ (x : ℕ). Some x) (same_of last 1 both.0), both.1)

  type_only : (before : List ℕ) (n : ℕ) (rest : List ℕ) (o : Option ℕ)
      → found_type before n rest o ≡ Whole body after
      → (first : ℕ) × (o ≡ Some first)
      × (first ≢ 1) × (found_last before n rest (slice_get rest (n - 1)) ≡ Whole body after)
  type_only before n rest None is = absurd (cc is)
  type_only before n rest (Some first) is =
      let both = else_whole (first == 1) _ TypeField (drop 4 rest) is in
      let test = both.0 in (
        first,
        refl,
        (λ soh. let same : (first == 1) ≡ true =
            grind (arith, nat_tests) in absurd (cc (same, test))),
        both.1,
      )

get_is : (xs : List ℕ) (k x : ℕ) → slice_get xs k ≡ Some x
    → (k < length xs) × ((ys : List ℕ) (n : ℕ) → k < n → slice_index (take n xs) k ≡ x)
get_is [] k x is = absurd (cc is)
get_is (y ∷ xs) zero x is = (omega arith, λ ys n within. go n within)
  where
    go : (n : ℕ) → zero < n → slice_index (take n (y ∷ xs)) zero ≡ x
    go zero within = absurd (omega arith)
    go (suc n) within = cc is
get_is (y ∷ xs) (suc k) x is =
    (omega (arith, (get_is xs k x is).0), λ ys n within. go n within ((get_is xs k x is).1 ys))
  where
    go : (n : ℕ) → suc k < n → ((m : ℕ) → k < m → slice_index (take m xs) k ≡ x)
        → slice_index (take n (y ∷ xs)) (suc k) ≡ x
    go zero within more = absurd (omega arith)
    go (suc n) within more = more n (omega arith)

-- a body and its trailer
body_only : (body after before : List ℕ) (n : ℕ) (rest : List ℕ)
    → 5 ≤ n → n ≤ 8192 → found_body before n rest ≡ Whole body after
    → IsBody body × (length body ≡ n) × (rest ≡ body ++ (trailer (before ++ body) ++ after))
body_only body after before n rest least most is =
    let typed = expect_only body
    after (codes "35=") TypeField (λ _. found_type before n rest (slice_get rest 3)) rest is in
    let type = type_only body after before n rest (slice_get rest 3) typed.2 in
    let last = last_only body after before n rest (slice_get rest (n - 1)) type.3 in
    let end = trailer_only body after before (take n rest) (drop n rest) last.1 in
    let third = get_is rest 3 type.0 type.1 in
    let final = get_is rest (n - 1) 1 last.0 in
    let size : length (take n rest) ≡ n = simp length-take (omega (arith, final.0, least)) in
    let size_body : length body ≡ n = sym (ap length end.0) ∙ size in
    let begins : take 3 (take n rest) ≡ codes "35=" =
    ap (λ l. take 3 (take n l)) typed.1 ∙ three n typed.0 least in (
      record {
        writable = record {
          begins = ap (take 3) (sym end.0) ∙ begins;
          has_type = λ soh.
              type.2 (sym (third.1 [] n (omega arith)) ∙ ap (λ l. slice_index l 3) end.0 ∙ soh);
          ends = ap (λ k. slice_index body (k - 1)) size_body
              ∙ ap (λ l. slice_index l (n - 1)) (sym end.0) ∙ final.1 [] n (omega arith);
          least = omega arith;
        };
        most = omega arith;
      },
      size_body,
      sym (take-append-drop n rest) ∙ ap (λ l. take n rest ++ l) end.1
          ∙ ap (λ l. l ++ (trailer (before ++ l) ++ after)) end.0,
    )
  where
    three : (k : ℕ) (r : List ℕ) → 5 ≤ k → take 3 (take k (codes "35=" ++ r)) ≡ codes "35="
    three zero r h = absurd (omega arith)
    three (suc zero) r h = absurd (omega arith)
    three (suc (suc zero)) r h = absurd (omega arith)
    three (suc (suc (suc k))) r h = refl

-- a length field that goes on to a frame
pub record Said (start digits : List ℕ) (rest body after : List ℕ) : Type 0 where
  pub some : 1 ≤ length digits
  pub least : 5 ≤ digits_value 10 digits
  pub most : digits_value 10 digits ≤ 8192
  pub goes_on : found_body (start ++ digits ++ 1 ∷ []) (digits_value 10 digits) rest
      ≡ Whole body after

said_only : (body after start digits rest : List ℕ) → found_said start
    digits (digits_value 10 digits) rest ≡ Whole body after → Said start digits rest body after
said_only body after start [] rest is = absurd (cc is)
said_only body after start (d ∷ digits) rest is =
    let n = digits_value 10 (d ∷ digits) in
    let long = else_whole body after (nat_lt 8192 n) _ (TooLong n) rest is in
    let short = else_whole body after (nat_lt n 5) _ TypeField rest long.1 in
    let not_long = long.0 in
    let not_short = short.0 in
    record {
      some = omega arith;
      least = at_least n not_short;
      most = at_most n not_long;
      goes_on = short.1;
    }
  where
    at_least : (k : ℕ) → nat_lt k 5 ≡ false → 5 ≤ k
    at_least k h = grind (arith, nat_tests)

    at_most : (k : ℕ) → nat_lt 8192 k ≡ false → k ≤ 8192
    at_most k h = grind (arith, nat_tests)

-- the digits of a length that goes on to a frame
pub record Length (start seen bytes body after : List ℕ) : Type 0 where
  pub more : List ℕ
  pub rest : List ℕ
  pub split : bytes ≡ more ++ 1 ∷ rest
  pub each : All IsDigit more
  pub few : length seen + length more ≤ 7
  pub goes_on : found_said start (seen ++ more) (digits_value 10 (seen ++ more)) rest
      ≡ Whole body after

length_only : (body after start seen bytes : List ℕ) → length seen ≤ 7
    → found_length start seen bytes ≡ Whole body after → Length start seen bytes body after
length_only body after start seen [] room is = absurd (cc is)
length_only body after start seen (b ∷ bytes) room is =
    go (b == 1) refl (λ r e. length_only body after start (seen ++ b ∷ []) bytes r e)
  where
    go : (c : Bool) → (b == 1) ≡ c → (length (seen ++ b ∷ []) ≤ 7 → found_length start
        (seen ++ b ∷ []) bytes ≡ Whole body after → Length start (seen ++ b ∷ []) bytes body after)
        → Length start seen (b ∷ bytes) body after
    go true soh next =
        let here : found_said start seen (digits_value 10 seen) bytes ≡ Whole body after =
        sym (ap (λ t. if t then found_said start seen (digits_value 10 seen) bytes
        else (if is_ascii_digit b && nat_lt (length seen) 7 then found_length
        start (seen ++ b ∷ []) bytes else Broken LengthField bytes)) soh) ∙ is in
        let same : b ≡ 1 = same_of body after b 1 soh in
        record {
          more = [];
          rest = bytes;
          split = ap (λ x. x ∷ bytes) same;
          each = λ k d within. absurd (omega arith);
          few = omega arith;
          goes_on = ap (λ l. found_said start l (digits_value 10 l) bytes) (append-nil seen) ∙ here;
        }
    go false other next =
        let here : (if is_ascii_digit b && nat_lt (length seen) 7 then found_length
        start (seen ++ b ∷ []) bytes else Broken LengthField bytes) ≡ Whole body after =
        sym (ap (λ t. if t then found_said start seen (digits_value 10 seen) bytes
        else (if is_ascii_digit b && nat_lt (length seen) 7 then found_length
        start (seen ++ b ∷ []) bytes else Broken LengthField bytes)) other) ∙ is in
        let both = if_whole
        body after (is_ascii_digit b && nat_lt (length seen) 7) _ LengthField bytes here in
        let digit = first_true (is_ascii_digit b) (nat_lt (length seen) 7) both.0 in
        let short = below_seven (length seen) digit.1 in
        let l = next (omega (arith, length-append seen (b ∷ []), short)) both.1 in
        record {
          more = b ∷ l.more;
          rest = l.rest;
          split = ap (λ x. b ∷ x) l.split;
          each = All-cons IsDigit b l.more digit.0 l.each;
          few = omega (arith, l.few, length-append seen (b ∷ []));
          goes_on = ap (λ x. found_said start x (digits_value 10 x) l.rest)
              (sym (append_assoc seen (b ∷ []) l.more)) ∙ l.goes_on;
        }
      where
        first_true : (c d : Bool) → (c && d) ≡ true → (c ≡ true) × (d ≡ true)
        first_true true d h = (refl, h)
        first_true false d h = absurd (cc h)

        below_seven : (k : ℕ) → nat_lt k 7 ≡ true → k < 7
        below_seven k h = grind (arith, nat_tests)

rebuild : (kind : Kind) (head : List ℕ)
    → opening kind ≡ head ++ codes "9=" → begin_string kind ≡ head
    → (s body after : List ℕ) → found kind s ≡ Whole body after
    → (bytes : List ℕ) × IsFrame kind body bytes × (s ≡ bytes ++ after)
rebuild kind head is_head taken s body after is =
    let go2 : List ℕ → Found = found_length (opening kind) [] in
    let go1 : List ℕ → Found = expect (codes "9=") LengthField go2 in
    let begun = expect_only
    body after head BeginString go1 s (ap (λ l. expect l BeginString go1 s) (sym taken) ∙ is) in
    let nine = expect_only body after (codes "9=") LengthField go2 begun.0 begun.2 in
    let l = length_only body after (opening kind) [] nine.0 (omega arith) nine.2 in
    let said = said_only body after (opening kind) l.more l.rest l.goes_on in
    let b = body_only body after (opening kind ++ l.more ++ 1 ∷ [])
    (digits_value 10 l.more) l.rest said.least said.most said.goes_on in
    let bytes : List ℕ = front kind l.more body ++ trailer (front kind l.more body) in
    let grouped : (opening kind ++ l.more ++ 1 ∷ []) ++ body ≡ front kind l.more body =
    simp append_assoc in
    let rest : l.rest ≡ body ++ (trailer (front kind l.more body) ++ after) =
    b.2 ∙ ap (λ x. body ++ (trailer x ++ after)) grouped in
    let whole : s
    ≡ opening kind ++ (l.more ++ 1 ∷ (body ++ (trailer (front kind l.more body) ++ after))) =
    begun.1 ∙ ap (λ x. head ++ x) nine.1
    ∙ sym (append_assoc head (codes "9=") nine.0) ∙ ap (λ x. x ++ nine.0) (sym is_head)
    ∙ ap (λ x. opening kind ++ x) (l.split ∙ ap (λ x. l.more ++ 1 ∷ x) rest) in
    let regrouped : opening kind
    ++ (l.more ++ 1 ∷ (body ++ (trailer (front kind l.more body) ++ after))) ≡ bytes ++ after =
    simp append_assoc in (
      bytes,
      record {
        digits = l.more;
        says = record {
          least = said.some;
          most = omega (arith, l.few);
          each = l.each;
          value = sym b.1;
        };
        is_body = b.0;
        joined = refl;
      },
      whole ∙ regrouped,
    )

-- a whole frame is found only where one stands
pub frame_found : (kind : Kind) (s body after : List ℕ) → found kind s ≡ Whole body after
    → (bytes : List ℕ) × IsFrame kind body bytes × (s ≡ bytes ++ after)
frame_found kind s body after is = rebuild kind (begin_string kind) refl refl s body after is
