-- A frame is found at the front of a text, whatever follows it.
use Rattle.std.proofs.Common.{◌≡◌, ℕ, zero, suc, ◌+◌, ◌-◌, ◌%◌, ◌/◌, ◌<◌, ◌≤◌, Bool, true, false}
use Rattle.std.proofs.Common.{List, [], ◌∷◌, ◌++◌, length, take, drop, refl, sym, ◌∙◌, ap, arith}
use Rattle.std.proofs.Common.{append_assoc, append-nil, length-append, take-append-drop, All, Some}
use Rattle.std.proofs.lemmas.List.{append_cancel_right}
use Rattle.std.specs.Prelude.{◌==◌, ◌&&◌, nat_lt, if◌then◌else◌, slice_get, slice_index, codes, sum}
use Rattle.std.proofs.lemmas.List.{take_at, drop_at}
use Rattle.std.proofs.lemmas.List.Elements.{All-head, All-tail}
use Rattle.std.proofs.lemmas.Bool.Decides.{nat_tests}
use Rattle.std.specs.Char.{is_ascii_digit}
use Rattle.std.specs.Str.Parse.{digits_value}
use Rattle.frame_grammar.specs.declared.frame.Kind.{Kind}
use Rattle.frame_grammar.specs.declared.frame.Garble.{Garble}
use Rattle.frame_grammar.specs.declared.frame.Garble.TheVariants.{BeginString, LengthField}
use Rattle.frame_grammar.specs.declared.frame.Garble.TheVariants.{TypeField, Trailer}
use Rattle.frame_grammar.specs.Frame.{begin_string, opening, three_digits, IsDigit, SaysLength}
use Rattle.frame_grammar.specs.Frame.{IsBody, IsFrame, front, trailer}
use Rattle.frame_grammar.proofs.Digits.{digit_low, digit_is}
use Rattle.frame_grammar.specs.Found.{Found, Whole, expect, expect_sum, found_trailer, found_last}
use Rattle.frame_grammar.specs.Found.{found_type, found_body, found_said, found_length, found}

same_byte : (b : ℕ) → (b == b) ≡ true
same_byte b = grind (arith, nat_tests)

pub if_true : {A : Type 0} (c : Bool) (x y : A) → c ≡ true → (if c then x else y) ≡ x
if_true c x y is = ap (λ b. if b then x else y) is

pub if_false : {A : Type 0} (c : Bool) (x y : A) → c ≡ false → (if c then x else y) ≡ y
if_false c x y is = ap (λ b. if b then x else y) is

pub expect_text : (text rest : List ℕ) (cause : Garble) (go : List ℕ → Found)
    → expect text cause go (text ++ rest) ≡ go rest
expect_text [] rest cause go = refl
expect_text (t ∷ text) rest cause go =
    if_true (t == t) _ _ (same_byte t) ∙ expect_text text rest cause go

-- what begins like bytes in which a text has come goes on where the text ends
pub comes_alike : (t b : ℕ) (text bytes : List ℕ) (own : Garble) → (b == t) ≡ true
    → ((other : List ℕ) (g : Found) → take (length text) other ≡ take (length text) bytes
    → expect text own (λ _. g) other ≡ g)
    → (other : List ℕ) (g : Found)
    → take (length (t ∷ text)) other ≡ take (length (t ∷ text)) (b ∷ bytes)
    → expect (t ∷ text) own (λ _. g) other ≡ g
comes_alike t b text bytes own same later [] g is = absurd (cc is)
comes_alike t b text bytes own same later (x ∷ other) g is =
    let head : x ≡ b = cc is in
    let tail : take (length text) other ≡ take (length text) bytes = cc is in
    if_true (x == t) _ _ (ap (λ (y : ℕ). y == t) head ∙ same) ∙ later other g tail

pub expect_digits : (text rest : List ℕ) (go : List ℕ → Found)
    → All IsDigit text → expect_sum text go (text ++ rest) ≡ go rest
expect_digits [] rest go each = refl
expect_digits (t ∷ text) rest go each =
    if_true (is_ascii_digit t) _ _ (All-head IsDigit t text each) ∙ if_true
    (t == t) _ _ (same_byte t) ∙ expect_digits text rest go (All-tail IsDigit t text each)

pub found_length-digits : (start seen digits rest : List ℕ)
    → All IsDigit digits → length seen + length digits ≤ 7
    → found_length start seen (digits ++ 1 ∷ rest)
    ≡ found_said start (seen ++ digits) (digits_value 10 (seen ++ digits)) rest
found_length-digits start seen [] rest each short =
    ap (λ l. found_said start l (digits_value 10 l) rest) (sym (append-nil seen))
found_length-digits start seen (d ∷ digits) rest each short =
    let digit = All-head IsDigit d digits each in
    let low = digit_low d digit in
    let not_soh : (d == 1) ≡ false = grind (arith, nat_tests) in
    let room : nat_lt (length seen) 7 ≡ true = grind (arith, nat_tests) in
    let both : (is_ascii_digit d && nat_lt (length seen) 7) ≡ true =
    ap (λ c. c && nat_lt (length seen) 7) digit ∙ room in
    let more = found_length-digits start (seen ++ d ∷ [])
    digits rest (All-tail IsDigit d digits each) (omega (arith, length-append seen (d ∷ []))) in
    if_false (d == 1) _ _ not_soh
    ∙ if_true (is_ascii_digit d && nat_lt (length seen) 7) _ _ both ∙ more
    ∙ ap (λ l. found_said start l (digits_value 10 l) rest) (append_assoc seen (d ∷ []) digits)

get_front : (xs ys : List ℕ) (k : ℕ)
    → k < length xs → slice_get (xs ++ ys) k ≡ Some (slice_index xs k)
get_front [] ys k within = absurd (omega arith)
get_front (x ∷ xs) ys zero within = refl
get_front (x ∷ xs) ys (suc k) within = get_front xs ys k (omega arith)

pub three_digits-digits : (n : ℕ) → n < 256 → All IsDigit (three_digits n)
three_digits-digits n small zero d within = digit_is (48 + n / 100) (omega arith) (omega arith)
three_digits-digits n small (suc zero) d within =
    digit_is (48 + n / 10 % 10) (omega arith) (omega arith)
three_digits-digits n small (suc (suc zero)) d within =
    digit_is (48 + n % 10) (omega arith) (omega arith)
three_digits-digits n small (suc (suc (suc k))) d within = absurd (omega arith)

-- a trailer that comes ends the frame
found_trailer-trailer : (before body after : List ℕ)
    → found_trailer before body (trailer (before ++ body) ++ after) ≡ Whole body after
found_trailer-trailer before body after =
    let n = sum (before ++ body) % 256 in
    let tens = three_digits n in
    expect_text (codes "10=") (tens ++ (1 ∷ after))
    Trailer (expect_sum tens (expect (1 ∷ []) Trailer (λ a. Whole body a)))
    ∙ expect_digits tens (1 ∷ after)
    (expect (1 ∷ []) Trailer (λ a. Whole body a)) (three_digits-digits n (omega arith))
    ∙ expect_text (1 ∷ []) after Trailer (λ a. Whole body a)

pub trailer_comes : (before body s : List ℕ)
    → take 7 s ≡ trailer (before ++ body) → found_trailer before body s ≡ Whole body (drop 7 s)
trailer_comes before body s is =
    ap (found_trailer before body)
    (sym (take-append-drop 7 s) ∙ ap (λ (l : List ℕ). l ++ drop 7 s) is)
    ∙ found_trailer-trailer before body (drop 7 s)

module _ (before body after : List ℕ) (is_body : IsBody body) where
  abbrev rest : List ℕ
  rest = body ++ (trailer (before ++ body) ++ after)

  pub found_body-body : found_body before (length body) rest ≡ Whole body after
  found_body-body =
      let w = is_body.writable in
      let begins : rest ≡ codes "35=" ++ (drop 3 body ++ (trailer (before ++ body) ++ after)) =
      ap (λ l. l ++ (trailer (before ++ body) ++ after))
      (sym (take-append-drop 3 body) ∙ ap (λ l. l ++ drop 3 body) w.begins) in
      let typed = ap (λ l. expect (codes "35=")
      TypeField (λ _. found_type before (length body) rest (slice_get rest 3)) l) begins
      ∙ expect_text (codes "35=") (drop 3 body ++ (trailer (before ++ body) ++ after))
      TypeField (λ _. found_type before (length body) rest (slice_get rest 3)) in
      let third : slice_get rest 3 ≡ Some (slice_index body 3) =
      get_front body (trailer (before ++ body) ++ after) 3 (omega (arith, w.least)) in
      let last : slice_get rest (length body - 1) ≡ Some 1 =
      get_front body (trailer (before ++ body) ++ after)
      (length body - 1) (omega (arith, w.least)) ∙ ap (λ (x : ℕ). Some x) w.ends in
      let has_type = w.has_type in
      let not_soh : (slice_index body 3 == 1) ≡ false = grind (arith, nat_tests, has_type) in
      typed ∙ ap (found_type before (length body) rest) third
      ∙ if_false (slice_index body 3 == 1) _ _ not_soh
      ∙ ap (found_last before (length body) rest) last
      ∙ ap (λ l. found_trailer before l (drop (length body) rest))
      (take_at body (trailer (before ++ body) ++ after) (length body) refl)
      ∙ ap (found_trailer before body)
      (drop_at body (trailer (before ++ body) ++ after) (length body) refl)
      ∙ found_trailer-trailer before body after

module _ (body after : List ℕ) (is_body : IsBody body) where
  found_said-digits : (start digits : List ℕ) → SaysLength digits (length body)
      → found_said start digits (digits_value 10 digits)
      (body ++ (trailer (start ++ digits ++ 1 ∷ body) ++ after)) ≡ Whole body after
  found_said-digits start [] says = absurd (omega (arith, says.least))
  found_said-digits start (d ∷ digits) says =
      let most = is_body.most in
      let least = is_body.writable.least in
      let value = says.value in
      let n = digits_value 10 (d ∷ digits) in
      let not_long : nat_lt 8192 n ≡ false = grind (arith, nat_tests, value, most) in
      let not_short : nat_lt n 5 ≡ false = grind (arith, nat_tests, value, least) in
      let grouped : start ++ (d ∷ digits) ++ 1 ∷ body ≡ (start ++ (d ∷ digits) ++ 1 ∷ []) ++ body =
      simp append_assoc in
      if_false (nat_lt 8192 n) _ _ not_long ∙ if_false (nat_lt n 5) _ _ not_short
      ∙ ap (λ k. found_body (start ++ (d ∷ digits) ++ 1 ∷ [])
      k (body ++ (trailer (start ++ (d ∷ digits) ++ 1 ∷ body) ++ after))) value
      ∙ ap (λ l. found_body
      (start ++ (d ∷ digits) ++ 1 ∷ []) (length body) (body ++ (trailer l ++ after))) grouped
      ∙ found_body-body (start ++ (d ∷ digits) ++ 1 ∷ []) body after is_body

assemble : (kind : Kind) (head : List ℕ)
    → opening kind ≡ head ++ codes "9=" → begin_string kind ≡ head
    → (body bytes after : List ℕ)
    → IsFrame kind body bytes → found kind (bytes ++ after) ≡ Whole body after
assemble kind head is_head taken body bytes after f =
    let last = trailer (front kind f.digits body) in
    let tail : List ℕ = f.digits ++ 1 ∷ (body ++ (last ++ after)) in
    let grouped : (front kind f.digits body ++ last) ++ after ≡ opening kind ++ tail =
    simp append_assoc in
    let split : bytes ++ after ≡ head ++ (codes "9=" ++ tail) = ap (λ l. l ++ after) f.joined
    ∙ grouped ∙ ap (λ l. l ++ tail) is_head ∙ append_assoc head (codes "9=") tail in
    let go2 : List ℕ → Found = found_length (opening kind) [] in
    let go1 : List ℕ → Found = expect (codes "9=") LengthField go2 in
    ap (λ l. expect l BeginString go1 (bytes ++ after)) taken
    ∙ ap (expect head BeginString go1) split
    ∙ expect_text head (codes "9=" ++ tail) BeginString go1
    ∙ expect_text (codes "9=") tail LengthField go2
    ∙ found_length-digits (opening kind)
    [] f.digits (body ++ (last ++ after)) f.says.each (omega (arith, f.says.most))
    ∙ found_said-digits body after f.is_body (opening kind) f.digits f.says

-- a frame at the front of a text is found there
pub found_frame : (kind : Kind) (body bytes after : List ℕ)
    → IsFrame kind body bytes → found kind (bytes ++ after) ≡ Whole body after
found_frame kind body bytes after f = assemble kind (begin_string kind) refl refl body bytes after f

-- two frames that begin one text are one
pub no_other : (kind : Kind) (body bytes after other_body other other_after : List ℕ)
    → IsFrame kind body bytes → IsFrame kind other_body other
    → bytes ++ after ≡ other ++ other_after → (body ≡ other_body) × (bytes ≡ other)
no_other kind body bytes after other_body other other_after f g same =
    let both : Whole body after ≡ Whole other_body other_after =
    sym (found_frame kind body bytes after f)
    ∙ ap (found kind) same ∙ found_frame kind other_body other other_after g in
    let bodies : body ≡ other_body = cc both in
    let afters : after ≡ other_after = cc both in
    (bodies, append_cancel_right bytes other after (same ∙ ap (λ l. other ++ l) (sym afters)))
