-- A text that meets a rule of frames does not break it: what breaks there breaks a later one.
use Rattle.std.proofs.Common.{◌≡◌, ◌≢◌, ℕ, suc, ◌-◌, ◌%◌, ◌≤◌, Bool, true, false}
use Rattle.std.proofs.Common.{List, [], ◌∷◌, ◌++◌, length, take, drop, refl, sym, ◌∙◌, ap, subst}
use Rattle.std.proofs.Common.{arith, append_assoc, length-append}
use Rattle.std.proofs.Common.{All, Some, None, inl, inr, ◌⊎◌}
use Rattle.std.specs.Prelude.{◌==◌, ◌&&◌, ◌||◌, nat_lt, if◌then◌else◌, slice_get, codes, sum}
use Rattle.std.specs.Char.{is_ascii_digit}
use Rattle.std.specs.List.{list_any}
use Rattle.std.specs.Str.Parse.{digits_value}
use Rattle.std.specs.declared.option.Option.{Option}
use Rattle.std.proofs.lemmas.Bool.Decides.{nat_tests}
use Rattle.std.proofs.lemmas.List.{take_at, drop_at}
use Rattle.std.proofs.lemmas.List.Elements.{All-head, All-tail}
use Rattle.frame_grammar.specs.declared.frame.Kind.{Kind}
use Rattle.frame_grammar.specs.declared.frame.Garble.{Garble}
use Rattle.frame_grammar.specs.declared.frame.Garble.TheVariants.{BeginString, LengthField, TooLong}
use Rattle.frame_grammar.specs.declared.frame.Garble.TheVariants.{TypeField, Trailer, Sum}
use Rattle.frame_grammar.specs.declared.frame.TheConstants.{SOH}
use Rattle.frame_grammar.specs.Frame.{begin_string, opening, three_digits, IsDigit}
use Rattle.frame_grammar.specs.Frame.{SaysLength}
use Rattle.frame_grammar.specs.Found.{Found, Whole, Broken, expect, expect_sum}
use Rattle.frame_grammar.specs.Found.{found_trailer, found_last, found_type, found_body, found_said}
use Rattle.frame_grammar.specs.Found.{found_length, found}
use Rattle.frame_grammar.specs.Cause.{HasBody, HasType, Meets}
use Rattle.frame_grammar.proofs.Begins.{expect_text, found_length-digits, found_frame, if_true}
use Rattle.frame_grammar.proofs.Begins.{if_false}

-- the place of a rule among the rules
abbrev pub rank : Garble → ℕ
rank BeginString = 0
rank LengthField = 1
rank (TooLong said) = 2
rank TypeField = 3
rank Trailer = 4
rank Sum = 5

-- What breaks here breaks none of the first n rules.
abbrev pub After : ℕ → Found → Type 0
After n f = (cause : Garble) (after : List ℕ) → f ≡ Broken cause after → n ≤ rank cause

pub choose : (P : Type 0) (c : Bool) (x y f : Found)
    → (if c then x else y) ≡ f → (c ≡ true → x ≡ f → P) → (c ≡ false → y ≡ f → P) → P
choose P true x y f is then_is else_is = then_is refl is
choose P false x y f is then_is else_is = else_is refl is

own_after : (n : ℕ) (own : Garble) (rest : List ℕ) → n ≤ rank own → After n (Broken own rest)
own_after n own rest low cause after is =
    let same : own ≡ cause = cc is in subst (λ c. n ≤ rank c) same low

if_after : (n : ℕ) (c : Bool) (x y : Found) → After n x → After n y → After n (if c then x else y)
if_after n true x y then_is else_is = then_is
if_after n false x y then_is else_is = else_is

expect_after : (n : ℕ) (text : List ℕ) (own : Garble) (go : List ℕ → Found)
    → n ≤ rank own → ((s : List ℕ) → After n (go s)) → (s : List ℕ) → After n (expect text own go s)
expect_after n [] own go low h s = h s
expect_after n (t ∷ text) own go low h [] = λ cause after is. absurd (cc is)
expect_after n (t ∷ text) own go low h (b ∷ s) =
    if_after n (b == t) _ _ (expect_after n text own go low h s) (own_after n own s low)

sum_after : (n : ℕ) (text : List ℕ) (go : List ℕ → Found)
    → n ≤ 4 → ((s : List ℕ) → After n (go s)) → (s : List ℕ) → After n (expect_sum text go s)
sum_after n [] go low h s = h s
sum_after n (t ∷ text) go low h [] = λ cause after is. absurd (cc is)
sum_after n (t ∷ text) go low h (b ∷ s) =
    if_after n (is_ascii_digit b) _ _ (if_after n (b == t) _ _
    (sum_after n text go low h s) (own_after n Sum s (omega arith))) (own_after n Trailer s low)

trailer_after : (before body s : List ℕ) → After 4 (found_trailer before body s)
trailer_after before body s =
    expect_after 4 (codes "10=") Trailer
    _ (omega arith) (sum_after 4 (three_digits (sum (before ++ body) % 256)) _ (omega arith)
    (expect_after 4 (SOH ∷ [])
    Trailer (λ after. Whole body after) (omega arith) (λ l cause after is. absurd (cc is)))) s

pub later : (n m : ℕ) (f : Found) → n ≤ m → After m f → After n f
later n m f low h cause after is = omega (arith, h cause after is)

last_after : (before : List ℕ) (n : ℕ) (rest : List ℕ) (o : Option ℕ)
    → After 3 (found_last before n rest o)
last_after before n rest None = λ cause after is. absurd (cc is)
last_after before n rest (Some last) =
    if_after 3 (last == 1)
    _ _ (later 3 4 _ (omega arith) (trailer_after before (take n rest) (drop n rest)))
    (own_after 3 (if list_any (λ b. b == 1) (drop 4 (take n rest)) then Trailer else TypeField)
    (drop n rest) (either (list_any (λ b. b == 1) (drop 4 (take n rest)))))
  where
    either : (c : Bool) → 3 ≤ rank (if c then Trailer else TypeField)
    either true = omega arith
    either false = omega arith

type_after : (before : List ℕ) (n : ℕ) (rest : List ℕ) (o : Option ℕ)
    → After 3 (found_type before n rest o)
type_after before n rest None = λ cause after is. absurd (cc is)
type_after before n rest (Some first) =
    if_after 3 (first == 1) _ _ (own_after 3 TypeField (drop 4 rest) (omega arith))
    (last_after before n rest (slice_get rest (n - 1)))

pub body_after : (before : List ℕ) (n : ℕ) (rest : List ℕ) → After 3 (found_body before n rest)
body_after before n rest =
    expect_after 3 (codes "35=") TypeField (λ _. found_type before n rest (slice_get rest 3))
    (omega arith) (λ s. type_after before n rest (slice_get rest 3)) rest

said_after : (start digits : List ℕ) (said : ℕ) (rest : List ℕ)
    → 1 ≤ length digits → After 2 (found_said start digits said rest)
said_after start [] said rest some = absurd (omega arith)
said_after start (d ∷ digits) said rest some =
    if_after 2 (nat_lt 8192 said) _ _ (own_after 2 (TooLong said) rest (omega arith))
    (if_after 2 (nat_lt said 5) _ _ (own_after 2 TypeField rest (omega arith))
    (later 2 3 _ (omega arith) (body_after (start ++ (d ∷ digits) ++ 1 ∷ []) said rest)))

short_said_after : (start digits : List ℕ) (said : ℕ) (rest : List ℕ)
    → 1 ≤ length digits → said ≤ 8192 → After 3 (found_said start digits said rest)
short_said_after start [] said rest some most = absurd (omega arith)
short_said_after start (d ∷ digits) said rest some most =
    let fits : nat_lt 8192 said ≡ false = grind (arith, nat_tests) in
    λ cause after is. if_after 3 (nat_lt said 5) _ _ (own_after 3 TypeField rest (omega arith))
    (body_after (start ++ (d ∷ digits) ++ 1 ∷ []) said rest) cause after
    (sym (if_false (nat_lt 8192 said) _ _ fits) ∙ is)

said_after_one : (start digits : List ℕ) (said : ℕ) (rest : List ℕ)
    → After 1 (found_said start digits said rest)
said_after_one start [] said rest = own_after 1 LengthField rest (omega arith)
said_after_one start (d ∷ digits) said rest =
    later 1 2 _ (omega arith) (said_after start (d ∷ digits) said rest (omega arith))

length_after : (start seen s : List ℕ) → After 1 (found_length start seen s)
length_after start seen [] = λ cause after is. absurd (cc is)
length_after start seen (b ∷ s) =
    if_after 1 (b == 1) _ _ (said_after_one start seen (digits_value 10 seen) s)
    (if_after 1 (is_ascii_digit b && nat_lt (length seen) 7)
    _ _ (length_after start (seen ++ b ∷ []) s) (own_after 1 LengthField s (omega arith)))

-- a length field, as it is looked at
at_said : (kind : Kind) (digits : List ℕ) (said : ℕ) (rest : List ℕ) → SaysLength digits said
    → found kind (opening kind ++ digits ++ SOH ∷ rest) ≡ found_said (opening kind) digits said rest
at_said kind digits said rest says =
    let go2 : List ℕ → Found = found_length (opening kind) [] in
    let go1 : List ℕ → Found = expect (codes "9=") LengthField go2 in
    let split : opening kind ++ digits ++ SOH
    ∷ rest ≡ begin_string kind ++ (codes "9=" ++ (digits ++ SOH ∷ rest)) = simp append_assoc in
    ap (found kind) split
    ∙ expect_text (begin_string kind) (codes "9=" ++ (digits ++ SOH ∷ rest)) BeginString go1
    ∙ expect_text (codes "9=") (digits ++ SOH ∷ rest) LengthField go2
    ∙ found_length-digits (opening kind) [] digits rest says.each (omega (arith, says.most))
    ∙ ap (λ n. found_said (opening kind) digits n rest) says.value

any_soh : (xs ys : List ℕ) → list_any (λ b. b == 1) (xs ++ 1 ∷ ys) ≡ true
any_soh [] ys = refl
any_soh (x ∷ xs) ys = at (x == 1) (any_soh xs ys)
  where
    at : (c : Bool) → list_any (λ b. b == 1) (xs ++ 1 ∷ ys) ≡ true
        → (c || list_any (λ b. b == 1) (xs ++ 1 ∷ ys)) ≡ true
    at true is = refl
    at false is = is

-- a body that has a type, of the length that was said
module _ (before body rest : List ℕ) where
  abbrev Typed : Type 0
  Typed = found_body before (length body) (body ++ rest)
      ≡ found_last before (length body) (body ++ rest) (slice_get (body ++ rest) (length body - 1))

  typed_of : (name tail : List ℕ)
      → name ≢ [] → All (λ b. b ≢ SOH) name → body ≡ codes "35=" ++ name ++ SOH ∷ tail → Typed
  typed_of [] tail some each is = absurd (some refl)
  typed_of (c ∷ cs) tail some each is =
      let other = All-head (λ b. b ≢ SOH) c cs each in
      let not_soh : (c == 1) ≡ false = grind (arith, nat_tests, other) in
      let n = length body in
      let all = body ++ rest in
      let o = slice_get all (n - 1) in
      let third : slice_get all 3 ≡ Some c = ap (λ (l : List ℕ). slice_get (l ++ rest) 3) is in
      let begins : all ≡ codes "35=" ++ ((c ∷ cs) ++ SOH ∷ tail ++ rest) =
      ap (λ (l : List ℕ). l ++ rest) is ∙ simp append_assoc in
      ap (expect (codes "35=") TypeField (λ _. found_type before n all (slice_get all 3))) begins
      ∙ expect_text (codes "35=") ((c ∷ cs) ++ SOH ∷ tail ++ rest)
      TypeField (λ _. found_type before n all (slice_get all 3))
      ∙ ap (found_type before n all) third ∙ if_false (c == 1) _ _ not_soh

  module _ (t : HasType body) where
    typed : Typed
    typed = typed_of t.0 t.1 t.2 t.3 t.4

    has_soh : list_any (λ b. b == 1) (drop 4 (take (length body) (body ++ rest))) ≡ true
    has_soh = ap (λ (l : List ℕ). list_any (λ b. b == 1) (drop 4 l))
        (take_at body rest (length body) refl) ∙ at t.0 t.1 t.2 t.4
      where
        at : (name tail : List ℕ) → name ≢ []
            → body ≡ codes "35=" ++ name ++ SOH ∷ tail → list_any (λ b. b == 1) (drop 4 body) ≡ true
        at [] tail some is = absurd (some refl)
        at (c ∷ cs) tail some is =
            ap (λ (l : List ℕ). list_any (λ b. b == 1) (drop 4 l)) is ∙ any_soh cs tail

    typed_after : After 4 (found_body before (length body) (body ++ rest))
    typed_after = λ cause after is.
        at (slice_get (body ++ rest) (length body - 1)) cause after (sym typed ∙ is)
      where
        at : (o : Option ℕ) → After 4 (found_last before (length body) (body ++ rest) o)
        at None = λ cause after is. absurd (cc is)
        at (Some last) =
            if_after 4 (last == 1) _ _ (trailer_after
            before (take (length body) (body ++ rest)) (drop (length body) (body ++ rest)))
            (λ cause after is.
            own_after 4 Trailer (drop (length body) (body ++ rest)) (omega arith) cause after
            (sym (ap (λ c. Broken (if c then Trailer else TypeField)
            (drop (length body) (body ++ rest))) has_soh) ∙ is))

get_last : (start rest : List ℕ) (x : ℕ)
    → slice_get ((start ++ x ∷ []) ++ rest) (length (start ++ x ∷ []) - 1) ≡ Some x
get_last start rest x =
    let n : length (start ++ x ∷ []) - 1 ≡ length start =
    omega (arith, length-append start (x ∷ [])) in
    ap (slice_get ((start ++ x ∷ []) ++ rest)) n ∙ go start
  where
    go : (l : List ℕ) → slice_get ((l ++ x ∷ []) ++ rest) (length l) ≡ Some x
    go [] = refl
    go (y ∷ l) = go l

-- digits of a sum, which break no rule but the sum's
sum_digits : (text digits s : List ℕ) (go : List ℕ → Found) (cause : Garble) (after : List ℕ)
    → length digits ≡ length text → All IsDigit digits
    → expect_sum text go (digits ++ s) ≡ Broken cause after
    → (5 ≤ rank cause) ⊎ (go s ≡ Broken cause after)
sum_digits [] [] s go cause after same each is = inr is
sum_digits [] (d ∷ digits) s go cause after same each is = absurd (omega (arith, same))
sum_digits (t ∷ text) [] s go cause after same each is = absurd (omega (arith, same))
sum_digits (t ∷ text) (d ∷ digits) s go cause after same each is =
    choose ((5 ≤ rank cause) ⊎ (go s ≡ Broken cause after))
    (d == t) _ _ _ (sym (if_true (is_ascii_digit d) _ _ (All-head IsDigit d digits each)) ∙ is)
    (λ _ more. sum_digits
    text digits s go cause after (omega (arith, same)) (All-tail IsDigit d digits each) more)
    (λ _ broken. inl (own_after 5 Sum (digits ++ s) (omega arith) cause after broken))

trailer_digits_after : (before body digits s : List ℕ) → length digits ≡ 3
    → All IsDigit digits → After 5 (found_trailer before body (codes "10=" ++ digits ++ SOH ∷ s))
trailer_digits_after before body digits s three each cause after is =
    let tens = three_digits (sum (before ++ body) % 256) in
    let closing : List ℕ → Found = expect (SOH ∷ []) Trailer (λ a. Whole body a) in
    let split : codes "10=" ++ digits ++ SOH ∷ s ≡ codes "10=" ++ (digits ++ SOH ∷ s) =
    append_assoc (codes "10=") digits (SOH ∷ s) in
    let at : expect_sum tens closing (digits ++ SOH ∷ s) ≡ Broken cause after =
    sym (expect_text (codes "10=") (digits ++ SOH ∷ s) Trailer (expect_sum tens closing))
    ∙ ap (expect (codes "10=") Trailer (expect_sum tens closing)) (sym split) ∙ is in
    elim (sum_digits tens digits (SOH ∷ s) closing cause after three each at)
    [ inl low ↦ low | inr whole ↦ absurd (cc whole) ]

type_long : (body : List ℕ) → HasType body → 5 ≤ length body
type_long body t = at t.0 t.2 t.4
  where
    at : (name : List ℕ) → name ≢ [] → body ≡ codes "35=" ++ name ++ SOH ∷ t.1 → 5 ≤ length body
    at [] some is = absurd (some refl)
    at (c ∷ cs) some is = omega (arith, ap length is, length-append cs (SOH ∷ t.1))

-- a text with a body, as that is looked at
at_body : (kind : Kind) (body rest text : List ℕ) (b : HasBody kind body rest text) → HasType body
    → found_body (opening kind ++ b.digits ++ SOH ∷ []) (length body) (body ++ rest)
    ≡ found kind text
at_body kind body rest text b t =
    let joined : text ≡ opening kind ++ b.digits ++ SOH ∷ (body ++ rest) =
    b.joined ∙ append_assoc (opening kind ++ b.digits) (SOH ∷ body) rest in
    sym (said b.digits b.says.least)
    ∙ sym (at_said kind b.digits (length body) (body ++ rest) b.says)
    ∙ ap (found kind) (sym joined)
  where
    said : (digits : List ℕ)
        → 1 ≤ length digits → found_said (opening kind) digits (length body) (body ++ rest)
        ≡ found_body (opening kind ++ digits ++ SOH ∷ []) (length body) (body ++ rest)
    said [] some = absurd (omega arith)
    said (d ∷ digits) some =
        let n = length body in
        let least = type_long body t in
        let most = b.most in
        let not_long : nat_lt 8192 n ≡ false = grind (arith, nat_tests, most) in
        let not_short : nat_lt n 5 ≡ false = grind (arith, nat_tests, least) in
        if_false (nat_lt 8192 n) _ _ not_long ∙ if_false (nat_lt n 5) _ _ not_short

-- A text that meets a rule breaks none up to it.
pub meets_after : (kind : Kind) (rule : Garble) (text : List ℕ)
    → Meets kind rule text → After (suc (rank rule)) (found kind text)
meets_after kind BeginString text m cause after is =
    let go1 : List ℕ → Found = expect (codes "9=") LengthField (found_length (opening kind) []) in
    expect_after 1 (codes "9=") LengthField (found_length (opening kind) [])
    (omega arith) (λ s. length_after (opening kind) [] s) m.0 cause after
    (sym (expect_text (begin_string kind) m.0 BeginString go1) ∙ ap (found kind) (sym m.1) ∙ is)
meets_after kind LengthField text m cause after is =
    let says = m.1 in
    let rest = says.2.0 in
    let joined : text ≡ opening kind ++ says.0 ++ SOH ∷ rest =
    says.2.1 ∙ append_assoc (opening kind ++ says.0) (SOH ∷ []) rest in
    said_after (opening kind) says.0 m.0 rest says.1.least
    cause after (sym (at_said kind says.0 m.0 rest says.1) ∙ ap (found kind) (sym joined) ∙ is)
meets_after kind (TooLong said) text m cause after is =
    let b = m.2 in
    let rest = m.0 ++ m.1 in
    let joined : text ≡ opening kind ++ b.digits ++ SOH ∷ rest =
    b.joined ∙ append_assoc (opening kind ++ b.digits) (SOH ∷ m.0) m.1 in
    short_said_after (opening kind) b.digits (length m.0) rest b.says.least b.most cause after
    (sym (at_said kind b.digits (length m.0) rest b.says) ∙ ap (found kind) (sym joined) ∙ is)
meets_after kind TypeField text m cause after is =
    let b = m.2 in
    typed_after (opening kind ++ b.digits ++ SOH ∷ [])
    m.0 m.1 m.3 cause after (at_body kind m.0 m.1 text b m.3 ∙ is)
meets_after kind Trailer text m cause after is =
    let body = m.0 in
    let rest = m.1 in
    let b = m.3 in
    let t = m.5 in
    let before = opening kind ++ b.digits ++ SOH ∷ [] in
    let last : slice_get (body ++ rest) (length body - 1) ≡ Some 1 =
    ap (λ (l : List ℕ). slice_get (l ++ rest) (length l - 1)) t.ends.1
    ∙ get_last t.ends.0 rest 1 in
    let trailing : found_body before (length body) (body ++ rest)
    ≡ found_trailer before body (codes "10=" ++ m.2 ++ SOH ∷ t.comes.0) =
    typed before body rest m.4 ∙ ap (found_last before (length body) (body ++ rest)) last
    ∙ ap (λ (l : List ℕ). found_trailer before l (drop (length body) (body ++ rest)))
    (take_at body rest (length body) refl)
    ∙ ap (found_trailer before body) (drop_at body rest (length body) refl
    ∙ t.comes.1 ∙ append_assoc (codes "10=" ++ m.2) (SOH ∷ []) t.comes.0) in
    trailer_digits_after before body m.2
    t.comes.0 t.three t.each cause after (sym trailing ∙ at_body kind body rest text b m.4 ∙ is)
meets_after kind Sum text m cause after is =
    let whole = found_frame kind m.0 m.1 m.3.0 m.2 in
    absurd (cc (sym whole ∙ ap (found kind) (sym m.3.1) ∙ is))
