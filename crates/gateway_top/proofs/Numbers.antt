-- The number that a word writes.
use Rattle.std.proofs.Common.{◌≡◌, ℕ, ◌≤◌, ◌<◌, ◌^◌, Bool, true, false, List, refl, ◌∙◌, ap, arith}
use Rattle.std.proofs.Common.{Some, None, Ok, Err}
use Rattle.std.specs.Prelude.{Result, ◌&&◌, nat_le, if◌then◌else◌, bytes_eq}
use Rattle.std.proofs.lemmas.Bool.{leb-true}
use Rattle.std.proofs.lemmas.Slice.Eq.{bytes_eq-Decides}
use Rattle.std.specs.Fmt.{decimal}
use Rattle.std.specs.Str.Parse.{digits_value, ParsesUnsigned}
use Rattle.std.proofs.lemmas.Fmt.{parse-decimal, decimal_is_IsNumeral}
use Rattle.gateway_top.specs.Command.{is_between, number_in}

both_true : (a b : Bool) → (a && b) ≡ true → (a ≡ true) × (b ≡ true)
both_true true true is = (refl, refl)
both_true true false is = absurd (cc is)
both_true false b is = absurd (cc is)

-- a word that is this number
record Writes (least most n : ℕ) (word : List ℕ) : Type 0 where
  written : word ≡ decimal n
  at_least : least ≤ n
  at_most : n ≤ most

by_test : (b : Bool) → (b ≡ true → ⊥) → b ≡ false
by_test b never = by b refl
  where
    by : (a : Bool) → b ≡ a → b ≡ false
    by true is = absurd (never is)
    by false is = is

ok_same : {E : Type 0} (a b : ℕ) (r : Result ℕ E) → r ≡ Ok a → r ≡ Ok b → a ≡ b
ok_same a b r one two = cc (one, two)

module _ (least most : ℕ) (small : most < 2 ^ 64) where
  are : (n : ℕ) (word : List ℕ) → is_between least most n word ≡ true → Writes least most n word
  are n word is =
      let one = both_true (bytes_eq word (decimal n)) (nat_le least n && nat_le n most) is in
      let two = both_true (nat_le least n) (nat_le n most) one.1 in
      record {
        written = (bytes_eq-Decides word (decimal n)).0 one.0;
        at_least = leb-true least n two.0;
        at_most = leb-true n most two.1;
      }

  none_of : (n : ℕ) (word : List ℕ) → is_between least most n word ≡ false
      → (if is_between least most n word then Some n else None) ≡ None
  none_of n word is = ap (λ (b : Bool). if b then Some n else None) is

  -- the number that a word is read as is the one that it writes
  parsed : {E : Type 0} (word : List ℕ) (r : Result ℕ E) → ParsesUnsigned 64 10 word r → (n : ℕ)
      → Writes least most n word → r ≡ Ok n
  parsed word r parses n writes = parse-decimal 64 n word r (omega (arith, writes.at_most, small))
      (omega (arith, writes.at_most, small)) writes.written parses

  -- a word that is read as no number, or as one beyond the bounds
  pub no_number : {E : Type 0} (word : List ℕ) (r : Result ℕ E) (e : E)
      → ParsesUnsigned 64 10 word r → r ≡ Err e → number_in least most word ≡ None
  no_number word r e parses is = none_of (digits_value 10 word) word
      (by_test (is_between least most (digits_value 10 word) word)
      (λ yes. absurd (cc (
        is,
        parsed word r parses (digits_value 10 word) (are (digits_value 10 word) word yes),
      ))))

  pub not_between : {E : Type 0} (word : List ℕ) (r : Result ℕ E) (n : ℕ)
      → ParsesUnsigned 64 10 word r → r ≡ Ok n → is_between least most n word ≡ false
      → number_in least most word ≡ None
  not_between word r n parses is test = none_of (digits_value 10 word) word
      (by_test (is_between least most (digits_value 10 word) word) (λ yes.
      let same = ok_same n (digits_value 10 word) r is
      (parsed word r parses (digits_value 10 word) (are (digits_value 10 word) word yes)) in
      absurd (cc (test, yes, ap (λ (k : ℕ). is_between least most k word) same))))

  pub some_number : (word : List ℕ) (n : ℕ) → is_between least most n word ≡ true
      → number_in least most word ≡ Some n
  some_number word n test =
      let writes = are n word test in
      let value = ap (λ (w : List ℕ). digits_value 10 w) writes.written
      ∙ (decimal_is_IsNumeral n (omega (arith, writes.at_most, small))).1 in
      ap (λ (k : ℕ). if is_between least most k word then Some k else None) value
      ∙ ap (λ (b : Bool). if b then Some n else None) test

  pub bounds : (word : List ℕ) (n : ℕ) → is_between least most n word ≡ true
      → (least ≤ n) × (n ≤ most)
  bounds word n test = let writes = are n word test in (writes.at_least, writes.at_most)
