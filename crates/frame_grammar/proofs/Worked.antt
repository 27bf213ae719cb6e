-- Worked examples, by computation.
use Rattle.std.specs.Prelude.{◌≡◌, ℕ, ◌==◌, if◌then◌else◌, List, [], ◌∷◌, ◌++◌, map, codes, refl}
use Rattle.std.specs.Prelude.{Some, None, replicate}
use Rattle.frame_grammar.specs.declared.frame.Kind.TheVariants.{Fix42, Fix44, Fixt11}
use Rattle.frame_grammar.specs.declared.frame.Garble.TheVariants.{BeginString, LengthField, TooLong}
use Rattle.frame_grammar.specs.declared.frame.Garble.TheVariants.{TypeField, Trailer, Sum}
use Rattle.frame_grammar.specs.declared.pieces.Lost.{Lost}
use Rattle.frame_grammar.specs.declared.pieces.Next.TheVariants as next
use Rattle.std.proofs.Common.{◌≢◌, All, lit≤, arith}
use Rattle.std.proofs.lemmas.List.Elements.{All-cons}
use Rattle.frame_grammar.specs.declared.frame.TheConstants.{SOH}
use Rattle.frame_grammar.specs.Frame.{IsDigit}
use Rattle.frame_grammar.specs.Cause.{Meets}
use Rattle.frame_grammar.specs.Held.{Held, past, found_by}
use Rattle.frame_grammar.specs.Found.{found, Whole, Short, Broken}
use Rattle.frame_grammar.specs.Cut.{first_piece, Good, Bad, Cut}

-- `|` stands for SOH
abbrev wire : List ℕ → List ℕ
wire text = map (λ b. if b == 124 then 1 else b) text

abbrev beat : List ℕ
beat = wire (codes "8=FIX.4.2|9=47|35=0|49=CLNT|56=GATE|34=2|52=20240102-10:00:00|10=070|")

abbrev beat_body : List ℕ
beat_body = wire (codes "35=0|49=CLNT|56=GATE|34=2|52=20240102-10:00:00|")

one_frame : found Fix42 beat ≡ Whole beat_body []
one_frame = refl

-- a Logon of the other kind
abbrev logon : List ℕ
logon = wire (codes
    "8=FIXT.1.1|9=70|35=A|49=GATE|56=VENU|34=1|52=20240102-10:00:00.000|98=0|108=30|1137=9|10=201|")

abbrev logon_body : List ℕ
logon_body = wire (codes "35=A|49=GATE|56=VENU|34=1|52=20240102-10:00:00.000|98=0|108=30|1137=9|")

-- a Heartbeat of the third
third_kind : found Fix44
    (wire (codes "8=FIX.4.4|9=47|35=0|49=CLNT|56=GATE|34=2|52=20240102-10:00:00|10=072|"))
    ≡ Whole beat_body []
third_kind = refl

other_kind : found Fixt11 logon ≡ Whole logon_body []
other_kind = refl

wrong_kind : found Fixt11 beat ≡ Broken
    BeginString (wire (codes "4.2|9=47|35=0|49=CLNT|56=GATE|34=2|52=20240102-10:00:00|10=070|"))
wrong_kind = refl

two_frames : Cut Fix42 (beat ++ beat) (Good beat_body beat ∷ Good beat_body beat ∷ []) []
two_frames = ((refl, (refl, refl)), refl)

abbrev wrong_sum : List ℕ
wrong_sum = wire (codes "8=FIX.4.2|9=47|35=0|49=CLNT|56=GATE|34=2|52=20240102-10:00:00|10=071|")

abbrev echoed : List ℕ
echoed =
    wire (codes "8=FIX.4.2|9=57|35=1|49=CLNT|56=GATE|34=3|52=20240102-10:00:00|112=8=FIX|10=119|")

abbrev echoed_body : List ℕ
echoed_body = wire (codes "35=1|49=CLNT|56=GATE|34=3|52=20240102-10:00:00|112=8=FIX|")

-- `8=FIX` inside a good frame begins no piece
wrong_sum_then_frame : Cut
    Fix42 (wrong_sum ++ echoed) (Bad Sum wrong_sum ∷ Good echoed_body echoed ∷ []) []
wrong_sum_then_frame = ((refl, (refl, refl)), refl)

zeros_in_front : first_piece Fix42
    (wire (codes "8=FIX.4.2|9=0000047|35=0|49=CLNT|56=GATE|34=2|52=20240102-10:00:00|10=054|"))
    ≡ Some (Good beat_body
    (wire (codes "8=FIX.4.2|9=0000047|35=0|49=CLNT|56=GATE|34=2|52=20240102-10:00:00|10=054|")))
zeros_in_front = refl

too_long : Cut Fix42 (wire (codes "8=FIX.4.2|9=8193|8=FIX.4.2|"))
    (Bad (TooLong 8193) (wire (codes "8=FIX.4.2|9=8193|")) ∷ []) (wire (codes "8=FIX.4.2|"))
too_long = ((refl, refl), refl)

too_short : Cut Fix42 (wire (codes "8=FIX.4.2|9=4|8=FIX.4.2|"))
    (Bad TypeField (wire (codes "8=FIX.4.2|9=4|")) ∷ []) (wire (codes "8=FIX.4.2|"))
too_short = ((refl, refl), refl)

starts : Cut Fix42 (codes "8=FIX8=FIX8=FIX")
    (Bad BeginString (codes "8=FIX") ∷ Bad BeginString (codes "8=FIX") ∷ []) (codes "8=FIX")
starts = ((refl, (refl, refl)), refl)

-- digits count as a front of a frame until the SOH that ends them, whatever they say
digits_awaited : found Fix42 (wire (codes "8=FIX.4.2|9=9999999")) ≡ Short
digits_awaited = refl

eighth_digit : found Fix42 (wire (codes "8=FIX.4.2|9=00000047|")) ≡ Broken LengthField (1 ∷ [])
eighth_digit = refl

no_digit : found Fix42 (wire (codes "8=FIX.4.2|9=|35")) ≡ Broken LengthField (codes "35")
no_digit = refl

-- the last byte of a body that no SOH ended breaks its type first, else its end
open_type : found Fix42 (wire (codes "8=FIX.4.2|9=5|35=0010=")) ≡ Broken TypeField (codes "10=")
open_type = refl

open_end : found Fix42 (wire (codes "8=FIX.4.2|9=8|35=0|58=10=")) ≡ Broken Trailer (codes "10=")
open_end = refl

empty_type : found Fix42 (wire (codes "8=FIX.4.2|9=5|35=||10="))
    ≡ Broken TypeField (wire (codes "|10="))
empty_type = refl

-- another digit breaks the sum, a byte that is no digit the trailer
other_digit : found Fix42 (wire
    (codes "8=FIX.4.2|9=47|35=0|49=CLNT|56=GATE|34=2|52=20240102-10:00:00|10=08")) ≡ Broken Sum []
other_digit = refl

two_digits : found
    Fix42 (wire (codes "8=FIX.4.2|9=47|35=0|49=CLNT|56=GATE|34=2|52=20240102-10:00:00|10=07|"))
    ≡ Broken Trailer []
two_digits = refl

-- a body of 8,192 bytes is awaited
longest : found Fix42 (wire (codes "8=FIX.4.2|9=8192|35=0|58=") ++ replicate 8183 120 ++ 1 ∷ [])
    ≡ Short
longest = refl

-- places beyond 2^32, and where they are no longer counted
abbrev far : ℕ → Held
far at = record { kind = Fix42; read = []; unread = codes "8="; at = at; lost = None }

far_place : (past 2 (far 5000000000)).at ≡ 5000000002
far_place = refl

last_place : (past 2 (far 18446744073709551614)).at ≡ 18446744073709551615
last_place = refl

abbrev gone : Lost
gone = record { at = 5000000000; cause = Sum; dropped = 18446744073709551610 }

far_garbled : found_by gone 5 ≡ next.Garbled 5000000000 18446744073709551615 Sum
far_garbled = refl

far_garbled_on : found_by gone 6 ≡ next.Garbled 5000000000 18446744073709551615 Sum
far_garbled_on = refl

-- With another digit in CheckSum the rules before the sum's are met.
digits_are : (a b c : ℕ) → IsDigit a → IsDigit b → IsDigit c → All IsDigit (a ∷ b ∷ c ∷ [])
digits_are a b c a_is b_is c_is = All-cons IsDigit a (b ∷ c ∷ []) a_is (All-cons
    IsDigit b (c ∷ []) b_is (All-cons IsDigit c [] c_is (λ k d within. absurd (omega arith))))

wrong_digits : Meets Fix42 Trailer wrong_sum
wrong_digits = (
  beat_body,
  wire (codes "10=071|"),
  codes "071",
  record {
    digits = codes "47";
    says = record {
      least = lit≤ tt;
      most = lit≤ tt;
      each = All-cons IsDigit
          52 (codes "7") refl (All-cons IsDigit 55 [] refl (λ k d within. absurd (omega arith)));
      value = refl;
    };
    most = lit≤ tt;
    joined = refl;
  },
  (
    codes "0",
    wire (codes "49=CLNT|56=GATE|34=2|52=20240102-10:00:00|"),
    (λ none. absurd (cc none)),
    All-cons (λ b. b ≢ SOH)
        48 [] (λ same. absurd (omega (arith, same))) (λ k d within. absurd (omega arith)),
    refl,
  ),
  record {
    ends = (wire (codes "35=0|49=CLNT|56=GATE|34=2|52=20240102-10:00:00"), refl);
    three = refl;
    each = digits_are 48 55 49 refl refl refl;
    comes = ([], refl);
  },
)
