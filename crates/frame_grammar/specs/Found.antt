-- Own: a table of what stands at the front of a text, byte by byte; docs/DECISIONS.md, "Frames". It
-- is believed for its laws alone: it finds the frames of specs/Frame.antt, awaits what may still
-- become one, and names the first broken rule of specs/Cause.antt.
use Rattle.std.specs.Prelude.{ℕ, ◌-◌, ◌%◌, ◌==◌, ◌&&◌, nat_lt, if◌then◌else◌, List, [], ◌∷◌, ◌++◌}
use Rattle.std.specs.Prelude.{length, take, drop, sum, codes, slice_get}
use Rattle.std.specs.Prelude.{Some, None}
use Rattle.std.specs.Char.{is_ascii_digit}
use Rattle.std.specs.List.{list_any}
use Rattle.std.specs.Str.Parse.{digits_value}
use Rattle.std.specs.declared.option.Option.{Option}
use Rattle.frame_grammar.specs.declared.frame.Kind.{Kind}
use Rattle.frame_grammar.specs.declared.frame.Garble.{Garble}
use Rattle.frame_grammar.specs.declared.frame.Garble.TheVariants.{BeginString, LengthField, TooLong}
use Rattle.frame_grammar.specs.declared.frame.Garble.TheVariants.{TypeField, Trailer, Sum}
use Rattle.frame_grammar.specs.declared.frame.TheConstants.{MAX_BODY, MIN_BODY, MAX_LENGTH_DIGITS}
use Rattle.frame_grammar.specs.declared.frame.TheConstants.{SOH}
use Rattle.frame_grammar.specs.Frame.{begin_string, opening, three_digits}

-- A whole frame, with its body and what is after it; or less than a frame; or a byte that breaks a
-- rule, with what is after it.
pub data Found : Type 0 where
  Whole : (body : List ℕ) (after : List ℕ) → Found
  Short : Found
  Broken : (cause : Garble) (after : List ℕ) → Found

-- This text has to come, each byte of it by this rule, and then what follows is looked at.
abbrev pub expect : List ℕ → Garble → (List ℕ → Found) → List ℕ → Found
expect [] cause go bytes = go bytes
expect (t ∷ ts) cause go [] = Short
expect (t ∷ ts) cause go (b ∷ bytes) =
    if b == t then expect ts cause go bytes else Broken cause bytes

-- These digits of CheckSum have to come: a byte that is no digit breaks the trailer, and another
-- digit the sum.
abbrev pub expect_sum : List ℕ → (List ℕ → Found) → List ℕ → Found
expect_sum [] go bytes = go bytes
expect_sum (t ∷ ts) go [] = Short
expect_sum (t ∷ ts) go (b ∷ bytes) =
    if is_ascii_digit b then (if b == t then expect_sum ts go bytes else Broken Sum bytes)
    else Broken Trailer bytes

-- the trailer after `before` and the body
abbrev pub found_trailer : List ℕ → List ℕ → List ℕ → Found
found_trailer before body bytes =
    expect (codes "10=") Trailer (expect_sum (three_digits (sum (before ++ body) % 256))
    (expect (SOH ∷ []) Trailer (λ after. Whole body after))) bytes

-- The last byte of a body of n bytes is SOH. Where it is another, it breaks the end of the body,
-- and before that the type, if no SOH ended that.
abbrev pub found_last : List ℕ → ℕ → List ℕ → Option ℕ → Found
found_last before n rest None = Short
found_last before n rest (Some last) =
    if last == SOH then found_trailer before (take n rest) (drop n rest)
    else Broken (if list_any (λ b. b == SOH) (drop 4 (take n rest)) then Trailer else TypeField)
    (drop n rest)

-- the type of a body of n bytes is not empty
abbrev pub found_type : List ℕ → ℕ → List ℕ → Option ℕ → Found
found_type before n rest None = Short
found_type before n rest (Some first) =
    if first == SOH then Broken TypeField (drop 4 rest)
    else found_last before n rest (slice_get rest (n - 1))

-- a body of n bytes and its trailer, after `before`
abbrev pub found_body : List ℕ → ℕ → List ℕ → Found
found_body before n rest =
    expect (codes "35=") TypeField (λ _. found_type before n rest (slice_get rest 3)) rest

-- BodyLength has ended, and is judged: there is a digit, and it says 5 to 8,192, since a shorter
-- body holds no type.
abbrev pub found_said : List ℕ → List ℕ → ℕ → List ℕ → Found
found_said opening [] said rest = Broken LengthField rest
found_said opening (digit ∷ digits) said rest =
    if nat_lt MAX_BODY said then Broken (TooLong said) rest
    else if nat_lt said MIN_BODY then Broken TypeField rest
    else found_body (opening ++ (digit ∷ digits) ++ SOH ∷ []) said rest

-- the rest of BodyLength, of which these digits have come: digits up to seven, then SOH
abbrev pub found_length : List ℕ → List ℕ → List ℕ → Found
found_length opening digits [] = Short
found_length opening digits (b ∷ rest) =
    if b == SOH then found_said opening digits (digits_value 10 digits) rest
    else if is_ascii_digit b && nat_lt (length digits) MAX_LENGTH_DIGITS
    then found_length opening (digits ++ b ∷ []) rest
    else Broken LengthField rest

-- what stands at the front of a text: BeginString, then BodyLength, and the rest
abbrev pub found : Kind → List ℕ → Found
found kind bytes =
    expect (begin_string kind) BeginString
    (expect (codes "9=") LengthField (found_length (opening kind) [])) bytes
