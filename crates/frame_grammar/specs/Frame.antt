-- Standard: FIX 4.2, FIX 4.4 and FIXT 1.1, "Message Format" and "Data Integrity". The limits of a
-- body and of BodyLength's digits are the gateway's own; docs/DECISIONS.md, "Frames".
--
-- A frame, as a relation on whole texts.
use Rattle.std.specs.Prelude.{◌≡◌, ◌≢◌, ℕ, ◌+◌, ◌-◌, ◌/◌, ◌%◌, ◌≤◌, List, [], ◌∷◌, ◌++◌, IsTrue}
use Rattle.std.specs.Prelude.{length, take, sum, All, slice_index, codes, decimal}
use Rattle.std.specs.Char.{is_ascii_digit}
use Rattle.std.specs.Str.Parse.{digits_value}
use Rattle.frame_grammar.specs.declared.frame.TheConstants.{MAX_BODY, MIN_BODY, MAX_LENGTH_DIGITS}
use Rattle.frame_grammar.specs.declared.frame.TheConstants.{SOH}
use Rattle.frame_grammar.specs.declared.frame.Kind.{Kind}
use Rattle.frame_grammar.specs.declared.frame.Kind.TheVariants.{Fix42, Fix44, Fixt11}

-- BeginString(8), which names the version and is the first field of a message
abbrev pub begin_string : Kind → List ℕ
begin_string Fix42 = codes "8=FIX.4.2" ++ SOH ∷ []
begin_string Fix44 = codes "8=FIX.4.4" ++ SOH ∷ []
begin_string Fixt11 = codes "8=FIXT.1.1" ++ SOH ∷ []

-- and the tag of BodyLength(9)
abbrev pub opening : Kind → List ℕ
opening kind = begin_string kind ++ codes "9="

abbrev pub IsDigit : ℕ → Type 0
IsDigit byte = IsTrue (is_ascii_digit byte)

-- BodyLength(9): one to seven digits, with zeros in front or not, that say this length
pub record SaysLength (digits : List ℕ) (said : ℕ) : Type 0 where
  pub least : 1 ≤ length digits
  pub most : length digits ≤ MAX_LENGTH_DIGITS
  pub each : All IsDigit digits
  pub value : digits_value 10 digits ≡ said

abbrev pub three_digits : ℕ → List ℕ
three_digits n = (48 + n / 100) ∷ (48 + n / 10 % 10) ∷ (48 + n % 10) ∷ []

-- CheckSum(10), the last field: the sum of all bytes before it, modulo 256, in three digits
-- (FIX 4.2, "CheckSum Calculation")
abbrev pub trailer : List ℕ → List ℕ
trailer before = codes "10=" ++ three_digits (sum before % 256) ++ SOH ∷ []

-- MsgType(35) is the third field of a message: the body begins with `35=` and a type of at least
-- one byte, which the next SOH ends. Each field ends with SOH, and so does the body.
pub record IsWritable (body : List ℕ) : Type 0 where
  pub begins : take 3 body ≡ codes "35="
  pub has_type : slice_index body 3 ≢ SOH
  pub ends : slice_index body (length body - 1) ≡ SOH
  pub least : MIN_BODY ≤ length body

-- The body of a frame has at most 8,192 bytes, which is this gateway's own limit.
pub record IsBody (body : List ℕ) : Type 0 where
  pub writable : IsWritable body
  pub most : length body ≤ MAX_BODY

-- all of a frame but its trailer: BeginString, BodyLength and the body
abbrev pub front : Kind → List ℕ → List ℕ → List ℕ
front kind digits body = opening kind ++ digits ++ SOH ∷ body

-- These bytes are a frame of this kind with this body: BodyLength counts the body's bytes, and
-- CheckSum sums all before it.
pub record IsFrame (kind : Kind) (body bytes : List ℕ) : Type 0 where
  pub digits : List ℕ
  pub says : SaysLength digits (length body)
  pub is_body : IsBody body
  pub joined : bytes ≡ front kind digits body ++ trailer (front kind digits body)

-- the frame as it is written: no leading zero in BodyLength
abbrev pub frame_of : Kind → List ℕ → List ℕ
frame_of kind body =
    front kind (decimal (length body)) body ++ trailer (front kind (decimal (length body)) body)
