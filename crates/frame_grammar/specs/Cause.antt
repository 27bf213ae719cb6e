-- Own: which rule a garbled message breaks, and the order of the rules; docs/DECISIONS.md,
-- "Frames". The rules themselves are those of FIX 4.2 and FIXT 1.1, "Message Format" and "Data
-- Integrity".
--
-- A rule is stated on a text, together with those before it. A byte breaks a rule where no text
-- goes on from it that meets the rule.
use Rattle.std.specs.Prelude.{◌≡◌, ◌≢◌, ℕ, ◌<◌, ◌≤◌, ◌⊎◌, List, [], ◌∷◌, ◌++◌, length, take}
use Rattle.std.specs.Prelude.{All, codes}
use Rattle.frame_grammar.specs.declared.frame.Kind.{Kind}
use Rattle.frame_grammar.specs.declared.frame.Garble.{Garble}
use Rattle.frame_grammar.specs.declared.frame.Garble.TheVariants.{BeginString, LengthField, TooLong}
use Rattle.frame_grammar.specs.declared.frame.Garble.TheVariants.{TypeField, Trailer, Sum}
use Rattle.frame_grammar.specs.declared.frame.TheConstants.{MAX_BODY, MAX_LENGTH_DIGITS, SOH}
use Rattle.frame_grammar.specs.Frame.{begin_string, opening, front, IsDigit, SaysLength}
use Rattle.frame_grammar.specs.Frame.{IsFrame}

abbrev pub StartsWith : List ℕ → List ℕ → Type 0
StartsWith start text = (rest : List ℕ) × (text ≡ start ++ rest)

-- BodyLength(9) is well formed, and says this
abbrev pub Says : Kind → ℕ → List ℕ → Type 0
Says kind said text = (digits : List ℕ) × SaysLength digits said
    × StartsWith (opening kind ++ digits ++ SOH ∷ []) text

-- the text has a body of the length that BodyLength says, and this rest behind it
pub record HasBody (kind : Kind) (body rest text : List ℕ) : Type 0 where
  pub digits : List ℕ
  pub says : SaysLength digits (length body)
  pub most : length body ≤ MAX_BODY
  pub joined : text ≡ front kind digits body ++ rest

-- `35=`, a type of at least one byte, SOH
abbrev pub HasType : List ℕ → Type 0
HasType body = (name rest : List ℕ) × (name ≢ []) × All (λ b. b ≢ SOH) name
    × (body ≡ codes "35=" ++ name ++ SOH ∷ rest)

-- SOH ends the body, and behind it come `10=`, these digits and SOH
pub record HasTrailer (digits body rest : List ℕ) : Type 0 where
  pub ends : (start : List ℕ) × (body ≡ start ++ SOH ∷ [])
  pub three : length digits ≡ 3
  pub each : All IsDigit digits
  pub comes : StartsWith (codes "10=" ++ digits ++ SOH ∷ []) rest

-- The rules of a frame in their order, one a line. A text meets a rule with all before it.
abbrev pub Meets : Kind → Garble → List ℕ → Type 0
Meets kind BeginString text = StartsWith (begin_string kind) text
Meets kind LengthField text = (said : ℕ) × Says kind said text
Meets kind (TooLong said) text = (body rest : List ℕ) × HasBody kind body rest text
Meets kind TypeField text = (body rest : List ℕ) × HasBody kind body rest text × HasType body
Meets kind Trailer text = (body rest digits : List ℕ) × HasBody kind body rest text
    × HasType body × HasTrailer digits body rest
Meets kind Sum text = (body bytes : List ℕ) × IsFrame kind body bytes × StartsWith bytes text

-- the rules before this one; and what BodyLength says, where that is judged
abbrev pub MeetsBefore : Kind → Garble → List ℕ → Type 0
MeetsBefore kind BeginString text = Unit {0}
MeetsBefore kind LengthField text = Meets kind BeginString text
MeetsBefore kind (TooLong said) text = (MAX_BODY < said) × Says kind said text
MeetsBefore kind TypeField text = Meets kind (TooLong 0) text
MeetsBefore kind Trailer text = Meets kind TypeField text
MeetsBefore kind Sum text = Meets kind Trailer text

-- The last byte of this front breaks the rule, and it breaks none before it.
pub record BreaksFirst (kind : Kind) (rule : Garble) (front : List ℕ) : Type 0 where
  pub broken : (more : List ℕ) → ¬ Meets kind rule (front ++ more)
  pub first : (more : List ℕ) × MeetsBefore kind rule (front ++ more)

-- More has to come: a frame goes on from here. Or the digits of BodyLength do, which are judged at
-- the SOH that ends them.
abbrev pub IsAwaited : Kind → List ℕ → Type 0
IsAwaited kind text = ((body more : List ℕ) × IsFrame kind body (text ++ more))
    ⊎ ((digits : List ℕ) × (text ≡ opening kind ++ digits) × All IsDigit digits
    × (length digits ≤ MAX_LENGTH_DIGITS))

-- no frame goes on from this front, and one may from each shorter one
pub record IsShortest (kind : Kind) (front : List ℕ) : Type 0 where
  pub none : ¬ IsAwaited kind front
  pub awaited : (n : ℕ) → n < length front → IsAwaited kind (take n front)
