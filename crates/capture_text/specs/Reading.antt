-- Own: which texts are captures, and the first line at which one is none; docs/DEFINITIONS.md,
-- "Captures".
use Rattle.std.specs.Prelude.{◌≡◌, ◌≢◌, ℕ, ◌+◌, ◌-◌, ◌^◌, ◌==◌, min, List, [], ◌∷◌, ◌++◌, length}
use Rattle.std.specs.Prelude.{Result, Ok, Err}
use Rattle.std.specs.List.{slice_split}
use Rattle.capture_text.specs.declared.capture.Capture.{Capture}
use Rattle.capture_text.specs.declared.reading.CaptureFault.{CaptureFault}
use Rattle.capture_text.specs.declared.reading.CaptureFault.TheVariants.{Line, NoMemory}
use Rattle.capture_text.specs.Capture.{IsCapture, lines_of}

-- The parts of a text, cut at each LF. All but the last are its lines; the last is what no LF ends,
-- and is empty where the text ends with a line.
abbrev pub parts : List ℕ → List (List ℕ)
parts text = slice_split (λ byte. byte == 10) text

-- a text is this capture
pub record IsTextOf (text : List ℕ) (capture : Capture) : Type 0 where
  pub sound : IsCapture capture
  pub lines : parts text ≡ lines_of capture ++ [] ∷ []

-- a capture begins with these lines
abbrev pub Begins : List (List ℕ) → Type 0
Begins lines = (capture : Capture) × (rest : List (List ℕ))
    × IsCapture capture × (lines_of capture ≡ lines ++ rest)

-- a part of a text is outside, behind lines that a capture may begin with: no capture goes on with
-- this line; or it is the last part, and the text is none
abbrev pub IsOutside : List (List ℕ) → List ℕ → List (List ℕ) → Type 0
IsOutside before part (next ∷ after) = Begins (before ++ part ∷ []) → ⊥
IsOutside before part [] =
    (capture : Capture) → IsCapture capture → lines_of capture ≡ before → part ≢ []

-- the line of this number, which counts from 1, is the first outside the grammar; a text that ends
-- too early has it behind its last
pub record FirstOutside (text : List ℕ) (number : ℕ) : Type 0 where
  pub before : List (List ℕ)
  pub part : List ℕ
  pub after : List (List ℕ)
  pub split : parts text ≡ before ++ part ∷ after
  pub place : number ≡ min (length before + 1) (2 ^ 32 - 1)
  pub begins : Begins before
  pub outside : IsOutside before part after

-- WHAT A TEXT IS READ AS, or its first line outside; want of memory is free
abbrev pub Reads : List ℕ → Result Capture CaptureFault → Type 0
Reads text (Ok capture) = IsTextOf text capture
Reads text (Err (Line number)) = FirstOutside text number
Reads text (Err NoMemory) = Unit {0}
