-- Inside: the lines of rows and their words; no clause of run rests on them.
use Rattle.std.specs.Prelude.{ℕ, zero, suc, ◌==◌, Bool, true, false, List, [], ◌∷◌, codes}
use Rattle.std.specs.Prelude.{bytes_eq, Some, None, if◌then◌else◌}
use Rattle.std.specs.declared.option.Option.{Option}
use Rattle.std.specs.List.{before_first, after_first}
use Rattle.order_meaning.specs.declared.Side.{Side}
use Rattle.order_meaning.specs.declared.Side.TheVariants.{Client, Venue}

-- a line that is no row: it is empty, or begins with `#`
abbrev pub is_passed : List ℕ → Bool
is_passed [] = true
is_passed (byte ∷ line) = byte == 35

-- the first word of a text, and what stands behind the space after it
abbrev pub first_of : List ℕ → List ℕ
first_of text = before_first (λ byte. byte == 32) text

abbrev pub rest_of : List ℕ → List ℕ
rest_of text = after_first (λ byte. byte == 32) text

-- what stands behind so many words
abbrev pub behind : ℕ → List ℕ → List ℕ
behind zero text = text
behind (suc words) text = behind words (rest_of text)

abbrev pub side_of : List ℕ → Option Side
side_of word =
    if bytes_eq word (codes "Client") then Some Client
    else if bytes_eq word (codes "Venue") then Some Venue else None
