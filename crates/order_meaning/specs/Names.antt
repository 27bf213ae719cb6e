-- Inside: how a name keeps its bytes; contracts see a name as the list of them.
use Rattle.std.specs.Prelude.{◌≡◌, ℕ, ◌-◌, ◌≤◌, List, ◌++◌, length, take, replicate}

-- the bytes of a name
abbrev pub text_of : ℕ → List ℕ → List ℕ
text_of len bytes = take len bytes

-- a name that fills its room with zeros
abbrev pub padded : List ℕ → List ℕ
padded text = text ++ replicate (35 - length text) 0

pub record IsPadded (len : ℕ) (bytes : List ℕ) : Type 0 where
  pub some : 1 ≤ len
  pub short : len ≤ 35
  pub counted : length (text_of len bytes) ≡ len
  pub filled : padded (text_of len bytes) ≡ bytes
