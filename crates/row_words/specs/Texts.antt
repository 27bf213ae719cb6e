-- Inside: what the bytes of rows' texts stand for; no clause of run rests on it.
use Rattle.std.specs.Prelude.{◌≡◌, ℕ, ◌==◌, List, [], ◌∷◌, length, codes, if◌then◌else◌}
use Rattle.std.specs.Borrow.{Bor}
use Rattle.std.specs.Char.{encode_utf8}
use Rattle.std.specs.List.{flat_map, position_or_len}

-- what a byte stands for: what its first sign says, or itself
abbrev pub meaning : List (ℕ × Bor (List ℕ)) → ℕ → List ℕ
meaning [] byte = byte ∷ []
meaning (sign ∷ signs) byte = if sign.0 == byte then sign.1.now else meaning signs byte

abbrev pub meant : List (ℕ × Bor (List ℕ)) → List ℕ → List ℕ
meant signs text = flat_map (λ byte. meaning signs byte) text

-- no `<` stands there
abbrev pub IsPlain : List ℕ → Type 0
IsPlain text = position_or_len (λ byte. byte == 60) text ≡ length text

-- a byte as it is shown, with `|` for SOH
abbrev pub shown_byte : ℕ → List ℕ
shown_byte byte = if byte == 1 then codes "|" else encode_utf8 byte

abbrev pub shown : List ℕ → List ℕ
shown bytes = flat_map (λ byte. shown_byte byte) bytes
