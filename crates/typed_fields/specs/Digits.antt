-- Own: what the forms of the types say of digits: the number that they spell, the digits of a
-- number, zeros that are needless, and the patterns of dates and times.
use Rattle.std.specs.Prelude.{ℕ, zero, suc, ◌+◌, ◌/◌, ◌%◌, ◌^◌, Bool, false, List, [], ◌∷◌, length}
use Rattle.std.specs.Prelude.{◌==◌, ◌&&◌, if◌then◌else◌}
use Rattle.std.specs.Char.{is_ascii_digit, is_ascii_alphabetic}
use Rattle.std.specs.List.{list_all, zip}
use Rattle.std.specs.Str.Parse.{digits_value}

-- whether each byte is a digit
unfoldable pub are_digits : List ℕ → Bool
are_digits bytes = list_all is_ascii_digit bytes

-- the number that decimal digits spell
unfoldable pub number_of : List ℕ → ℕ
number_of digits = digits_value 10 digits

-- the last so many digits of a number, with zeros in front where it has fewer
unfoldable pub zero_padded : ℕ → ℕ → List ℕ
zero_padded zero n = []
zero_padded (suc width) n = (48 + n / 10 ^ width % 10) ∷ zero_padded width n

-- whether a byte has its mark: a letter stands for any digit, and every other mark for itself
abbrev pub has_mark : ℕ → ℕ → Bool
has_mark mark byte = if is_ascii_alphabetic mark then is_ascii_digit byte else byte == mark

-- whether each byte has its mark
abbrev pub have_marks : List ℕ → List ℕ → Bool
have_marks marks bytes = list_all (λ pair. has_mark pair.0 pair.1) (zip marks bytes)

-- whether bytes have a pattern such as YYYYMMDD-HH:MM:SS: as many bytes as marks, and each byte has
-- its mark
unfoldable pub has_pattern : List ℕ → List ℕ → Bool
has_pattern marks bytes = (length marks == length bytes) && have_marks marks bytes

-- whether marks are a point and letters behind it
abbrev pub is_point : List ℕ → Bool
is_point [] = false
is_point (mark ∷ marks) = (mark == 46) && list_all is_ascii_alphabetic marks

-- digits without the zeros in front of the first other digit
unfoldable pub without_leading_zeros : List ℕ → List ℕ
without_leading_zeros [] = []
without_leading_zeros (c ∷ cs) = if c == 48 then without_leading_zeros cs else c ∷ cs

-- a digit before others, or nothing where it is a zero and no other follows
abbrev pub before_others : ℕ → List ℕ → List ℕ
before_others c [] = if c == 48 then [] else c ∷ []
before_others c (d ∷ ds) = c ∷ d ∷ ds

-- digits without the zeros behind the last other digit
unfoldable pub without_trailing_zeros : List ℕ → List ℕ
without_trailing_zeros [] = []
without_trailing_zeros (c ∷ cs) = before_others c (without_trailing_zeros cs)

-- digits, or one zero where there are none
abbrev pub or_zero : List ℕ → List ℕ
or_zero [] = 48 ∷ []
or_zero (c ∷ cs) = c ∷ cs
