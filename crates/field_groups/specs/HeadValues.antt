-- Standard: FIX 4.2, Data Types, int without a sign; FIX 5.0 SP2, Length and NumInGroup. The bound
-- is this gateway's own.
use Rattle.std.specs.Prelude.{ℕ, Bool, ◌&&◌, List, Option, Some, None, length, nat_le}
use Rattle.std.specs.Prelude.{if◌then◌else◌}
use Rattle.std.specs.Int.{is_in_range}
use Rattle.std.specs.Char.{is_ascii_digit}
use Rattle.std.specs.List.{list_all}
use Rattle.std.specs.Str.Parse.{digits_value}

-- a length or a count: 1 to 10 digits, which write at most 1,000,000,000
abbrev pub is_number : List ℕ → Bool
is_number value =
    is_in_range 1 10 (length value)
    && (list_all is_ascii_digit value && nat_le (digits_value 10 value) 1_000_000_000)

-- the length or the count that a value says, if it says one
unfoldable pub number_in : List ℕ → Option ℕ
number_in value = if is_number value then Some (digits_value 10 value) else None
