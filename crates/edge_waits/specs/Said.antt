-- Own: how the edge knows what the gateway says by a Logout; docs/DECISIONS.md, "The edge".
use Rattle.std.specs.Prelude.{ℕ, List, [], ◌++◌, length, take, drop, codes, Some, None, nat_eq}
use Rattle.std.specs.Prelude.{if◌then◌else◌}
use Rattle.std.specs.declared.option.Option.{Option}
use Rattle.std.specs.List.{starts_with, prefix_len}
use Rattle.std.specs.Char.{is_ascii_digit}
use Rattle.std.specs.Str.{bytes_eq}
use Rattle.field_groups.specs.HeadValues.{number_in}
use Rattle.edge_logic.specs.declared.notice.TooLow.{TooLow}
use Rattle.edge_waits.specs.Fields.{value_in}

abbrev pub or_nothing : Option (List ℕ) → List ℕ
or_nothing (Some text) = text
or_nothing None = []

-- the text of a frame of this type
abbrev pub text_if : Option (List ℕ) → List ℕ → Option (List ℕ)
text_if None frame = None
text_if (Some kind) frame =
    if bytes_eq kind (codes "5") then Some (or_nothing (value_in (codes "58=") frame)) else None

-- the Text(58) of a Logout, empty where it has none
unfoldable pub logout_text : List ℕ → Option (List ℕ)
logout_text frame = text_if (value_in (codes "35=") frame) frame

abbrev pub both : Option ℕ → Option ℕ → Option TooLow
both (Some expected) (Some got) = Some (record { expected = expected; got = got })
both (Some expected) None = None
both None got = None

-- ` but received ` stands between two numbers
abbrev pub low_numbers : List ℕ → Option TooLow
low_numbers text =
    let rest = drop (prefix_len is_ascii_digit text) text in
    if starts_with nat_eq rest (codes " but received ")
    then both (number_in (take (prefix_len is_ascii_digit text) text)) (number_in (drop 14 rest))
    else None

-- the numbers that the text of a Logout names by which a number that is too low is answered
unfoldable pub too_low : List ℕ → Option TooLow
too_low text =
    if starts_with nat_eq text (codes "MsgSeqNum too low, expecting ")
    then low_numbers (drop 29 text) else None
