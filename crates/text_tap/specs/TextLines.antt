-- Own: the lines of the texts, orders and reports of an entry; docs/DEFINITIONS.md, "Taps and lines".
use Rattle.std.specs.Prelude.{ℕ, Bool, ◌||◌, List, [], ◌∷◌, ◌++◌, map, take}
use Rattle.std.specs.Prelude.{codes, bytes_eq, if◌then◌else◌}
use Rattle.std.specs.Fmt.{decimal}
use Rattle.std.specs.List.{flat_map}
use Rattle.std.specs.Option.{option_to_list}
use Rattle.order_meaning.specs.declared.Side.{Side}
use Rattle.pair_entries.specs.declared.entry.Took.{Took}
use Rattle.pair_entries.specs.declared.entry.Out.{Out}
use Rattle.pair_entries.specs.declared.entry.Entry.{Entry}
use Rattle.entry_lines.specs.EntryLine.{side_name}
use Rattle.text_tap.specs.Shown.{shown}
use Rattle.text_tap.specs.OrderLines.{is_named, letter, letter_in, order_words}

-- the types whose texts an operator wants to read: Reject, Logout and BusinessMessageReject
abbrev pub is_told : List ℕ → Bool
is_told msg_type =
    bytes_eq msg_type (codes "3")
    || (bytes_eq msg_type (codes "5") || bytes_eq msg_type (codes "j"))

-- the same of a body, which begins with its MsgType(35) and SOH
abbrev pub begins : List ℕ → List ℕ → Bool
begins body field = bytes_eq (take 5 body) (field ++ 1 ∷ [])

abbrev pub is_told_body : List ℕ → Bool
is_told_body body =
    begins body (codes "35=3") || (begins body (codes "35=5") || begins body (codes "35=j"))

-- `client:2`
abbrev pub place_words : Side → ℕ → List ℕ
place_words side number = side_name side ++ codes ":" ++ decimal number

-- `client:2 taken order 11=A1`
abbrev pub took_line : Took → List ℕ
took_line took =
    if is_told_body took.raw
    then place_words took.side took.number ++ codes " taken " ++ map shown took.raw ++ codes "\n"
    else if is_named (letter_in took.raw)
    then place_words took.side took.number ++ codes " taken "
    ++ order_words (letter_in took.raw) took.raw
    else []

abbrev pub out_line : Out → List ℕ
out_line out =
    if is_told out.msg_type
    then place_words out.side out.number ++ codes " said 35=" ++ out.msg_type ++ codes "|"
    ++ map shown out.content ++ codes "\n"
    else if is_named (letter out.msg_type)
    then place_words out.side out.number ++ codes " said "
    ++ order_words (letter out.msg_type) out.content
    else []

abbrev pub text_lines : Entry → List ℕ
text_lines entry =
    flat_map (λ took. took_line took) (option_to_list entry.took)
    ++ flat_map (λ out. out_line out) entry.outs
