-- Own: why a connection ended before a session stood, as a text; docs/DECISIONS.md, "The edge".
use Rattle.std.specs.Prelude.{ℕ, Bool, false, ◌&&◌, not, ◌/◌, List, [], ◌++◌, map, take}
use Rattle.std.specs.Prelude.{Some, None, Ok, Err, codes, decimal, nat_le, pos, ◌-ℤ◌, unsigned_abs}
use Rattle.std.specs.Prelude.{if◌then◌else◌, is_some}
use Rattle.std.specs.declared.option.Option.{Option}
use Rattle.std.specs.declared.result.Result.{Result}
use Rattle.std.specs.Str.{bytes_eq}
use Rattle.typed_fields.specs.declared.fault.FieldFault.{FieldFault}
use Rattle.typed_fields.specs.declared.number.Number.{Number}
use Rattle.typed_fields.specs.declared.stamp.Stamp.{Stamp}
use Rattle.typed_fields.specs.Number.{read_number}
use Rattle.typed_fields.specs.Stamp.{read_fine, read_stamp, stamp_millis}
use Rattle.edge_waits.specs.declared.why.Wrong.{Wrong}
use Rattle.edge_waits.specs.declared.why.Wrong.TheVariants as wrong
use Rattle.edge_waits.specs.declared.lobby.Stranger.{Stranger}
use Rattle.edge_waits.specs.Fields.{value_in}
use Rattle.edge_waits.specs.Lobby.{stranger_text}

-- `?` stands for what is not from a blank to `~`
abbrev pub shown : ℕ → ℕ
shown byte = if nat_le 32 byte && nat_le byte 126 then byte else 63

-- up to 256 bytes of a text, behind its name
abbrev pub named_text : List ℕ → List ℕ → List ℕ
named_text name text = name ++ map shown (take 256 text)

-- a field that came, up to 256 bytes of its value
abbrev pub shown_field : List ℕ → Option (List ℕ) → List ℕ
shown_field name None = []
shown_field name (Some value) = codes " " ++ named_text name value

-- a number from 1 to 999,999,999
abbrev pub is_number : Result Number FieldFault → Bool
is_number (Ok number) = nat_le 1 number.value && nat_le number.value 999_999_999
is_number (Err fault) = false

abbrev pub has_number : Option (List ℕ) → Bool
has_number (Some value) = is_number (read_number value)
has_number None = false

-- by how many whole seconds a stamp is off
abbrev pub off_by : ℕ → Stamp → ℕ
off_by now stamp = unsigned_abs (pos now -ℤ stamp_millis stamp) / 1_000

-- what is wrong where the time is off by so many seconds: the time from 120 on, which is how far it
-- may be off where the configuration does not say it
abbrev pub wrong_by : ℕ → Wrong
wrong_by seconds =
    if nat_le 120 seconds then wrong.Clock seconds
    else (if nat_le 1 seconds then wrong.NameOrClock seconds else wrong.Name)

abbrev pub wrong_stamp : Result Stamp FieldFault → ℕ → Wrong
wrong_stamp (Ok stamp) now = wrong_by (off_by now stamp)
wrong_stamp (Err fault) now = wrong.Stamp

-- whether a message of this version may have moments in the fine form
abbrev pub is_fixt : Option (List ℕ) → Bool
is_fixt (Some version) = bytes_eq version (codes "FIXT.1.1")
is_fixt None = false

abbrev pub read_moment : Bool → List ℕ → Result Stamp FieldFault
read_moment fixt value = if fixt then read_fine value else read_stamp value

abbrev pub wrong_time : Bool → Option (List ℕ) → ℕ → Wrong
wrong_time fixt (Some value) now = wrong_stamp (read_moment fixt value) now
wrong_time fixt None now = wrong.Stamp

-- what is wrong in a Logon with this number and time that was answered by a hang up alone
abbrev pub wrong_of : Bool → Option (List ℕ) → Option (List ℕ) → ℕ → Wrong
wrong_of fixt number time now =
    if has_number number then wrong_time fixt time now else wrong.Number

-- what is said of it, before the seconds
abbrev pub words_of : Wrong → List ℕ
words_of wrong.Number = codes "; 34 is missing or no number"
words_of wrong.Stamp = codes "; 52 is no UTC time in seconds or milliseconds"
words_of (wrong.Clock seconds) = codes "; 52 is off by "
words_of (wrong.NameOrClock seconds) = codes "; 49 or 56 is not as agreed, or 52 is off by "
words_of wrong.Name = codes "; 49 or 56 is not as agreed"

abbrev pub seconds_of : Wrong → Option ℕ
seconds_of wrong.Number = None
seconds_of wrong.Stamp = None
seconds_of (wrong.Clock seconds) = Some seconds
seconds_of (wrong.NameOrClock seconds) = Some seconds
seconds_of wrong.Name = None

abbrev pub seconds_text : Option ℕ → List ℕ
seconds_text (Some seconds) = decimal seconds ++ codes " s"
seconds_text None = []

abbrev pub wrong_text : Wrong → List ℕ
wrong_text wrong = words_of wrong ++ seconds_text (seconds_of wrong)

abbrev pub is_logon : Option (List ℕ) → Bool
is_logon (Some kind) = bytes_eq kind (codes "A")
is_logon None = false

-- whether a Logon came that is no repeat
abbrev pub is_new_logon : List ℕ → Bool
is_new_logon heard =
    is_logon (value_in (codes "35=") heard) && not (is_some (value_in (codes "43=") heard))

-- a field of what came
abbrev pub field_in : List ℕ → List ℕ → List ℕ
field_in name heard = shown_field name (value_in name heard)

-- what is wrong in what came, where that is a Logon that is no repeat
abbrev pub fault_text : List ℕ → ℕ → List ℕ
fault_text heard now =
    if is_new_logon heard
    then field_in (codes "49=") heard ++ field_in (codes "56=") heard
    ++ field_in (codes "52=") heard
    ++ wrong_text (wrong_of (is_fixt (value_in (codes "8=") heard))
    (value_in (codes "34=") heard) (value_in (codes "52=") heard) now)
    else []

-- what the gateway said by a Logout, or what is wrong where it said none
abbrev pub told_text : List ℕ → Option (List ℕ) → ℕ → List ℕ
told_text heard (Some text) now = named_text (codes "; it was told Logout ") text
told_text heard None now = fault_text heard now

-- the first message that came, by its fields
abbrev pub message_text : List ℕ → List ℕ
message_text heard =
    field_in (codes "35=") heard ++ field_in (codes "34=") heard
    ++ field_in (codes "43=") heard ++ field_in (codes "58=") heard

-- why a connection ended on which this came, and this was said last by a Logout
abbrev pub why_text : List ℕ → Option (List ℕ) → ℕ → List ℕ
why_text heard farewell now =
    if is_some (value_in (codes "35=") heard)
    then codes "it sent" ++ message_text heard ++ told_text heard farewell now
    else codes "no message came"

-- the first message that came, with its version, where its type came
abbrev pub came_text : List ℕ → List ℕ
came_text heard =
    if is_some (value_in (codes "35=") heard)
    then codes "; it sent" ++ field_in (codes "8=") heard ++ message_text heard else []

-- why a connection is closed that is no client's, and what came on it
abbrev pub closing_text : Stranger → List ℕ → List ℕ
closing_text stranger heard = stranger_text stranger ++ came_text heard
