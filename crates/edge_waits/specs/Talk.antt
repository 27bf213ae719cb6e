-- Own: what was said on a connection, as far as its end goes by it; docs/DECISIONS.md, "The edge".
use Rattle.std.specs.Prelude.{ℕ, Bool, true, false, ◌||◌, ◌++◌, List, [], ◌∷◌, length, nat_le}
use Rattle.std.specs.Prelude.{Some, None, codes, nat_eq, if◌then◌else◌}
use Rattle.std.specs.declared.option.Option.{Option}
use Rattle.std.specs.Str.{bytes_eq}
use Rattle.field_groups.specs.HeadValues.{number_in}
use Rattle.edge_logic.specs.Outbox.{has_bytes}
use Rattle.edge_logic.specs.declared.notice.TooLow.{TooLow}
use Rattle.edge_logic.specs.declared.back_off.LinkEnd.{LinkEnd}
use Rattle.edge_logic.specs.declared.back_off.LinkEnd.TheVariants as link_end
use Rattle.edge_waits.specs.Fields.{value_in}
use Rattle.edge_waits.specs.Said.{logout_text, too_low}

-- what came before a session stood, the text of the last Logout that the gateway said, whether a
-- session stood, the numbers that the peer named last, where it said by a Logout that the gateway's
-- number is too low, and when the gateway began the day on it, in milliseconds
pub record Spoken : Type 0 where
  pub heard : List ℕ
  pub farewell : Option (List ℕ)
  pub active : Bool
  pub own_low : Option TooLow
  pub began : Option ℕ

-- what came is kept before a session stands, until 1,024 bytes are
abbrev pub heard_next : Spoken → List ℕ → List ℕ
heard_next spoken bytes =
    if spoken.active || nat_le 1_024 (length spoken.heard) then spoken.heard
    else spoken.heard ++ bytes

abbrev pub low_in : Option (List ℕ) → Option TooLow
low_in (Some text) = too_low text
low_in None = None

-- the numbers that what came names, where it is a Logout that says so
abbrev pub low_said : List ℕ → Option TooLow
low_said bytes = low_in (logout_text bytes)

-- the numbers that the gateway named, where it said that the peer's number is too low
abbrev pub low_of : Spoken → Option TooLow
low_of spoken = low_in spoken.farewell

-- A Logout without a text is the answer to one.
abbrev pub link_end_by : List ℕ → LinkEnd
link_end_by [] = link_end.InOrder
link_end_by (byte ∷ text) = link_end.Active

abbrev pub link_end_behind : Option (List ℕ) → LinkEnd
link_end_behind None = link_end.Active
link_end_behind (Some text) = link_end_by text

-- how the connection ended, where the peer closed it in order, or not
abbrev pub link_end_of : Spoken → Bool → LinkEnd
link_end_of spoken was_closed =
    if spoken.active then link_end_behind spoken.farewell
    else (if was_closed || has_bytes spoken.heard then link_end.Refused else link_end.Unheard)

abbrev pub is_one : Option ℕ → Bool
is_one (Some number) = nat_eq number 1
is_one None = false

-- whether a field says number 1
abbrev pub says_one : Option (List ℕ) → Bool
says_one (Some value) = is_one (number_in value)
says_one None = false

-- whether a frame of this type is a Logon of number 1, or asks for what the peer said from number 1
-- on
abbrev pub begins_by : Option (List ℕ) → List ℕ → Bool
begins_by (Some kind) frame =
    if bytes_eq kind (codes "A") then says_one (value_in (codes "34=") frame)
    else (if bytes_eq kind (codes "2") then says_one (value_in (codes "7=") frame) else false)
begins_by None frame = false

-- By such a frame the gateway tells that it has taken nothing of the peer's day yet.
unfoldable pub begins_day : List ℕ → Bool
begins_day frame = begins_by (value_in (codes "35=") frame) frame

-- when it began, one frame later
abbrev pub began_next : Spoken → List ℕ → ℕ → Option ℕ
began_next spoken frame now = if begins_day frame then Some now else spoken.began

-- Since when the peer may be in the day before: the gateway began the day, and the first message
-- that came has not number 1, or the peer closed the connection in order before one came.
abbrev pub late_since : Spoken → Bool → Option ℕ
late_since spoken was_closed =
    if says_one (value_in (codes "34=") spoken.heard) then None
    else (if was_closed || has_bytes spoken.heard then spoken.began else None)
