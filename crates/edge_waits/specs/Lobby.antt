-- Own: who waits to be the client, and who has to go; docs/DECISIONS.md, "The edge".
use Rattle.std.specs.Prelude.{ℕ, Bool, List, codes, nat_eq, nat_le, if◌then◌else◌, ◌++◌, [], ◌∷◌}
use Rattle.std.specs.List.{starts_with}
use Rattle.frame_grammar.specs.Found.{Found, Whole, Short, Broken}
use Rattle.frame_grammar.specs.declared.frame.Garble.{Garble}
use Rattle.frame_grammar.specs.declared.frame.Garble.TheVariants as garble
use Rattle.frame_grammar.specs.declared.pieces.Rest.{Rest}
use Rattle.frame_grammar.specs.declared.pieces.Rest.TheVariants as rest
use Rattle.edge_waits.specs.declared.lobby.First.{First}
use Rattle.edge_waits.specs.declared.lobby.First.TheVariants as first
use Rattle.edge_waits.specs.declared.lobby.Stranger.{Stranger}
use Rattle.edge_waits.specs.declared.lobby.Stranger.TheVariants as stranger
use Rattle.edge_waits.specs.declared.lobby.Standing.{Standing}
use Rattle.edge_waits.specs.declared.lobby.Standing.TheVariants as standing

-- what a whole message is, by its body
abbrev pub first_by : List ℕ → First
first_by body =
    if starts_with nat_eq body (codes "35=A" ++ 1 ∷ []) then first.Logon else first.Other

-- what a stream begins with, as soon as enough of it has come to tell
abbrev pub first_of : Found → First
first_of (Whole body after) = first_by body
first_of Short = first.More
first_of (Broken cause after) = first.Garbled cause

-- the same of a stream that ends so, of which no piece has come whole
abbrev pub first_left : Rest → First
first_left rest.Clean = first.More
first_left (rest.Inside at len) = first.More
first_left (rest.Garbled at len cause) = first.Garbled cause

-- how a connection stands that has not ended its first message: it may not be closed from the other
-- side, have more than 8,191 bytes, or have waited for 10 s
abbrev pub standing_short : ℕ → Bool → ℕ → Standing
standing_short len is_closed waited =
    if is_closed then standing.Goes stranger.Left
    else (if nat_le 8_192 len then standing.Goes stranger.TooLong
    else (if nat_le 10_000 waited then standing.Goes stranger.Late else standing.Waits))

-- how a connection stands: by its first piece, how many bytes came, whether it was closed from the
-- other side, and for how many milliseconds it has waited
abbrev pub standing_of : First → ℕ → Bool → ℕ → Standing
standing_of first.Logon len is_closed waited = standing.Holds
standing_of first.Other len is_closed waited = standing.Goes stranger.NoLogon
standing_of (first.Garbled cause) len is_closed waited = standing.Goes (stranger.Garbled cause)
standing_of first.More len is_closed waited = standing_short len is_closed waited

-- which field is wrong in garbled bytes
abbrev pub garble_text : Garble → List ℕ
garble_text garble.BeginString = codes "garbled bytes came first: 8 is not as agreed"
garble_text garble.LengthField = codes "garbled bytes came first: 9 is no length"
garble_text (garble.TooLong said) = codes "garbled bytes came first: 9 is over 8,192"
garble_text garble.TypeField = codes "garbled bytes came first: 35 is missing"
garble_text garble.Trailer = codes "garbled bytes came first: 10 is not where 9 says"
garble_text garble.Sum = codes "garbled bytes came first: 10 is not the sum"

-- why a connection is closed that is no client's
abbrev pub stranger_text : Stranger → List ℕ
stranger_text stranger.Late = codes "no Logon came in 10 s"
stranger_text stranger.Crowded = codes "eight others wait for their Logon"
stranger_text stranger.Left = codes "it went before its Logon"
stranger_text stranger.NoLogon = codes "no Logon came first"
stranger_text (stranger.Garbled cause) = garble_text cause
stranger_text stranger.TooLong = codes "no message came in 8,192 bytes"
