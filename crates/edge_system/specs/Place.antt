-- Own: who may hold the client's place; docs/DECISIONS.md, "The edge".
use Rattle.std.specs.Prelude.{◌≡◌, ℕ, List, take}
use Rattle.frame_grammar.specs.Found.{found}
use Rattle.frame_grammar.specs.declared.frame.Kind.TheVariants.{Fix42}
use Rattle.frame_grammar.specs.declared.buffer.TheConstants.{CAPACITY}
use Rattle.edge_waits.specs.Lobby.{first_of}
use Rattle.edge_waits.specs.declared.lobby.First.TheVariants.{Logon}

-- what was said on a connection begins with a whole Logon of FIX 4.2
abbrev pub BeginsWithLogon : List ℕ → Type 0
BeginsWithLogon said = first_of (found Fix42 (take CAPACITY said)) ≡ Logon
