-- Own: the payload of the birth record, which names the two sessions; docs/DEFINITIONS.md, "Disk
-- and journal".
use Rattle.std.specs.Prelude.{ℕ, ◌-◌, ◌≤◌, List, ◌∷◌, ◌++◌, length, replicate, codes}
use Rattle.order_meaning.specs.declared.names.Names.{Names}
use Rattle.order_meaning.specs.declared.names.TheConstants.{MAX_NAME}

-- a length byte, the name, and zeros up to 35 bytes
abbrev pub name_bytes : List ℕ → List ℕ
name_bytes name = length name ∷ name ++ replicate (35 - length name) 0

-- the mark of the format
abbrev pub mark : List ℕ
mark = codes "FIXGATEWAY2"

abbrev pub birth_bytes : Names → List ℕ
birth_bytes names = mark ++ name_bytes names.client_our ++ name_bytes names.client_peer ++
    name_bytes names.venue_our ++ name_bytes names.venue_peer

-- a name has 1 to 35 bytes
abbrev pub IsName : List ℕ → Type 0
IsName name = (1 ≤ length name) × (length name ≤ MAX_NAME)

abbrev pub AreNames : Names → Type 0
AreNames names = IsName names.client_our
    × IsName names.client_peer × IsName names.venue_our × IsName names.venue_peer
