-- Standard: FIX 5.0 SP2, Parties component block, PartyRole(452); FIX 4.2, fields 109, 76 and 439.
use Rattle.std.specs.Prelude.{ℕ, ◌==◌, List, [], ◌∷◌, ◌++◌, find, Some, None}
use Rattle.std.specs.declared.option.Option.{Option}
use Rattle.std.specs.Option.{option_map}
use Rattle.order_meaning.specs.declared.party.PartyLine.{PartyLine}
use Rattle.order_meaning.specs.declared.party.Three.{Three}

-- the line of a role, where there is an id for it
abbrev pub line_of : ℕ → Option (List ℕ) → List PartyLine
line_of role None = []
line_of role (Some id) = record { id = id; role = role } ∷ []

-- the lines of three parties: roles 3 (ClientID), 1 (ExecBroker) and 4 (ClearingFirm), in this
-- order, which is own
abbrev pub parties_of : Three → List PartyLine
parties_of three = line_of 3 three.client ++ line_of 1 three.broker ++ line_of 4 three.firm

-- the id of the first line of a role
abbrev pub id_of : ℕ → List PartyLine → Option (List ℕ)
id_of role lines = option_map (λ line. line.id) (find (λ line. line.role == role) lines)

-- the parties of the roles 3, 1 and 4: of each the first line counts, which is own
abbrev pub three_of : List PartyLine → Three
three_of lines = record { client = id_of 3 lines; broker = id_of 1 lines; firm = id_of 4 lines }
