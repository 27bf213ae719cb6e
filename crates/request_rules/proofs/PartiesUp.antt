-- The parties of FIX 4.2's fields as lines of FIX 5.0 SP2: they are a sound group, and say each
-- party by its role.
use Rattle.std.proofs.Common.{◌≡◌, ◌≤◌, ◌++◌, ℕ, List, [], Some, None, refl, lit≤, length, arith}
use Rattle.std.specs.Prelude.{IfSome}
use Rattle.std.specs.List.{AllByRecursion}
use Rattle.std.specs.Fmt.{decimal, digits}
use Rattle.typed_fields.specs.Digits.{are_digits, number_of}
use Rattle.value_kinds.specs.ValueKind.{Id, Number, spelling}
use Rattle.message_tables.specs.Tables.{Spells, Said, first_of, party_in}
use Rattle.message_tables.specs.Content.{line_fields}
use Rattle.order_meaning.specs.declared.party.PartyLine.{PartyLine}
use Rattle.party_translate.specs.Parties.{line_of}
use Rattle.row_values.specs.Kinds.{Value, judge}
use Rattle.row_values.specs.Groups.{parties}
use Rattle.row_values.specs.Lines.{party_cells}
use Rattle.sound_laws.specs.Sound.{IsClear, IsLine, IsGroup}
use Rattle.sound_laws.proofs.Each.{each_joined, each_mapped}
use Rattle.sound_laws.proofs.RowsSaid.{required_said}
use Rattle.request_rules.specs.Rules.{Who, Client, Broker, Firm, role_of, party_lines}

-- the id of a party, where there is one
abbrev pub IsPartyId : Said → Type 0
IsPartyId id = IfSome id (λ text. (judge [] (Value Id) text ≡ Spells text) × IsClear text)

abbrev IsRole : ℕ → Type 0
IsRole role =
    (judge [] (Value Number) (decimal role) ≡ Spells (decimal role)) × IsClear (decimal role)

is_role : (who : Who) → IsRole (role_of who)
unfolding judge spelling digits are_digits number_of
is_role Client = (refl, refl)
is_role who = (refl, refl)

party_line : (id : List ℕ) (who : Who) → (judge [] (Value Id) id ≡ Spells id) × IsClear id
    → IsLine judge parties.rows (party_cells (record { id = id; role = role_of who }))
unfolding judge spelling
party_line id who h =
    let fields = line_fields (party_cells (record { id = id; role = role_of who })) in
    let role = is_role who in (
      refl,
      required_said fields 448 (Value Id) (Some id) refl h.0 h.1,
      (
        refl,
        record { needed = λ e. refl; spelled = refl; again = refl; clear = refl },
        (
          refl,
          required_said fields 452 (Value Number) (Some (decimal (role_of who))) refl role.0 role.1,
          tt,
        ),
      ),
    )

abbrev IsPartyLine : PartyLine → Type 0
IsPartyLine line = IsLine judge parties.rows (party_cells line)

line_said : (id : Said) (who : Who) → IsPartyId id
    → AllByRecursion IsPartyLine (line_of (role_of who) id)
line_said None who h = tt
line_said (Some id) who h = (party_line id who h, tt)

pub three_parties : (client broker firm : Said) → length (party_lines client broker firm) ≤ 3
three_parties None None None = lit≤ tt
three_parties None (Some broker) None = lit≤ tt
three_parties (Some client) None None = lit≤ tt
three_parties (Some client) (Some broker) None = lit≤ tt
three_parties client broker firm = lit≤ tt

pub parties_said : (client broker firm : Said)
    → IsPartyId client → IsPartyId broker → IsPartyId firm
    → IsGroup judge parties (party_lines client broker firm)
parties_said client broker firm c b f = record {
  few = let three = three_parties client broker firm in omega (arith, three);
  said = each_mapped (IsLine judge parties.rows) party_cells
      ((line_of 3 client ++ line_of 1 broker) ++ line_of 4 firm)
      (each_joined IsPartyLine (line_of 3 client ++ line_of 1 broker) (line_of 4 firm)
      (each_joined IsPartyLine (line_of 3 client) (line_of 1 broker) (line_said client Client c)
      (line_said broker Broker b)) (line_said firm Firm f));
}

-- the id that the lines say for a role
abbrev pub id_for : Who → Said → Said → Said → Said
id_for Client client broker firm = client
id_for Broker client broker firm = broker
id_for Firm client broker firm = firm

abbrev AreRoles : Said → Said → Said → Type 0
AreRoles client broker firm = (who : Who)
    → id_for who client broker firm ≡ party_in (role_of who) (party_lines client broker firm)

pub roles_said : (client broker firm : Said) → AreRoles client broker firm
unfolding digits first_of
roles_said None None None Client = refl
roles_said None None (Some firm) Client = refl
roles_said None (Some broker) None Client = refl
roles_said None (Some broker) (Some firm) Client = refl
roles_said (Some client) None None Client = refl
roles_said (Some client) None (Some firm) Client = refl
roles_said (Some client) (Some broker) None Client = refl
roles_said (Some client) (Some broker) (Some firm) Client = refl
roles_said client broker firm who = refl
