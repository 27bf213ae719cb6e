-- Parties that are worked through: the definitions on literal lines.
use Rattle.std.proofs.Common.{◌≡◌, ℕ, List, [], ◌∷◌, codes, Some, None, refl}
use Rattle.order_meaning.specs.declared.party.PartyLine.{PartyLine}
use Rattle.order_meaning.specs.declared.party.Three.{Three}
use Rattle.party_translate.specs.Parties.{parties_of, three_of}

abbrev line : List ℕ → ℕ → PartyLine
line id role = record { id = id; role = role }

-- 109=FUND|76=BRKR|439=CLRF
abbrev all_three : Three
all_three = record {
  client = Some (codes "FUND");
  broker = Some (codes "BRKR");
  firm = Some (codes "CLRF");
}

abbrev firm_alone : Three
firm_alone = record { client = None; broker = None; firm = Some (codes "CLRF") }

pub lines_of_all : parties_of all_three
    ≡ line (codes "FUND") 3 ∷ line (codes "BRKR") 1 ∷ line (codes "CLRF") 4 ∷ []
lines_of_all = refl

pub lines_of_one : parties_of firm_alone ≡ line (codes "CLRF") 4 ∷ []
lines_of_one = refl

-- the first line of role 1 counts, and one of role 17 (contra firm) is passed over
pub first_counts : three_of (line (codes "B1") 1 ∷ line (codes "X") 17 ∷ line (codes "B2") 1 ∷ [])
    ≡ record { client = None; broker = Some (codes "B1"); firm = None }
first_counts = refl

pub order_is_free :
    three_of (line (codes "CLRF") 4 ∷ line (codes "BRKR") 1 ∷ line (codes "FUND") 3 ∷ [])
    ≡ all_three
order_is_free = refl
