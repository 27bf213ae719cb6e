-- A list of three forwarded requests, worked through: an order, its replacement, and another order.
use Rattle.std.proofs.Common.{◌≡◌, ℕ, true, false, List, [], ◌∷◌, ◌++◌, codes, Some, None, refl}
use Rattle.order_chains.specs.declared.item.ChainItem.{ChainItem}
use Rattle.order_chains.specs.Chains.{has_id, orig_of, number_of, with_item}

-- c 2 D with 11=A1, c 3 G with 41=A1 and 11=A2, c 5 D with 11=A
abbrev day : List ChainItem
day =
    record { id = codes "A1"; orig = None; number = 2; letter = 68 } ∷
    record { id = codes "A2"; orig = Some (codes "A1"); number = 3; letter = 71 } ∷
    record { id = codes "A"; orig = None; number = 5; letter = 68 } ∷ []

pub originals :
    (orig_of day (codes "A2") ≡ Some (codes "A1")) × (orig_of day (codes "A1") ≡ None)
    × (orig_of day (codes "A3") ≡ None)
originals = (refl, refl, refl)

pub numbers :
    (number_of day (codes "A1") ≡ Some (2, 68)) × (number_of day (codes "A2") ≡ Some (3, 71))
    × (number_of day (codes "A") ≡ Some (5, 68)) × (number_of day (codes "a") ≡ None)
numbers = (refl, refl, refl, refl)

pub ids :
    (has_id day (codes "A") ≡ true) × (has_id day (codes "A11") ≡ false)
    × (has_id [] (codes "A1") ≡ false)
ids = (refl, refl, refl)

-- c 7 D with 11=A2, and with 11=A3
abbrev order : List ℕ → ChainItem
order id = record { id = id; orig = None; number = 7; letter = 68 }

pub one_more :
    (with_item day (order (codes "A2")) ≡ day)
    × (with_item day (order (codes "A3")) ≡ day ++ order (codes "A3") ∷ [])
one_more = (refl, refl)
