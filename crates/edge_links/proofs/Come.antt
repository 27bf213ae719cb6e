-- What may come within a connection.
use Rattle.std.proofs.Common.{◌≡◌, ℕ, zero, suc, ◌≤◌, Bool, true, List, [], ◌∷◌, length, take, refl}
use Rattle.std.proofs.Common.{Result, subst, sym, arith}
use Rattle.wires.specs.declared.wire.Arrival.{Arrival}
use Rattle.wires.specs.Wire.{Bytes, may_come}
use Rattle.edge_logic.specs.Order.{InOrder}

pub bytes_come : (n : ℕ) (buf : List ℕ)
    → 1 ≤ n → n ≤ length buf → may_come true (Bytes (take n buf)) ≡ true
bytes_come zero buf some fits = absurd (omega (arith, some))
bytes_come (suc n) [] some fits = absurd (omega (arith, fits))
bytes_come (suc n) (byte ∷ buf) some fits = refl

pub in_order_from : {E : Type 0} (a b now : Bool) (result : Result Arrival E) (buf : List ℕ)
    → a ≡ b → InOrder b now result buf → InOrder a now result buf
in_order_from a b now result buf e order =
    let P : Bool → Type 0 = λ old. InOrder old now result buf in subst P (sym e) order
