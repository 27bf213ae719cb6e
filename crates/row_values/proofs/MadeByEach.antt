-- Lists made element by element.
use Rattle.std.proofs.Common.{◌≡◌, List, [], ◌∷◌, map, refl}
use Rattle.std.specs.List.{AllZip}

pub made_by_each : {A B : Type 0} (R : A → B → Type 0) (f : A → B)
    → ((x : A) (y : B) → R x y → y ≡ f x)
    → (xs : List A) (ys : List B) → AllZip R xs ys → ys ≡ map f xs
made_by_each R f each [] [] h = refl
made_by_each R f each [] (y ∷ ys) h = absurd h
made_by_each R f each (x ∷ xs) [] h = absurd h
made_by_each R f each (x ∷ xs) (y ∷ ys) h =
    let e = each x y h.0 in let es = made_by_each R f each xs ys h.1 in cc
