-- Orders, drawn one more at a time, and how many there are of each kind.
use Rattle.std.proofs.Common.{◌≡◌, ℕ, zero, suc, ◌+◌, ◌-◌, ◌%◌, ◌<◌, ◌≤◌, List, [], ◌∷◌, ◌++◌}
use Rattle.std.proofs.Common.{length, refl, sym, ◌∙◌, ap, subst, append_assoc, append-nil, arith}
use Rattle.std.proofs.Common.{All}
use Rattle.std.proofs.lemmas.List.Elements.{All-cons, All-nil}
use Rattle.std.proofs.Math.Nat.{mod-lt}
use Rattle.std.proofs.lemmas.List.Sums.{sum_by-cons}
use Rattle.drill_day.specs.declared.order.Drawn.{Drawn}
use Rattle.drill_day.specs.declared.order.OrderKind.{OrderKind}
use Rattle.drill_day.specs.declared.order.OrderKind.TheVariants.{Filled, Busted, Corrected}
use Rattle.drill_day.specs.declared.order.OrderKind.TheVariants.{Rejected}
use Rattle.drill_day.specs.Drill.{next, drawn, orders_from, same_kind, count_of}
use Rattle.std.specs.Prelude.{if◌then◌else◌}
use Rattle.drill_day.specs.Day.{IsSmall}

-- one order more
pub drawn_more : (xs all : List Drawn) (x count i : ℕ) → i < count
    → xs ++ orders_from x (count - i) ≡ all
    → (xs ++ drawn x ∷ []) ++ orders_from (next (next (next (next x)))) (count - (i + 1)) ≡ all
drawn_more xs all x count i more is =
    let left : count - i ≡ suc (count - (i + 1)) = omega (arith, more) in
    append_assoc xs (drawn x ∷ []) (orders_from (next (next (next (next x)))) (count - (i + 1)))
    ∙ ap (λ n. xs ++ orders_from x n) (sym left)
    ∙ is

pub step_more : (xs ys all : List Drawn) (order : Drawn) (x y count i : ℕ) → i < count
    → xs ++ orders_from x (count - i) ≡ all → order ≡ drawn x
    → y ≡ next (next (next (next x))) → ys ≡ xs ++ order ∷ []
    → ys ++ orders_from y (count - (i + 1)) ≡ all
step_more xs ys all order x y count i more is drawn_is next_is push_is =
    ap (λ n. ys ++ orders_from n (count - (i + 1))) next_is
    ∙ ap (λ l. l ++ orders_from (next (next (next (next x)))) (count - (i + 1)))
    (push_is ∙ ap (λ o. xs ++ o ∷ []) drawn_is)
    ∙ drawn_more xs all x count i more is

-- .. and none
pub drawn_all : (xs all : List Drawn) (x count i : ℕ) → count ≤ i
    → xs ++ orders_from x (count - i) ≡ all → xs ≡ all
drawn_all xs all x count i none is =
    let left : count - i ≡ 0 = omega (arith, none) in
    sym (append-nil xs) ∙ ap (λ n. xs ++ orders_from x n) (sym left) ∙ is

pub orders_count : (x count : ℕ) → length (orders_from x count) ≡ count
orders_count x zero = refl
orders_count x (suc count) = ap suc (orders_count (next (next (next (next x)))) count)

pub drawn_small : (x : ℕ) → IsSmall (drawn x)
drawn_small x = record {
  quantity = let rest : next x % 50 < 50 = mod-lt (next x) (omega arith) in omega (arith, rest);
  price = let rest : next (next x) % 90 < 90 = mod-lt (next (next x)) (omega arith) in
      omega (arith, rest);
  side = let rest : next (next (next x)) % 2 < 2 = mod-lt (next (next (next x))) (omega arith) in
      omega (arith, rest);
}

pub orders_small : (x count : ℕ) → All IsSmall (orders_from x count)
orders_small x zero = All-nil IsSmall
orders_small x (suc count) = All-cons IsSmall (drawn x)
    (orders_from (next (next (next (next x)))) count) (drawn_small x)
    (orders_small (next (next (next (next x)))) count)

pub few_of : (orders : List Drawn) (x count : ℕ) → orders ≡ orders_from x count
    → count ≤ 10000 → length orders ≤ 10000
few_of orders x count is few =
    let e = ap length is ∙ orders_count x count in omega (arith, e, few)

pub small_of : (orders : List Drawn) (x count : ℕ) → orders ≡ orders_from x count
    → All IsSmall orders
small_of orders x count is = subst (All IsSmall) (sym is) (orders_small x count)

-- each order is of one kind
abbrev more : OrderKind → OrderKind → ℕ
more kind other = if same_kind kind other then 1 else 0

abbrev is_of : OrderKind → Drawn → ℕ
is_of kind order = more kind order.kind

kinds_all : (orders : List Drawn)
    → count_of Filled orders + count_of Busted orders + count_of Corrected orders
    + count_of Rejected orders ≡ length orders
kinds_all [] = refl
kinds_all (order ∷ orders) = one_more order.kind _ _ _ _ _ _ _ _ _
    (sum_by-cons (is_of Filled) order orders) (sum_by-cons (is_of Busted) order orders)
    (sum_by-cons (is_of Corrected) order orders) (sum_by-cons (is_of Rejected) order orders)
    (kinds_all orders)
  where
    one_more : (kind : OrderKind) (f b c r old_f old_b old_c old_r count : ℕ)
        → f ≡ more Filled kind + old_f → b ≡ more Busted kind + old_b
        → c ≡ more Corrected kind + old_c → r ≡ more Rejected kind + old_r
        → old_f + old_b + old_c + old_r ≡ count → f + b + c + r ≡ suc count
    one_more Filled f b c r old_f old_b old_c old_r count ef eb ec er is =
        omega (arith, ef, eb, ec, er, is)
    one_more Busted f b c r old_f old_b old_c old_r count ef eb ec er is =
        omega (arith, ef, eb, ec, er, is)
    one_more Corrected f b c r old_f old_b old_c old_r count ef eb ec er is =
        omega (arith, ef, eb, ec, er, is)
    one_more Rejected f b c r old_f old_b old_c old_r count ef eb ec er is =
        omega (arith, ef, eb, ec, er, is)

pub kinds_count : (first count : ℕ)
    → count_of Filled (orders_from first count) + count_of Busted (orders_from first count)
    + count_of Corrected (orders_from first count) + count_of Rejected (orders_from first count)
    ≡ count
kinds_count first count = kinds_all (orders_from first count) ∙ orders_count first count
