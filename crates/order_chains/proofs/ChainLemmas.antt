-- What the set of items does, said of their list.
use Rattle.std.proofs.Common.{◌≡◌, ℕ, Bool, true, false, cond, ◌||◌, List, [], ◌∷◌, ◌++◌, map}
use Rattle.std.proofs.Common.{Some, refl, ap, is_some}
use Rattle.std.proofs.Common.{if◌then◌else◌}
use Rattle.std.specs.List.{IsDistinct, AllByRecursion, list_any}
use Rattle.std.specs.Str.{bytes_eq}
use Rattle.std.proofs.lemmas.Map.Made.{AllPairs-from_IsDistinct}
use Rattle.std.proofs.lemmas.Slice.Eq.{bytes_eq-Decides}
use Rattle.indexmap.specs.IndexSet.{insert_key}
use Rattle.order_chains.specs.declared.item.ChainItem.{ChainItem}
use Rattle.order_chains.specs.Chains.{item_with, has_id, with_item, AreDistinct}

-- two items are equal to the set where their ids are
abbrev pub same_id : ChainItem → ChainItem → Bool
same_id item other = bytes_eq item.id other.id

-- the set has an id exactly where an item of the list does
pub has_found : (id : List ℕ) (items : List ChainItem) →
    list_any (λ (item : ChainItem). bytes_eq id item.id) items ≡ has_id items id
has_found id [] = refl
has_found id (item ∷ items) = by (bytes_eq id item.id) (has_found id items)
  where
    by : (b : Bool) →
        list_any (λ (other : ChainItem). bytes_eq id other.id) items ≡ has_id items id →
        (b || list_any (λ (other : ChainItem). bytes_eq id other.id) items)
        ≡ is_some (cond b (Some item) (item_with items id))
    by true rest = refl
    by false rest = rest

-- an item goes last, unless one with its id is there
pub added : (items : List ChainItem) (item : ChainItem) →
    insert_key same_id items item ≡ with_item items item
added items item =
    ap (λ b. if b then items else items ++ item ∷ []) (has_found item.id items)

other_ids : (item : ChainItem) (items : List ChainItem) →
    AllByRecursion (λ (other : ChainItem). same_id item other ≡ false) items →
    AllByRecursion (λ (other : List ℕ). bytes_eq item.id other ≡ false)
    (map (λ (other : ChainItem). other.id) items)
other_ids item [] h = h
other_ids item (other ∷ items) h = (h.0, other_ids item items h.1)

ids_differ : (items : List ChainItem) → IsDistinct same_id items →
    IsDistinct bytes_eq (map (λ (item : ChainItem). item.id) items)
unfolding IsDistinct
ids_differ [] h = h
ids_differ (item ∷ items) h = (other_ids item items h.0, ids_differ items h.1)

-- no two items of the set have one id
pub distinct_ids : (items : List ChainItem) → IsDistinct same_id items → AreDistinct items
distinct_ids items h = AllPairs-from_IsDistinct bytes_eq-Decides
    (map (λ (item : ChainItem). item.id) items) (ids_differ items h)
