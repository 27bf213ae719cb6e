-- Own: which request an id names; docs/DECISIONS.md, "Order chains".
use Rattle.std.specs.Prelude.{◌≢◌, ℕ, Bool, List, find, map, is_some, AllPairs, option_and_then}
use Rattle.std.specs.Prelude.{[], ◌∷◌, ◌++◌, if◌then◌else◌}
use Rattle.std.specs.declared.option.Option.{Option}
use Rattle.std.specs.Option.{option_map}
use Rattle.std.specs.Str.{bytes_eq}
use Rattle.order_chains.specs.declared.item.ChainItem.{ChainItem}

-- the item with an id, where the list has one
abbrev pub item_with : List ChainItem → List ℕ → Option ChainItem
item_with items id = find (λ item. bytes_eq id item.id) items

-- whether an item has the id
abbrev pub has_id : List ChainItem → List ℕ → Bool
has_id items id = is_some (item_with items id)

-- the items with one more at the end, unless one with its id is there
abbrev pub with_item : List ChainItem → ChainItem → List ChainItem
with_item items item = if has_id items item.id then items else items ++ item ∷ []

-- OrigClOrdID(41) of the item with an id, where it has one
abbrev pub orig_of : List ChainItem → List ℕ → Option (List ℕ)
orig_of items id = option_and_then (λ item. item.orig) (item_with items id)

-- MsgSeqNum(34) and MsgType(35) of the item with an id
abbrev pub number_of : List ChainItem → List ℕ → Option (ℕ × ℕ)
number_of items id = option_map (λ item. (item.number, item.letter)) (item_with items id)

-- no two items have one id
abbrev pub AreDistinct : List ChainItem → Type 0
AreDistinct items = AllPairs (λ id other. id ≢ other) (map (λ item. item.id) items)
