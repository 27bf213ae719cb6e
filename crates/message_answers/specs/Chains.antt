-- Own: which requests were forwarded on a day; docs/DECISIONS.md, "Order chains".
use Rattle.std.specs.Prelude.{ℕ, ◌==◌, List, [], ◌∷◌, ◌++◌, codes, Option, Some, None, unwrap_or}
use Rattle.std.specs.Prelude.{if◌then◌else◌}
use Rattle.std.specs.Option.{option_to_list}
use Rattle.field_groups.specs.Field.{Field}
use Rattle.value_kinds.specs.ValueKind.{Id}
use Rattle.row_values.specs.Kinds.{Value, said}
use Rattle.message_tables.specs.Tables.{◌>>=◌, first_of, is_one_of}
use Rattle.order_chains.specs.declared.item.ChainItem.{ChainItem}
use Rattle.order_chains.specs.Chains.{has_id}
use Rattle.pair_entries.specs.declared.entry.Out.{Out}
use Rattle.pair_entries.specs.declared.entry.Entry.{Entry}
use Rattle.kept_entries.specs.Given.{source_in}
use Rattle.event_decisions.specs.Body.{reading_of}

-- the requests whose ClOrdIDs are kept: New Order (D), Cancel (F), Cancel/Replace (G)
abbrev pub joining : List ℕ
joining = codes "DFG"

-- the letter of such a request that an out translates
abbrev pub joining_letter : Entry → Out → Option ℕ
joining_letter entry out = source_in (record { entry = entry; out = out }) >>=
    (λ source. if is_one_of joining source.1 then Some source.1 else None)

-- OrigClOrdID(41) that fields say of a request, which an order (D) does not have
abbrev pub original_said : (letter : ℕ) → List Field → Option (List ℕ)
original_said letter fields = if letter == 68 then None else said fields 41 (Value Id)

-- what fields say of an order: ClOrdID(11), OrigClOrdID(41)
abbrev pub item_said : (number letter : ℕ) → List Field → ChainItem
item_said number letter fields = record {
  id = unwrap_or (said fields 11 (Value Id)) [];
  orig = original_said letter fields;
  number = number;
  letter = letter;
}

-- The request that an entry forwarded. That it was forwarded tells that it was at no fault, so its
-- fields are read and not judged.
abbrev pub item_in : Entry → Option ChainItem
item_in entry = entry.took >>= (λ took.
    first_of (joining_letter entry) entry.outs >>= (λ letter.
    Some (item_said took.number letter (reading_of took.raw).fields)))

-- an id names one request of its day
abbrev pub if_new : List ChainItem → Option ChainItem → Option ChainItem
if_new items None = None
if_new items (Some item) = if has_id items item.id then None else Some item

abbrev pub new_item : List ChainItem → Entry → Option ChainItem
new_item items entry = if_new items (item_in entry)

abbrev pub chains_after : List ChainItem → List Entry → List ChainItem
chains_after items [] = items
chains_after items (entry ∷ entries) =
    chains_after (items ++ option_to_list (new_item items entry)) entries

-- THE CHAINS OF A DAY: the requests that its entries forwarded, in order
abbrev pub chains_of : List Entry → List ChainItem
chains_of entries = chains_after [] entries
