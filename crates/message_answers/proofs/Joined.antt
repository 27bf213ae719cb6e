-- The chains of a journal, entry by entry.
use Rattle.std.proofs.Common.{◌≡◌, true, false, List, [], ◌∷◌, ◌++◌, refl, ap, ◌∙◌, sym, Ok, Err}
use Rattle.std.proofs.Common.{append-nil, Option, Some, None, Bool, if◌then◌else◌}
use Rattle.std.specs.Prelude.{Result, OnOk}
use Rattle.std.specs.Option.{option_to_list}
use Rattle.order_chains.specs.declared.item.ChainItem.{ChainItem}
use Rattle.order_chains.specs.Chains.{has_id, with_item}
use Rattle.pair_entries.specs.declared.entry.Entry.{Entry}
use Rattle.kept_entries.specs.Days.{last_day}
use Rattle.kept_entries.proofs.Dating.{last_day-push, last_day-reset}
use Rattle.message_answers.specs.Chains.{chains_after, chains_of, if_new, item_in, new_item}

-- one entry more
after_push : (items : List ChainItem) (entries : List Entry) (entry : Entry)
    → chains_after items (entries ++ entry ∷ [])
    ≡ chains_after items entries ++ option_to_list (new_item (chains_after items entries) entry)
after_push items [] entry = refl
after_push items (e ∷ entries) entry =
    after_push (items ++ option_to_list (new_item items e)) entries entry

one_joined : (entries : List Entry) (entry : Entry) (old new : List ChainItem)
    → new ≡ old ++ option_to_list (new_item old entry) → old ≡ chains_of entries
    → new ≡ chains_of (entries ++ entry ∷ [])
one_joined entries entry old new is so_far =
    is ∙ ap (λ (c : List ChainItem). c ++ option_to_list (new_item c entry)) so_far
    ∙ sym (after_push [] entries entry)

-- the same of the last day, where no day begins with the entry
pub joined_on : {T E : Type 0} (r : Result T E) (entry : Entry) (old new : List ChainItem)
    → entry.reset ≡ false → OnOk r (new ≡ old ++ option_to_list (new_item old entry))
    → OnOk r ((before : List Entry) → old ≡ chains_of (last_day before)
    → new ≡ chains_of (last_day (before ++ entry ∷ [])))
joined_on (Ok value) entry old new same is = λ before so_far.
    one_joined (last_day before) entry old new is so_far
    ∙ ap chains_of (sym (last_day-push before entry same))
joined_on (Err error) entry old new same is = tt

-- what an entry adds, by the request that it forwarded
pub none_added : (items : List ChainItem) (entry : Entry) → item_in entry ≡ None
    → items ≡ items ++ option_to_list (new_item items entry)
none_added items entry is =
    sym (append-nil items)
    ∙ ap (λ (o : Option ChainItem). items ++ option_to_list (if_new items o)) (sym is)

pub one_added : {T E : Type 0} (r : Result T E) (items new : List ChainItem) (entry : Entry)
    (item : ChainItem) → item_in entry ≡ Some item → OnOk r (new ≡ with_item items item)
    → OnOk r (new ≡ items ++ option_to_list (new_item items entry))
one_added (Ok value) items new entry item is more =
    more ∙ by (has_id items item.id)
    ∙ ap (λ (o : Option ChainItem). items ++ option_to_list (if_new items o)) (sym is)
  where
    by : (has : Bool) → (if has then items else items ++ item ∷ [])
        ≡ items ++ option_to_list (if has then None else Some item)
    by true = sym (append-nil items)
    by false = refl
one_added (Err error) items new entry item is more = tt

-- a day begins with none
pub none_joined : (entry : Entry) (new : List ChainItem) → entry.reset ≡ true → new ≡ []
    → (before : List Entry) → new ≡ chains_of (last_day (before ++ entry ∷ []))
none_joined entry new is none before = none ∙ ap chains_of (sym (last_day-reset before entry is))
