-- The chains of a journal with one entry more.
use Rattle.std.proofs.Common.{◌≡◌, List, [], ◌∷◌, ◌++◌, Option, Some, None, refl, sym, ap, ◌∙◌}
use Rattle.std.proofs.Common.{append-nil, Bool, true, false, subst, Result, Ok, Err, IfOk}
use Rattle.std.proofs.Common.{if◌then◌else◌}
use Rattle.std.specs.Option.{option_to_list}
use Rattle.order_chains.specs.declared.item.ChainItem.{ChainItem}
use Rattle.message_tables.specs.Tables.{◌>>=◌}
use Rattle.pair_entries.specs.declared.entry.Entry.{Entry}
use Rattle.order_chains.specs.Chains.{has_id}
use Rattle.message_answers.specs.Chains.{chains_of, chains_after, new_item, if_new, item_in}
use Rattle.gateway_core.specs.declared.plan.Plan.{Plan}
use Rattle.gateway_core.specs.declared.plan.PlanError.{PlanError}
use Rattle.gateway_core.specs.State.{CoreState, ChainsGoOn, Grows, HasItem, IsNew, Stand}

after : (items : List ChainItem) (entries : List Entry) (entry : Entry)
    → chains_after items (entries ++ entry ∷ []) ≡ chains_after items entries
    ++ option_to_list (new_item (chains_after items entries) entry)
after items [] entry = refl
after items (first ∷ entries) entry =
    after (items ++ option_to_list (new_item items first)) entries entry

pub chains_go_on : ChainsGoOn
chains_go_on entries entry = after [] entries entry

-- the item of a plan is what the chains grow by
pub grows : (core : CoreState) (entries : List Entry) (plan : Plan)
    → chains_of entries ≡ core.chains → HasItem core plan → Grows core entries plan
grows core entries plan chains item = by plan.entry refl
  where
    by : (entry : Option Entry) → plan.entry ≡ entry → Grows core entries plan
    by None is =
        ap (λ (e : Option Entry). chains_of (entries ++ option_to_list e)) is
        ∙ ap chains_of (append-nil entries) ∙ chains ∙ sym (append-nil core.chains)
        ∙ ap (λ (i : Option ChainItem). core.chains ++ option_to_list i)
        (sym (item ∙ ap (λ (e : Option Entry). e >>= new_item core.chains) is))
    by (Some entry) is =
        ap (λ (e : Option Entry). chains_of (entries ++ option_to_list e)) is
        ∙ chains_go_on entries entry
        ∙ ap (λ (c : List ChainItem). c ++ option_to_list (new_item c entry)) chains
        ∙ ap (λ (i : Option ChainItem). core.chains ++ option_to_list i)
        (sym (item ∙ ap (λ (e : Option Entry). e >>= new_item core.chains) is))

-- ---- what a plan answers

new_if : (items : List ChainItem) (item : Option ChainItem) → IsNew items (if_new items item)
new_if items None = tt
new_if items (Some item) = by (has_id items item.id) refl
  where
    by : (b : Bool) → has_id items item.id ≡ b → IsNew items (if b then None else Some item)
    by true is = tt
    by false is = is

new_of : (items : List ChainItem) (entry : Option Entry) → IsNew items (entry >>= new_item items)
new_of items None = tt
new_of items (Some entry) = new_if items (item_in entry)

pub plan_new : (core : CoreState) (r : Result Plan PlanError) → IfOk r (HasItem core)
    → IfOk r (λ plan. IsNew core.chains plan.item)
plan_new core (Ok plan) is =
    subst (λ (i : Option ChainItem). IsNew core.chains i) (sym is) (new_of core.chains plan.entry)
plan_new core (Err error) is = tt

pub plan_grows : (core : CoreState) (journal entries : List Entry) (r : Result Plan PlanError)
    → IfOk r (HasItem core) → Stand core journal entries → IfOk r (Grows core entries)
plan_grows core journal entries (Ok plan) is stand = grows core entries plan stand.chains is
plan_grows core journal entries (Err error) is stand = tt
