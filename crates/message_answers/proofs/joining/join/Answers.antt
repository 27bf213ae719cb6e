use Rattle.std.proofs.Common.{◌∙◌, Some, ap, sym}
use Rattle.message_tables.specs.Tables.{first_of}
use Rattle.pair_entries.specs.declared.entry.Took.{Took}
use Rattle.pair_entries.specs.declared.entry.Entry.{Entry}
use Rattle.order_chains.specs.declared.item.ChainItem.{ChainItem}
use Rattle.event_decisions.specs.Body.{fields_of}
use Rattle.message_answers.specs.Chains.{item_said, joining_letter}
use Rattle.message_answers.proofs.Forwards.{item_read, no_letter, no_took}
use Rattle.message_answers.proofs.Joined.{none_added, one_added}
use Rattle.message_answers.proofs.joining.join.Goals as goal

pub returns-in_default : goal.returns-in_default
returns-in_default c = none_added c.args.chains.now c.args.entry.now
    (no_took c.args.entry.now (sym (ap (λ (e : Entry). e.took) c.entry.view_is) ∙ c.in_default.is))

pub returns-in_default-first_letter : goal.returns-in_default-first_letter
returns-in_default-first_letter c =
    let entry = c.args.entry.now in
    let outs = c.as_slice.ensures.outs ∙ ap (λ (e : Entry). e.outs) c.entry.view_is in
    none_added c.args.chains.now entry (no_letter entry c.in-Some.took
    (sym (ap (λ (e : Entry). e.took) c.entry.view_is) ∙ c.in-Some.is)
    (sym (c.in_default-first_letter.ensures ∙ ap (first_of (joining_letter entry)) outs)))

pub returns : goal.returns
returns c =
    let entry = c.args.entry.now in
    let outs = c.as_slice.ensures.outs ∙ ap (λ (e : Entry). e.outs) c.entry.view_is in
    let letter = c.in-Some-first_letter.letter in
    let raw = c.took.inside.raw.now in
    let read = item_read entry c.in-Some.took letter raw
    (sym (ap (λ (e : Entry). e.took) c.entry.view_is) ∙ c.in-Some.is)
    (sym (c.in-Some-first_letter.ensures ∙ ap (first_of (joining_letter entry)) outs))
    (ap (λ (t : Took). t.raw) c.took.view_is) in
    let said = c.item_said-item.ensures
    ∙ ap (λ (t : Took). item_said t.number letter (fields_of raw)) c.took.view_is in
    one_added c.add.result c.args.chains.now c.add.new.self entry c.item_said-item.result
    (read ∙ ap (λ (i : ChainItem). Some i) (sym said)) c.add.ensures.ok
