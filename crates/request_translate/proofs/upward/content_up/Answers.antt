use Rattle.std.proofs.Common.{◌++◌, ℕ, List, ap, ◌∙◌, subst}
use Rattle.std.proofs.lemmas.Result.{err_from_is_err_and}
use Rattle.field_groups.specs.Field.{body_of}
use Rattle.dict_fix42.specs.Content.{content42}
use Rattle.dict_fix42.specs.Said.{says as says42}
use Rattle.request_rules.specs.Good.{said}
use Rattle.request_rules.specs.Put.{IsPut}
use Rattle.request_translate.proofs.AsStructs.{lacks, no_fault, put_is}
use Rattle.request_translate.proofs.upward.content_up.Goals as goal

pub returns-in_err-put_up-in-Ok-clause-lack : goal.returns-in_err-put_up-in-Ok-clause-lack
returns-in_err-put_up-in-Ok-clause-lack c =
    let p = err_from_is_err_and c.from_residual-in_err-put_up-in-Ok.result
    c.from_residual-in_err-put_up-in-Ok.ensures.1 in
    let content = c.deref.ensures.value ∙ c.in_ok-write42.ensures.ok
    ∙ ap (λ (b : List ℕ). b ++ body_of (content42 c.args.msg.now)) c.new-content.ensures.items in
    rw (p.1, p.2) (lacks c.args.msg.now c.requires.sound c.type42.result.now c.deref.result.now
    c.type42.ensures c.in_ok-split.split.fields c.in_ok-split.split.fault c.in_ok-split.ensures
    content (said c.in-Ok.good) c.in-Ok.ensures.read c.in_err-put_up-in-Ok.field-0.0
    c.in_err-put_up-in-Ok.ensures.lack)

pub unreachable-requires : goal.unreachable-requires
unreachable-requires c =
    let content = c.deref.ensures.value ∙ c.in_ok-write42.ensures.ok
    ∙ ap (λ (b : List ℕ). b ++ body_of (content42 c.args.msg.now)) c.new-content.ensures.items in
    no_fault c.args.msg.now c.requires.sound c.type42.result.now c.deref.result.now
    c.type42.ensures c.in_ok-split.split.fields c.in_ok-split.split.fault c.in_ok-split.ensures
    content c.in-Err.field-0 c.in-Err.ensures.fault

pub returns-clause-ok : goal.returns-clause-ok
returns-clause-ok c =
    let content = c.deref.ensures.value ∙ c.in_ok-write42.ensures.ok
    ∙ ap (λ (b : List ℕ). b ++ body_of (content42 c.args.msg.now)) c.new-content.ensures.items in
    let P : List ℕ → Type 0 = λ b. IsPut (says42 c.args.msg.now) b c.put_up.new.out.items in
    subst P c.new-up.ensures.items (put_is c.args.msg.now c.requires.sound c.type42.result.now
    c.deref.result.now c.type42.ensures c.in_ok-split.split.fields c.in_ok-split.split.fault
    c.in_ok-split.ensures content (said c.in-Ok.good) c.in-Ok.ensures.read
    c.new-up.result.items c.put_up.new.out.items c.in_ok-put_up-in-Ok.ensures.ok)
