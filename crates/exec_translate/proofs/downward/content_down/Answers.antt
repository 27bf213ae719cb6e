use Rattle.std.proofs.Common.{List, ℕ, option_map, subst}
use Rattle.std.proofs.lemmas.Result.{err_from_is_err_and}
use Rattle.report_rules.specs.Down.{IsPut}
use Rattle.exec_translate.proofs.Shell.{lacks_of}
use Rattle.exec_translate.proofs.downward.content_down.Goals as goal

pub put_down-requires : goal.put_down-requires
put_down-requires c = c.requires _ _ c.in_ok-split.ensures

pub returns-clause-ok : goal.returns-clause-ok
returns-clause-ok c = λ m says.
    let P : List ℕ → Type 0 =
    λ b. IsPut (option_map (λ id. id.now) c.args.known) m b c.put_down.new.out.items in
    subst P c.new-down.ensures.items
    (c.in_ok-put_down.ensures.ok m (says _ _ c.in_ok-split.ensures))

pub returns-in_err-put_down-clause-lack : goal.returns-in_err-put_down-clause-lack
returns-in_err-put_down-clause-lack c =
    let p = err_from_is_err_and c.from_residual-in_err-put_down.result
    c.from_residual-in_err-put_down.ensures.1 in
    rw (p.1, p.2) (λ m says. lacks_of c.args.msg_type.now (option_map (λ id. id.now) c.args.known)
    _ c.in_err-put_down.field-0.0 c.in_err-put_down.ensures.lack m
    (says _ _ c.in_ok-split.ensures))
