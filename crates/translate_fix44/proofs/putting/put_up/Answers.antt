use Rattle.std.proofs.lemmas.Result.{err_from_is_err_and}
use Rattle.translate_fix44.proofs.Known.{lines_written}
use Rattle.translate_fix44.proofs.Put.{role_lacks, rules_lack, up_appends}
use Rattle.translate_fix44.proofs.putting.put_up.Goals as goal

pub put_rules-requires : goal.put_rules-requires
put_rules-requires c = lines_written _ c.args.source.now.fields.now c.requires.asked

pub returns-in_err-put_rules-clause-lack : goal.returns-in_err-put_rules-clause-lack
returns-in_err-put_rules-clause-lack c =
    let p = err_from_is_err_and c.from_residual.result c.from_residual.ensures.1 in
    rw (p.1, p.2) (rules_lack c.args.source.now c.requires c.request_rules.result.all.now
    c.request_rules.ensures.all c.in_err-put_rules.field-0.0 c.in_err-put_rules.ensures.lack)

pub returns-in-None-clause-ok : goal.returns-in-None-clause-ok
returns-in-None-clause-ok c = up_appends c.args.source.now c.requires c.request_rules.result.all.now
    c.request_rules.ensures.all c.args.out.now.items c.put_rules.new.out.items
    c.in_ok-put_rules.ensures.said c.in-None.ensures c.in_ok-put_rules.ensures.done

pub returns-in-Some-clause-lack : goal.returns-in-Some-clause-lack
returns-in-Some-clause-lack c =
    role_lacks c.args.source.now c.requires c.request_rules.result.all.now c.request_rules.ensures.all
    c.in-Some.tag c.in_ok-put_rules.ensures.said c.in-Some.ensures
