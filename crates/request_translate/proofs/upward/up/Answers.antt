use Rattle.std.proofs.Common.{◌∙◌}
use Rattle.std.proofs.lemmas.Result.{err_from_is_err_and}
use Rattle.dict_fix42.specs.Said.{says as says42}
use Rattle.dict_fix50.specs.Said.{says as says50}
use Rattle.request_translate.proofs.AsStructs.{canonical, means, up_is}
use Rattle.request_translate.proofs.Sayable.{lack_is}
use Rattle.request_translate.proofs.upward.up.Goals as goal

pub returns-in_err-content-clause-lack : goal.returns-in_err-content-clause-lack
returns-in_err-content-clause-lack c =
    let p = err_from_is_err_and c.from_residual.result c.from_residual.ensures.1 in
    rw (p.1, p.2) (lack_is (says42 c.args.msg.now) c.in_err-content.field-0.0
    c.in_err-content.ensures.lack)

pub returns-in-Ok-clause-rules : goal.returns-in-Ok-clause-rules
returns-in-Ok-clause-rules c =
    up_is c.args.msg.now c.requires.sound c.type42.result.now c.deref.result.now c.type42.ensures
    c.in_ok-split.split.fields c.in_ok-split.split.fault c.in_ok-split.ensures
    (c.deref.ensures.value ∙ c.in_ok-content.ensures.ok.bytes) c.in_ok-content.ensures.ok.said
    c.in-Ok.request c.set_resend.new.msg c.resend.result c.in-Ok.ensures.says
    c.set_resend.ensures.says c.resend.ensures

pub returns-in-Ok-clause-sense : goal.returns-in-Ok-clause-sense
returns-in-Ok-clause-sense c =
    means c.args.msg.now c.requires.sound c.in_ok-content.ensures.ok.said
    (says50 c.set_resend.new.msg) (returns-in-Ok-clause-rules c)

pub returns-in-Ok-clause-canonical : goal.returns-in-Ok-clause-canonical
returns-in-Ok-clause-canonical c =
    canonical c.args.msg.now c.requires.sound c.in_ok-content.ensures.ok.said
    (says50 c.set_resend.new.msg) (returns-in-Ok-clause-rules c)
