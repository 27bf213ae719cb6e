use Rattle.std.proofs.Common.{option_map}
use Rattle.std.proofs.lemmas.Result.{err_from_is_err_and}
use Rattle.structs_fix44.proofs.Down.{copied_says, once_complete, reject_down, reject_lacks}
use Rattle.structs_fix44.proofs.Down.{reject_stands}
use Rattle.structs_fix44.proofs.downward.down_cancel_reject44.Goals as goal

pub reject_body-requires-clause-sound : goal.reject_body-requires-clause-sound
reject_body-requires-clause-sound c = once_complete c.args.msg.now c.requires.sound

pub returns-in_err-content-clause-lack : goal.returns-in_err-content-clause-lack
returns-in_err-content-clause-lack c =
    let p = err_from_is_err_and c.from_residual-in_err-content.result
    c.from_residual-in_err-content.ensures.1 in
    rw (p.1, p.2) (reject_lacks (option_map (λ id. id.now) c.args.orig) c.args.msg.now
    c.requires.orig c.requires.sound c.in_err-content.field-0.0
    (c.in_err-content.ensures.lack _ (copied_says c.deref.ensures.value
    c.in_ok-body.ensures)))

pub returns-in-Ok-clause-rules : goal.returns-in-Ok-clause-rules
returns-in-Ok-clause-rules c =
    reject_down (option_map (λ id. id.now) c.args.orig) c.args.msg.now c.requires.orig
    c.requires.sound
    (c.in_ok-content.ensures.ok _ (copied_says c.deref.ensures.value c.in_ok-body.ensures))
    c.deref-2.ensures.value c.in_ok-split.ensures c.in-Ok.reject c.in-Ok.ensures.says

pub returns-in-Ok-clause-stands : goal.returns-in-Ok-clause-stands
returns-in-Ok-clause-stands c =
    reject_stands (option_map (λ id. id.now) c.args.orig) c.args.msg.now c.requires.orig
    c.requires.sound
    (c.in_ok-content.ensures.ok _ (copied_says c.deref.ensures.value c.in_ok-body.ensures))
    c.deref-2.ensures.value c.in_ok-split.ensures c.in-Ok.reject c.in-Ok.ensures.says
