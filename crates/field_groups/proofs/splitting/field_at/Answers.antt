use Rattle.std.proofs.lemmas.Result.{err_from_is_err_and}
use Rattle.field_groups.proofs.splitting.field_at.Goals as goal

pub returns-in_err-tag-clause-fault : goal.returns-in_err-tag-clause-fault
returns-in_err-tag-clause-fault c =
    let p = err_from_is_err_and c.from_residual.result c.from_residual.ensures.1 in
    rw (p.1, p.2) (c.in_err-tag.ensures.fault _)
