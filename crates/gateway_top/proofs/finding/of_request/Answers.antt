use Rattle.std.proofs.Common.{sym, subst, Result}
use Rattle.std.specs.Prelude.{IfOk}
use Rattle.std.specs.declared.alloc.AllocError.{AllocError}
use Rattle.order_meaning.specs.declared.Side.TheVariants.{Client}
use Rattle.request_translate.specs.Translation.{IsRefusedByCheck}
use Rattle.gateway_top.specs.Finding.{IsRead, IsCheckedMessage}
use Rattle.gateway_top.specs.declared.finding.Finding.{Finding}
use Rattle.gateway_top.proofs.Answered.{read_by}
use Rattle.gateway_top.proofs.finding.of_request.Goals as goal

pub returns : goal.returns
returns c =
    subst (λ (r : Result Finding AllocError). IfOk r
    (IsRead (IsCheckedMessage Client c.args.body.now)))
    (sym c.found_by.ensures)
    (read_by (IsCheckedMessage Client c.args.body.now)
    (IsRefusedByCheck c.args.body.now)
    (λ fault why. why) (λ tag why. why) c.check.result c.check.ensures.ok
    c.check.ensures.refused)
