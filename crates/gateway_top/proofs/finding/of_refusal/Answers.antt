use Rattle.std.proofs.Common.{sym, subst, Result}
use Rattle.std.specs.Prelude.{IfOk}
use Rattle.std.specs.declared.alloc.AllocError.{AllocError}
use Rattle.report_translate.specs.Reading.{refusal_message}
use Rattle.report_translate.specs.Refusals.{IsCheckedRefusal, IsFaultyRefusal}
use Rattle.gateway_top.specs.Finding.{IsRead}
use Rattle.gateway_top.specs.declared.finding.Finding.{Finding}
use Rattle.gateway_top.proofs.Answered.{read_by}
use Rattle.gateway_top.proofs.finding.of_refusal.Goals as goal

pub returns : goal.returns
returns c =
    subst (λ (r : Result Finding AllocError). IfOk r
    (IsRead (IsCheckedRefusal (refusal_message c.args.side) c.args.body.now)))
    (sym c.found_by.ensures)
    (read_by (IsCheckedRefusal (refusal_message c.args.side) c.args.body.now)
    (IsFaultyRefusal (refusal_message c.args.side) c.args.body.now)
    (λ fault why. why) (λ tag why. why) c.check_refusal.result c.check_refusal.ensures.ok
    c.check_refusal.ensures.refused)
