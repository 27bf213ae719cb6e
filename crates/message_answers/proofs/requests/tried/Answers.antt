use Rattle.std.proofs.Common.{ℕ, List, [], None, subst, sym}
use Rattle.request_rules.specs.Good.{said}
use Rattle.request_rules.specs.Put.{IsPut}
use Rattle.message_answers.specs.Seen.{joined}
use Rattle.message_answers.proofs.ReadShapes.{of_request, type_by}
use Rattle.message_answers.proofs.Requested.{request_sent, request_refused}
use Rattle.message_answers.proofs.requests.tried.Goals as goal

pub sent-requires-clause-typed : goal.sent-requires-clause-typed
sent-requires-clause-typed c =
    type_by (of_request c.args.asked.now.msg_type.now) c.args.asked.now.split.now.fields None
    (said c.args.good.now) c.requires.read.read

pub returns-in-Ok-clause-spelled : goal.returns-in-Ok-clause-spelled
returns-in-Ok-clause-spelled c =
    let m = said c.args.good.now in
    let put = subst (λ (old : List ℕ). IsPut m old c.put_up.new.out.items)
    c.new-content.ensures.items c.in-Ok.ensures.ok in
    request_sent c.args.asked.now m c.deref.result.now (joined c.args.asked.now.number m)
    c.sent.result c.requires.split c.requires.read
    (subst (λ (bytes : List ℕ). IsPut m [] bytes) (sym c.deref.ensures.value) put)
    c.sent.ensures.forwarded

pub returns-clause-spelled : goal.returns-clause-spelled
returns-clause-spelled c =
    request_refused c.args.asked.now (said c.args.good.now) c.in-Err.lack
    (joined c.args.asked.now.number (said c.args.good.now)) c.lacking.result
    c.in-Err.ensures.lack c.lacking.ensures.lacking
