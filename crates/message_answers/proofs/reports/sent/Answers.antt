use Rattle.std.proofs.Common.{rules, ◌≡◌, ℕ, List, None, option_map, subst}
use Rattle.std.specs.Prelude.{IfOk}
use Rattle.row_values.specs.Kinds.{resend_of}
use Rattle.message_answers.specs.Seen.{IsForwarded}
use Rattle.message_answers.proofs.Reported.{is_good, one_byte, original_said, refused, sent}
use Rattle.message_answers.proofs.reports.sent.Goals as goal

pub put_down-requires : goal.put_down-requires
put_down-requires c = is_good c.args.known.now c.args.asked.now c.requires.split c.requires.side
    c.requires.other c.args.fields.now c.requires.good

pub goes_on-requires : goal.goes_on-requires
goes_on-requires c = one_byte c.args.known.now c.args.asked.now c.requires.split c.requires.side
    c.requires.other c.args.fields.now c.requires.good

pub returns-in-Ok : goal.returns-in-Ok
returns-in-Ok c =
    let of = original_said c.args.known.now.chains.now c.order_id.result.now _ _
    c.order_id.ensures c.orig_of-original.ensures in
    let same : c.deref.result.now ≡ c.put_down.new.out.items = search rules in
    let P : List ℕ → Type 0 = λ l. IfOk c.goes_on.result (IsForwarded c.args.asked.now
    c.args.asked.now.msg_type.now (resend_of c.args.fields.now) l None) in
    let is = sent c.args.known.now c.args.asked.now c.requires.split c.requires.side
    c.requires.other c.args.fields.now c.requires.good
    (option_map (λ id. id.now) c.orig_of-original.result) of c.goes_on.result
    _ c.put_down.new.out.items c.new-content.ensures.items c.in-Ok.ensures.ok
    (subst P same c.goes_on.ensures.forwarded) in
    record { answer = is.0; fit = c.goes_on.ensures.fit; item = is.1 }

pub returns : goal.returns
returns c =
    let of = original_said c.args.known.now.chains.now c.order_id.result.now _ _
    c.order_id.ensures c.orig_of-original.ensures in
    let is = refused c.args.known.now c.args.asked.now c.requires.split c.requires.side
    c.requires.other c.args.fields.now c.requires.good
    (option_map (λ id. id.now) c.orig_of-original.result) of c.lacking.result c.in-Err.lack
    c.in-Err.ensures.lack c.lacking.ensures.lacking in
    record { answer = is.0; fit = c.lacking.ensures.fit; item = is.1 }
