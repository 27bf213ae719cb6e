use Rattle.std.proofs.Common.{◌≡◌, ◌∙◌, rules, Ok, Err, length, ap, subst}
use Rattle.pair_journal.specs.Calls.{Looks}
use Rattle.capture_replay.specs.Replay.{numbers_left}
use Rattle.capture_replay.proofs.LastLeft.{found_entries, none_refused}
use Rattle.capture_replay.proofs.last.left_by.Goals as goal

pub returns-in-Ok-Some : goal.returns-in-Ok-Some
returns-in-Ok-Some c = λ names entries is.
    let bytes : c.disk_of-disk.result.bytes ≡ c.args.image.items = search rules in
    let same = found_entries c.args.image.items names entries _ c.in-Ok-Some.journal
    (c.an_image_has_one_reading.ensures c.args.image.items) is c.in-Ok-Some.field-0-is
    (subst (λ b. Looks b (Ok c.in-Ok-Some.field-0)) bytes c.in-Ok-Some.ensures.looks) in
    (c.count.ensures ∙ ap length same, c.next.ensures ∙ ap numbers_left same)

pub unreachable-requires : goal.unreachable-requires
unreachable-requires c =
    let bytes : c.disk_of-disk.result.bytes ≡ c.args.image.items = search rules in
    none_refused c.args.image.items c.in-Err-Refused.field-0-0
    (c.an_image_has_one_reading.ensures c.args.image.items) c.requires
    (subst (λ e. Looks c.args.image.items (Err e)) c.in-Err-Refused.field-0-is
    (subst (λ b. Looks b (Err c.in-Err-Refused.field-0)) bytes c.in-Err-Refused.ensures.looks))
