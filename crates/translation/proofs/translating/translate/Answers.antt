use Rattle.std.proofs.Common.{◌++◌, ◌∙◌}
use Rattle.std.proofs.lemmas.Result.{err_from_is_err_and}
use Rattle.frame_grammar.specs.Frame.{frame_of}
use Rattle.translation.proofs.Going.{can_be_written, refused, translation}
use Rattle.translation.proofs.translating.translate.Goals as goal

pub write_frame-requires : goal.write_frame-requires
write_frame-requires g c =
    let split = c.split_into.new.split in
    rw c.deref.ensures.value (can_be_written (g.T.Translating.course c.args.by.now) split.fields
    split.fault c.args.body.now c.in_ok-split_into.ensures c.laws.ensures c.write.new.other.items
    c.in_ok-write.ensures.ok)

pub returns-in-Ok-clause-ok : goal.returns-in-Ok-clause-ok
returns-in-Ok-clause-ok g c =
    let split = c.split_into.new.split in
    let d = g.T.Translating.course c.args.by.now in
    let other = c.write.new.other.items in
    let frame = rw (c.kind.ensures, c.deref.ensures.value) at c.in-Ok.ensures.frame in (
      frame_of d.kind other,
      translation d split.fields split.fault c.args.body.now c.in_ok-split_into.ensures
          c.laws.ensures other c.in_ok-write.ensures.ok frame,
      c.in-Ok.ensures.ok ∙ (λ i. c.args.out.now.items
          ++ frame_of (c.kind.ensures i) (c.deref.ensures.value i)),
    )

pub returns-in_err-write-clause-refused : goal.returns-in_err-write-clause-refused
returns-in_err-write-clause-refused g c =
    let split = c.split_into.new.split in
    let p = err_from_is_err_and
    c.from_residual-in_err-write.result c.from_residual-in_err-write.ensures.1 in
    rw (p.1, p.2) (refused (g.T.Translating.course c.args.by.now) split.fields split.fault
    c.args.body.now c.in_ok-split_into.ensures c.laws.ensures c.in_err-write.field-0.0
    c.in_err-write.ensures.refused)
