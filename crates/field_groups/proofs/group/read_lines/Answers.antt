use Rattle.std.proofs.Common.{◌<◌, List, length, map, subst, sym, ap, ◌∙◌, []}
use Rattle.std.proofs.Common.{arith}
use Rattle.std.proofs.lemmas.Result.{err_from_is_err_and}
use Rattle.field_groups.specs.Group.{Lines, Member, tags_of, placed, members_of}
use Rattle.field_groups.proofs.Lines.{Read, none_read, one_read, all_read, tells}
use Rattle.field_groups.proofs.Lines.{from_start, at_end, skips, takes}
use Rattle.field_groups.proofs.group.read_lines.Goals as goal
use Rattle.field_groups.proofs.group.read_lines.Goals.{then-not-is_skipped+in_ok-add}
use Rattle.field_groups.proofs.group.read_lines.Goals.{else-not-is_skipped}

pub loop-i-init : goal.loop-i-init
loop-i-init c =
    let tags = tags_of c.args.shape.now in
    let all = members_of
    tags (placed c.args.place (map (λ field. (field.0, field.1.now)) c.args.run.now)) in
    record {
      read =
          rw c.with_end-group.ensures
          (subst (λ (left : List Member). Read tags all left []) (from_start tags
          c.args.place (λ field. (field.0, field.1.now)) c.args.run.now) (none_read tags all));
      end = ap (λ (g : Lines). g.end) c.with_end-group.ensures;
    }

pub returns-in_err-add-clause-fault : goal.returns-in_err-add-clause-fault
returns-in_err-add-clause-fault c =
    let tags = tags_of c.args.shape.now in
    let xs = c.args.run.now in
    let i = c.loop-i.i in
    let lt : i < length xs = omega arith in
    let all = members_of tags (placed c.args.place (map (λ field. (field.0, field.1.now)) xs)) in
    let read =
    subst (λ (left : List Member). Read tags all left c.loop-i.group.lines)
    (takes tags c.args.place i (λ field. (field.0, field.1.now))
    xs _ lt (sym c.is_skipped.ensures ∙ c.if-not-is_skipped.true)) c.loop-i.invariant.read in
    let p = err_from_is_err_and c.from_residual.result c.from_residual.ensures.1 in
    rw (p.1, p.2) (tells tags all _ _ c.loop-i.group.lines
    c.in_err-add.field-0.0 read (c.in_err-add.ensures.fault read.before read.into))

pub loop-i-preserved : goal.loop-i-preserved
loop-i-preserved c =
    let tags = tags_of c.args.shape.now in
    let xs = c.args.run.now in
    let i = c.loop-i.i in
    let lt : i < length xs = omega arith in
    let all = members_of tags (placed c.args.place (map (λ field. (field.0, field.1.now)) xs)) in
    elim c.if-not-is_skipped.branch [
      | then-not-is_skipped+in_ok-add w ↦
          let read =
          subst (λ (left : List Member). Read tags all left c.loop-i.group.lines)
          (takes tags c.args.place i (λ field. (field.0, field.1.now)) xs
          _ lt (sym c.is_skipped.ensures ∙ w.if-not-is_skipped.true)) c.loop-i.invariant.read in
          record {
            read = rw w.group-is (one_read tags all _ _ c.loop-i.group.lines
                w.add.new.self.lines read (w.in_ok-add.ensures.ok read.before read.into)
                (w.in_ok-add.ensures.in_order read.before read.into));
            end = rw w.group-is (w.in_ok-add.ensures.end ∙ c.loop-i.invariant.end);
          }
      | else-not-is_skipped w ↦
          record {
            read =
                rw w.group-is
                (subst (λ (left : List Member). Read tags all left c.loop-i.group.lines)
                (skips tags c.args.place i (λ field. (field.0, field.1.now))
                xs _ lt (sym c.is_skipped.ensures ∙ w.if-not-is_skipped.false))
                c.loop-i.invariant.read);
            end = rw w.group-is c.loop-i.invariant.end;
          }
    ]

pub returns-clause-in_order : goal.returns-clause-in_order
returns-clause-in_order c =
    let tags = tags_of c.args.shape.now in
    let xs = c.args.run.now in
    let all = members_of tags (placed c.args.place (map (λ field. (field.0, field.1.now)) xs)) in
    (all_read tags all c.loop-i.group.lines
    (subst (λ (left : List Member). Read tags all left c.loop-i.group.lines)
    (at_end tags c.args.place c.loop-i.i (λ field. (field.0, field.1.now)) xs (omega arith))
    c.loop-i.invariant.read)).1

pub returns-clause-lines : goal.returns-clause-lines
returns-clause-lines c =
    let tags = tags_of c.args.shape.now in
    let xs = c.args.run.now in
    let all = members_of tags (placed c.args.place (map (λ field. (field.0, field.1.now)) xs)) in
    (all_read tags all c.loop-i.group.lines
    (subst (λ (left : List Member). Read tags all left c.loop-i.group.lines)
    (at_end tags c.args.place c.loop-i.i (λ field. (field.0, field.1.now)) xs (omega arith))
    c.loop-i.invariant.read)).0
