use Rattle.std.proofs.Common.{◌∙◌, sym, ap, List}
use Rattle.field_groups.specs.Field.{Field}
use Rattle.message_tables.specs.Tables.{first_of, in_lines}
use Rattle.message_tables.specs.FirstFault.{missing}
use Rattle.message_tables.specs.CodeTables.{seen, group_of, own_tags}
use Rattle.message_tables.proofs.Seen.{seen_le}
use Rattle.message_tables.proofs.Cuts.{line_passed, line_found, line_ended}
use Rattle.message_tables.proofs.stages.missing_line.Goals as goal

pub returns-in-Some : goal.returns-in-Some
returns-in-Some g c =
    let f =
    λ (line : List Field). first_of (missing line) (group_of (λ k. k) c.args.group.now).rows in
    let first = (own_tags c.args.group.now).first in
    line_found f first (seen c.lines-fields.result.now)
    c.loop-from.from c.line_end-end.result (seen c.line.result.now) _ c.in-Some.fault _
    (rw c.first.ensures at c.line_end-end.ensures.line)
    c.line.ensures (sym c.in-Some.ensures) c.loop-from.invariant.same
    ∙ ap (λ (fields : List Field). first_of f (in_lines first fields)) c.lines-fields.ensures

pub loop-from-preserved : goal.loop-from-preserved
loop-from-preserved g c =
    let f =
    λ (line : List Field). first_of (missing line) (group_of (λ k. k) c.args.group.now).rows in
    let first = (own_tags c.args.group.now).first in
    record {
      within = c.line_end-end.ensures.within;
      same = line_passed f first (seen c.lines-fields.result.now)
          c.loop-from.from c.line_end-end.result (seen c.line.result.now) _ _
          (rw c.first.ensures at c.line_end-end.ensures.line)
          c.line.ensures (sym c.in_default.ensures) c.loop-from.invariant.same;
    }

pub returns : goal.returns
returns g c =
    let f =
    λ (line : List Field). first_of (missing line) (group_of (λ k. k) c.args.group.now).rows in
    let first = (own_tags c.args.group.now).first in
    line_ended f first (seen c.lines-fields.result.now) c.loop-from.from
    _ (seen_le c.lines-fields.result.now c.loop-from.from c.loop-from-test.false)
    c.loop-from.invariant.same
    ∙ ap (λ (fields : List Field). first_of f (in_lines first fields)) c.lines-fields.ensures
