use Rattle.std.proofs.Common.{◌∙◌, sym, ap, refl, take, Bool}
use Rattle.message_tables.specs.declared.table_fault.TableFault.TheVariants as faults
use Rattle.field_groups.specs.Field.{Field}
use Rattle.message_tables.specs.Tables.{has_tag, is_one_of}
use Rattle.message_tables.specs.FirstFault.{once_in, fault_if, twice, place_in}
use Rattle.message_tables.specs.CodeTables.{table_of}
use Rattle.message_tables.proofs.Placed.{not_second, with_true, twice_as}
use Rattle.message_tables.proofs.stages.twice_at.Goals as goal

pub returns-then-not-stands_before : goal.returns-then-not-stands_before
returns-then-not-stands_before g c =
    let fields = c.args.fields.now in
    let once = once_in (table_of (λ k. k) c.args.table.now) in
    let tag = c.field_at-tag.result.0 in
    not_second (is_one_of once tag) (has_tag tag (take c.args.place fields))
    (faults.Reason tag 13) (sym c.if-not-stands_before.ensures)
    ∙ twice_as once fields (take c.args.place fields)
    c.args.place (tag, c.field_at-tag.result.1.now) refl
    ∙ ap (λ (f : Field). twice once (place_in fields c.args.place f))
    (rw c.as_slice.ensures at c.field_at-tag.ensures)

pub returns : goal.returns
returns g c =
    let fields = c.args.fields.now in
    let once = once_in (table_of (λ k. k) c.args.table.now) in
    let tag = c.field_at-tag.result.0 in
    c.fault_if.ensures
    ∙ ap (λ (b : Bool). fault_if b (faults.Reason tag 13)) c.is_once_marked.ensures
    ∙ with_true (is_one_of once tag) (has_tag tag (take c.args.place fields))
    (faults.Reason tag 13) (sym c.if-not-stands_before.ensures)
    ∙ twice_as once fields (take c.args.place fields)
    c.args.place (tag, c.field_at-tag.result.1.now) refl
    ∙ ap (λ (f : Field). twice once (place_in fields c.args.place f))
    (rw c.as_slice.ensures at c.field_at-tag.ensures)
