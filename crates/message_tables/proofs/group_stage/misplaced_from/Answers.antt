use Rattle.std.proofs.Common.{sym}
use Rattle.message_tables.specs.FirstFault.{in_groups, group_tags_in}
use Rattle.message_tables.specs.CodeTables.{seen, table_of}
use Rattle.message_tables.proofs.Seen.{seen_lt, seen_le, seen_most}
use Rattle.message_tables.proofs.Placed.{begun, passed, found, ended}
use Rattle.message_tables.proofs.group_stage.misplaced_from.Goals as goal

pub loop-place-init : goal.loop-place-init
loop-place-init g c =
    begun (in_groups (group_tags_in (table_of (λ k. k) c.args.table.now)))
    (seen c.args.fields.now) c.args.from
    (seen_most c.args.fields.now c.args.from c.requires.within) c.requires.placed

pub returns-in-Some : goal.returns-in-Some
returns-in-Some g c =
    found (in_groups (group_tags_in (table_of (λ k. k) c.args.table.now)))
    (seen c.args.fields.now) c.loop-place.place c.in-Some.fault _
    (seen_lt c.args.fields.now c.loop-place.place c.loop-place-test.true)
    (sym c.in-Some.ensures) c.loop-place.invariant

pub loop-place-preserved : goal.loop-place-preserved
loop-place-preserved g c =
    passed (in_groups (group_tags_in (table_of (λ k. k) c.args.table.now)))
    (seen c.args.fields.now) c.loop-place.place _
    (seen_lt c.args.fields.now c.loop-place.place c.loop-place-test.true)
    (sym c.in_default.ensures) c.loop-place.invariant

pub returns : goal.returns
returns g c =
    ended (in_groups (group_tags_in (table_of (λ k. k) c.args.table.now)))
    (seen c.args.fields.now) c.loop-place.place _
    (seen_le c.args.fields.now c.loop-place.place c.loop-place-test.false) c.loop-place.invariant
