use Rattle.std.proofs.Common.{sym}
use Rattle.message_tables.specs.FirstFault.{once_in, twice}
use Rattle.message_tables.specs.CodeTables.{table_of}
use Rattle.message_tables.proofs.Placed.{passed, found, ended}
use Rattle.message_tables.proofs.stages.first_twice.Goals as goal

pub returns-in-Some : goal.returns-in-Some
returns-in-Some g c =
    found (twice (once_in (table_of (λ k. k) c.args.table.now)))
    c.args.fields.now c.loop-place.place c.in-Some.fault _
    (rw c.len-place-end.ensures.value at c.loop-place-test.true)
    (sym c.in-Some.ensures) c.loop-place.invariant

pub loop-place-preserved : goal.loop-place-preserved
loop-place-preserved g c =
    passed (twice (once_in (table_of (λ k. k) c.args.table.now)))
    c.args.fields.now c.loop-place.place _
    (rw c.len-place-end.ensures.value at c.loop-place-test.true)
    (sym c.in_default.ensures) c.loop-place.invariant

pub returns : goal.returns
returns g c =
    ended (twice (once_in (table_of (λ k. k) c.args.table.now)))
    c.args.fields.now c.loop-place.place _
    (rw c.len-place-end.ensures.value at c.loop-place-test.false) c.loop-place.invariant
