use Rattle.message_tables.specs.CodeTables.{table_of}
use Rattle.row_values.specs.CodeKinds.{kind_of}
use Rattle.first_faults.specs.OnePass.{IsMarked, Stands}
use Rattle.first_faults.proofs.OnePass.{good_more}
use Rattle.first_faults.proofs.faults.are_good.Goals as goal
use Rattle.first_faults.proofs.faults.are_good.Goals.{
  else-not-rowed-place-via-then-not-rowed-place+else-not-is_loose,
  else-not-rowed-place-via-else-not-rowed-place,
}

pub loop-place-preserved : goal.loop-place-preserved
loop-place-preserved c = good_more (table_of kind_of c.args.table.now) c.args.fields.now
    c.args.rowed.now c.loop-place.place c.loop-place.invariant
    (elim c.else-not-rowed-place.branch [
      | else-not-rowed-place-via-then-not-rowed-place+else-not-is_loose w ↦
          Stands (w.is_loose.ensures w.if-not-is_loose.false)
      | else-not-rowed-place-via-else-not-rowed-place w ↦ IsMarked w.if-not-rowed-place.false
    ])
