use Rattle.message_tables.specs.CodeTables.{table_of}
use Rattle.row_values.specs.CodeKinds.{kind_of}
use Rattle.first_faults.proofs.OnePass.{at_no_fault}
use Rattle.first_faults.proofs.faults.is_plain.Goals as goal

pub returns-then-items_fit : goal.returns-then-items_fit
returns-then-items_fit c = λ yes.
    at_no_fault (table_of kind_of c.args.table.now) c.args.fields.now _ c.items_fit.new.rowed
    (c.rows_fit.ensures c.if-rows_fit.true) (c.items_fit.ensures c.if-items_fit.true)
    (c.all_good.ensures yes)
