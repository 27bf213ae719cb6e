use Rattle.std.proofs.Common.{map, sym, subst, ap, ◌∙◌}
use Rattle.message_tables.specs.Tables.{Table}
use Rattle.message_tables.specs.FirstFault.{first_fault, marked}
use Rattle.message_tables.specs.Stages.{IsFound}
use Rattle.row_values.specs.Kinds.{Kind, judge}
use Rattle.first_faults.proofs.FirstFaults.{by_table}
use Rattle.first_faults.proofs.indexed.Indexed.first_fault.Goals as goal

pub returns-in-Some : goal.returns-in-Some
returns-in-Some c =
    let fields = c.args.fields.now in
    c.first_fault.ensures
    ∙ by_table c.self.inside.table.now fields c.found.result
    (subst (λ (t : Table Kind). IsFound (map (marked judge t fields) fields) c.found.result)
    (sym c.self.view_is) c.found.ensures)
    ∙ ap (λ (t : Table Kind). first_fault judge t fields) c.self.view_is
