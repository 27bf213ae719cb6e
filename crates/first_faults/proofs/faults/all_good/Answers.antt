use Rattle.std.proofs.Common.{Bool, ℕ, take, sym, ap, ◌∙◌}
use Rattle.std.specs.List.{list_all}
use Rattle.message_tables.specs.CodeTables.{table_of}
use Rattle.row_values.specs.CodeKinds.{kind_of}
use Rattle.first_faults.proofs.OnePass.{all_marked}
use Rattle.first_faults.proofs.faults.all_good.Goals as goal

pub returns-then-are_marked : goal.returns-then-are_marked
returns-then-are_marked c = λ yes.
    all_marked (table_of kind_of c.args.table.now) c.args.fields.now c.args.rowed.now
    c.told-rowed (rw c.len.ensures.value at c.len.ensures.few)
    (ap (λ (n : ℕ). list_all (λ (one : Bool). one) (take n c.args.rowed.now))
    (sym c.len.ensures.value) ∙ sym c.are_marked.ensures ∙ c.if-are_marked.true)
