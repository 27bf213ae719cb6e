use Rattle.std.proofs.Common.{List, Option, sym, ap, ◌∙◌}
use Rattle.std.specs.Borrow.{Bor}
use Rattle.std.specs.List.{flat_map, list_all}
use Rattle.message_tables.specs.declared.table.Row.{Row as CodeRow}
use Rattle.row_values.specs.declared.kinds.Kind.{Kind as CodeKind}
use Rattle.first_faults.specs.Indexed.{is_said, row_in}
use Rattle.first_faults.proofs.Marked.{all_said}
use Rattle.first_faults.proofs.indexed.Needs.are_said.Goals as goal

pub returns-then-self-come : goal.returns-then-self-come
returns-then-self-come c = λ yes.
    all_said c.args.fields.now c.args.come c.args.self.now c.if-self-come.true
    (ap (λ (rows : List (Option (Bor (CodeRow CodeKind)))).
    list_all (is_said c.args.fields.now) (flat_map row_in rows)) (sym c.as_slice.ensures.value)
    ∙ c.are_said.ensures yes)
