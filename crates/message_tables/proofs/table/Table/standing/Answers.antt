use Rattle.std.proofs.Common.{ap, option_map, sym, ◌∙◌}
use Rattle.message_tables.specs.CodeTables.{row_of}
use Rattle.message_tables.proofs.table.Table.standing.Goals as goal

pub returns-in-Some : goal.returns-in-Some
returns-in-Some g c = (
  sym c.if-is_once_marked.ensures,
  sym (ap (option_map (λ row. row_of (λ k. k) row.now)) c.in-Some.is) ∙ c.row.ensures,
)

pub returns-in-None : goal.returns-in-None
returns-in-None g c = (
  sym c.if-is_once_marked.ensures,
  sym (ap (option_map (λ row. row_of (λ k. k) row.now)) c.in-None.is) ∙ c.row.ensures,
)
