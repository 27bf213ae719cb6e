use Rattle.std.proofs.Common.{sym, ap, ◌∙◌, Bool}
use Rattle.std.specs.Prelude.{◌||◌}
use Rattle.std.specs.List.{list_any}
use Rattle.message_tables.proofs.Seen.{item_once, once-table}
use Rattle.message_tables.proofs.table.Table.is_once.Goals as goal

pub returns-then-has_row : goal.returns-then-has_row
returns-then-has_row g c =
    c.if-has_row.true
    ∙ sym (once-table c.args.tag c.args.self.now ∙ ap (λ (b : Bool). b
    || list_any (item_once c.args.tag) c.args.self.now.items.now) (sym c.if-has_row.ensures))

pub returns-else-has_row : goal.returns-else-has_row
returns-else-has_row g c =
    c.is_once_in.ensures
    ∙ sym (once-table c.args.tag c.args.self.now ∙ ap (λ (b : Bool). b
    || list_any (item_once c.args.tag) c.args.self.now.items.now) (sym c.if-has_row.ensures))
