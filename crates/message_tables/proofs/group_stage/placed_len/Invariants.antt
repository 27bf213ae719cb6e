use Rattle.std.proofs.Common.{◌≡◌, ℕ, ◌<◌, ◌≤◌, length, take, None}
use Rattle.message_tables.specs.Tables.{first_of}
use Rattle.message_tables.specs.FirstFault.{in_groups, group_tags_of}
use Rattle.message_tables.specs.CodeTables.{item_of}
use Rattle.message_tables.specs.Plain.{placed_at}
use Rattle.message_tables.proofs.group_stage.placed_len.Given as goal

abbrev pub invariant-loop-item : goal.invariant-loop-item
invariant-loop-item g l = record {
  within : l.len ≤ length l.fields;
  placed : (place : ℕ) → place < l.len
      → first_of (λ item. in_groups (group_tags_of (item_of (λ k. k) item))
      (placed_at l.fields place)) (take l.item-index l.item-items) ≡ None;
}
