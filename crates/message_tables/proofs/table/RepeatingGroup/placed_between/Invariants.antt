use Rattle.std.proofs.Common.{◌≡◌, ℕ, ◌<◌, ◌≤◌, None, take}
use Rattle.std.specs.Prelude.{reverse}
use Rattle.message_tables.specs.FirstFault.{is_opened, lines_begun, misplaced, place_in}
use Rattle.message_tables.specs.CodeTables.{seen, seen_at, own_tags}
use Rattle.message_tables.proofs.table.RepeatingGroup.placed_between.Given as goal

abbrev pub invariant-loop-place : goal.invariant-loop-place
invariant-loop-place g l = record {
  from : l.from ≤ l.place;
  placed : (place : ℕ) → place < l.place
      → misplaced (place_in (seen l.fields) place (seen_at l.fields place)) (own_tags l.self)
      ≡ None;
  opened : l.said.opened ≡ is_opened (own_tags l.self) (reverse (take l.place (seen l.fields)));
  lines : l.said.lines ≡ lines_begun (own_tags l.self) (reverse (take l.place (seen l.fields)));
  few : l.said.lines ≤ l.place;
}
