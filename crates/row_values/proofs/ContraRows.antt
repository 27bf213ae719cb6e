-- What the lines of contra brokers say of fields at no fault.
use Rattle.std.proofs.Common.{◌≡◌, ℕ, List, [], ◌∷◌, Some, None, map, refl}
use Rattle.std.specs.List.{AllZip, slice_get}
use Rattle.field_groups.specs.Field.{Field}
use Rattle.message_tables.specs.Tables.{Required, Lines, Table, cell_of, row_at, all_rows, lines_in}
use Rattle.message_tables.specs.Tables.{tags_in, group_says}
use Rattle.message_tables.specs.FirstFault.{first_fault}
use Rattle.message_tables.proofs.Few.{IsPlain}
use Rattle.message_tables.proofs.Members.{lines_say}
use Rattle.row_values.specs.declared.contras.ContraLine.{ContraLine}
use Rattle.value_kinds.specs.ValueKind.{Id}
use Rattle.row_values.specs.Kinds.{Kind, Value, judge, row}
use Rattle.row_values.specs.Contras.{contras, contra_cells, IsContra, AreContras}
use Rattle.row_values.specs.Contras.{AreReadableContras}
use Rattle.row_values.proofs.SaidRows.{AllSay, cell, full_text}

pub contras_say : (lines : List (List Field)) (ls : List ContraLine) → AllZip IsContra lines ls
    → AllSay 375 (Value Id) lines
    → map contra_cells ls ≡ map (λ line. map (cell_of judge line) contras.rows) lines
contras_say [] [] w i = refl
contras_say [] (l ∷ ls) w i = absurd w
contras_say (line ∷ lines) [] w i = absurd w
contras_say (line ∷ lines) (l ∷ ls) w i =
    let e : contra_cells l ≡ map (cell_of judge line) contras.rows =
    cell (full_text _ _ i.0 w.0.broker) (cell w.0.trader (cell w.0.qty (cell w.0.time refl))) in
    let es = contras_say lines ls w.1 i.1 in λ j. e j ∷ es j

-- lines that are read can be written
pub by_contras : (lines : List (List Field)) (ls : List ContraLine) → AllZip IsContra lines ls
    → AreReadableContras ls
by_contras [] [] w = tt
by_contras [] (l ∷ ls) w = absurd w
by_contras (line ∷ lines) [] w = absurd w
by_contras (line ∷ lines) (l ∷ ls) w = (w.0.readable, by_contras lines ls w.1)

pub contras_readable : (fields : List Field) (ls : List ContraLine) → AreContras fields ls
    → AreReadableContras ls
contras_readable fields ls w = by_contras (lines_in (tags_in contras) fields) ls w

pub plain_contras : IsPlain (tags_in contras)
plain_contras = record {
  first_inside = refl;
  first_counts_not = refl;
  first_is_said = refl;
  count_outside = refl;
}

pub says_contras : (table : Table Kind) (fields : List Field)
    → first_fault judge table fields ≡ None
    → (i : ℕ) → slice_get table.items i ≡ Some (Lines contras)
    → row_at 375 (all_rows table) ≡ Some (row Required 375 Id)
    → (ls : List ContraLine) → AreContras fields ls
    → map contra_cells ls ≡ (group_says judge fields contras).1
unfolding judge
says_contras table fields h i at its ls w =
    contras_say (lines_in (tags_in contras) fields) ls w
    (lines_say judge table fields i 0 contras (row Required 375 Id) h at refl refl its)
