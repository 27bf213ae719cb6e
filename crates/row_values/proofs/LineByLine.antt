-- A list of lines that is read line by line.
use Rattle.std.proofs.Common.{◌≡◌, ℕ, ◌+◌, ◌≤◌, List, [], ◌++◌, length, drop, subst}
use Rattle.std.proofs.lemmas.List.{append-nil}
use Rattle.std.proofs.lemmas.List.{drop_all}
use Rattle.std.specs.List.{AllZip}
use Rattle.std.specs.Borrow.{Bor}
use Rattle.field_groups.specs.Field.{Field}
use Rattle.message_tables.specs.CodeTables.{seen}
use Rattle.message_tables.specs.Tables.{GroupTags, in_lines, line_fields_in, lines_in}
use Rattle.message_tables.proofs.Seen.{seen_le}

-- of all lines these are read, and the rest is not
pub record Reads {A L : Type 0} (IsLine : A → L → Type 0) (whole rest : List A)
    (lines : List L) : Type 0 where
  pub zip : (more : List L) → AllZip IsLine rest more → AllZip IsLine whole (lines ++ more)
  pub count : length lines + length rest ≡ length whole

module _ {A L : Type 0} (IsLine : A → L → Type 0) (whole : List A) where
  pub done : (lines : List L) → Reads IsLine whole [] lines → AllZip IsLine whole lines
  done lines r = let P : List L → Type 0 = λ ls. AllZip IsLine whole ls in
      subst P (append-nil lines) (r.zip [] tt)

-- all lines of a group are read
pub all_read : {L : Type 0} (IsLine : List Field → L → Type 0) (group : GroupTags)
    (fields : List Field) (members : List (ℕ × Bor (List ℕ))) (from : ℕ) (lines : List L)
    → length members ≤ from → seen members ≡ line_fields_in group fields
    → Reads IsLine (in_lines group.first (seen members))
    (in_lines group.first (drop from (seen members))) lines
    → AllZip IsLine (lines_in group fields) lines
all_read {L = L} IsLine group fields members from lines le same reads =
    let e : drop from (seen members) ≡ [] =
    drop_all from (seen members) (seen_le members from le) in
    let P : List Field → Type 0 =
    λ rest. Reads IsLine (in_lines group.first (seen members)) (in_lines group.first rest) lines
    in
    let Q : List Field → Type 0 = λ all. AllZip IsLine (in_lines group.first all) lines in
    subst Q same (done IsLine (in_lines group.first (seen members)) lines (subst P e reads))
