-- What the lines of contra brokers say of fields at no fault, where their time is a moment: it is a
-- fine one, too.
use Rattle.std.proofs.Common.{◌≡◌, ◌==◌, ◌∙◌, ℕ, List, [], ◌∷◌, Bool, true, false, Option, Some}
use Rattle.std.proofs.Common.{None, map, refl, sym, subst, if◌then◌else◌}
use Rattle.std.proofs.lemmas.Bool.{eqb-true}
use Rattle.std.specs.List.{AllByRecursion, AllZip, find, slice_get}
use Rattle.std.specs.Option.{option_map}
use Rattle.field_groups.specs.Field.{Field}
use Rattle.message_tables.specs.FirstFault.{allowed, first_fault, mark_of, wrong}
use Rattle.message_tables.specs.Tables.{Lines, Optional, Required, RepeatingGroup, Table, Verdict}
use Rattle.message_tables.specs.Tables.{Spells, Outside, Wrong, all_rows, cell_of, group_says}
use Rattle.message_tables.specs.Tables.{lines_in, row_at, tags_in, value_at}
use Rattle.message_tables.proofs.Members.{IsGood, all_good, in_lines_each, lines_say}
use Rattle.row_values.specs.declared.contras.ContraLine.{ContraLine}
use Rattle.row_values.specs.Contras.{IsContra, contra_cells, contra_rows}
use Rattle.row_values.specs.Kinds.{Kind, Value, judge, row, said}
use Rattle.row_values.proofs.ContraRows.{contras_say}
use Rattle.row_values.proofs.SaidRows.{cell}
use Rattle.row_values.proofs.Texts.{fine_alike, said_none, said_some}
use Rattle.value_kinds.specs.ValueKind.{FineStamp, Id, Stamp}

-- the first value of a tag is that of a field
module _ (P : Field → Type 0) (tag : ℕ) where
  first_holds : (fs : List Field) (v : List ℕ) → AllByRecursion P fs → value_at tag fs ≡ Some v
      → P (tag, v)
  first_holds [] v each e = absurd cc
  first_holds (f ∷ fs) v each e =
      by (f.0 == tag) refl e (λ later. first_holds fs v each.1 later)
    where
      by : (b : Bool) → (f.0 == tag) ≡ b
          → option_map (λ (g : Field). g.1) (if b then Some f else find (λ g. g.0 == tag) fs)
          ≡ Some v
          → (value_at tag fs ≡ Some v → P (tag, v)) → P (tag, v)
      by true t e later =
          let is : f.1 ≡ v = cc in
          let Q : ℕ → Type 0 = λ n. P (n, v) in
          let R : List ℕ → Type 0 = λ text. P (f.0, text) in
          subst Q (eqb-true f.0 tag t) (subst R is each.0)
      by false t e later = later e

not_wrong : (v : Verdict) (reason : ℕ) → wrong (438, allowed Optional (mark_of v)) ≡ None
    → v ≡ Wrong reason → ⊥
not_wrong (Spells text) reason h e = absurd cc
not_wrong Outside reason h e = absurd cc
not_wrong (Wrong other) reason h e = absurd cc

-- the brokers on the other side of a trade, in whose lines these tags are passed over
abbrev brokers : List ℕ → RepeatingGroup Kind
brokers skipped = record { count = 382; rows = contra_rows Stamp; skipped = skipped }

module _ (table : Table Kind) (times : row_at 438 (all_rows table) ≡ Some (row Optional 438 Stamp))
    (fields : List Field) where
  abbrev Good : Field → Type 0
  Good f = IsGood judge table fields f

  line_timed : (line : List Field) → AllByRecursion Good line
      → said line 438 (Value FineStamp) ≡ said line 438 (Value Stamp)
  unfolding judge
  line_timed line good = by (value_at 438 line) refl
    where
      by : (o : Option (List ℕ)) → value_at 438 line ≡ o
          → said line 438 (Value FineStamp) ≡ said line 438 (Value Stamp)
      by None e = said_none line 438 FineStamp e ∙ sym (said_none line 438 Stamp e)
      by (Some v) e =
          let holds = rw times at (first_holds Good 438 line v good e).0 in
          said_some line 438 FineStamp v e
          ∙ fine_alike v (λ reason. not_wrong _ reason holds)
          ∙ sym (said_some line 438 Stamp v e)

  lines_timed : (lines : List (List Field)) → AllByRecursion (AllByRecursion Good) lines
      → map (λ line. map (cell_of judge line) (contra_rows FineStamp)) lines
      ≡ map (λ line. map (cell_of judge line) (contra_rows Stamp)) lines
  lines_timed [] h = refl
  lines_timed (line ∷ lines) h =
      let e : map (cell_of judge line) (contra_rows FineStamp)
      ≡ map (cell_of judge line) (contra_rows Stamp) =
      cell refl (cell refl (cell refl (cell (line_timed line h.0) refl))) in
      λ i. e i ∷ lines_timed lines h.1 i

  -- what lines say that are read
  pub contras_said : first_fault judge table fields ≡ None → (i : ℕ) (skipped : List ℕ)
      → slice_get table.items i ≡ Some (Lines (brokers skipped))
      → row_at 375 (all_rows table) ≡ Some (row Required 375 Id) → (ls : List ContraLine)
      → AllZip IsContra (lines_in (tags_in (brokers skipped)) fields) ls
      → map contra_cells ls ≡ (group_says judge fields (brokers skipped)).1
  unfolding judge
  contras_said h i skipped at its ls w =
      let group = brokers skipped in
      let lines = lines_in (tags_in group) fields in
      contras_say lines ls w
      (lines_say judge table fields i 0 group (row Required 375 Id) h at refl refl its)
      ∙ lines_timed lines (in_lines_each Good (tags_in group) fields
      (all_good judge table fields h))
