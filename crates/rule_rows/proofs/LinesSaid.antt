-- The lines that fields say by a group, as they are written.
use Rattle.std.proofs.Common.{◌≡◌, ◌≤◌, ◌++◌, ℕ, suc, List, [], ◌∷◌, map, length, true, false}
use Rattle.std.proofs.Common.{Option, Some, None, refl, sym, ap, ◌∙◌, append_assoc, arith, drop}
use Rattle.std.proofs.Common.{take}
use Rattle.std.proofs.lemmas.List.{append-nil, length-append, length-map, take-append-drop}
use Rattle.std.specs.Borrow.{Bor}
use Rattle.std.specs.Prelude.{Err, Ok, OnOk, Result, position, ◌==◌, if◌then◌else◌}
use Rattle.message_tables.specs.CodeTables.{own_tags, seen, group_of, row_of}
use Rattle.message_tables.specs.Tables.{first_tag, in_lines, Cell, Item, Need, Fixed, Lines}
use Rattle.message_tables.specs.Tables.{RepeatingGroup, Row, Tag, Verdict, ◌>>=◌, after_tag}
use Rattle.message_tables.specs.Tables.{cell_of, from_tag, group_says, groups_of, line_fields_in}
use Rattle.message_tables.specs.Tables.{lines_in, lines_of, run, says, tags_in, text_of, value_at}
use Rattle.message_tables.specs.Tables.{GroupTags, is_inside}
use Rattle.message_tables.proofs.ByPlace.{no_lines}
use Rattle.message_tables.proofs.Mapped.{group_tags_mapped}
use Rattle.rule_rows.proofs.Items.{count_is, group_found}
use Rattle.std.specs.List.{flat_map, list_all, prefix_len}
use Rattle.field_groups.specs.Field.{Field, body_of}
use Rattle.message_tables.specs.declared.table.Row.{Row as CodeRow}
use Rattle.message_tables.specs.declared.table.RepeatingGroup.{RepeatingGroup as CodeGroup}
use Rattle.message_tables.specs.Content.{cell_fields, group_fields, line_fields}
use Rattle.row_values.specs.CodeKinds.{kind_of}
use Rattle.row_values.specs.Kinds.{Kind, judge, said}
use Rattle.row_values.specs.Writing.{count_fields}
use Rattle.row_values.specs.declared.kinds.Kind.{Kind as CodeKind}
use Rattle.row_values.proofs.Contents.{group_written}
use Rattle.sound_laws.proofs.Each.{all_true, each_map}
use Rattle.rule_rows.specs.Rows.{AreWritten, fixed_text, group_at, has_written_lines}
use Rattle.rule_rows.specs.Rows.{have_written_lines, is_kind_written, line_by, lines_said}
use Rattle.rule_rows.specs.Rows.{row_fields}

-- ---- a row

free_says : (need : Need) (j : List ℕ → Verdict) (value : Option (List ℕ))
    → None ≡ fixed_text need → (value >>= (λ bytes. text_of (j bytes))) ≡ says need j value
free_says (Fixed text) j value h = absurd cc
free_says need j value h = refl

fixed_says : (need : Need) (j : List ℕ → Verdict) (value : Option (List ℕ)) (text : List ℕ)
    → Some text ≡ fixed_text need → Some text ≡ says need j value
fixed_says (Fixed other) j value text h = h
fixed_says other j value text h = absurd cc

-- a row whose value does not stand fixed
pub row_free : (fields : List Field) (row : Row Kind) → None ≡ fixed_text row.need
    → body_of (cell_fields (Tag row.tag, said fields row.tag row.kind))
    ≡ body_of (row_fields fields row)
row_free fields row h = ap (λ s. body_of (cell_fields (Tag row.tag, s)))
    (free_says row.need (judge fields row.kind) (value_at row.tag fields) h)

pub row_fixed : (fields : List Field) (row : Row Kind) (text : List ℕ)
    → Some text ≡ fixed_text row.need
    → body_of (cell_fields (Tag row.tag, Some text)) ≡ body_of (row_fields fields row)
row_fixed fields row text h = ap (λ s. body_of (cell_fields (Tag row.tag, s)))
    (fixed_says row.need (judge fields row.kind) (value_at row.tag fields) text h)

pub ruleset of_row = (row_free, row_fixed)

-- ---- the lines of a group

line_mapped : (line : List Field) (rows : List (CodeRow CodeKind))
    → line_by rows line ≡ line_fields (map (cell_of judge line) (map (row_of kind_of) rows))
line_mapped line [] = refl
line_mapped line (row ∷ rows) =
    ap (λ fs. row_fields line (row_of kind_of row) ++ fs) (line_mapped line rows)

lines_mapped : (rows : List (CodeRow CodeKind)) (lines : List (List Field))
    → flat_map (line_by rows) lines
    ≡ flat_map (λ line. line_fields (map (cell_of judge line) (map (row_of kind_of) rows))) lines
lines_mapped rows [] = refl
lines_mapped rows (line ∷ lines) = λ i. line_mapped line rows i ++ lines_mapped rows lines i

-- the count, and then the lines, are the group
pub group_done : {E : Type 0} (r : Result (Unit {0}) E) (fields : List Field)
    (group : CodeGroup CodeKind) (members : List (ℕ × Bor (List ℕ))) (first count : ℕ)
    (old counted out : List ℕ) → seen members ≡ line_fields_in (own_tags group) fields
    → first ≡ (own_tags group).first → count ≡ length (in_lines first (seen members))
    → counted ≡ old ++ body_of (count_fields group.count count)
    → OnOk r (out ≡ counted
    ++ body_of (flat_map (line_by group.rows.now) (in_lines first (seen members))))
    → OnOk r (out ≡ old ++ body_of
    (group_fields group.count (group_says judge fields (group_of kind_of group)).1))
group_done (Err error) fields group members first count old counted out seen_is first_is many
    begun ended = tt
group_done (Ok done) fields group members first count old counted out seen_is first_is many begun
    ended =
    let cells : List Field → List Cell =
    λ line. map (cell_of judge line) (map (row_of kind_of) group.rows.now) in
    let lines = in_lines first (seen members) in
    let own : lines ≡ lines_in (tags_in (group_of kind_of group)) fields =
    (λ i. in_lines (first_is i) (seen_is i))
    ∙ ap (λ tags. lines_in tags fields) (sym (group_tags_mapped kind_of group)) in
    ended ∙ ap (λ c. c ++ body_of (flat_map (line_by group.rows.now) lines))
    (begun ∙ ap (λ n. old ++ body_of (count_fields group.count n)) many)
    ∙ append_assoc old (body_of (count_fields group.count (length lines)))
    (body_of (flat_map (line_by group.rows.now) lines))
    ∙ ap (λ fs. old ++ (body_of (count_fields group.count (length lines)) ++ body_of fs))
    (lines_mapped group.rows.now lines)
    ∙ ap (λ bytes. old ++ bytes) (group_written cells group.count lines)
    ∙ ap (λ ls. old ++ body_of (group_fields group.count (map cells ls))) own

-- ---- lines are few

front_few : (tags : GroupTags) (fs : List Field) → length (run tags fs) ≤ length fs
front_few tags fs =
    let n = prefix_len (λ f. is_inside tags f.0) fs in
    let whole = ap length (take-append-drop n fs) in
    omega (arith, whole, length-append (take n fs) (drop n fs))

after_few : (tag : ℕ) (fs : List Field) → length (after_tag tag fs) ≤ length fs
after_few tag [] = omega arith
after_few tag (f ∷ fs) =
    let h = after_few tag fs in
    elim (f.0 == tag) as (λ b. length (if b then fs else after_tag tag fs) ≤ suc (length fs))
    [ true ↦ omega arith | false ↦ omega (arith, h) ]

from_few : (tag : ℕ) (fs : List Field) → length (from_tag tag fs) ≤ length fs
from_few tag [] = omega arith
from_few tag (f ∷ fs) =
    let h = from_few tag fs in
    elim (f.0 == tag) as (λ b. length (if b then f ∷ fs else from_tag tag fs) ≤ suc (length fs))
    [ true ↦ omega arith | false ↦ omega (arith, h) ]

members_few : (tags : GroupTags) (fields : List Field)
    → length (line_fields_in tags fields) ≤ length fields
members_few tags fields =
    let a = from_few tags.first (run tags (after_tag tags.count fields)) in
    let b = front_few tags (after_tag tags.count fields) in
    let c = after_few tags.count fields in omega (arith, a, b, c)

-- so their count is
pub count_few : (tags : GroupTags) (fields : List Field) (members : List (ℕ × Bor (List ℕ)))
    (count most : ℕ) → seen members ≡ line_fields_in tags fields → count ≤ length members
    → most ≡ length fields → most ≤ 256 → count ≤ 256
count_few tags fields members count most are few all bound =
    let long = length-map {B = Field} members (λ f. (f.0, f.1.now)) in
    let same = ap length are in
    let within = members_few tags fields in omega (arith, few, all, bound, long, same, within)

-- ---- the group of a count

rows_written : (rows : List (CodeRow CodeKind))
    → list_all (λ row. is_kind_written row.kind) (map (row_of kind_of) rows) ≡ true
    → AreWritten rows
rows_written rows h = each_map (λ row. is_kind_written row.kind ≡ true) (row_of kind_of) rows
    (all_true (λ row. is_kind_written row.kind) (map (row_of kind_of) rows) h)

-- the group of a count has such rows, where all groups have
pub group_written_by : (count : ℕ) (items : List (Item Kind)) (group : CodeGroup CodeKind)
    → have_written_lines items ≡ true → group_at count items ≡ Some (group_of kind_of group)
    → AreWritten group.rows.now
group_written_by count items group h e = rows_written group.rows.now
    (group_found (λ item. has_written_lines item ≡ true) count items (group_of kind_of group) e
    (all_true has_written_lines items h)).1

pub lines_are : (fields : List Field) (count : ℕ) (items : List (Item Kind))
    → lines_of count (map (group_says judge fields) (flat_map groups_of items))
    ≡ lines_said fields (group_at count items)
lines_are fields count [] = refl
lines_are fields count (Lines group ∷ items) =
    elim (group.count == count) as (λ b. (if b then (group_says judge fields group).1
    else lines_of count (map (group_says judge fields) (flat_map groups_of items)))
    ≡ lines_said fields (if b then Some group else group_at count items))
    [ true ↦ refl | false ↦ lines_are fields count items ]
lines_are fields count (item ∷ items) = lines_are fields count items

-- no line is said of a count that no field has
pub none_said : (fields : List Field) (count : ℕ) (items : List (Item Kind))
    → None ≡ position (λ f. f.0 == count) fields
    → lines_of count (map (group_says judge fields) (flat_map groups_of items)) ≡ []
none_said fields count items none = lines_are fields count items ∙ by (group_at count items) refl
  where
    by : (o : Option (RepeatingGroup Kind)) → group_at count items ≡ o → lines_said fields o ≡ []
    by None e = refl
    by (Some group) e =
        let at_own : None ≡ position (λ f. f.0 == group.count) fields =
        none ∙ ap (λ c. position (λ f. f.0 == c) fields) (sym (count_is count items group e)) in
        ap (λ fs. map (λ line. map (cell_of judge line) group.rows)
        (in_lines (first_tag group.rows) fs)) (sym (no_lines (tags_in group) fields at_own))

pub nothing_put : (fields : List Field) (count : ℕ) (items : List (Item Kind)) (old : List ℕ)
    → lines_of count (map (group_says judge fields) (flat_map groups_of items)) ≡ []
    → old ≡ old ++ body_of (group_fields count
    (lines_of count (map (group_says judge fields) (flat_map groups_of items))))
nothing_put fields count items old none =
    sym (append-nil old) ∙ ap (λ ls. old ++ body_of (group_fields count ls)) (sym none)

-- no line is said by a table that does not have the group
pub absent_said : (fields : List Field) (count : ℕ) (items : List (Item Kind))
    → None ≡ group_at count items
    → lines_of count (map (group_says judge fields) (flat_map groups_of items)) ≡ []
absent_said fields count items none =
    lines_are fields count items ∙ ap (lines_said fields) (sym none)

-- the lines of the group that was found
pub found_put : {E : Type 0} (r : Result (Unit {0}) E) (fields : List Field) (count : ℕ)
    (items : List (Item Kind)) (group : RepeatingGroup Kind) (old out : List ℕ)
    → Some group ≡ group_at count items
    → OnOk r (out ≡ old ++ body_of (group_fields group.count (group_says judge fields group).1))
    → OnOk r (out ≡ old ++ body_of (group_fields count
    (lines_of count (map (group_says judge fields) (flat_map groups_of items)))))
found_put (Err error) fields count items group old out found h = tt
found_put (Ok done) fields count items group old out found h =
    h ∙ ap (λ c. old ++ body_of (group_fields c (group_says judge fields group).1))
    (count_is count items group (sym found)) ∙ ap (λ ls. old ++ body_of (group_fields count ls))
    (sym (lines_are fields count items ∙ ap (lines_said fields) (sym found)))
