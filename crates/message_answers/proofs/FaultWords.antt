-- The numbers of the fault of a message have 32 bits: a tag is that of a field or of a row, and the
-- reasons are few.
use Rattle.std.proofs.Common.{◌≡◌, ◌<◌, ◌^◌, ◌==◌, ◌&&◌, ◌||◌, ℕ, Bool, true, false, not, List, []}
use Rattle.std.proofs.Common.{◌∷◌, map, Option, Some, None, Ok, Err, IfSome, refl, sym, subst}
use Rattle.std.proofs.Common.{arith, lit<, if◌then◌else◌, codes}
use Rattle.std.specs.Prelude.{nat_le}
use Rattle.std.specs.List.{AllByRecursion, flat_map, list_all, list_any}
use Rattle.std.specs.Str.{bytes_eq}
use Rattle.std.proofs.lemmas.Bool.{eqb-true, leb-true}
use Rattle.typed_fields.specs.declared.fault.FieldFault.TheVariants.{Empty}
use Rattle.typed_fields.specs.declared.month_year.MonthYear.{MonthYear as MonthValue}
use Rattle.typed_fields.specs.Day.{is_date}
use Rattle.field_groups.specs.declared.fault.SplitFault.{SplitFault}
use Rattle.field_groups.specs.declared.fault.SplitFault.TheVariants.{DataLength}
use Rattle.field_groups.specs.Data.{data_fields, is_data_pair, is_data_tag}
use Rattle.field_groups.specs.Field.{Field, AreFields, is_data}
use Rattle.field_groups.specs.Fields.{Stops, front_tag}
use Rattle.field_groups.specs.HeadValues.{number_in}
use Rattle.message_tables.specs.declared.table_fault.TableFault.{TableFault}
use Rattle.message_tables.specs.declared.table_fault.TableFault.TheVariants.{Reason}
use Rattle.message_tables.specs.declared.table_fault.Mark.{Mark}
use Rattle.message_tables.specs.declared.table_fault.Mark.TheVariants as marks
use Rattle.message_tables.specs.Tables.{GroupTags, Item, Lines, Need, One, Party, Required}
use Rattle.message_tables.specs.Tables.{Row, Said, Spells, Table, Verdict, Wrong, all_rows}
use Rattle.message_tables.specs.Tables.{first_of, has_tag, is_inside, is_listed, is_needed}
use Rattle.message_tables.specs.Tables.{is_one_of, lines_in, or_else, row_at, tags_in, value_at}
use Rattle.message_tables.specs.FirstFault.{Marked, Placed, allowed, beyond, by_row, fault_if}
use Rattle.message_tables.specs.FirstFault.{first_fault, group_tags_in, group_tags_of, in_groups}
use Rattle.message_tables.specs.FirstFault.{is_count, is_opened, is_passed, line_before}
use Rattle.message_tables.specs.FirstFault.{lines_begun, mark_of, marked, message_in, message_of}
use Rattle.message_tables.specs.FirstFault.{most_lines, misplaced, misplaced_member, missing}
use Rattle.message_tables.specs.FirstFault.{missing_of, once_in, placed_from, twice, unless}
use Rattle.message_tables.specs.FirstFault.{without_row, wrong, wrong_version}
use Rattle.order_meaning.specs.declared.fault.Fault.{Fault}
use Rattle.value_kinds.specs.ValueKind.{Code, DayOfMonth, MonthYear, OneByte, Spelling, is_code}
use Rattle.value_kinds.specs.ValueKind.{number_of_two, spelling}
use Rattle.first_faults.specs.Faults.{message_by, of_split, of_table, told}
use Rattle.row_values.specs.Kinds.{Byte, DayOf, Kind, MonthBeside, TimeBeside, Value, Version}
use Rattle.row_values.specs.Kinds.{counted, date_at, filled, if_spelled, in_month, is_at_close}
use Rattle.row_values.specs.Kinds.{judge, month_at, month_beside, verdict_of}
use Rattle.sound_laws.proofs.Each.{all_true, both, each_by}
use Rattle.sound_laws.proofs.PlainFields.{has_good_tags, is_good_tag}
use Rattle.reject_rules.specs.Laws.{HasWords}
use Rattle.event_decisions.specs.Body.{reading_of}
use Rattle.event_decisions.proofs.Bodies.{bodies_are_read}

abbrev IsWordNumber : ℕ → Type 0
IsWordNumber n = n < 2 ^ 32

-- ---- reasons

abbrev IsWordVerdict : Verdict → Type 0
IsWordVerdict (Wrong reason) = IsWordNumber reason
IsWordVerdict verdict = Unit {0}

verdict_word : (s : Spelling) → IsWordVerdict (verdict_of s)
verdict_word (Ok None) = tt
verdict_word (Ok text) = tt
verdict_word (Err Empty) = lit< tt
verdict_word (Err fault) = lit< tt

counted_word : (counts : Bool) (v : Verdict) → IsWordVerdict v → IsWordVerdict (counted counts v)
counted_word true v word = word
counted_word false (Wrong reason) word = word
counted_word false v word = tt

month_word : (month : Option MonthValue) (v : Verdict) → IsWordVerdict v
    → IsWordVerdict (in_month month v)
month_word (Some month) (Spells day) word =
    by (is_date month.year month.month (number_of_two day))
  where
    by : (b : Bool) → IsWordVerdict (if b then Spells day else Wrong 5)
    by true = tt
    by false = lit< tt
month_word month v word = word

filled_word : (bytes : List ℕ) (v : Verdict) → IsWordVerdict v → IsWordVerdict (filled bytes v)
filled_word [] v word = lit< tt
filled_word (byte ∷ bytes) v word = word

spelled_word : (s : Spelling) → IsWordVerdict (if_spelled s)
spelled_word (Ok None) = tt
spelled_word s = tt

beside_word : (date : Said) (bytes : List ℕ) → IsWordVerdict (month_beside date bytes)
beside_word (Some date) bytes = tt
beside_word None bytes = spelled_word (spelling MonthYear bytes)

judged_word : (fields : List Field) (kind : Kind) (bytes : List ℕ)
    → IsWordVerdict (judge fields kind bytes)
unfolding judge
judged_word fields (Value kind) bytes = verdict_word (spelling kind bytes)
judged_word fields (Byte listed) bytes =
    counted_word (is_code listed bytes) (verdict_of (spelling OneByte bytes))
    (verdict_word (spelling OneByte bytes))
judged_word fields (DayOf month) bytes =
    month_word (month_at month fields) (verdict_of (spelling DayOfMonth bytes))
    (verdict_word (spelling DayOfMonth bytes))
judged_word fields (MonthBeside date) bytes =
    filled_word bytes (month_beside (date_at date fields) bytes)
    (beside_word (date_at date fields) bytes)
judged_word fields (TimeBeside ord_type) bytes =
    counted_word (not (is_at_close bytes) || is_listed (codes "12") (value_at ord_type fields))
    (verdict_of (spelling (Code (codes "01234567")) bytes))
    (verdict_word (spelling (Code (codes "01234567")) bytes))
judged_word fields Version bytes = by (bytes_eq bytes (codes "9"))
  where
    by : (b : Bool) → IsWordVerdict (if b then Spells bytes else Wrong 18)
    by true = tt
    by false = lit< tt

-- ---- marks

abbrev IsWordMark : Mark → Type 0
IsWordMark (marks.Wrong reason) = IsWordNumber reason
IsWordMark mark = Unit {0}

mark_word : (v : Verdict) → IsWordVerdict v → IsWordMark (mark_of v)
mark_word (Wrong reason) word = word
mark_word v word = tt

allowed_word : (need : Need) (mark : Mark) → IsWordMark mark → IsWordMark (allowed need mark)
allowed_word Required mark word = word
allowed_word need (marks.Wrong reason) word = word
allowed_word need mark word = tt

bare_word : (passed : Bool) (bytes : List ℕ) → IsWordMark (without_row passed bytes)
bare_word passed [] = lit< tt
bare_word true (byte ∷ bytes) = tt
bare_word false (byte ∷ bytes) = tt

row_word : (passed : Bool) (fields : List Field) (value : List ℕ) (row : Option (Row Kind))
    → IsWordMark (by_row judge passed fields value row)
row_word passed fields value None = bare_word passed value
row_word passed fields value (Some row) =
    allowed_word row.need (mark_of (judge fields row.kind value))
    (mark_word (judge fields row.kind value) (judged_word fields row.kind value))

-- ---- faults

-- a fault that is told with numbers of 32 bits, if there is one
abbrev IsWordFault : Option TableFault → Type 0
IsWordFault fault = IfSome fault (λ f. HasWords (of_table f))

or_word : (a b : Option TableFault) → IsWordFault a → IsWordFault b → IsWordFault (or_else a b)
or_word None b one two = two
or_word (Some fault) b one two = one

first_word : {X : Type 0} (f : X → Option TableFault) (Q : X → Type 0)
    → ((x : X) → Q x → IsWordFault (f x)) → (xs : List X) → AllByRecursion Q xs
    → IsWordFault (first_of f xs)
unfolding first_of
first_word f Q each [] all = tt
first_word f Q each (x ∷ xs) all =
    or_word (f x) (first_of f xs) (each x all.0) (first_word f Q each xs all.1)

each_word : {X : Type 0} (f : X → Option TableFault) → ((x : X) → IsWordFault (f x))
    → (xs : List X) → IsWordFault (first_of f xs)
unfolding first_of
each_word f each [] = tt
each_word f each (x ∷ xs) = or_word (f x) (first_of f xs) (each x) (each_word f each xs)

if_word : (b : Bool) (tag reason : ℕ) → IsWordNumber tag → IsWordNumber reason
    → IsWordFault (fault_if b (Reason tag reason))
if_word true tag reason one two = (one, two)
if_word false tag reason one two = tt

-- ---- fields

abbrev HasWordTag : Field → Type 0
HasWordTag f = IsWordNumber f.0

tags_of_fields : (before : Option Field) (fields : List Field) → AreFields before fields
    → AllByRecursion HasWordTag fields
tags_of_fields before [] good = tt
tags_of_fields before (f ∷ fs) good = (
  omega (arith, good.0.nine_digits),
  tags_of_fields (Some f) fs good.1,
)

abbrev HasWordField : Placed → Type 0
HasWordField p = HasWordTag p.field

placed_words : (before fields : List Field) → AllByRecursion HasWordTag fields
    → AllByRecursion HasWordField (placed_from before fields)
placed_words before [] all = tt
placed_words before (f ∷ fs) all = (all.0, placed_words (f ∷ before) fs all.1)

abbrev IsWordMarked : Marked → Type 0
IsWordMarked m = IsWordNumber m.0 × IsWordMark m.1

marked_words : (table : Table Kind) (all others : List Field) → AllByRecursion HasWordTag others
    → AllByRecursion IsWordMarked (map (marked judge table all) others)
marked_words table all [] words = tt
marked_words table all (f ∷ fs) words = (
  (words.0, row_word (is_passed table f.0) all f.1 (row_at f.0 (all_rows table))),
  marked_words table all fs words.1,
)

twice_word : (once : List ℕ) (p : Placed) → HasWordField p → IsWordFault (twice once p)
twice_word once p word =
    if_word (is_one_of once p.field.0 && has_tag p.field.0 p.before) p.field.0 13 word (lit< tt)

version_word : (m : Marked) → IsWordMarked m → IsWordFault (wrong_version m)
version_word (tag, marks.Wrong reason) word = if_word (reason == 18) tag reason word.0 word.1
version_word (tag, mark) word = tt

wrong_word : (m : Marked) → IsWordMarked m → IsWordFault (wrong m)
wrong_word (tag, marks.Wrong reason) word = (word.0, word.1)
wrong_word (tag, mark) word = tt

beyond_word : (m : Marked) → IsWordMarked m → IsWordFault (beyond m)
beyond_word (tag, marks.Outside) word = word.0
beyond_word (tag, mark) word = tt

-- ---- groups

member_word : (passed outside first many again : Bool) (count tag : ℕ) → IsWordNumber count
    → IsWordNumber tag → IsWordFault (if passed then None else
    (if outside then Some (Reason tag 15) else (if first then fault_if many (Reason count 5)
    else fault_if again (Reason tag 15))))
member_word true outside first many again count tag one two = tt
member_word false true first many again count tag one two = (two, lit< tt)
member_word false false true many again count tag one two = if_word many count 5 one (lit< tt)
member_word false false false many again count tag one two = if_word again tag 15 two (lit< tt)

abbrev HasWordCount : GroupTags → Type 0
HasWordCount group = IsWordNumber group.count

misplaced_word : (p : Placed) → HasWordField p → (group : GroupTags) → HasWordCount group
    → IsWordFault (misplaced p group)
misplaced_word p word group count =
    by (p.field.0 == group.count) (is_inside group p.field.0)
  where
    by : (counts inside : Bool) → IsWordFault (if counts
        then fault_if (not (is_count (number_in p.field.1) (lines_begun group p.after)))
        (Reason p.field.0 16)
        else (if inside then misplaced_member group p.before p.field.0 else None))
    by true inside =
        if_word (not (is_count (number_in p.field.1) (lines_begun group p.after))) p.field.0 16 word
        (lit< tt)
    by false true =
        member_word (is_one_of group.skipped p.field.0) (not (is_opened group p.before))
        (p.field.0 == group.first) (nat_le most_lines (lines_begun group p.before))
        (lines_begun group p.before == 0 || has_tag p.field.0 (line_before group p.before))
        group.count p.field.0 count word
    by false false = tt

low_word : (tag : ℕ) → nat_le tag 999_999_999 ≡ true → IsWordNumber tag
low_word tag test = let most = leb-true tag 999_999_999 test in omega (arith, most)

good_word : (tag : ℕ) → is_good_tag tag ≡ true → IsWordNumber tag
good_word tag good =
    let a = both (nat_le 1 tag) (nat_le tag 999_999_999 && not (is_data_tag tag)) good in
    let b = both (nat_le tag 999_999_999) (not (is_data_tag tag)) a.1 in
    low_word tag b.0

counts_words : (items : List (Item Kind)) → list_all has_good_tags items ≡ true
    → AllByRecursion HasWordCount (flat_map group_tags_of items)
counts_words [] good = tt
counts_words (One row ∷ items) good =
    counts_words items (both (is_good_tag row.tag) (list_all has_good_tags items) good).1
counts_words (Party role ∷ items) good = counts_words items good
counts_words (Lines group ∷ items) good =
    let g = both _ _ good in
    let t = both (is_good_tag group.count) (list_all (λ row. is_good_tag row.tag) group.rows) g.0 in
    (good_word group.count t.0, counts_words items g.1)

-- ---- rows

abbrev HasWordRow : Row Kind → Type 0
HasWordRow row = IsWordNumber row.tag

missing_word : (fields : List Field) (row : Row Kind) → HasWordRow row
    → IsWordFault (missing fields row)
missing_word fields row word =
    if_word (is_needed row.need fields && not (has_tag row.tag fields)) row.tag 1 word (lit< tt)

rows_words : (rows : List (Row Kind)) → list_all (λ row. is_good_tag row.tag) rows ≡ true
    → AllByRecursion HasWordRow rows
rows_words rows good =
    each_by (λ row. is_good_tag row.tag ≡ true) HasWordRow (λ row. good_word row.tag) rows
    (all_true (λ row. is_good_tag row.tag) rows good)

abbrev HasGoodTags : Item Kind → Type 0
HasGoodTags item = has_good_tags item ≡ true

lacking_word : (fields : List Field) (item : Item Kind) → HasGoodTags item
    → IsWordFault (missing_of fields item)
lacking_word fields (One row) good = missing_word fields row (good_word row.tag good)
lacking_word fields (Party role) good = tt
lacking_word fields (Lines group) good =
    let t =
    both (is_good_tag group.count) (list_all (λ row. is_good_tag row.tag) group.rows) good in
    each_word (λ line. first_of (missing line) group.rows)
    (λ line. first_word (missing line) HasWordRow (missing_word line) group.rows
    (rows_words group.rows t.1)) (lines_in (tags_in group) fields)

-- ---- the first fault

module _ (table : Table Kind) (good : list_all has_good_tags table.items ≡ true) where
  first_fault_word : (fields : List Field) → AllByRecursion HasWordTag fields
      → IsWordFault (first_fault judge table fields)
  unfolding first_fault
  first_fault_word fields words =
      let there = placed_words [] fields words in
      let are = marked_words table fields fields words in
      or_word _ _ (first_word (twice (once_in table)) HasWordField (twice_word (once_in table))
      (placed_from [] fields) there)
      (or_word _ _ (first_word wrong_version IsWordMarked version_word _ are)
      (or_word _ _ (first_word (in_groups (group_tags_in table)) HasWordField
      (λ p word. first_word (misplaced p) HasWordCount (misplaced_word p word)
      (group_tags_in table) (counts_words table.items good)) (placed_from [] fields) there)
      (or_word _ _ (first_word wrong IsWordMarked wrong_word _ are)
      (or_word _ _ (first_word (missing_of fields) HasGoodTags (lacking_word fields) table.items
      (all_true has_good_tags table.items good))
      (first_word beyond IsWordMarked beyond_word _ are)))))

  told_word : (fields : List Field) (fault : Fault) → AllByRecursion HasWordTag fields
      → told (message_of judge table fields) ≡ Err fault → HasWords fault
  unfolding message_of
  told_word fields fault words is =
      by (first_fault judge table fields) (first_fault_word fields words) is
    where
      by : (f : Option TableFault) → IsWordFault f
          → told (unless f (message_in judge table fields)) ≡ Err fault → HasWords fault
      by None word is = absurd cc
      by (Some f) word is =
          let same : of_table f ≡ fault = cc in
          subst (λ (x : Fault). HasWords x) same word

  -- THE FAULT OF A MESSAGE by a table
  pub fault_words : (fields : List Field) (split : Option SplitFault) (fault : Fault)
      → AreFields None fields → IfSome split (λ s. HasWords (of_split s))
      → message_by (Some table) fields split ≡ Err fault → HasWords fault
  fault_words fields None fault fields_good split_good is =
      told_word fields fault (tags_of_fields None fields fields_good) is
  fault_words fields (Some split) fault fields_good split_good is =
      let same : of_split split ≡ fault = cc in
      subst (λ (x : Fault). HasWords x) same split_good

-- ---- the fault of a body

pair_word : (pairs : List (ℕ × ℕ)) (len tag : ℕ)
    → list_all (λ pair. nat_le pair.1 999_999_999) pairs ≡ true
    → list_any (λ pair. pair.0 == len && pair.1 == tag) pairs ≡ true → IsWordNumber tag
pair_word [] len tag all is = absurd cc
pair_word (pair ∷ pairs) len tag all is =
    let p = both _ _ all in
    by (pair.0 == len) (pair.1 == tag) refl p.0 is (λ later. pair_word pairs len tag p.1 later)
  where
    by : (a b : Bool) → (pair.1 == tag) ≡ b → nat_le pair.1 999_999_999 ≡ true
        → ((a && b) || list_any (λ pair. pair.0 == len && pair.1 == tag) pairs) ≡ true
        → (list_any (λ pair. pair.0 == len && pair.1 == tag) pairs ≡ true → IsWordNumber tag)
        → IsWordNumber tag
    by true true e few is later = subst IsWordNumber (eqb-true pair.1 tag e) (low_word pair.1 few)
    by a b e few is later = later is

data_word : (before : Option Field) (tag : ℕ) → is_data before tag ≡ true → IsWordNumber tag
unfolding is_data_pair
data_word None tag is = absurd cc
data_word (Some before) tag is = pair_word data_fields before.0 tag refl is

stop_word : (count place : ℕ) (before : Option Field) (left : List ℕ) (split : Option SplitFault)
    → Stops count place before left split → IfSome split (λ s. HasWords (of_split s))
stop_word count place before left None stops = tt
stop_word count place before left (Some (DataLength tag)) stops =
    let front = data_word before (front_tag left) stops.2.3 in
    (subst IsWordNumber (sym stops.2.0) front, lit< tt)
stop_word count place before left (Some fault) stops = (tt, lit< tt)

-- THE FAULT OF A BODY
pub split_words : (body : List ℕ) → IfSome (reading_of body).fault (λ s. HasWords (of_split s))
split_words body =
    let split = bodies_are_read body in
    stop_word _ _ _ split.left (reading_of body).fault split.stopped
