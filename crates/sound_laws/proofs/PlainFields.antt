-- The fields of a sound message are no raw data, and not too many, so that a body of them is split
-- again into them.
use Rattle.std.proofs.Common.{rules, ◌≡◌, ◌≤◌, ◌+◌, ℕ, zero, suc, List, [], ◌∷◌, length, All}
use Rattle.std.proofs.Common.{Option, Some, None, Bool, true, arith, length-append}
use Rattle.std.specs.Prelude.{not, nat_le, ◌&&◌}
use Rattle.std.specs.List.{AllByRecursion, flat_map, list_all}
use Rattle.std.specs.Fmt.{decimal}
use Rattle.std.proofs.lemmas.Fmt.{digits_decimal}
use Rattle.std.proofs.lemmas.Bool.Decides.{nat_tests}
use Rattle.std.proofs.lemmas.List.Elements.{All-cons}
use Rattle.typed_fields.proofs.DigitsLemmas.{numerals}
use Rattle.field_groups.specs.Data.{is_data_tag}
use Rattle.field_groups.specs.Field.{Field, IsPlainField, AreFields}
use Rattle.field_groups.proofs.Plain.{is_plain}
use Rattle.message_tables.specs.Tables.{Judge, Row, Item, One, Party, Lines, Table, Message, Cell}
use Rattle.message_tables.specs.Tables.{Said, Place, Tag, Role, said_at, lines_of}
use Rattle.message_tables.specs.Content.{content, cell_fields, line_fields, group_fields}
use Rattle.message_tables.specs.Content.{item_fields}
use Rattle.sound_laws.specs.Sound.{IsClear, AreSaid, IsLine, IsItem, IsSound}
use Rattle.sound_laws.proofs.Each.{all_true, both, each_by, not_true}
use Rattle.sound_laws.proofs.ReadSound.{IsClearField}
use Rattle.sound_laws.proofs.SpelledAgain.{digits_clear}
use Rattle.sound_laws.proofs.Stages.{OfItem, OfRow, items_each}

-- a tag of a field that is no raw data
abbrev pub is_good_tag : ℕ → Bool
is_good_tag tag = nat_le 1 tag && (nat_le tag 999_999_999 && not (is_data_tag tag))

abbrev pub has_good_tags : {Kind : Type 0} → Item Kind → Bool
has_good_tags (One row) = is_good_tag row.tag
has_good_tags (Party role) = true
has_good_tags (Lines group) =
    is_good_tag group.count && list_all (λ row. is_good_tag row.tag) group.rows

pub plain_field : (tag : ℕ) (text : List ℕ)
    → is_good_tag tag ≡ true → IsClear text → IsPlainField (tag, text)
plain_field tag text good clear =
    let a = both (nat_le 1 tag) (nat_le tag 999_999_999 && not (is_data_tag tag)) good in
    let b = both (nat_le tag 999_999_999) (not (is_data_tag tag)) a.1 in
    let low = a.0 in let high = b.0 in
    record {
      positive = grind (arith, nat_tests);
      nine_digits = grind (arith, nat_tests);
      no_data = not_true (is_data_tag tag) b.1;
      no_soh = clear;
    }

abbrev pub Plains : List Field → Type 0
Plains fields = AllByRecursion IsPlainField fields

module _ {Kind : Type 0} (judge : Judge Kind) where
  good_rows : (rows : List (Row Kind)) → list_all (λ row. is_good_tag row.tag) rows ≡ true
      → (line : List Field) → AllByRecursion (OfRow judge IsPlainField line) rows
  good_rows rows good line = each_by _ (OfRow judge IsPlainField line)
      (λ row g text said clear. plain_field row.tag text g clear) rows
      (all_true (λ row. is_good_tag row.tag) rows good)

  good_item : (fields : List Field) (item : Item Kind) → has_good_tags item ≡ true
      → OfItem judge IsPlainField fields item
  good_item fields (One row) good = λ text said clear. plain_field row.tag text good clear
  good_item fields (Party role) good = tt
  good_item fields (Lines group) good =
      let t =
      both (is_good_tag group.count) (list_all (λ row. is_good_tag row.tag) group.rows) good in (
        λ n few. plain_field group.count (decimal n) t.0
            (digits_clear (decimal n) (digits_decimal numerals n (omega (arith, few)))),
        good_rows group.rows t.1,
      )

-- ---- how many fields are written at most

unfoldable pub times : ℕ → ℕ → ℕ
times zero k = 0
times (suc n) k = k + times n k

-- where a group of a count has at most so many lines
abbrev most : {Kind : Type 0} → (ℕ → ℕ) → Item Kind → ℕ
most limit (One row) = 1
most limit (Party role) = 0
most limit (Lines group) = 1 + times (limit group.count) (length group.rows)

abbrev pub most_within : {Kind : Type 0} → (limit : ℕ → ℕ) → List (Item Kind) → ℕ
most_within limit [] = 0
most_within limit (item ∷ items) = most limit item + most_within limit items

abbrev pub most_of : {Kind : Type 0} → List (Item Kind) → ℕ
most_of items = most_within (λ count. 32) items

times_grows : (n m k : ℕ) → n ≤ m → times n k ≤ times m k
unfolding times
times_grows zero m k h = omega arith
times_grows (suc n) zero k h = absurd (omega (arith, h))
times_grows (suc n) (suc m) k h =
    let rest = times_grows n m k (omega (arith, h)) in omega (arith, rest)

pub cell_length : (place : Place) (said : Said) → length (cell_fields (place, said)) ≤ 1
cell_length (Tag tag) None = omega arith
cell_length (Tag tag) (Some text) = omega arith
cell_length (Role role) said = omega arith

module _ {Kind : Type 0} (judge : Judge Kind) where
  line_length : (fields : List Field) (rows : List (Row Kind)) (line : List Cell)
      → AreSaid judge fields rows line → length (line_fields line) ≤ length rows
  line_length fields [] [] said = omega arith
  line_length fields (row ∷ rows) (cell ∷ cells) said =
      let one = cell_length cell.0 cell.1 in let rest = line_length fields rows cells said.2 in
      omega (arith, one, rest, length-append (cell_fields cell) (line_fields cells))
  line_length fields rows line said = absurd said

  lines_length : (rows : List (Row Kind)) (lines : List (List Cell))
      → AllByRecursion (IsLine judge rows) lines →
      length (flat_map line_fields lines) ≤ times (length lines) (length rows)
  unfolding times
  lines_length rows [] said = omega arith
  lines_length rows (line ∷ lines) said =
      let one = line_length (line_fields line) rows line said.0 in let rest =
      lines_length rows lines said.1 in
      omega (arith, one, rest, length-append (line_fields line) (flat_map line_fields lines))

  group_length : (count n : ℕ) (rows : List (Row Kind)) (lines : List (List Cell))
      → length lines ≤ n → AllByRecursion (IsLine judge rows) lines →
      length (group_fields count lines) ≤ 1 + times n (length rows)
  group_length count n rows [] few said = omega arith
  group_length count n rows (line ∷ lines) few said =
      let whole = lines_length rows (line ∷ lines) said in
      let grown = times_grows (length (line ∷ lines)) n (length rows) few in
      omega (arith, whole, grown)

  module _ (fields : List Field) (m : Message) where
    module _ (limit : ℕ → ℕ) (within : (count : ℕ) → length (lines_of count m.groups) ≤ 32
        → length (lines_of count m.groups) ≤ limit count) where
      item_length : (item : Item Kind) → IsItem judge fields m item
          → length (item_fields m item) ≤ most limit item
      item_length (One row) said = cell_length (Tag row.tag) (said_at m.cells (Tag row.tag))
      item_length (Party role) said = omega arith
      item_length (Lines group) said =
          group_length group.count (limit group.count) group.rows (lines_of group.count m.groups)
          (within group.count said.few) said.said

      items_length : (items : List (Item Kind)) → AllByRecursion (IsItem judge fields m) items
          → length (flat_map (item_fields m) items) ≤ most_within limit items
      items_length [] said = omega arith
      items_length (item ∷ items) said =
          let one = item_length item said.0 in let rest = items_length items said.1 in
          let joined = length-append (item_fields m item) (flat_map (item_fields m) items) in
          omega (arith, one, rest, joined)

pub all_of : (fields : List Field) → Plains fields → All IsPlainField fields
all_of [] h = search rules
all_of (f ∷ fs) h = All-cons IsPlainField f fs h.0 (all_of fs h.1)

-- fields that a body may have behind its header
pub record AreFew (fields : List Field) : Type 0 where
  pub plain : Plains fields
  pub few : length fields ≤ 240

-- THE CONTENT OF A SOUND MESSAGE has such fields,
pub few_within : {Kind : Type 0} (judge : Judge Kind) (table : Table Kind) (m : Message)
    (limit : ℕ → ℕ)
    → list_all has_good_tags table.items ≡ true → most_within limit table.items ≤ 240
    → ((count : ℕ) → length (lines_of count m.groups) ≤ 32
    → length (lines_of count m.groups) ≤ limit count)
    → IsSound judge table m → AreFew (content table m)
few_within judge table m limit good most within sound =
    let few = items_length judge (content table m) m limit within table.items sound.items in
    record {
      plain = items_each judge IsPlainField (content table m) m table.items (each_by _ _
          (good_item judge (content table m)) table.items (all_true has_good_tags table.items good))
          sound.items;
      few = omega (arith, few, most);
    }

-- where each of its groups may have 32 lines.
pub few_of : {Kind : Type 0} (judge : Judge Kind) (table : Table Kind) (m : Message)
    → list_all has_good_tags table.items ≡ true → most_of table.items ≤ 240
    → IsSound judge table m → AreFew (content table m)
few_of judge table m good most sound =
    few_within judge table m (λ count. 32) good most (λ count few. few) sound

-- fields of a body have no SOH, but where they are raw data
pub clear_fields : {Kind : Type 0} (judge : Judge Kind) (before : Option Field)
    (fields : List Field) → AreFields before fields → AllByRecursion (IsClearField judge) fields
clear_fields judge before [] h = tt
clear_fields judge before (f ∷ fs) h =
    (λ none. (is_plain before f h.0 none).no_soh, clear_fields judge (Some f) fs h.1)
