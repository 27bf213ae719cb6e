-- What tests and searches find in fields of the code, and in their view.
use Rattle.std.proofs.Common.{◌≡◌, ◌<◌, ◌≤◌, ◌+◌, count_by, ℕ, zero, suc, length, get_or, take}
use Rattle.std.proofs.Common.{drop, arith, List, [], ◌∷◌, map, Option, Some, None, Bool, true}
use Rattle.std.proofs.Common.{false, cond, eqb, refl, sym, ap, ◌∙◌}
use Rattle.std.specs.Prelude.{◌||◌, ◌&&◌, ◌==◌, is_some}
use Rattle.message_tables.specs.Plain.{lacks}
use Rattle.std.specs.Option.{option_map, option_or}
use Rattle.std.specs.List.{find, list_any, list_all, flat_map, take-map, drop-map}
use Rattle.std.proofs.lemmas.List.{length-map}
use Rattle.std.proofs.lemmas.List.Sums.{sum_by-cons}
use Rattle.std.proofs.lemmas.List.Folds.{list_any-append, find-append, list_all-map}
use Rattle.std.specs.Borrow.{Bor}
use Rattle.field_groups.specs.Field.{Field}
use Rattle.message_tables.specs.declared.table.Test.{Test as CodeTest}
use Rattle.message_tables.specs.declared.table.Row.{Row as CodeRow}
use Rattle.message_tables.specs.declared.table.Item.{Item as CodeItem}
use Rattle.message_tables.specs.declared.table.Table.{Table as CodeTable}
use Rattle.message_tables.specs.Tables.{Row, Item, Table, or_else, first_of, value_at, has_tag}
use Rattle.message_tables.specs.Tables.{is_one_of, tags_of, row_at, rows_of, all_rows, passes}
use Rattle.message_tables.specs.Tables.{holds}
use Rattle.message_tables.specs.FirstFault.{once_of, once_in, group_tags_of, group_tags_in}
use Rattle.message_tables.specs.FirstFault.{is_of_group}
use Rattle.message_tables.proofs.Loops.{first_of-append}
use Rattle.message_tables.specs.CodeTables.{seen, seen_at, test_of, row_of, item_of, table_of}

pub any-map : {X Y : Type 0} (p : Y → Bool) (f : X → Y) (xs : List X)
    → list_any p (map f xs) ≡ list_any (λ x. p (f x)) xs
any-map p f [] = refl
any-map p f (x ∷ xs) = ap (λ b. p (f x) || b) (any-map p f xs)

pub find-map : {X Y : Type 0} (p : Y → Bool) (f : X → Y) (xs : List X)
    → find p (map f xs) ≡ option_map f (find (λ x. p (f x)) xs)
find-map p f [] = refl
find-map {X} p f (x ∷ xs) = here (p (f x)) (find-map p f xs)
  where
    here : (b : Bool) → find p (map f xs) ≡ option_map f (find (λ y. p (f y)) xs) → cond
        b (Some (f x)) (find p (map f xs)) ≡ option_map f (cond b (Some x) (find (λ y. p (f y)) xs))
    here true e = refl
    here false e = e

pub any-flat_map : {X Y : Type 0} (p : Y → Bool) (f : X → List Y) (xs : List X)
    → list_any p (flat_map f xs) ≡ list_any (λ x. list_any p (f x)) xs
any-flat_map p f [] = refl
any-flat_map p f (x ∷ xs) =
    list_any-append p (f x) (flat_map f xs) ∙ ap (λ b. list_any p (f x) || b) (any-flat_map p f xs)

pub has_tag_seen : (tag : ℕ) (fs : List (ℕ × Bor (List ℕ)))
    → has_tag tag (seen fs) ≡ list_any (λ f. f.0 == tag) fs
has_tag_seen tag fs = any-map (λ (f : Field). f.0 == tag) (λ f. (f.0, f.1.now)) fs

pub value_at_seen : (tag : ℕ) (fs : List (ℕ × Bor (List ℕ)))
    → value_at tag (seen fs) ≡ option_map (λ f. f.1.now) (find (λ f. f.0 == tag) fs)
value_at_seen tag fs = ap (option_map (λ (f : Field). f.1)) (find-map
    (λ (f : Field). f.0 == tag) (λ f. (f.0, f.1.now)) fs) ∙ again (find (λ f. f.0 == tag) fs)
  where
    again : (o : Option (ℕ × Bor (List ℕ))) → option_map
        (λ (f : Field). f.1) (option_map (λ f. (f.0, f.1.now)) o) ≡ option_map (λ f. f.1.now) o
    again None = refl
    again (Some f) = refl

pub count_seen : (tag : ℕ) (fs : List (ℕ × Bor (List ℕ)))
    → count_by (λ f. f.0 == tag) (seen fs) ≡ count_by (λ f. f.0 == tag) fs
count_seen tag [] = refl
count_seen tag (f ∷ fs) =
    sum_by-cons (λ (g : Field). cond (g.0 == tag) 1 0) (f.0, f.1.now) (seen fs)
    ∙ ap (λ n. cond (f.0 == tag) 1 0 + n) (count_seen tag fs)
    ∙ sym (sum_by-cons (λ (g : ℕ × Bor (List ℕ)). cond (g.0 == tag) 1 0) f fs)

pub front_seen : (n : ℕ) (fs : List (ℕ × Bor (List ℕ))) → take n (seen fs) ≡ seen (take n fs)
front_seen n fs = take-map (λ f. (f.0, f.1.now)) n fs

pub rest_seen : (n : ℕ) (fs : List (ℕ × Bor (List ℕ))) → drop n (seen fs) ≡ seen (drop n fs)
rest_seen n fs = drop-map (λ f. (f.0, f.1.now)) n fs

pub seen_at_is : (fs : List (ℕ × Bor (List ℕ))) (i : ℕ) (d : ℕ × Bor (List ℕ))
    → i < length fs → seen_at fs i ≡ ((get_or fs i d).0, (get_or fs i d).1.now)
seen_at_is [] i d lt = absurd (omega arith)
seen_at_is (f ∷ fs) zero d lt = refl
seen_at_is (f ∷ fs) (suc i) d lt = seen_at_is fs i d (omega arith)

pub seen_lt : (fs : List (ℕ × Bor (List ℕ))) (i : ℕ) → i < length fs → i < length (seen fs)
seen_lt fs i lt = rw (length-map {B = Field} fs (λ f. (f.0, f.1.now))) lt

pub seen_le : (fs : List (ℕ × Bor (List ℕ))) (i : ℕ) → length fs ≤ i → length (seen fs) ≤ i
seen_le fs i le = rw (length-map {B = Field} fs (λ f. (f.0, f.1.now))) le

pub seen_most : (fs : List (ℕ × Bor (List ℕ))) (i : ℕ) → i ≤ length fs → i ≤ length (seen fs)
seen_most fs i le = rw (length-map {B = Field} fs (λ f. (f.0, f.1.now))) le

module _ {K : Type 0} where
  -- ---- rows of the code

  pub tags_seen : (tag : ℕ) (rows : List (CodeRow K)) → is_one_of
      (tags_of (map (row_of (λ (k : K). k)) rows)) tag ≡ list_any (λ row. row.tag == tag) rows
  tags_seen tag [] = refl
  tags_seen tag (row ∷ rows) = ap (λ b. eqb row.tag tag || b) (tags_seen tag rows)

  pub all_tags_seen : (fields : List Field) (rows : List (CodeRow K)) → list_all (lacks fields)
      (tags_of (map (row_of (λ (k : K). k)) rows)) ≡ list_all (λ row. lacks fields row.tag) rows
  all_tags_seen fields [] = refl
  all_tags_seen fields (row ∷ rows) =
      ap (λ b. lacks fields row.tag && b) (all_tags_seen fields rows)

  pub row_seen : (tag : ℕ) (rows : List (CodeRow K)) → row_at tag (map (row_of (λ (k : K). k)) rows)
      ≡ option_map (row_of (λ (k : K). k)) (find (λ row. row.tag == tag) rows)
  row_seen tag rows = find-map (λ (row : Row K). row.tag == tag) (row_of (λ (k : K). k)) rows

-- a tag stands where its value is found
pub stands_by_value : (tag : ℕ) (fs : List Field) → has_tag tag fs ≡ is_some (value_at tag fs)
stands_by_value tag [] = refl
stands_by_value tag (f ∷ fs) = here (f.0 == tag) (stands_by_value tag fs)
  where
    here : (b : Bool) → has_tag tag fs ≡ is_some (value_at tag fs)
        → (b || has_tag tag fs)
        ≡ is_some (option_map (λ (g : Field). g.1) (cond b (Some f) (find (λ g. g.0 == tag) fs)))
    here true e = refl
    here false e = e

pub condition_seen : (condition : List (Bor (List CodeTest))) (fs : List Field)
    → holds (map (λ tests. map test_of tests.now) condition) fs
    ≡ list_any (λ tests. list_all (λ test. passes fs (test_of test)) tests.now) condition
condition_seen [] fs = refl
condition_seen (tests ∷ condition) fs =
    ap₂ (λ a b. a || b) (list_all-map (passes fs) test_of tests.now) (condition_seen condition fs)
  where
    ap₂ : (f : Bool → Bool → Bool) {a b c d : Bool} → a ≡ b → c ≡ d → f a c ≡ f b d
    ap₂ f e h = λ i. f (e i) (h i)

-- ---- tables of the code

module _ {K : Type 0} where
  abbrev pub own : CodeTable K → Table K
  own table = table_of (λ (k : K). k) table

  abbrev pub item_row : ℕ → CodeItem K → Option (Row K)
  item_row tag item = row_at tag (rows_of (item_of (λ (k : K). k) item))

  abbrev pub item_once : ℕ → CodeItem K → Bool
  item_once tag item = is_one_of (once_of (item_of (λ (k : K). k) item)) tag

  abbrev pub item_group : ℕ → CodeItem K → Bool
  item_group tag item = list_any (is_of_group tag) (group_tags_of (item_of (λ (k : K). k) item))

  rows-items : (tag : ℕ) (xs : List (CodeItem K))
      → row_at tag (flat_map rows_of (map (item_of (λ (k : K). k)) xs)) ≡ first_of (item_row tag) xs
  unfolding first_of
  rows-items tag [] = refl
  rows-items tag (x ∷ xs) = find-append (λ (row : Row K). row.tag == tag)
      (rows_of (item_of (λ (k : K). k) x)) (flat_map rows_of (map (item_of (λ (k : K). k)) xs))
      ∙ both (item_row tag x) (rows-items tag xs)
    where
      both : (o : Option (Row K)) → row_at tag (flat_map rows_of (map (item_of (λ (k : K). k)) xs))
          ≡ first_of (item_row tag) xs
          → option_or o (row_at tag (flat_map rows_of (map (item_of (λ (k : K). k)) xs)))
          ≡ or_else o (first_of (item_row tag) xs)
      both None e = e
      both (Some row) e = refl

  -- a row of a table: of its header, or of its items
  pub row-table : (tag : ℕ) (table : CodeTable K) → row_at tag (all_rows (own table))
      ≡ or_else (option_map (row_of (λ (k : K). k)) (find (λ row. row.tag == tag) table.header.now))
      (first_of (item_row tag) table.items.now)
  row-table tag table =
      find-append (λ (row : Row K). row.tag == tag) (map (row_of (λ (k : K). k)) table.header.now)
      (flat_map rows_of (map (item_of (λ (k : K). k)) table.items.now))
      ∙ ap (λ o. option_or
      o (row_at tag (flat_map rows_of (map (item_of (λ (k : K). k)) table.items.now))))
      (row_seen tag table.header.now)
      ∙ both (option_map (row_of (λ (k : K). k)) (find (λ row. row.tag == tag) table.header.now))
      (rows-items tag table.items.now)
    where
      both : (o : Option (Row K))
          → row_at tag (flat_map rows_of (map (item_of (λ (k : K). k)) table.items.now))
          ≡ first_of (item_row tag) table.items.now
          → option_or
          o (row_at tag (flat_map rows_of (map (item_of (λ (k : K). k)) table.items.now)))
          ≡ or_else o (first_of (item_row tag) table.items.now)
      both None e = e
      both (Some row) e = refl

  any-items : {Y : Type 0} (p : Y → Bool) (f : Item K → List Y) (xs : List (CodeItem K))
      → list_any p (flat_map f (map (item_of (λ (k : K). k)) xs))
      ≡ list_any (λ x. list_any p (f (item_of (λ (k : K). k) x))) xs
  any-items p f xs = any-flat_map p f (map (item_of (λ (k : K). k)) xs)
      ∙ any-map (λ (x : Item K). list_any p (f x)) (item_of (λ (k : K). k)) xs

  pub once-table : (tag : ℕ) (table : CodeTable K) → is_one_of (once_in (own table)) tag ≡ (list_any
      (λ row. row.tag == tag) table.header.now || list_any (item_once tag) table.items.now)
  once-table tag table =
      list_any-append (λ one. one == tag) (tags_of (map (row_of (λ (k : K). k)) table.header.now))
      (flat_map once_of (map (item_of (λ (k : K). k)) table.items.now))
      ∙ ap (λ b. b || list_any (λ one. one == tag) (flat_map
      once_of (map (item_of (λ (k : K). k)) table.items.now))) (tags_seen tag table.header.now)
      ∙ ap (λ b. list_any (λ row. row.tag == tag) table.header.now || b)
      (any-items (λ one. one == tag) once_of table.items.now)

  pub groups-table : (tag : ℕ) (table : CodeTable K) → list_any
      (is_of_group tag) (group_tags_in (own table)) ≡ list_any (item_group tag) table.items.now
  groups-table tag table = any-items (is_of_group tag) group_tags_of table.items.now

  -- the first answer of what the items of a table have
  pub first_of-items : {Y A : Type 0} (f : Y → Option A) (h : Item K → List Y)
      (xs : List (CodeItem K)) → first_of f (flat_map h (map (item_of (λ (k : K). k)) xs))
      ≡ first_of (λ x. first_of f (h (item_of (λ (k : K). k) x))) xs
  unfolding first_of
  first_of-items f h [] = refl
  first_of-items f h (x ∷ xs) = first_of-append
      f (h (item_of (λ (k : K). k) x)) (flat_map h (map (item_of (λ (k : K). k)) xs))
      ∙ ap (or_else (first_of f (h (item_of (λ (k : K). k) x)))) (first_of-items f h xs)
