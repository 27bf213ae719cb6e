-- What is written of a sound message is read again as that message behind a header, whatever table
-- the message is of.
use Rattle.std.proofs.Common.{◌≡◌, ℕ, List, [], ◌∷◌, ◌++◌, map, Some, Bool, true, false, Ok, refl}
use Rattle.std.proofs.Common.{sym, ap, subst, ◌∙◌, codes}
use Rattle.std.specs.Prelude.{IfSome, unwrap_or, not, ◌&&◌, ◌||◌, ◌==◌, if◌then◌else◌}
use Rattle.std.specs.Option.{option_map}
use Rattle.std.specs.List.{AllByRecursion, flat_map, list_all}
use Rattle.std.proofs.lemmas.Bool.{eqb-true}
use Rattle.std.proofs.lemmas.Grind.{flat_map-append}
use Rattle.typed_fields.specs.MonthYear.{read_month_year}
use Rattle.std.specs.Result.{result_ok}
use Rattle.value_kinds.specs.ValueKind as kinds
use Rattle.value_kinds.specs.ValueKind.{spelling}
use Rattle.field_groups.specs.Field.{Field}
use Rattle.message_tables.specs.Tables.{Verdict, Spells, Test, Stands, Is, Need, Required, Optional}
use Rattle.message_tables.specs.Tables.{Lenient, Fixed, When, Row, Item, One, Party, Lines, Table}
use Rattle.message_tables.specs.Tables.{Message, Cell, Said, Tag, Role, ◌>>=◌, value_at, has_tag}
use Rattle.message_tables.specs.Tables.{flag_of, is_one_of, is_needed, holds, passes, row_at}
use Rattle.message_tables.specs.Tables.{rows_in, all_rows, said_at, is_listed, says, text_of}
use Rattle.message_tables.specs.FirstFault.{message_of}
use Rattle.message_tables.specs.Content.{content, cell_fields, item_fields}
use Rattle.row_values.specs.Kinds.{Kind, Value, Byte, DayOf, MonthBeside, TimeBeside, Version}
use Rattle.row_values.specs.Kinds.{judge, verdict_of, filled, month_beside, is_at_close, counted}
use Rattle.row_values.specs.Kinds.{in_month}
use Rattle.first_faults.specs.Faults.{told}
use Rattle.sound_laws.specs.Sound.{IsSaid, IsItem, IsSound, places_of}
use Rattle.sound_laws.proofs.Each.{both, each_by, each_front, each_joined, each_map, each_mapped}
use Rattle.sound_laws.proofs.Each.{each_part, each_two, either, not_true, one_of}
use Rattle.sound_laws.proofs.Stages.{AreOf, each_of, item_tags, is_other}
use Rattle.sound_laws.proofs.Found.{FoundAt, items_of, value_behind}
use Rattle.sound_laws.proofs.ContentAgain.{read_whole}
use Rattle.sound_laws.proofs.ReadAgain as again
use Rattle.sound_laws.proofs.TableFits as fits
use Rattle.sound_laws.proofs.TableFits.{AreRows, table_fits}

-- ---- the cells of a header

abbrev pub items_in : List (Row Kind) → List (Item Kind)
items_in rows = map (λ row. One row) rows

abbrev pub tags_in : List (Row Kind) → List ℕ
tags_in rows = flat_map item_tags (items_in rows)

module _ (value : ℕ → Said) where
  -- what is said at the rows of a header
  abbrev pub head_cells : List (Row Kind) → List Cell
  head_cells rows = map (λ row. (Tag row.tag, value row.tag)) rows

  said_head : (rows : List (Row Kind)) (cells : List Cell) (tag : ℕ)
      → is_one_of (tags_in rows) tag ≡ true
      → said_at (head_cells rows ++ cells) (Tag tag) ≡ value tag
  said_head [] cells tag h = absurd cc
  said_head (row ∷ rows) cells tag h =
      elim (row.tag == tag) as (λ b. (row.tag == tag) ≡ b
      → (b || is_one_of (tags_in rows) tag) ≡ true
      → (if b then value row.tag else said_at (head_cells rows ++ cells) (Tag tag)) ≡ value tag) [
        | true ↦ λ e h. ap value (eqb-true row.tag tag e)
        | false ↦ λ e h. said_head rows cells tag h
      ] refl h

  said_behind : (rows : List (Row Kind)) (cells : List Cell) (tag : ℕ)
      → is_one_of (tags_in rows) tag ≡ false
      → said_at (head_cells rows ++ cells) (Tag tag) ≡ said_at cells (Tag tag)
  said_behind [] cells tag h = refl
  said_behind (row ∷ rows) cells tag h =
      let p = either (row.tag == tag) (is_one_of (tags_in rows) tag) h in
      rw p.0 (said_behind rows cells tag p.1)

  role_behind : (rows : List (Row Kind)) (cells : List Cell) (role : ℕ)
      → said_at (head_cells rows ++ cells) (Role role) ≡ said_at cells (Role role)
  role_behind [] cells role = refl
  role_behind (row ∷ rows) cells role = role_behind rows cells role

-- ---- fields behind others

has_behind : (tags : List ℕ) (t : ℕ) (xs ys : List Field)
    → AreOf tags xs → is_one_of tags t ≡ false → has_tag t (xs ++ ys) ≡ has_tag t ys
has_behind tags t [] ys of other = refl
has_behind tags t (x ∷ xs) ys of other =
    rw (is_other tags x.0 t of.0 other) (has_behind tags t xs ys of.1 other)

-- ---- a message behind a header

module _ (table : Table Kind) (value : ℕ → Said) (r : Message) where
  abbrev pub front : List (Item Kind)
  front = items_in table.header

  abbrev head_tags : List ℕ
  head_tags = tags_in table.header

  -- the message behind the header
  abbrev pub whole : Message
  whole = record {
    letter = r.letter;
    resend = r.resend;
    cells = head_cells value table.header ++ r.cells;
    groups = r.groups;
  }

  abbrev pub head : List Field
  head = flat_map (item_fields whole) front

  abbrev body : List Field
  body = content table r

  abbrev its : List (Item Kind)
  its = front ++ table.items

  abbrev pub all : List Field
  all = flat_map (item_fields whole) its

  -- what the header says
  abbrev pub IsHead : Type 0
  IsHead = AllByRecursion (λ row. IsSaid judge all row (value row.tag)) table.header

  -- ---- items that count on no field of the header

  abbrev is_behind : ℕ → Bool
  is_behind tag = not (is_one_of head_tags tag)

  abbrev test_behind : Test → Bool
  test_behind (Stands tag) = is_behind tag
  test_behind (Is tag listed) = is_behind tag

  abbrev need_behind : Need → Bool
  need_behind (When condition) = list_all (list_all test_behind) condition
  need_behind need = true

  abbrev kind_behind : Kind → Bool
  kind_behind (DayOf month) = is_behind month
  kind_behind (MonthBeside date) = is_behind date
  kind_behind (TimeBeside ord_type) = is_behind ord_type
  kind_behind kind = true

  abbrev item_behind : Item Kind → Bool
  item_behind (One row) = is_behind row.tag && (need_behind row.need && kind_behind row.kind)
  item_behind item = true

  -- THE TEST of a table
  abbrev pub items_behind : Bool
  items_behind = list_all item_behind table.items

  module _ (ok : items_behind ≡ true) (is_head : IsHead) where
    header_said : AllByRecursion (IsItem judge all whole) front
    header_said = each_mapped (IsItem judge all whole) (λ row. One row) table.header
        (each_two (λ row. IsSaid judge all row (value row.tag)) _
        (λ row. IsItem judge all whole (One row))
        (λ row said there. subst (λ (s : Said). IsSaid judge all row s)
        (sym (said_head value table.header r.cells row.tag there.0)) said) table.header is_head
        (each_map (λ item. AllByRecursion (λ t. is_one_of head_tags t ≡ true) (item_tags item))
        (λ row. One row) table.header (each_part _ item_tags front (each_of head_tags))))

    of_head : AreOf head_tags head
    of_head = items_of judge all whole front header_said

    at_behind : (tag : ℕ) → is_behind tag ≡ true
        → said_at whole.cells (Tag tag) ≡ said_at r.cells (Tag tag)
    at_behind tag h = said_behind value table.header r.cells tag (not_true _ h)

    -- what the message says for its table is what is said behind the header
    places_same : (items : List (Item Kind)) → list_all item_behind items ≡ true
        → AllByRecursion (λ p. said_at whole.cells p ≡ said_at r.cells p) (flat_map places_of items)
    places_same [] h = tt
    places_same (One row ∷ items) h =
        let p = both (item_behind (One row)) (list_all item_behind items) h in
        let q = both (is_behind row.tag) (need_behind row.need && kind_behind row.kind) p.0 in
        (at_behind row.tag q.0, places_same items p.1)
    places_same (Party role ∷ items) h =
        (role_behind value table.header r.cells role, places_same items h)
    places_same (Lines group ∷ items) h = places_same items h

    same_fields : (items : List (Item Kind))
        → AllByRecursion (λ p. said_at whole.cells p ≡ said_at r.cells p) (flat_map places_of items)
        → flat_map (item_fields whole) items ≡ flat_map (item_fields r) items
    same_fields [] same = refl
    same_fields (One row ∷ items) same =
        λ i. cell_fields (Tag row.tag, same.0 i) ++ same_fields items same.1 i
    same_fields (Party role ∷ items) same = same_fields items same.1
    same_fields (Lines group ∷ items) same =
        ap (λ (fs : List Field). item_fields r (Lines group) ++ fs) (same_fields items same)

    pub all_is : all ≡ head ++ body
    all_is = flat_map-append (item_fields whole) front table.items
        ∙ ap (λ (fs : List Field). head ++ fs)
        (same_fields table.items (places_same table.items ok))

    value_same : (tag : ℕ) → is_behind tag ≡ true → value_at tag all ≡ value_at tag body
    value_same tag h = ap (value_at tag) all_is
        ∙ value_behind head_tags tag head body of_head (not_true _ h)

    has_same : (tag : ℕ) → is_behind tag ≡ true → has_tag tag all ≡ has_tag tag body
    has_same tag h = ap (has_tag tag) all_is
        ∙ has_behind head_tags tag head body of_head (not_true _ h)

    -- ---- needs and values

    passes_same : (test : Test) → test_behind test ≡ true → passes all test ≡ passes body test
    passes_same (Stands tag) h = has_same tag h
    passes_same (Is tag listed) h = ap (is_listed listed) (value_same tag h)

    tests_same : (tests : List Test) → list_all test_behind tests ≡ true
        → list_all (passes all) tests ≡ list_all (passes body) tests
    tests_same [] h = refl
    tests_same (test ∷ tests) h =
        let p = both (test_behind test) (list_all test_behind tests) h in
        let here = passes_same test p.0 in
        let rest = tests_same tests p.1 in
        λ i. here i && rest i

    holds_same : (condition : List (List Test)) → list_all (list_all test_behind) condition ≡ true
        → holds condition all ≡ holds condition body
    holds_same [] h = refl
    holds_same (tests ∷ more) h =
        let p = both (list_all test_behind tests) (list_all (list_all test_behind) more) h in
        let here = tests_same tests p.0 in
        let rest = holds_same more p.1 in
        λ i. here i || rest i

    need_same : (need : Need) → need_behind need ≡ true → is_needed need all ≡ is_needed need body
    need_same Required h = refl
    need_same Optional h = refl
    need_same Lenient h = refl
    need_same (Fixed text) h = refl
    need_same (When condition) h = holds_same condition h

    judge_same : (kind : Kind) → kind_behind kind ≡ true
        → (text : List ℕ) → judge all kind text ≡ judge body kind text
    unfolding judge
    judge_same (Value kind) h text = refl
    judge_same (Byte listed) h text = refl
    judge_same Version h text = refl
    judge_same (DayOf month) h text =
        ap (λ (v : Said). in_month (v >>= (λ t. result_ok (read_month_year t)))
        (verdict_of (spelling kinds.DayOfMonth text))) (value_same month h)
    judge_same (MonthBeside date) h text =
        ap (λ (v : Said). filled text (month_beside
        (v >>= (λ t. text_of (verdict_of (spelling kinds.Day t)))) text)) (value_same date h)
    judge_same (TimeBeside ord_type) h text =
        ap (λ (v : Said). counted (not (is_at_close text) || is_listed (codes "12") v)
        (verdict_of (spelling (kinds.Code (codes "01234567")) text))) (value_same ord_type h)

    row_moved : (row : Row Kind) (said : Said) → need_behind row.need ≡ true
        → kind_behind row.kind ≡ true → IsSaid judge body row said → IsSaid judge all row said
    row_moved row said need kind h =
        let same : (λ text. judge body row.kind text) ≡ (λ text. judge all row.kind text) =
        λ i text. sym (judge_same row.kind kind text) i in
        let P : (List ℕ → Verdict) → Type 0 = λ j. IfSome said (λ text. j text ≡ Spells text) in
        let Q : (List ℕ → Verdict) → Type 0 = λ j. says row.need j said ≡ said in
        record {
          needed = λ n. h.needed (sym (need_same row.need need) ∙ n);
          spelled = subst P same h.spelled;
          again = subst Q same h.again;
          clear = h.clear;
        }

    items_moved : (items : List (Item Kind)) → list_all item_behind items ≡ true
        → AllByRecursion (IsItem judge body r) items → AllByRecursion (IsItem judge all whole) items
    items_moved [] h said = tt
    items_moved (One row ∷ items) h said =
        let p = both (item_behind (One row)) (list_all item_behind items) h in
        let q = both (is_behind row.tag) (need_behind row.need && kind_behind row.kind) p.0 in
        let k = both (need_behind row.need) (kind_behind row.kind) q.1 in
        let P : Said → Type 0 = λ s. IsSaid judge all row s in (
          subst P (sym (at_behind row.tag q.0))
              (row_moved row (said_at r.cells (Tag row.tag)) k.0 k.1 said.0),
          items_moved items p.1 said.1,
        )
    items_moved (Party role ∷ items) h said = (
      role_behind value table.header r.cells role ∙ said.0,
      items_moved items h said.1,
    )
    items_moved (Lines group ∷ items) h said = (said.0, items_moved items h said.1)

    -- ---- what is read

    module _ (fit : table_fits table front ≡ true) (sound : IsSound judge table r) where
      rows_found : AllByRecursion (AreRows table whole front) front
      rows_found =
          let P : Row Kind → Type 0 = λ row. row_at row.tag (all_rows table) ≡ Some row in
          let rows = each_front P table.header (rows_in table)
          (fits.rows_are table whole front fit) in
          each_mapped (AreRows table whole front) (λ row. One row) table.header
          (each_by P _ (λ row h. (h, tt)) table.header rows)

      all_said : AllByRecursion (IsItem judge all whole) its
      all_said = each_joined (IsItem judge all whole) front table.items header_said
          (items_moved table.items ok sound.items)

      -- what a row of the header says is found
      found_head : (rows : List (Row Kind)) (others : List (Item Kind))
          → AllByRecursion (FoundAt judge all whole all) (items_in rows ++ others)
          → AllByRecursion (λ t. value_at t all ≡ said_at whole.cells (Tag t)) (tags_in rows)
      found_head [] others found = tt
      found_head (row ∷ rows) others found = (found.0, found_head rows others found.1)

      resend_found : is_one_of head_tags 97 ≡ true → value_at 97 all ≡ value 97
      resend_found there =
          one_of (λ t. value_at t all ≡ said_at whole.cells (Tag t)) head_tags
          (found_head table.header table.items (again.found judge table whole front
          (fits.is_table table whole front fit rows_found) all_said)) 97 there
          ∙ said_head value table.header r.cells 97 there

      -- THE MESSAGE IS READ AGAIN behind its header.
      pub read_behind : is_one_of head_tags 97 ≡ true
          → unwrap_or (option_map flag_of (value 97)) false ≡ r.resend
          → told (message_of judge table (head ++ body)) ≡ Ok r
      read_behind there flag =
          subst (λ (fs : List Field). told (message_of judge table fs) ≡ Ok r) all_is
          (read_whole table front whole.cells r (record {
            fit = fit;
            rows = rows_found;
            letter = sound.letter;
            places = sound.places;
            counts = sound.counts;
            said = all_said;
            same = places_same table.items ok;
            resend = ap (λ (v : Said). unwrap_or (option_map flag_of v) false)
                (resend_found there) ∙ flag;
          }))
