-- A sound message of FIX 5.0 SP2 stays sound where its month is completed by its date.
use Rattle.std.proofs.Common.{◌≡◌, ℕ, List, [], ◌∷◌, map, Some, None, Bool, true, false, refl, sym}
use Rattle.std.proofs.Common.{ap, subst, ◌∙◌, codes, take}
use Rattle.std.specs.Prelude.{IfSome, not, ◌&&◌, ◌||◌, ◌==◌}
use Rattle.std.specs.List.{AllByRecursion, flat_map, list_any, list_all}
use Rattle.field_groups.specs.Field.{Field}
use Rattle.field_groups.specs.Data.{is_data_tag}
use Rattle.message_tables.specs.Tables.{Verdict, Spells, Need, Required, Optional, Lenient, Fixed}
use Rattle.message_tables.specs.Tables.{When, Is, Row, Item, One, Party, Lines, Table, Message}
use Rattle.message_tables.specs.Tables.{Said, Tag, Role, is_place, said_at, value_at, says, or_else}
use Rattle.message_tables.specs.Tables.{◌>>=◌, text_of, is_needed, is_listed}
use Rattle.message_tables.specs.Content.{content, cell_fields, item_fields}
use Rattle.value_kinds.specs.ValueKind.{Day, spelling}
use Rattle.row_values.specs.Kinds.{Kind, MonthBeside, judge, verdict_of, date_at}
use Rattle.rows_fix50.specs.Header.{completed, month_by}
use Rattle.sound_laws.specs.Sound.{IsClear, IsSaid, IsItem, IsSound, places_of}
use Rattle.sound_laws.specs.Complete.{HasMonthOfDate}
use Rattle.sound_laws.proofs.Each.{all_true, apart_same, at_equal, both}
use Rattle.sound_laws.proofs.ContentValues.{value_at-append, row_value}
use Rattle.sound_laws.proofs.ReadSound.{row_passes}
use Rattle.sound_laws.proofs.RowsSaid.{free_said}
use Rattle.sound_laws.proofs.Completed.{other_said, month_said, same_places}
use Rattle.sound_laws.proofs.Judged50.{ours_kind, AreAlike, judged_again, month_of_date}
use Rattle.sound_laws.proofs.SpelledAgain.{clear_front}

-- ---- the rows

abbrev pub ours_need : Need → Bool
ours_need Required = true
ours_need Optional = true
ours_need Lenient = true
ours_need (When ((Is tag listed ∷ []) ∷ [])) = tag == 150
ours_need need = false

abbrev month_kind : Kind → Bool
month_kind (MonthBeside date) = date == 541
month_kind kind = false

-- the row of a tag; that of the month is judged beside the date
abbrev pub of_month : Bool → Kind → Bool
of_month true kind = month_kind kind
of_month false kind = true

abbrev ours_tests : Bool → Row Kind → List Bool
ours_tests timed row =
    not (is_data_tag row.tag) ∷ ours_need row.need ∷ ours_kind timed row.kind
    ∷ of_month (row.tag == 200) row.kind ∷ []

abbrev pub is_ours_row : Bool → Row Kind → Bool
is_ours_row timed row = list_all (λ b. b) (ours_tests timed row)

abbrev pub is_ours : Bool → Item Kind → Bool
is_ours timed = row_passes (is_ours_row timed)

-- what holds of a row
pub record IsOurs (timed : Bool) (row : Row Kind) : Type 0 where
  pub bare : not (is_data_tag row.tag) ≡ true
  pub need : ours_need row.need ≡ true
  pub kind : ours_kind timed row.kind ≡ true
  pub month : of_month (row.tag == 200) row.kind ≡ true

pub ours : (timed : Bool) (row : Row Kind) → is_ours_row timed row ≡ true → IsOurs timed row
ours timed row h = let t = all_true (λ b. b) (ours_tests timed row) h in
    record { bare = t.0; need = t.1.0; kind = t.1.1.0; month = t.1.1.1.0 }

-- a code that is among some is so where it is read again
abbrev pub KeepsType : List Field → List Field → Type 0
KeepsType before after = (listed : List ℕ) → is_listed listed (value_at 150 after) ≡ true
    → is_listed listed (value_at 150 before) ≡ true

-- a condition of one test
pub kept_test : (a b : Bool) → (a ≡ true → b ≡ true) → ((a && true) || false) ≡ true
    → ((b && true) || false) ≡ true
kept_test true b kept h = let is : b ≡ true = kept refl in rw is refl
kept_test false b kept h = absurd cc

pub kept_need : (need : Need) → ours_need need ≡ true → (before after : List Field)
    → KeepsType before after → is_needed need after ≡ true → is_needed need before ≡ true
kept_need (When ((Is tag listed ∷ []) ∷ [])) h before after kept n =
    at_equal (λ t. is_needed (When ((Is t listed ∷ []) ∷ [])) after ≡ true
    → is_needed (When ((Is t listed ∷ []) ∷ [])) before ≡ true) tag 150 h
    (kept_test (is_listed listed (value_at 150 after)) (is_listed listed (value_at 150 before))
    (kept listed)) n
kept_need (When condition) h before after kept n = absurd cc
kept_need need h before after kept n = n

free_says : (need : Need) → ours_need need ≡ true → (j : List ℕ → Verdict) (said : Said)
    → says need j said ≡ said >>= (λ bytes. text_of (j bytes))
free_says (Fixed text) h j said = absurd cc
free_says need h j said = refl

month_judged : (kind : Kind) → month_kind kind ≡ true → (fields : List Field) (day : List ℕ)
    → date_at 541 fields ≡ Some day → judge fields kind (take 6 day) ≡ Spells (take 6 day)
month_judged (MonthBeside date) h fields day at =
    at_equal (λ t. judge fields (MonthBeside t) (take 6 day) ≡ Spells (take 6 day)) date 541 h
    (month_of_date fields day at)
month_judged other h fields day at = absurd cc

-- ---- a row that says what it said, where the fields beside it say the same

module _ (timed : Bool) (before after : List Field) (alike : AreAlike timed before after)
    (kept : KeepsType before after) where
  judged : (kind : Kind) → ours_kind timed kind ≡ true → (said : Said)
      → IfSome said (λ text. judge before kind text ≡ Spells text)
      → IfSome said (λ text. judge after kind text ≡ Spells text)
  judged kind h None e = tt
  judged kind h (Some text) e = judged_again timed before after alike kind h text text e

  pub same_kept : (row : Row Kind) → IsOurs timed row → (said : Said)
      → IsSaid judge before row said → IsSaid judge after row said
  same_kept row o said s = free_said after row said
      (λ n. s.needed (kept_need row.need o.need before after kept n))
      (free_says row.need o.need (judge after row.kind) said)
      (judged row.kind o.kind said s.spelled) s.clear

-- ---- a message

module _ (timed : Bool) (table : Table Kind) (m : Message) where
  abbrev date : Said
  date = said_at m.cells (Tag 541)

  abbrev before : List Field
  before = content table m

  abbrev after : List Field
  after = content table (completed m)

  -- the other fields of its content stay
  same_item : (tag : ℕ) → (tag == 200) ≡ false → (item : Item Kind) →
      value_at tag (item_fields (completed m) item) ≡ value_at tag (item_fields m item)
  same_item tag other (Party role) = refl
  same_item tag other (Lines group) = refl
  same_item tag other (One row) =
      elim (row.tag == 200) as (λ b. (row.tag == 200) ≡ b
      → value_at tag (item_fields (completed m) (One row))
      ≡ value_at tag (item_fields m (One row))) [
        | true ↦ λ e.
            let apart =
            at_equal (λ t. (t == tag) ≡ false) row.tag 200 e (apart_same tag 200 other) in
            row_value judge (completed m) tag row apart ∙ sym (row_value judge m tag row apart)
        | false ↦ λ e. ap (λ (s : Said). value_at tag (cell_fields (Tag row.tag, s)))
            (other_said date m.cells (Tag row.tag) e)
      ] refl

  same_value : (tag : ℕ) → (tag == 200) ≡ false → (items : List (Item Kind)) →
      value_at tag (flat_map (item_fields (completed m)) items)
      ≡ value_at tag (flat_map (item_fields m) items)
  same_value tag other [] = refl
  same_value tag other (item ∷ items) =
      value_at-append tag (item_fields (completed m) item)
      (flat_map (item_fields (completed m)) items)
      ∙ (λ i. or_else (same_item tag other item i) (same_value tag other items i))
      ∙ sym (value_at-append tag (item_fields m item) (flat_map (item_fields m) items))

  alike : AreAlike timed before after
  alike = record {
    date = ap (λ (v : Said). v >>= (λ text. text_of (verdict_of (spelling Day text))))
        (same_value 541 refl table.items);
    ord_type = λ _ h. ap (is_listed (codes "12")) (same_value 40 refl table.items) ∙ h;
  }

  kept_type : KeepsType before after
  kept_type listed h = ap (is_listed listed) (sym (same_value 150 refl table.items)) ∙ h

  module _ (there : list_any (is_place (Tag 200)) (flat_map places_of table.items) ≡ true)
      (at_date : date_at 541 before ≡ date) (clear : IfSome date IsClear)
      (sound : IsSound judge table m) where
    month_there : list_any (is_place (Tag 200)) (map (λ c. c.0) m.cells) ≡ true
    month_there = ap (list_any (is_place (Tag 200))) sound.places ∙ there

    -- the row of the month
    month_kept : (row : Row Kind) → IsOurs timed row → month_kind row.kind ≡ true → (d said : Said)
        → date_at 541 after ≡ d → IfSome d IsClear → IsSaid judge before row said
        → IsSaid judge after row (month_by d said)
    month_kept row o k None said at c s = same_kept timed before after alike kept_type row o said s
    month_kept row o k (Some day) said at c s = free_said after row (Some (take 6 day)) (λ n. refl)
        (free_says row.need o.need (judge after row.kind) (Some (take 6 day)))
        (month_judged row.kind k after day at) (clear_front 6 day c)

    row_kept : (row : Row Kind) → IsOurs timed row
        → IsSaid judge before row (said_at m.cells (Tag row.tag))
        → IsSaid judge after row (said_at (completed m).cells (Tag row.tag))
    row_kept row o s = by (row.tag == 200) refl o.month
      where
        by : (b : Bool) → (row.tag == 200) ≡ b → of_month b row.kind ≡ true
            → IsSaid judge after row (said_at (completed m).cells (Tag row.tag))
        by false e k = subst (λ (said : Said). IsSaid judge after row said)
            (sym (other_said date m.cells (Tag row.tag) e))
            (same_kept timed before after alike kept_type row o (said_at m.cells (Tag row.tag)) s)
        by true e k =
            at_equal (λ t. IsSaid judge before row (said_at m.cells (Tag t))
            → IsSaid judge after row (said_at (completed m).cells (Tag t))) row.tag 200 e
            (λ s. subst (λ (said : Said). IsSaid judge after row said)
            (sym (month_said date m.cells month_there))
            (month_kept row o k date (said_at m.cells (Tag 200)) (alike.date ∙ at_date) clear s)) s

    items_kept : (items : List (Item Kind)) → list_all (is_ours timed) items ≡ true
        → AllByRecursion (IsItem judge before m) items
        → AllByRecursion (IsItem judge after (completed m)) items
    items_kept [] h s = tt
    items_kept (One row ∷ items) h s =
        let p = both (is_ours_row timed row) (list_all (is_ours timed) items) h in
        (row_kept row (ours timed row p.0) s.0, items_kept items p.1 s.1)
    items_kept (Party role ∷ items) h s =
        (other_said date m.cells (Role role) refl ∙ s.0, items_kept items h s.1)
    items_kept (Lines group ∷ items) h s = (s.0, items_kept items h s.1)

    -- COMPLETED, IT IS SOUND,
    pub completed_sound : list_all (is_ours timed) table.items ≡ true
        → IsSound judge table (completed m)
    completed_sound h = record {
      letter = sound.letter;
      places = same_places date m.cells ∙ sound.places;
      counts = sound.counts;
      items = items_kept table.items h sound.items;
    }

    twice : (d said : Said) → month_by d said ≡ month_by d (month_by d said)
    twice None said = refl
    twice (Some day) said = refl

    -- and says the month of its date.
    pub completed_month : HasMonthOfDate (completed m)
    completed_month =
        let same = other_said date m.cells (Tag 541) refl in
        let month = month_said date m.cells month_there in
        month ∙ twice date (said_at m.cells (Tag 200)) ∙ sym (λ i. month_by (same i) (month i))
