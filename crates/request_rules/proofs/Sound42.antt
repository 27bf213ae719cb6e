-- What is read of the fields of a request of FIX 4.2 is a sound message.
use Rattle.std.proofs.Common.{◌≡◌, ℕ, List, [], ◌∷◌, Some, None, Bool, true, false, refl, sym, ap}
use Rattle.std.proofs.Common.{◌∙◌}
use Rattle.std.specs.Prelude.{Ok, Err, not, ◌==◌}
use Rattle.std.specs.Result.{result_ok}
use Rattle.std.specs.List.{AllByRecursion, list_all}
use Rattle.typed_fields.specs.MonthYear.{read_month_year}
use Rattle.value_kinds.specs.ValueKind.{MonthYear, DayOfMonth, spelling, spelt}
use Rattle.field_groups.specs.Field.{Field}
use Rattle.field_groups.specs.Data.{is_data_tag}
use Rattle.message_tables.specs.Tables.{Spells, Need, Required, Optional, When, Stands, Row}
use Rattle.message_tables.specs.Tables.{Table, Message, Said, ◌>>=◌, has_tag, value_at, is_needed}
use Rattle.message_tables.specs.Tables.{text_of, said_at, Tag}
use Rattle.message_tables.specs.FirstFault.{message_in}
use Rattle.message_tables.specs.Content.{content}
use Rattle.message_tables.proofs.Clean.{stands, value_at-none}
use Rattle.row_values.specs.Kinds.{Kind, Value, DayOf, judge, verdict_of, month_at, in_month}
use Rattle.dict_fix42.specs.Message.{message42}
use Rattle.dict_fix42.specs.Requests.{asked42}
use Rattle.first_faults.specs.Faults.{message_by}
use Rattle.sound_laws.specs.Sound.{IsClear, IsSound}
use Rattle.sound_laws.proofs.CompletedSound.{kept_test}
use Rattle.sound_laws.proofs.Each.{all_true, at_equal, not_true}
use Rattle.sound_laws.proofs.ContentValues.{is_alone, value_said}
use Rattle.sound_laws.proofs.PlainRows.{of_message, read_tests, tests_sound, unfixed, value_again}
use Rattle.sound_laws.proofs.PlainRows.{value_clear}
use Rattle.sound_laws.proofs.ReadSound.{IsClearField, IsStableRow}
use Rattle.order_meaning.specs.Request.{RequestKind, New}
use Rattle.request_rules.specs.Up.{IsRequest42}
use Rattle.request_rules.proofs.ByType.{by_type}
use Rattle.request_rules.proofs.DatesUp.{day_in}

-- ---- the values of FIX 4.2

-- the needs and kinds of the rows of FIX 4.2
abbrev ours_need : Need → Bool
ours_need Required = true
ours_need Optional = true
ours_need (When ((Stands tag ∷ []) ∷ [])) = tag == 205
ours_need need = false

abbrev ours_kind : Kind → Bool
ours_kind (Value kind) = true
ours_kind (DayOf month) = month == 200
ours_kind kind = false

abbrev ours_tests : Row Kind → List Bool
ours_tests row = not (is_data_tag row.tag) ∷ ours_need row.need ∷ ours_kind row.kind ∷ []

abbrev is_ours_row : Row Kind → Bool
is_ours_row row = list_all (λ b. b) (ours_tests row)

-- ---- a table

module _ (table : Table Kind) (fields : List Field) where
  abbrev m : Message
  m = message_in judge table fields

  abbrev after : List Field
  after = content table m

  module _ (same_month : month_at 200 after ≡ month_at 200 fields)
      (same_day : has_tag 205 after ≡ true → has_tag 205 fields ≡ true) where
    kept_need : (need : Need)
        → ours_need need ≡ true → is_needed need after ≡ true → is_needed need fields ≡ true
    kept_need (When ((Stands tag ∷ []) ∷ [])) h n =
        at_equal (λ t. is_needed (When ((Stands t ∷ []) ∷ [])) after ≡ true
        → is_needed (When ((Stands t ∷ []) ∷ [])) fields ≡ true) tag 205 h
        (kept_test (has_tag 205 after) (has_tag 205 fields) same_day) n
    kept_need (When condition) h n = absurd cc
    kept_need need h n = n

    ours_again : (kind : Kind) → ours_kind kind ≡ true → (bytes text : List ℕ)
        → judge fields kind bytes ≡ Spells text → judge after kind text ≡ Spells text
    unfolding judge
    ours_again (Value kind) h bytes text e = value_again kind bytes text e
    ours_again (DayOf month) h bytes text e =
        let read = verdict_of (spelling DayOfMonth bytes) in
        let first = (day_in (month_at month fields) read text e).0 in
        ap (λ mo. in_month mo (verdict_of (spelling DayOfMonth text)))
        (at_equal (λ t. month_at t after ≡ month_at t fields) month 200 h same_month)
        ∙ ap (in_month (month_at month fields))
        (value_again DayOfMonth bytes text first ∙ sym first) ∙ e
    ours_again other h bytes text e = absurd cc

    ours_clear : (kind : Kind) → ours_kind kind ≡ true → (bytes text : List ℕ)
        → IsClear bytes → judge fields kind bytes ≡ Spells text → IsClear text
    unfolding judge
    ours_clear (Value kind) h bytes text c e = value_clear kind bytes text c e
    ours_clear (DayOf month) h bytes text c e = value_clear DayOfMonth bytes
        text c (day_in (month_at month fields) (verdict_of (spelling DayOfMonth bytes)) text e).0
    ours_clear other h bytes text c e = absurd cc

    stable_row : (row : Row Kind) → is_ours_row row ≡ true → IsStableRow judge table fields row
    stable_row row h = let o = all_true (λ b. b) (ours_tests row) h in record {
      kept = kept_need row.need o.1.0;
      spelled = λ bytes text at e. ours_again row.kind o.1.1.0 bytes text e;
      clear = ours_clear row.kind o.1.1.0;
      fixed = λ text e. absurd (unfixed ours_need (λ other. refl) row.need o.1.0 text e);
      bare = not_true (is_data_tag row.tag) o.0;
    }

-- ---- the month and the day of the content are those of the fields

abbrev month_said : List Field → Said
month_said fields =
    value_at 200 fields >>= (λ bytes. text_of (judge fields (Value MonthYear) bytes))

month_read : (bytes : List ℕ) → text_of (verdict_of (spelling MonthYear bytes))
    >>= (λ t. result_ok (read_month_year t)) ≡ result_ok (read_month_year bytes)
unfolding spelling
month_read [] = refl
month_read bytes =
    elim (read_month_year bytes) as (λ r. read_month_year bytes ≡ r
    → text_of (verdict_of (spelt (λ _. bytes) r)) >>= (λ t. result_ok (read_month_year t))
    ≡ result_ok r) [ Ok x ↦ λ e. ap result_ok e | Err fault ↦ λ e. refl ] refl

month_same : (value : Said) → (value >>= (λ bytes. text_of (verdict_of (spelling MonthYear bytes))))
    >>= (λ t. result_ok (read_month_year t)) ≡ value >>= (λ t. result_ok (read_month_year t))
month_same None = refl
month_same (Some bytes) = month_read bytes

abbrev day_said : List Field → Said
day_said fields = value_at 205 fields >>= (λ bytes. text_of (judge fields (DayOf 200) bytes))

module _ (fields after : List Field) where
  same_month_by : value_at 200 after ≡ month_said fields → month_at 200 after ≡ month_at 200 fields
  unfolding judge
  same_month_by at = ap (λ (v : Said). v >>= (λ t. result_ok (read_month_year t))) at
      ∙ month_same (value_at 200 fields)

  same_day_by : value_at 205 after ≡ day_said fields
      → has_tag 205 after ≡ true → has_tag 205 fields ≡ true
  same_day_by at there = by (has_tag 205 fields) refl
    where
      by : (b : Bool) → has_tag 205 fields ≡ b → b ≡ true
      by true e = refl
      by false e =
          let s = stands 205 after there in
          let none : value_at 205 after ≡ None = at ∙ rw (value_at-none 205 fields e) refl in
          absurd (let no : Some s.value ≡ None = sym s.first ∙ none in cc)

-- ---- the four messages

module _ (fields : List Field) (clear : AllByRecursion (IsClearField judge) fields) where
  -- what is read by a table
  table_read : (t : Table Kind) → list_all (λ b. b) (read_tests is_ours_row t) ≡ true
      → is_alone 200 t.items ≡ true → is_alone 205 t.items ≡ true
      → said_at (message_in judge t fields).cells (Tag 200) ≡ month_said fields
      → said_at (message_in judge t fields).cells (Tag 205) ≡ day_said fields
      → (x : Message) → message_by (Some t) fields None ≡ Ok x → IsSound judge t x
  table_read t passed month day month_is day_is =
      let m = message_in judge t fields in
      of_message t fields (IsSound judge t) (tests_sound t fields is_ours_row
      (all_true (λ b. b) (read_tests is_ours_row t) passed) (λ groups. stable_row t fields
      (same_month_by fields (content t m) (value_said judge m 200 t.items month groups ∙ month_is))
      (same_day_by fields (content t m) (value_said judge m 205 t.items day groups ∙ day_is)))
      clear)

  each : (x : Message) (kind : RequestKind) → message_by (Some (asked42 kind)) fields None ≡ Ok x
      → IsRequest42 x
  unfolding is_data_tag
  each x New e =
      record { kind = New; sound = table_read (asked42 New) refl refl refl refl refl x e }
  each x kind e =
      record { kind = kind; sound = table_read (asked42 kind) refl refl refl refl refl x e }

  -- WHAT IS READ IS SOUND.
  pub read_is_sound : (msg_type : List ℕ) (x : Message)
      → message42 msg_type fields None ≡ Ok x → IsRequest42 x
  unfolding message42
  read_is_sound msg_type x e =
      by_type (λ t of42 of50. message_by of42 fields None ≡ Ok x → IsRequest42 x)
      (λ t no. absurd cc) (each x) msg_type e
