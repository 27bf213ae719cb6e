-- A value of a request of FIX 5.0 SP2 that is judged beside other fields is judged alike beside
-- fields that say the same date, and the same OrdType where TimeInForce asks for it.
use Rattle.std.proofs.Common.{◌≡◌, ℕ, List, [], ◌∷◌, Some, None, Bool, true, false, refl, sym, ap}
use Rattle.std.proofs.Common.{subst, ◌∙◌, codes, take}
use Rattle.std.specs.Prelude.{Ok, IfSome, not, ◌&&◌, ◌||◌, ◌==◌}
use Rattle.field_groups.specs.Field.{Field}
use Rattle.field_groups.specs.Data.{is_data_tag}
use Rattle.std.specs.List.{AllByRecursion}
use Rattle.message_tables.specs.Tables.{Verdict, Spells, Said, ◌>>=◌, value_at, text_of, is_listed}
use Rattle.message_tables.specs.Tables.{is_one_of}
use Rattle.value_kinds.specs.ValueKind.{ValueKind, OneByte, Code, Day, MonthYear, Spelling}
use Rattle.value_kinds.specs.ValueKind.{spelling, is_code, listed_word}
use Rattle.row_values.specs.Kinds.{Kind, Value, Byte, MonthBeside, TimeBeside, judge, verdict_of}
use Rattle.row_values.specs.Kinds.{filled, if_spelled, counted, date_at, month_beside, is_at_close}
use Rattle.sound_laws.specs.Sound.{IsClear}
use Rattle.sound_laws.proofs.Good.{held}
use Rattle.sound_laws.proofs.Each.{at_equal, both}
use Rattle.sound_laws.proofs.SpelledAgain.{clear_front, is_own, own_bytes, spelled_again}
use Rattle.sound_laws.proofs.PlainRows.{spelled, value_again, value_clear}
use Rattle.sound_laws.proofs.ReadSound.{IsClearField}
use Rattle.sound_laws.proofs.RowsSaid.{among, by_value, text_again}

-- The kinds of values; only a message that has OrdType has a time beside it.
abbrev pub ours_kind : Bool → Kind → Bool
ours_kind timed (Value kind) = true
ours_kind timed (Byte listed) = true
ours_kind timed (MonthBeside date) = date == 541
ours_kind timed (TimeBeside ord_type) = timed && (ord_type == 40)
ours_kind timed kind = false

abbrev at_market_or_limit : List Field → Bool
at_market_or_limit fields = is_listed (codes "12") (value_at 40 fields)

pub record AreAlike (timed : Bool) (before after : List Field) : Type 0 where
  pub date : date_at 541 after ≡ date_at 541 before
  pub ord_type : timed ≡ true → at_market_or_limit before ≡ true → at_market_or_limit after ≡ true

-- ---- a month beside a date

abbrev pub IsDay : List ℕ → Type 0
IsDay day = verdict_of (spelling Day day) ≡ Spells day

filled_month : (day : List ℕ) → IsDay day → filled (take 6 day) (Spells (take 6 day))
    ≡ Spells (take 6 day)
unfolding spelling
filled_month [] h = absurd cc
filled_month (b ∷ bs) h = refl

-- the date that a value says is a day
date_is_day : (value : Said)
    → IfSome (value >>= (λ text. text_of (verdict_of (spelling Day text)))) IsDay
date_is_day value = by_value IsDay (λ text. verdict_of (spelling Day text)) value
    (λ bytes day at. value_again Day bytes day)

-- the month of the date that fields say
pub month_of_date : (fields : List Field) (day : List ℕ) → date_at 541 fields ≡ Some day →
    judge fields (MonthBeside 541) (take 6 day) ≡ Spells (take 6 day)
unfolding judge
month_of_date fields day h =
    ap (λ (date : Said). filled (take 6 day) (month_beside date (take 6 day))) h
    ∙ filled_month day (rw h at (date_is_day (value_at 541 fields)))

filled_by : (bytes : List ℕ) (v : Verdict) (text : List ℕ)
    → filled bytes v ≡ Spells text → v ≡ Spells text
filled_by [] v text h = absurd cc
filled_by (b ∷ bs) v text h = h

if_spells : (s : Spelling) (text : List ℕ) → if_spelled s ≡ Spells text → s ≡ Ok (Some text)
if_spells (Ok (Some other)) text h = cc
if_spells other text h = absurd cc

filled_spelling : (text : List ℕ) → spelling MonthYear text ≡ Ok (Some text)
    → filled text (if_spelled (spelling MonthYear text)) ≡ Spells text
unfolding spelling
filled_spelling [] h = absurd cc
filled_spelling (b ∷ bs) h = ap if_spelled h

-- a month is that of the date, or is spelled so
abbrev IsMonth : Said → List ℕ → List ℕ → Type 0
IsMonth None bytes text = spelling MonthYear bytes ≡ Ok (Some text)
IsMonth (Some day) bytes text = take 6 day ≡ text

month_is : (date : Said) (bytes text : List ℕ)
    → filled bytes (month_beside date bytes) ≡ Spells text → IsMonth date bytes text
month_is None bytes text e =
    if_spells (spelling MonthYear bytes) text (filled_by bytes (month_beside None bytes) text e)
month_is (Some day) bytes text e =
    let told = filled_by bytes (Spells (take 6 day)) text e in cc

month_again : (after : List Field) (date : Said) → date_at 541 after ≡ date
    → (bytes text : List ℕ) → filled bytes (month_beside date bytes) ≡ Spells text
    → judge after (MonthBeside 541) text ≡ Spells text
unfolding judge
month_again after None a bytes text e =
    ap (λ (date : Said). filled text (month_beside date text)) a
    ∙ filled_spelling text (spelled_again MonthYear bytes text (month_is None bytes text e))
month_again after (Some day) a bytes text e =
    subst (λ (t : List ℕ). judge after (MonthBeside 541) t ≡ Spells t)
    (month_is (Some day) bytes text e) (month_of_date after day a)

-- ---- a time beside OrdType

pub counts : (good : Bool) (v : Verdict) (text : List ℕ)
    → counted good v ≡ Spells text → (good ≡ true) × (v ≡ Spells text)
counts true v text h = (refl, h)
counts false (Spells other) text h = absurd cc
counts false v text h = absurd cc

either_kept : (a b c : Bool) → (b ≡ true → c ≡ true) → (a || b) ≡ true → (a || c) ≡ true
either_kept true b c h e = refl
either_kept false b c h e = h e

-- a value that counts is its own spelling
pub own_counted : (good : Bool) (kind : ValueKind) → is_own kind ≡ true → (bytes text : List ℕ)
    → counted good (verdict_of (spelling kind bytes)) ≡ Spells text
    → (good ≡ true) × (text ≡ bytes)
own_counted good kind own bytes text e =
    let p = counts good (verdict_of (spelling kind bytes)) text e in
    (p.0, own_bytes kind bytes own text (spelled (spelling kind bytes) text p.1))

abbrev times : ValueKind
times = Code (codes "01234567")

time_again : (before after : List Field)
    → (at_market_or_limit before ≡ true → at_market_or_limit after ≡ true) →
    (bytes text : List ℕ) → judge before (TimeBeside 40) bytes ≡ Spells text
    → judge after (TimeBeside 40) text ≡ Spells text
unfolding judge
time_again before after kept bytes text e =
    let late = not (is_at_close bytes) in
    let p = own_counted (late || at_market_or_limit before) times refl bytes text e in
    let good =
    either_kept late (at_market_or_limit before) (at_market_or_limit after) kept p.0 in
    let P : List ℕ → Type 0 = λ t. counted (not (is_at_close t) || at_market_or_limit after)
    (verdict_of (spelling times t)) ≡ Spells text in
    subst P (sym p.1) (ap (λ (b : Bool). counted b (verdict_of (spelling times bytes)))
    (good ∙ sym p.0) ∙ e)

-- ---- each kind

byte_again : (listed bytes text : List ℕ) →
    counted (is_code listed bytes) (verdict_of (spelling OneByte bytes)) ≡ Spells text
    → counted (is_code listed text) (verdict_of (spelling OneByte text)) ≡ Spells text
byte_again listed bytes text e =
    let P : List ℕ → Type 0 =
    λ t. counted (is_code listed t) (verdict_of (spelling OneByte t)) ≡ Spells text in
    subst P (sym (own_counted (is_code listed bytes) OneByte refl bytes text e).1) e

module _ (timed : Bool) (before after : List Field) (alike : AreAlike timed before after) where
  -- A CANONICAL SPELLING IS JUDGED AGAIN.
  pub judged_again : (kind : Kind) → ours_kind timed kind ≡ true → (bytes text : List ℕ)
      → judge before kind bytes ≡ Spells text → judge after kind text ≡ Spells text
  unfolding judge
  judged_again (Value kind) h bytes text e = value_again kind bytes text e
  judged_again (Byte listed) h bytes text e = byte_again listed bytes text e
  judged_again (MonthBeside date) h bytes text e =
      at_equal (λ t. judge before (MonthBeside t) bytes ≡ Spells text
      → judge after (MonthBeside t) text ≡ Spells text) date 541 h
      (month_again after (date_at 541 before) alike.date bytes text) e
  judged_again (TimeBeside ord_type) h bytes text e =
      let parts = both timed (ord_type == 40) h in
      at_equal (λ t. judge before (TimeBeside t) bytes ≡ Spells text
      → judge after (TimeBeside t) text ≡ Spells text) ord_type 40 parts.1
      (time_again before after (alike.ord_type parts.0) bytes text) e
  judged_again other h bytes text e = absurd cc

-- ---- no SOH

bare_date : is_data_tag 541 ≡ false
unfolding is_data_tag
bare_date = refl

-- the date that fields say
pub clear_date : (fields : List Field)
    → AllByRecursion (IsClearField judge) fields → IfSome (date_at 541 fields) IsClear
clear_date fields clear =
    by_value IsClear (λ text. verdict_of (spelling Day text)) (value_at 541 fields)
    (λ bytes day at e. value_clear Day bytes day
    (held (IsClearField judge) 541 fields bytes at clear bare_date) e)

month_clear : (date : Said) (bytes text : List ℕ) → IfSome date IsClear → IsClear bytes
    → filled bytes (month_beside date bytes) ≡ Spells text → IsClear text
month_clear None bytes text day c e =
    value_clear MonthYear bytes text c (ap verdict_of (month_is None bytes text e))
month_clear (Some date) bytes text day c e =
    subst IsClear (month_is (Some date) bytes text e) (clear_front 6 date day)

module _ (timed : Bool) (fields : List Field)
    (clear : AllByRecursion (IsClearField judge) fields) where
  pub judged_clear : (kind : Kind) → ours_kind timed kind ≡ true → (bytes text : List ℕ)
      → IsClear bytes → judge fields kind bytes ≡ Spells text → IsClear text
  unfolding judge
  judged_clear (Value kind) h bytes text c e = value_clear kind bytes text c e
  judged_clear (Byte listed) h bytes text c e = value_clear OneByte bytes text c
      (counts (is_code listed bytes) (verdict_of (spelling OneByte bytes)) text e).1
  judged_clear (MonthBeside date) h bytes text c e =
      at_equal (λ t. judge fields (MonthBeside t) bytes ≡ Spells text → IsClear text) date 541 h
      (month_clear (date_at 541 fields) bytes text (clear_date fields clear) c) e
  judged_clear (TimeBeside ord_type) h bytes text c e = value_clear times bytes text c
      (counts (not (is_at_close bytes) || is_listed (codes "12") (value_at ord_type fields))
      (verdict_of (spelling times bytes)) text e).1
  judged_clear other h bytes text c e = absurd cc

-- ---- what fields that are read say again

abbrev pub date_said : List Field → Said
date_said fields = value_at 541 fields >>= (λ bytes. text_of (judge fields (Value Day) bytes))

abbrev pub type_said : List Field → Said
type_said fields =
    value_at 40 fields >>= (λ bytes. text_of (judge fields (Value (Code (codes "1234"))) bytes))

pub date_kept : (fields after : List Field)
    → value_at 541 after ≡ date_said fields → date_at 541 after ≡ date_at 541 fields
unfolding judge
date_kept fields after at =
    ap (λ (v : Said). v >>= (λ text. text_of (verdict_of (spelling Day text)))) at
    ∙ text_again (λ text. verdict_of (spelling Day text)) (date_at 541 fields)
    (date_is_day (value_at 541 fields))

type_listed : (byte : ℕ) → is_one_of (codes "12") byte ≡ true
    → is_listed (codes "12") (text_of (verdict_of (spelling (Code (codes "1234")) (byte ∷ []))))
    ≡ true
unfolding spelling
type_listed byte h =
    let listed : is_code (codes "1234") (byte ∷ []) ≡ true =
    among (codes "12") (codes "1234") byte refl h in
    ap (λ (b : Bool). is_listed (codes "12")
    (text_of (verdict_of (Ok (listed_word b (byte ∷ [])))))) listed ∙ h

pub type_kept : (fields after : List Field) → value_at 40 after ≡ type_said fields
    → is_listed (codes "12") (value_at 40 fields) ≡ true
    → is_listed (codes "12") (value_at 40 after) ≡ true
unfolding judge
type_kept fields after at h = ap (is_listed (codes "12")) at ∙ by (value_at 40 fields) h
  where
    by : (value : Said) → is_listed (codes "12") value ≡ true → is_listed (codes "12")
        (value >>= (λ bytes. text_of (verdict_of (spelling (Code (codes "1234")) bytes)))) ≡ true
    by (Some (b ∷ [])) e = type_listed b e
    by other e = absurd cc
