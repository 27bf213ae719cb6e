-- Rows and groups that are carried, up to the newer version or down to the older one: what they
-- become, and that this says what they said.
use Rattle.std.proofs.Common.{◌≡◌, ℕ, List, [], ◌∷◌, Bool, true, false, Some, None, refl, sym, ap}
use Rattle.std.proofs.Common.{subst, map}
use Rattle.std.specs.Prelude.{IsSome, IfSome}
use Rattle.std.specs.List.{AllByRecursion, list_all}
use Rattle.field_groups.specs.Field.{Field}
use Rattle.message_tables.specs.Content.{line_fields}
use Rattle.message_tables.specs.Tables.{Need, Optional, Lenient, Fixed, When, Row, Cell, Said}
use Rattle.message_tables.specs.Tables.{Spells, is_needed, is_one_of}
use Rattle.value_kinds.specs.ValueKind.{Code, Codes, FineStamp, Known, Stamp, Word, known, spelling}
use Rattle.row_values.specs.Kinds.{Kind, Value, MonthBeside, judge, verdict_of}
use Rattle.sound_laws.specs.Sound.{AreSaid, IsClear, IsLine, IsSaid}
use Rattle.sound_laws.proofs.Each.{both, each_by}
use Rattle.sound_laws.proofs.PlainRows.{spelled}
use Rattle.sound_laws.proofs.RowsSaid.{IsCodeOf, code_spelled, free_said}
use Rattle.sound_laws.proofs.SpelledAgain.{fine_down, fine_up, if_good}
use Rattle.rule_rows.specs.Texts.{is_unfixed}
use Rattle.rule_rows.proofs.Items.{can_go, is_plain, is_value}
use Rattle.typed_fields.specs.declared.fault.FieldFault.TheVariants.{Range}

-- ---- what a row becomes

-- what the newer version drops where it is outside the profile
abbrev pub is_dropped : Kind → Bool
is_dropped (Value (Code listed)) = true
is_dropped (Value (Codes listed)) = true
is_dropped (Value (Word listed)) = true
is_dropped (MonthBeside date) = true
is_dropped kind = false

abbrev pub need_by : Need → (up dropped : Bool) → Need
need_by Optional true true = Lenient
need_by Lenient false dropped = Optional
need_by need up dropped = need

-- a code that has to be known is one of these, and a moment of the newer version is a fine one
abbrev pub kind_by : Kind → (up : Bool) → Kind
kind_by (Value (Known listed)) false = Value (Code listed)
kind_by (Value Stamp) true = Value FineStamp
kind_by (Value FineStamp) false = Value Stamp
kind_by kind up = kind

abbrev pub carried : Bool → ℕ → Row Kind → Row Kind
carried up to row = record {
  tag = to;
  kind = kind_by row.kind up;
  need = need_by row.need up (is_dropped row.kind);
}

abbrev pub carried_rows : Bool → List (Row Kind) → List (Row Kind)
carried_rows up rows = map (λ row. carried up row.tag row) rows

abbrev pub all_can_go : List (Row Kind) → Bool
all_can_go rows = list_all can_go rows

-- ---- codes that have to be known, and moments

pub is_known_of : (fields : List Field) (listed text : List ℕ)
    → judge fields (Value (Known listed)) text ≡ Spells text → IsCodeOf listed text
unfolding judge spelling
is_known_of fields listed [] h = absurd cc
is_known_of fields listed (code ∷ []) h =
    let known = known (is_one_of listed code) (code ∷ []) in record {
      code = code;
      is = refl;
      listed = (if_good (is_one_of listed code) Range (code ∷ []) (code ∷ [])
          (spelled known (code ∷ []) h)).0;
    }
is_known_of fields listed (a ∷ b ∷ text) h = absurd cc

module _ (before after : List Field) where
  abbrev Spelled : List Field → Kind → Said → Type 0
  Spelled fields kind said = IfSome said (λ text. judge fields kind text ≡ Spells text)

  known_down : (listed text : List ℕ) → judge before (Value (Known listed)) text ≡ Spells text
      → judge after (Value (Code listed)) text ≡ Spells text
  known_down listed text h =
      let t = is_known_of before listed text h in
      let P : List ℕ → Type 0 = λ x. judge after (Value (Code listed)) x ≡ Spells x in
      subst P (sym t.is) (code_spelled after listed t.code t.listed)

  -- A VALUE THAT IS CARRIED, and judged by itself
  pub value_carried : (up : Bool) (kind : Kind) → is_value kind ≡ true → (said : Said)
      → Spelled before kind said → Spelled after (kind_by kind up) said
  unfolding judge
  value_carried up kind v None h = tt
  value_carried false (Value (Known listed)) v (Some text) h = known_down listed text h
  value_carried true (Value Stamp) v (Some text) h =
      ap verdict_of (fine_up text (spelled (spelling Stamp text) text h))
  value_carried false (Value FineStamp) v (Some text) h =
      ap verdict_of (fine_down text text (spelled (spelling FineStamp text) text h))
  value_carried up (Value kind) v (Some text) h = h
  value_carried up kind v (Some text) h = absurd cc

-- A ROW WHOSE NEED IS CARRIED says what has a canonical spelling, and stands where it is needed
pub need_said : (fields : List Field) (need : Need) (up dropped : Bool) (to : ℕ) (kind : Kind)
    (said : Said) → is_unfixed need ≡ true → (is_needed need fields ≡ true → IsSome said)
    → IfSome said (λ text. judge fields kind text ≡ Spells text) → IfSome said IsClear
    → IsSaid judge fields (record { tag = to; kind = kind; need = need_by need up dropped }) said
need_said fields (Fixed text) up dropped to kind said u there s c = absurd cc
need_said fields Optional true true to kind said u there s c =
    free_said fields _ said there refl s c
need_said fields Lenient false dropped to kind said u there s c =
    free_said fields _ said there refl s c
need_said fields need up dropped to kind said u there s c = free_said fields _ said there refl s c

-- ---- rows and lines

-- a need by no other field
plain_need : (need : Need) → is_plain need ≡ true → (before after : List Field)
    → (is_unfixed need ≡ true) × (is_needed need after ≡ true → is_needed need before ≡ true)
plain_need (Fixed text) h before after = absurd cc
plain_need (When condition) h before after = absurd cc
plain_need need h before after = (refl, λ n. n)

module _ (up : Bool) where
  -- A ROW THAT IS CARRIED
  pub row_carried : (before after : List Field) (to : ℕ) (row : Row Kind) (said : Said)
      → can_go row ≡ true → IsSaid judge before row said
      → IsSaid judge after (carried up to row) said
  row_carried before after to row said ok h =
      let p = both (is_value row.kind) (is_plain row.need) ok in
      let need = plain_need row.need p.1 before after in
      need_said after row.need up (is_dropped row.kind) to (kind_by row.kind up) said need.0
      (λ n. h.needed (need.1 n)) (value_carried before after up row.kind p.0 said h.spelled) h.clear

  cells_carried : (fields : List Field) (rows : List (Row Kind)) (cells : List Cell)
      → all_can_go rows ≡ true → AreSaid judge fields rows cells
      → AreSaid judge fields (carried_rows up rows) cells
  cells_carried fields [] [] ok said = tt
  cells_carried fields (row ∷ rows) (cell ∷ cells) ok said =
      let p = both (can_go row) (all_can_go rows) ok in (
        said.0,
        row_carried fields fields row.tag row cell.1 p.0 said.1,
        cells_carried fields rows cells p.1 said.2,
      )
  cells_carried fields rows cells ok said = absurd said

  -- THE LINES of a group that is carried
  pub lines_carried : (rows : List (Row Kind)) (lines : List (List Cell)) → all_can_go rows ≡ true
      → AllByRecursion (IsLine judge rows) lines
      → AllByRecursion (IsLine judge (carried_rows up rows)) lines
  lines_carried rows lines ok = each_by (IsLine judge rows) (IsLine judge (carried_rows up rows))
      (λ line. cells_carried (line_fields line) rows line ok) lines
