-- What the fields of a message at no fault say by the rows of its table.
use Rattle.std.proofs.Common.{◌≡◌, ℕ, List, [], ◌∷◌, Bool, true, false, Option, Some, None, Result}
use Rattle.std.proofs.Common.{Ok, Err, refl, sym, ap, ◌∙◌, codes, map}
use Rattle.std.specs.Prelude.{IsSome, nat_le, not, ◌||◌, ◌==◌, if◌then◌else◌}
use Rattle.std.specs.Int.{is_negative}
use Rattle.std.specs.List.{AllByRecursion, flat_map}
use Rattle.std.specs.Option.{option_map}
use Rattle.std.specs.Result.{result_ok}
use Rattle.typed_fields.specs.declared.fault.FieldFault.{FieldFault}
use Rattle.typed_fields.specs.declared.fault.FieldFault.TheVariants.{Range}
use Rattle.typed_fields.specs.Dec.{dec_text, read_dec}
use Rattle.typed_fields.specs.Number.{number_text, read_number}
use Rattle.typed_fields.specs.Stamp.{cut_text, read_fine}
use Rattle.field_groups.specs.Field.{Field}
use Rattle.message_tables.specs.Tables.{Need, Lenient, Fixed, Row, Table, Item, One, Verdict}
use Rattle.message_tables.specs.Tables.{Spells, Said, Cell, Tag, ◌>>=◌, all_rows, cells_of}
use Rattle.message_tables.specs.Tables.{is_listed, row_at, said_at, says, text_of, value_at}
use Rattle.message_tables.specs.FirstFault.{beyond, by_row as marked, first_fault, is_passed}
use Rattle.message_tables.specs.FirstFault.{mark_of, without_row, wrong}
use Rattle.message_tables.specs.Plain.{is_good}
use Rattle.message_tables.specs.declared.table_fault.Mark.{Mark}
use Rattle.message_tables.specs.TableLaws.{IsStrict}
use Rattle.message_tables.proofs.Clean.{spells}
use Rattle.value_kinds.specs.ValueKind.{ValueKind, Code, FineStamp, Price, Qty, Reason, if_in_range}
use Rattle.value_kinds.specs.ValueKind.{most_reason, spelling, spelt}
use Rattle.row_values.specs.Kinds.{Kind, TimeBeside, Value, is_at_close, judge, said, verdict_of}
use Rattle.sound_laws.proofs.Each.{both, each_by, each_same, not_true}
use Rattle.sound_laws.proofs.Good.{IsGood, all_good, held}
use Rattle.sound_laws.proofs.Judged50.{own_counted}
use Rattle.sound_laws.proofs.PlainRows.{spelled}
use Rattle.sound_laws.proofs.RowsSaid.{row_of_tag, tag_is}
use Rattle.sound_laws.proofs.SpelledAgain.{if_read, own_bytes}
use Rattle.rule_rows.specs.Texts.{AreRead, Facts, Has, OfKind, OfKinds, Own, Reading, decimal_text}
use Rattle.rule_rows.specs.Texts.{found, if_row, is_amount, is_any, is_kept, is_moment, is_own_kind}
use Rattle.rule_rows.specs.Texts.{is_reason, is_row, is_strict, is_unfixed, kept, kept_by}
use Rattle.rule_rows.specs.Texts.{number_of, wanted}

-- what fields say by a row
abbrev pub row_says : List Field → Option (Row Kind) → Said
row_says fields None = None
row_says fields (Some row) = says row.need (judge fields row.kind) (value_at row.tag fields)

-- ---- a value that is spelled

read_as : {A : Type 0} (write : A → List ℕ) (r : Result A FieldFault) (text : List ℕ)
    → verdict_of (spelt write r) ≡ Spells text → option_map write (result_ok r) ≡ Some text
read_as write (Ok x) text h = let same : write x ≡ text = cc in ap (λ t. Some t) same
read_as write (Err fault) text h = absurd cc

in_range : {A : Type 0} (write : A → List ℕ) (good : A → Bool) (r : Result A FieldFault)
    (text : List ℕ) → verdict_of (spelt write (if_in_range good r)) ≡ Spells text
    → option_map write (result_ok r) ≡ Some text
in_range write good (Err fault) text h = absurd cc
in_range write good (Ok x) text h =
    elim (good x) as (λ b. verdict_of (spelt write (if b then Ok x else Err Range)) ≡ Spells text
    → Some (write x) ≡ Some text)
    [ true ↦ λ h. read_as write (Ok x) text h | false ↦ λ h. absurd cc ] h

pub prices : (bytes text : List ℕ) → verdict_of (spelling Price bytes) ≡ Spells text
    → option_map dec_text (result_ok (read_dec bytes)) ≡ Some text
unfolding spelling
prices [] text h = absurd cc
prices (b ∷ bs) text h = read_as dec_text (read_dec (b ∷ bs)) text h

pub quantities : (bytes text : List ℕ) → verdict_of (spelling Qty bytes) ≡ Spells text
    → option_map dec_text (result_ok (read_dec bytes)) ≡ Some text
unfolding spelling
quantities [] text h = absurd cc
quantities (b ∷ bs) text h =
    in_range dec_text (λ d. not (is_negative d.units)) (read_dec (b ∷ bs)) text h

reasons : (bytes text : List ℕ) → verdict_of (spelling Reason bytes) ≡ Spells text
    → option_map number_text (result_ok (read_number bytes)) ≡ Some text
unfolding spelling
reasons [] text h = absurd cc
reasons (b ∷ bs) text h =
    in_range number_text (λ n. nat_le n.value most_reason) (read_number (b ∷ bs)) text h

moments : (bytes text : List ℕ) → verdict_of (spelling FineStamp bytes) ≡ Spells text
    → cut_text bytes ≡ text
unfolding spelling
moments [] text h = absurd cc
moments (b ∷ bs) text h = sym (if_read (read_fine (b ∷ bs)) (cut_text (b ∷ bs)) text
    (spelled (spelt (λ _. cut_text (b ∷ bs)) (read_fine (b ∷ bs))) text h))

-- ---- a value that is judged

texts : (fields : List Field) (kind : Kind) (bytes text : List ℕ) → is_own_kind kind ≡ true
    → judge fields kind bytes ≡ Spells text → ◌≡◌ {A = Said} (Some bytes) (Some text)
unfolding judge
texts fields (Value kind) bytes text own h = ap (λ (t : List ℕ). Some t)
    (sym (own_bytes kind bytes own text (spelled (spelling kind bytes) text h)))
texts fields kind bytes text own h = absurd cc

amounts : (fields : List Field) (kind : Kind) (bytes text : List ℕ) → is_amount kind ≡ true
    → judge fields kind bytes ≡ Spells text
    → option_map dec_text (result_ok (read_dec bytes)) ≡ Some text
unfolding judge
amounts fields (Value Qty) bytes text is h = quantities bytes text h
amounts fields (Value Price) bytes text is h = prices bytes text h
amounts fields kind bytes text is h = absurd cc

cut_moments : (fields : List Field) (kind : Kind) (bytes text : List ℕ) → is_moment kind ≡ true
    → judge fields kind bytes ≡ Spells text → ◌≡◌ {A = Said} (Some (cut_text bytes)) (Some text)
unfolding judge
cut_moments fields (Value FineStamp) bytes text is h =
    ap (λ (t : List ℕ). Some t) (moments bytes text h)
cut_moments fields kind bytes text is h = absurd cc

all_reasons : (fields : List Field) (kind : Kind) (bytes text : List ℕ) → is_reason kind ≡ true
    → judge fields kind bytes ≡ Spells text
    → option_map number_text (result_ok (read_number bytes)) ≡ Some text
unfolding judge
all_reasons fields (Value Reason) bytes text is h = reasons bytes text h
all_reasons fields kind bytes text is h = absurd cc

-- ---- a row

-- WHAT A MESSAGE SAYS at a tag is what its fields say by the row of the tag
pub said_is : (fields : List Field) (groups : List (ℕ × List (List Cell))) (tag : ℕ)
    (items : List (Item Kind))
    → said_at (flat_map (cells_of judge fields groups) items) (Tag tag)
    ≡ row_says fields (row_of_tag tag items)
said_is fields groups tag [] = refl
said_is fields groups tag (One row ∷ items) =
    elim (row.tag == tag) as (λ b.
    (if b then says row.need (judge fields row.kind) (value_at row.tag fields)
    else said_at (flat_map (cells_of judge fields groups) items) (Tag tag))
    ≡ row_says fields (if b then Some row else row_of_tag tag items))
    [ true ↦ refl | false ↦ said_is fields groups tag items ]
said_is fields groups tag (item ∷ items) = said_is fields groups tag items

abbrev times : ValueKind
times = Code (codes "01234567")

-- ---- fields at no fault

module _ (table : Table Kind) (fields : List Field) (none : first_fault judge table fields ≡ None)
  where
    strict_is : (tag : ℕ) (kind : Kind) (need : Need) → IsStrict need
        → row_at tag (all_rows table) ≡ Some (record { tag = tag; kind = kind; need = need })
        → (bytes : List ℕ) → value_at tag fields ≡ Some bytes
        → IsSome (text_of (judge fields kind bytes))
    strict_is tag kind need strict its bytes at =
        let good = held (IsGood judge table fields) tag fields bytes at
        (all_good judge table fields none) in
        spells judge table fields need tag (judge fields kind bytes) strict
        (rw its at good.0) (rw its at good.1)

    -- WHAT IS READ of a text, where the row of its tag is strict and each value that is spelled is
    -- read so
    read_is : (test : Kind → Bool) (read : Said → Said) → read None ≡ None
        → ((kind : Kind) (bytes text : List ℕ) → test kind ≡ true
        → judge fields kind bytes ≡ Spells text → read (Some bytes) ≡ Some text)
        → (tag : ℕ) (kind : Kind) (need : Need)
        → row_at tag (all_rows table) ≡ Some (record { tag = tag; kind = kind; need = need })
        → is_row is_strict test (record { tag = tag; kind = kind; need = need }) ≡ true
        → read (value_at tag fields) ≡ says need (judge fields kind) (value_at tag fields)
    read_is test read nothing each tag kind need its t =
        by need its (both (is_strict need) (test kind) t).0 (value_at tag fields) refl
      where
        spelled_as : (bytes : List ℕ) (v : Verdict) → judge fields kind bytes ≡ v
            → IsSome (text_of v) → read (Some bytes) ≡ text_of v
        spelled_as bytes (Spells text) e some =
            each kind bytes text (both (is_strict need) (test kind) t).1 e
        spelled_as bytes other e some = absurd cc

        by : (n : Need)
            → row_at tag (all_rows table) ≡ Some (record { tag = tag; kind = kind; need = n })
            → is_strict n ≡ true → (o : Said) → value_at tag fields ≡ o
            → read o ≡ says n (judge fields kind) o
        by Lenient its strict o at = absurd cc
        by (Fixed text) its strict o at = absurd cc
        by n its strict None at = nothing
        by n its strict (Some bytes) at = spelled_as bytes (judge fields kind bytes) refl
            (strict_is tag kind n refl its bytes at)

-- ---- a value of the profile

module _ (fields : List Field) where
  kept_text : (kind : Kind) (bytes text : List ℕ) → is_kept kind ≡ true
      → judge fields kind bytes ≡ Spells text → text ≡ bytes
  unfolding judge
  kept_text (TimeBeside ord_type) bytes text own h =
      (own_counted (not (is_at_close bytes) || is_listed (codes "12") (value_at ord_type fields))
      times refl bytes text h).1
  kept_text (Value kind) bytes text own h =
      own_bytes kind bytes own text (spelled (spelling kind bytes) text h)
  kept_text kind bytes text own h = absurd cc

  -- what is kept is what the fields say
  pub kept_is : (tag : ℕ) (kind : Kind) → is_kept kind ≡ true
      → kept fields tag kind ≡ said fields tag kind
  kept_is tag kind own = at (value_at tag fields)
    where
      by : (bytes : List ℕ) (v : Verdict) → judge fields kind bytes ≡ v
          → (if is_good (mark_of v) then Some bytes else None) ≡ text_of v
      by bytes (Spells text) e = ap (λ (t : List ℕ). Some t) (sym (kept_text kind bytes text own e))
      by bytes other e = refl

      at : (o : Said) → (o >>= kept_by fields kind)
          ≡ (o >>= (λ bytes. text_of (judge fields kind bytes)))
      at None = refl
      at (Some bytes) = by bytes (judge fields kind bytes) refl

-- what always is said besides is fixed
pub unfixed_says : (need : Need) (j : List ℕ → Verdict) (value : Option (List ℕ))
    → is_unfixed need ≡ true → says need j value ≡ (value >>= (λ bytes. text_of (j bytes)))
unfixed_says (Fixed text) j value h = absurd cc
unfixed_says need j value h = refl

-- ---- WHAT THE CODE READS by the rows of a table is what a message says there

module _ (table : Table Kind) (fields : List Field) (none : first_fault judge table fields ≡ None)
  where
    -- a tag that has no row, in a table where each field has one, has no field
    none_there : (tag : ℕ) → row_at tag (all_rows table) ≡ None → is_passed table tag ≡ false
        → value_at tag fields ≡ None
    none_there tag absent out = by (value_at tag fields) refl
      where
        bad : (b : List ℕ) → wrong (tag, without_row false b) ≡ None
            → beyond (tag, without_row false b) ≡ None → ⊥
        bad [] w o = absurd cc
        bad (byte ∷ bytes) w o = absurd cc

        by : (o : Said) → value_at tag fields ≡ o → o ≡ None
        by None there = refl
        by (Some bytes) there =
            let good = held (IsGood judge table fields) tag fields bytes there
            (all_good judge table fields none) in
            let mark : marked judge (is_passed table tag) fields bytes
            (row_at tag (all_rows table)) ≡ without_row false bytes =
            λ i. marked judge (out i) fields bytes (absent i) in
            absurd (bad bytes (sym (ap (λ (m : Mark). wrong (tag, m)) mark) ∙ good.0)
            (sym (ap (λ (m : Mark). beyond (tag, m)) mark) ∙ good.1))

module _ (apart : ℕ → Bool) (table : Table Kind) (fields : List Field)
    (none : first_fault judge table fields ≡ None) (at : ℕ → Said)
    (at_row : (tag : ℕ) → apart tag ≡ false
    → at tag ≡ row_says fields (row_of_tag tag table.items)) where
  by_kinds : (test : Kind → Bool) (read : Said → Said) → read None ≡ None
      → ((kind : Kind) (bytes text : List ℕ) → test kind ≡ true
      → judge fields kind bytes ≡ Spells text → read (Some bytes) ≡ Some text)
      → (tag : ℕ) → Has apart table (OfKinds test tag) → read (value_at tag fields) ≡ at tag
  by_kinds test read nothing each tag has =
      by (row_of_tag tag table.items) refl (ap (λ (f : Facts). f.2) has)
      ∙ sym (at_row tag (ap (λ (f : Facts). f.3) has))
    where
      own : row_at tag (all_rows table) ≡ row_of_tag tag table.items
      own = ap (λ (f : Facts). f.0) has

      by : (o : Option (Row Kind)) → row_of_tag tag table.items ≡ o
          → if_row (not (is_passed table tag)) (is_row is_strict test) o ≡ true
          → read (value_at tag fields) ≡ row_says fields o
      by None e t = ap read (none_there table fields none tag (own ∙ e)
          (not_true (is_passed table tag) t)) ∙ nothing
      by (Some row) e t =
          let is : row.tag ≡ tag = tag_is tag table.items row e in
          ap (λ (n : ℕ). read (value_at n fields)) (sym is)
          ∙ read_is table fields none test read nothing each row.tag row.kind row.need
          (ap (λ (n : ℕ). row_at n (all_rows table)) is ∙ own ∙ e) t

  pub text_said : (tag : ℕ) → Has apart table (Own tag) → value_at tag fields ≡ at tag
  text_said = by_kinds is_own_kind (λ said. said) refl (texts fields)

  pub decimal_said : (tag : ℕ) → Has apart table (OfKinds is_amount tag)
      → decimal_text (value_at tag fields) ≡ at tag
  decimal_said = by_kinds is_amount decimal_text refl (amounts fields)

  pub moment_said : (tag : ℕ) → Has apart table (OfKinds is_moment tag)
      → option_map cut_text (value_at tag fields) ≡ at tag
  moment_said = by_kinds is_moment (option_map cut_text) refl (cut_moments fields)

  pub reason_said : (tag : ℕ) → Has apart table (OfKinds is_reason tag)
      → at tag ≡ option_map number_text (number_of (value_at tag fields))
  reason_said tag has = sym (by_kinds is_reason
      (λ said. option_map number_text (number_of said)) refl (all_reasons fields) tag has)

  -- a value by its very kind
  record SaidBy (test : Kind → Bool) (kind : Kind) (tag : ℕ) : Type 0 where
    says : said fields tag kind ≡ at tag
    is : test kind ≡ true

  by_kind : (test : Kind → Bool) (kind : Kind) (tag : ℕ) → Has apart table (OfKind test kind tag)
      → SaidBy test kind tag
  by_kind test kind tag has =
      by (row_of_tag tag table.items) refl (ap (λ (f : Facts). f.1) has)
      (ap (λ (f : Facts). f.2) has)
    where
      by : (o : Option (Row Kind)) → row_of_tag tag table.items ≡ o
          → option_map (λ row. row.kind) o ≡ Some kind
          → if_row false (is_row is_unfixed test) o ≡ true → SaidBy test kind tag
      by None e k t = absurd cc
      by (Some row) e k t =
          let same : row.kind ≡ kind = cc in
          let tagged : row.tag ≡ tag = tag_is tag table.items row e in
          let p = both (is_unfixed row.need) (test row.kind) t in
          record {
            says = (λ i. said fields (sym tagged i) (sym same i))
                ∙ sym (unfixed_says row.need (judge fields row.kind) (value_at row.tag fields) p.0)
                ∙ ap (row_says fields) (sym e) ∙ sym (at_row tag (ap (λ (f : Facts). f.3) has));
            is = ap test (sym same) ∙ p.1;
          }

  pub kind_said : (kind : Kind) (tag : ℕ) → Has apart table (OfKind is_any kind tag)
      → said fields tag kind ≡ at tag
  kind_said kind tag has = (by_kind is_any kind tag has).says

  pub kept_said : (kind : Kind) (tag : ℕ) → Has apart table (OfKind is_kept kind tag)
      → kept fields tag kind ≡ at tag
  kept_said kind tag has = let by = by_kind is_kept kind tag has in
      kept_is fields tag kind by.is ∙ by.says

-- ---- the readings of each rule

module _ {Rule : Type 0} (apart : ℕ → Bool) (table : Table Kind) (reading : Rule → List Reading)
  where
    abbrev pub IsRead : Rule → Type 0
    IsRead rule = AllByRecursion (Has apart table) (reading rule)

    pub each_read : (rules : List Rule) → AreRead apart table reading rules
        → AllByRecursion IsRead rules
    each_read rules has = each_by _ IsRead
        (λ rule same. each_same (found apart table) (wanted apart table) (reading rule) same) rules
        (each_same (λ rule. map (found apart table) (reading rule))
        (λ rule. map (wanted apart table) (reading rule)) rules has)
