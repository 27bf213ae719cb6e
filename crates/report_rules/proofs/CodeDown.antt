-- What the code writes by a kind of rule of its own is what the rule writes of the message that was
-- read, and it lacks what that lacks.
use Rattle.std.proofs.Common.{◌≡◌, ℕ, [], ◌∷◌, ◌++◌, Bool, true, false, Option, Some}
use Rattle.std.proofs.Common.{None, refl, sym, ap, ◌∙◌, codes, option_map}
use Rattle.std.proofs.Common.{List}
use Rattle.std.specs.Prelude.{IfSome, drop, ◌==◌, ◌&&◌, not, is_some, unwrap_or, if◌then◌else◌}
use Rattle.std.specs.Prelude.{Ok, Err}
use Rattle.std.specs.Result.{result_ok}
use Rattle.typed_fields.specs.declared.number.Number.{Number}
use Rattle.typed_fields.specs.Number.{IsNumber, number_text, read_number}
use Rattle.typed_fields.proofs.NumberLaws.{number_in_bound}
use Rattle.field_groups.specs.Field.{Field}
use Rattle.field_groups.specs.HeadValues.{number_in}
use Rattle.message_tables.specs.Content.{cell_fields}
use Rattle.message_tables.specs.Tables.{Message, Said, Table, Tag, ◌>>=◌, code_of, is_one_of}
use Rattle.message_tables.specs.Tables.{value_at}
use Rattle.value_kinds.specs.ValueKind.{code_text}
use Rattle.row_values.specs.Kinds.{Kind}
use Rattle.order_meaning.specs.Report.{or_known}
use Rattle.rows_fix50.specs.Meaning.{id_of}
use Rattle.reports_fix50.specs.Sense.{reason_told, telling}
use Rattle.sound_laws.proofs.Each.{none_there, not_true}
use Rattle.sound_laws.proofs.GroupStage.{number_said}
use Rattle.sound_laws.proofs.RowsSaid.{row_of_tag}
use Rattle.rule_rows.specs.ByRules.{lack_if, rule_fields}
use Rattle.rule_rows.specs.Texts.{Facts, Has, OfKind, OfKinds, Own as OwnText, is_kept}
use Rattle.rule_rows.specs.Texts.{is_reason, kept, number_of as number_read}
use Rattle.rule_rows.proofs.FieldsSaid.{IsRead, decimal_said, kept_said, reason_said, row_says}
use Rattle.rule_rows.proofs.FieldsSaid.{text_said}
use Rattle.rule_rows.specs.declared.rules.Rule.TheVariants as carried
use Rattle.rule_rows.specs.CodeRules.{table_of}
use Rattle.rule_rows.proofs.Written.{AreSaid, Goes, moved}
use Rattle.report_rules.specs.declared.rules.Own.{Own as CodeOwn}
use Rattle.report_rules.specs.declared.rules.Own.TheVariants as rules
use Rattle.report_rules.specs.declared.source.Codes.{Codes}
use Rattle.report_rules.specs.CodeRules.{Source, close_code, code, has_row, is_month, known_of}
use Rattle.report_rules.specs.CodeRules.{lacks, month, number_of, numbered, reading, rule_of}
use Rattle.report_rules.specs.CodeRules.{times, told, told_reading, types, within_text}
use Rattle.report_rules.specs.CodeRules.{writes}
use Rattle.report_rules.specs.Rules.{at, at_close, coded, exec_type, fills, id_down, kinds}
use Rattle.report_rules.specs.Rules.{lacks_type, on_close, party, reason_down, status_if}
use Rattle.report_rules.specs.Rules.{told as told_of, trans_type, within, works_on}

-- ---- values

number_is : (n : Option Number) (text : Said) → IfSome n IsNumber
    → text ≡ option_map number_text n → number_of n ≡ (text >>= number_in)
number_is None text good is = ap (λ (t : Said). t >>= number_in) (sym is)
number_is (Some n) text good is =
    sym (number_said n.value good) ∙ ap (λ (t : Said). t >>= number_in) (sym is)

-- a reason, or another one
reason_is : (last other : ℕ) (n : Option Number) (text : Said) → IfSome n IsNumber
    → text ≡ option_map number_text n
    → option_map (within_text last other) n ≡ reason_down last (code_text other) text
reason_is last other None text good is = ap (reason_down last (code_text other)) (sym is)
reason_is last other (Some n) text good is =
    ap (λ (v : Option ℕ). Some (within last (code_text other) (number_text n) v))
    (sym (number_said n.value good))
    ∙ ap (reason_down last (code_text other)) (sym is)

close_is : (type : Option ℕ) → option_map code_text (option_map close_code type) ≡ on_close type
close_is None = refl
close_is (Some type) =
    elim (type == 49) as (λ b. ◌≡◌ {A = Said} (Some (code_text (if b then 53 else 66)))
    (if b then Some (codes "5") else Some (codes "B"))) [ true ↦ refl | false ↦ refl ]

coded_is : (f : ℕ → ℕ) (code : Option ℕ)
    → coded (option_map f code) ≡ option_map (λ c. code_text (f c)) code
coded_is f None = refl
coded_is f (Some code) = refl

-- the number of a value is bounded
bounded : (value : Option (List ℕ)) → IfSome (number_read value) IsNumber
bounded None = tt
bounded (Some v) =
    elim (read_number v) as (λ r. read_number v ≡ r → IfSome (result_ok r) IsNumber)
    [ Ok n ↦ λ e. number_in_bound v n e | Err fault ↦ λ e. tt ] refl

-- ---- the text of a message

module _ (table : Table Kind) (fields : List Field) (m : Message)
    (said : AreSaid is_month table fields m) where
  reason : (tag : ℕ) → Has is_month table (OfKinds is_reason tag)
      → at m tag ≡ option_map number_text (numbered fields tag)
  reason = reason_said is_month table fields said.none (at m) said.at_row

  -- its number, and that of a reason that no row says
  number : (tag : ℕ) → Has is_month table (OfKinds is_reason tag)
      → number_of (numbered fields tag) ≡ (at m tag >>= number_in)
  number tag has = number_is (numbered fields tag) (at m tag) (bounded (value_at tag fields))
      (reason tag has)

  none : (tag : ℕ) → is_month tag ≡ false → not (has_row table tag) ≡ true
      → None ≡ (at m tag >>= number_in)
  none tag other h = ap (λ (t : Said). t >>= number_in) (sym (said.at_row tag other
      ∙ ap (row_says fields) (none_there (row_of_tag tag table.items) (not_true _ h))))

  -- what is written of a reason
  pub within_said : (tag last other : ℕ) → Has is_month table (OfKinds is_reason tag)
      → option_map (within_text last other) (numbered fields tag)
      ≡ reason_down last (code_text other) (at m tag)
  within_said tag last other has = reason_is last other (numbered fields tag) (at m tag)
      (bounded (value_at tag fields)) (reason tag has)

  -- and of the text, which tells the reasons
  pub told_said : (is_report : Bool) → IsRead is_month table (told_reading table) is_report
      → telling (value_at 58 fields) (told fields is_report) ≡ telling (at m 58) (told_of m)
  told_said is_report has = λ i. telling (text is_report has i) (each is_report has i)
    where
      text : (is_report : Bool) → IsRead is_month table (told_reading table) is_report
          → value_at 58 fields ≡ at m 58
      text true has = text_said is_month table fields said.none (at m) said.at_row 58 has.0
      text false has = text_said is_month table fields said.none (at m) said.at_row 58 has.0

      each : (is_report : Bool) → IsRead is_month table (told_reading table) is_report
          → told fields is_report ≡ told_of m
      each true has = λ i. reason_told 103 8 (number 103 has.1.0 i)
          ++ (reason_told 378 5 (number 378 has.1.1.0 i)
          ++ reason_told 102 3 (none 102 refl (ap (λ (f : Facts). f.2) has.1.1.1.0) i))
      each false has = λ i. reason_told 103 8 (none 103 refl (ap (λ (f : Facts). f.2) has.1.1.0) i)
          ++ (reason_told 378 5 (none 378 refl (ap (λ (f : Facts). f.2) has.1.1.1.0) i)
          ++ reason_told 102 3 (number 102 has.1.0 i))

-- ---- what is read

-- THE CODES OF A MESSAGE
pub record AreCodes (c : Codes) (m : Message) : Type 0 where
  pub exec_type : c.exec_type ≡ (at m 150 >>= code_of)
  pub ord_status : c.ord_status ≡ (at m 39 >>= code_of)
  pub filled : c.fills ≡ fills (at m) (party m)
  pub ord_type : c.ord_type ≡ (at m 40 >>= code_of)
  pub time : c.time ≡ (at m 59 >>= code_of)

-- WHAT IS KNOWN of what the code has read by a table, where this original id is known
pub record IsKnown (known : Said) (s : Source) (m : Message) (table : Table Kind) : Type 0 where
  pub said : AreSaid is_month table s.fields.now m
  pub its_codes : AreCodes s.besides.codes m
  pub is_known : known_of s ≡ known
  pub month : (table.letter == 56) ≡ true → month s.fields.now ≡ at m 200
  pub party : (role : ℕ) → ((table.letter == 56) && is_one_of (1 ∷ 3 ∷ 4 ∷ []) role) ≡ true
      → id_of role s.besides.parties ≡ party m role

module _ (known : Said) (s : Source) (m : Message) (is : IsKnown known s m (table_of s)) where
  abbrev table : Table Kind
  table = table_of s

  abbrev c : AreCodes s.besides.codes m
  c = is.its_codes

  text : (tag : ℕ) → Has is_month table (OwnText tag) → value_at tag s.fields.now ≡ at m tag
  text = text_said is_month table s.fields.now is.said.none (at m) is.said.at_row

  kept_at : (kind : Kind) (tag : ℕ) → Has is_month table (OfKind is_kept kind tag)
      → kept s.fields.now tag kind ≡ at m tag
  kept_at = kept_said is_month table s.fields.now is.said.none (at m) is.said.at_row

  type_is : (b : Bool) (o : Option ℕ) (said : Said) → o ≡ (at m 40 >>= code_of) → said ≡ at m 40
      → (if b then option_map code_text (option_map close_code o) else said)
      ≡ (if b then on_close (at m 40 >>= code_of) else at m 40)
  type_is true o said e f = close_is o ∙ ap on_close e
  type_is false o said e f = f

  -- what is written of a field that is moved
  says : (tag : ℕ) {a b : Said} → a ≡ b → cell_fields (Tag tag, a) ≡ cell_fields (Tag tag, b)
  says tag e = moved (code known) s m tag e

  -- ONE CLAUSE FOR EACH KIND
  own_written : (rule : CodeOwn) → IsRead is_month table (reading table) rule
      → writes s rule ≡ rule_fields kinds m (rule_of known rule)
  own_written rules.Original has =
      λ i. cell_fields (Tag 41, or_known (text 41 has.0 i) (is.is_known i))
  own_written (rules.PartyOf role to) has = says to (is.party role (ap (λ (f : Facts). f.2) has.0))
  own_written rules.ExecId has =
      λ i. cell_fields (Tag 17, id_down (status_if (c.exec_type i)) (text 17 has.0 i))
  own_written rules.TransType has = λ i. cell_fields (Tag 20, coded (c.exec_type i >>= trans_type))
  own_written rules.ExecType has =
      says 150 (coded_is (λ code. exec_type code (unwrap_or s.besides.codes.ord_status 0)
      s.besides.codes.fills) s.besides.codes.exec_type
      ∙ (λ i. option_map (λ code. code_text (exec_type code (unwrap_or (c.ord_status i) 0)
      (c.filled i))) (c.exec_type i)))
  own_written rules.OrdStatus has = λ i. cell_fields (
    Tag 39,
    if works_on (c.ord_status i) (c.exec_type i) then Some (codes "5") else text 39 has.0 i,
  )
  own_written (rules.Another tag) has = says tag (text tag has.0)
  own_written (rules.Traded tag) has = says tag
      (decimal_said is_month table s.fields.now is.said.none (at m) is.said.at_row tag has.0)
  own_written (rules.Within tag last other) has =
      says tag (within_said table s.fields.now m is.said tag last other has.0)
  own_written (rules.Told is_report) has =
      says 58 (told_said table s.fields.now m is.said is_report has)
  own_written rules.Month has = says 200 (is.month (ap (λ (f : Facts). f.2) has.0))
  own_written rules.DayOfDate has = says 205 (ap (option_map (drop 6)) (text 541 has.0))
  own_written rules.OrdType has =
      says 40 ((λ i. if at_close (c.ord_type i) (c.time i)
      then option_map code_text (option_map close_code s.besides.codes.ord_type)
      else kept s.fields.now 40 types)
      ∙ type_is (at_close (at m 40 >>= code_of) (at m 59 >>= code_of)) s.besides.codes.ord_type
      (kept s.fields.now 40 types) c.ord_type (kept_at types 40 has.0))
  own_written rules.Time has = λ i. cell_fields (
    Tag 59,
    if at_close (c.ord_type i) (c.time i) then None else kept_at times 59 has.0 i,
  )

  own_lacked : (rule : CodeOwn) → IsRead is_month table (reading table) rule
      → lacks s rule ≡ kinds.lack m (rule_of known rule)
  own_lacked rules.Original has =
      λ i. lack_if (not (is_some (or_known (text 41 has.0 i) (is.is_known i)))) 41
  own_lacked rules.TransType has = λ i. lack_if (lacks_type (c.exec_type i)) 150
  own_lacked rule has = refl

  pub own_goes : (rule : CodeOwn) → IsRead is_month table (reading table) rule
      → Goes (code known) s m (carried.By rule)
  own_goes rule has = record { written = own_written rule has; lacked = own_lacked rule has }
