-- What is read of the fields of a report of FIX 5.0 SP2 is a sound message that says the month of
-- its date.
use Rattle.std.proofs.Common.{◌≡◌, ℕ, List, Some, None, true, false, refl, sym, ap, subst, ◌∙◌}
use Rattle.std.specs.Prelude.{Ok, unwrap_or}
use Rattle.std.specs.Option.{option_map}
use Rattle.std.specs.List.{AllByRecursion}
use Rattle.field_groups.specs.Field.{AreFields, Field}
use Rattle.field_groups.specs.Data.{is_data_tag}
use Rattle.message_tables.specs.Tables.{Verdict, Spells, Outside, Wrong, Table, Message}
use Rattle.message_tables.specs.Tables.{Said, ◌>>=◌, flag_of, is_listed, text_of}
use Rattle.message_tables.specs.Tables.{value_at}
use Rattle.message_tables.specs.FirstFault.{first_fault, message_in}
use Rattle.message_tables.specs.Content.{content}
use Rattle.value_kinds.specs.ValueKind.{Known, spelling}
use Rattle.row_values.specs.Kinds.{Kind, Value, judge, verdict_of}
use Rattle.rows_fix50.specs.Header.{completed, month_by}
use Rattle.reports_fix50.specs.Message.{message50, report_by, report_table, cancel_reject_table}
use Rattle.reports_fix50.specs.Reports.{execution_report}
use Rattle.sound_laws.specs.Sound.{IsSound}
use Rattle.sound_laws.specs.Complete.{HasMonthOfDate, IsComplete}
use Rattle.sound_laws.proofs.Completed.{completed_again}
use Rattle.sound_laws.proofs.Lookups.{places_apart}
use Rattle.sound_laws.proofs.PlainFields.{clear_fields}
use Rattle.sound_laws.proofs.ContentValues.{value_said}
use Rattle.sound_laws.proofs.PlainRows.{is_plain_row, plain_row, spelled, tests_sound}
use Rattle.sound_laws.proofs.ReadSound.{IsClearField}
use Rattle.sound_laws.proofs.SpelledAgain.{own_bytes}
use Rattle.rule_rows.proofs.Said as source
use Rattle.report_rules.specs.Down.{IsReport50, IsReportType, Reports50, Rejects50, Type8, Type9}
use Rattle.report_rules.specs.Down.{WritesDown}
use Rattle.sound_laws.proofs.CompletedSound.{KeepsType}
use Rattle.sound_laws.proofs.ReadComplete.{IsDated, dated_complete, read_of}
use Rattle.report_rules.proofs.GoDown.{goes_down}

-- ---- the ExecType of an execution report

-- a known code that fields say is the one that stands there
known_listed : (known listed : List ℕ) (value : Said)
    → is_listed listed (value >>= (λ bytes. text_of (verdict_of (spelling (Known known) bytes))))
    ≡ true → is_listed listed value ≡ true
known_listed known listed None h = absurd cc
known_listed known listed (Some bytes) h = by (verdict_of (spelling (Known known) bytes)) refl h
  where
    by : (v : Verdict) → verdict_of (spelling (Known known) bytes) ≡ v
        → is_listed listed (text_of v) ≡ true → is_listed listed (Some bytes) ≡ true
    by (Spells text) e h =
        let same : text ≡ bytes = own_bytes (Known known) bytes refl text
        (spelled (spelling (Known known) bytes) text e) in
        let P : List ℕ → Type 0 = λ t. is_listed listed (Some t) ≡ true in
        subst P same h
    by Outside e h = absurd cc
    by (Wrong reason) e h = absurd cc

type_again : (known : List ℕ) (fields after : List Field)
    → value_at 150 after
    ≡ value_at 150 fields >>= (λ bytes. text_of (judge fields (Value (Known known)) bytes))
    → KeepsType fields after
unfolding judge
type_again known fields after at listed h =
    known_listed known listed (value_at 150 fields) (sym (ap (is_listed listed) at) ∙ h)

-- ---- what is read by a table

module _ (fields : List Field) (clear : AllByRecursion (IsClearField judge) fields) where
  dated : IsDated fields report_table true
  unfolding is_data_tag
  dated = record {
    fits = refl;
    date = refl;
    types = λ there. (refl, refl);
    kept = λ groups. type_again _ fields
        (content report_table (message_in judge report_table fields))
        (value_said judge (message_in judge report_table fields) 150 execution_report refl groups);
  }

  reject_sound : first_fault judge cancel_reject_table fields ≡ None
      → IsSound judge cancel_reject_table (message_in judge cancel_reject_table fields)
  unfolding is_data_tag
  reject_sound = tests_sound cancel_reject_table fields is_plain_row
      (refl, (refl, (refl, (refl, (refl, tt)))))
      (λ groups row h. (plain_row row h).stable fields (content cancel_reject_table
      (message_in judge cancel_reject_table fields))) clear

  -- a cancel reject says no date
  reject_complete : (x : Message) → report_by cancel_reject_table fields None ≡ Ok x
      → IsComplete cancel_reject_table x
  reject_complete x e =
      let r = read_of cancel_reject_table fields x e in
      let m = message_in judge cancel_reject_table fields in
      let sound = reject_sound r.0 in
      let no_month = source.no_row cancel_reject_table m sound 200 refl in
      let no_date = source.no_row cancel_reject_table m sound 541 refl in
      let month : HasMonthOfDate m = no_month ∙ sym (λ i. month_by (no_date i) (no_month i)) in
      let same : completed m ≡ m =
      completed_again m month (ap places_apart sound.places) m.resend in
      subst (IsComplete cancel_reject_table) (sym same ∙ r.1)
      (record { sound = sound; month = month })

-- ---- a report that was read

-- a message that was read of fields by a table, at no fault
pub record IsReadOf (table : Table Kind) (fields : List Field) (x : Message) : Type 0 where
  pub complete : IsComplete table x
  pub good : first_fault judge table fields ≡ None
  pub resend : x.resend ≡ unwrap_or (option_map flag_of (value_at 97 fields)) false

is_read : (table : Table Kind) (fields : List Field) (x : Message) → IsComplete table x
    → report_by table fields None ≡ Ok x → IsReadOf table fields x
is_read table fields x complete e = let r = read_of table fields x e in record {
  complete = complete;
  good = r.0;
  resend = sym (ap (λ (y : Message). y.resend) r.1);
}

module _ (fields : List Field) (clear : AllByRecursion (IsClearField judge) fields) where
  -- WHAT IS READ IS SOUND, AND COMPLETE.
  pub report_read : (x : Message)
      → report_by report_table fields None ≡ Ok x → IsReadOf report_table fields x
  report_read x e = is_read report_table fields x
      (dated_complete fields report_table clear true (dated fields clear) x e) e

  pub reject_read : (x : Message)
      → report_by cancel_reject_table fields None ≡ Ok x → IsReadOf cancel_reject_table fields x
  reject_read x e = is_read cancel_reject_table fields x (reject_complete fields clear x e) e

-- WHAT IS READ OF A REPORT is one.
pub read_is_report : (msg_type : List ℕ) (fields : List Field) (x : Message) → AreFields None fields
    → message50 msg_type fields None ≡ Ok x → IsReportType msg_type → IsReport50 x
unfolding message50
read_is_report msg_type fields x are e type = by type e
  where
    clear : AllByRecursion (IsClearField judge) fields
    clear = clear_fields judge None fields are

    by : IsReportType msg_type → message50 msg_type fields None ≡ Ok x → IsReport50 x
    by (Type8 is) e =
        let P : List ℕ → Type 0 = λ t. message50 t fields None ≡ Ok x in
        let k : report_by report_table fields None ≡ Ok x = subst P is e in
        Reports50 (report_read fields clear x k).complete
    by (Type9 is) e =
        let P : List ℕ → Type 0 = λ t. message50 t fields None ≡ Ok x in
        let k : report_by cancel_reject_table fields None ≡ Ok x = subst P is e in
        Rejects50 (reject_read fields clear x k).complete

-- THE CONTENT of what goes down of fields stands for what they say.
pub writes_down : WritesDown
writes_down known id msg_type fields m w are type read down =
    goes_down known id m w (read_is_report msg_type fields m are read type) down
