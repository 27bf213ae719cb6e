-- The content of the report that stands for fields, as it is appended.
use Rattle.std.proofs.Common.{◌≡◌, ℕ, List, Option, None, Bool, true, false, refl, sym, subst}
use Rattle.std.proofs.Common.{codes, if◌then◌else◌}
use Rattle.std.specs.Prelude.{IfErr, OnOk, Result, Ok, Err}
use Rattle.std.specs.Str.{bytes_eq}
use Rattle.field_groups.specs.declared.fault.SplitFault.{SplitFault}
use Rattle.field_groups.specs.Field.{Field}
use Rattle.message_tables.specs.Tables.{Message}
use Rattle.order_meaning.specs.declared.fault.Fault.{Fault}
use Rattle.order_meaning.specs.declared.fault.Fault.TheVariants.{NotSupported}
use Rattle.order_meaning.specs.declared.fault.Lack.{Lack}
use Rattle.order_meaning.specs.declared.fault.Lack.TheVariants as lacks
use Rattle.reports_fix50.specs.Message.{message50}
use Rattle.reports_fix50.specs.Message.{report_table_of}
use Rattle.report_rules.specs.Down.{IsGoodBy, LacksDown, PutsDown}
use Rattle.report_rules.specs.Judged.{AreGood}
use Rattle.translation.specs.Errors.{error_of_lack}
use Rattle.translation.specs.Header.{type_of}
use Rattle.translation.specs.declared.error.TranslateError.{TranslateError}
use Rattle.report_translate.specs.Reading.{is_report, report_message}
use Rattle.translation.specs.Going.{Appends, StayBack}
use Rattle.translation.proofs.Going.{appends_of, stays_of}
use Rattle.report_translate.specs.Translation.{down}
use Rattle.report_translate.proofs.GoodFields.{of_good, read_8, read_9}

-- ---- a report at no fault

told_by : (b : Bool) (x : Result Message Fault) (m : Message)
    → (if b then x else Err NotSupported) ≡ Ok m → x ≡ Ok m
told_by true x m h = h
told_by false x m h = absurd cc

module _ (fields : List Field) (m : Message)
    (read : report_message (type_of fields) fields None ≡ Ok m) where
  told : message50 (type_of fields) fields None ≡ Ok m
  unfolding report_message
  told = told_by (is_report (type_of fields)) (message50 (type_of fields) fields None) m read

  appends : (before after : List ℕ) → PutsDown (type_of fields) None fields before after
      → Appends down fields None before after
  appends before after puts =
      let put = puts m told in record {
        gone = record {
          m = m;
          w = put.w;
          read = record { whole = refl; read = read };
          goes = put.down;
        };
        bytes = put.bytes;
      }

  refuses : (lack : Lack) → LacksDown (type_of fields) None fields lack
      → StayBack down fields None (error_of_lack lack)
  refuses lacks.NoMemory h = tt
  refuses (lacks.Tag tag) h = (m, record { whole = refl; read = read }, h m told)

module _ (fields : List Field) (msg_type : List ℕ) (same : msg_type ≡ type_of fields)
    (good : IsGoodBy (report_table_of (type_of fields)) fields) where
  pub is_good : IsGoodBy (report_table_of msg_type) fields
  is_good = rw same good

  read : (m : Message) × (report_message (type_of fields) fields None ≡ Ok m)
  read =
      elim (bytes_eq (type_of fields) (codes "8")) as (λ b.
      bytes_eq (type_of fields) (codes "8") ≡ b
      → (m : Message) × (report_message (type_of fields) fields None ≡ Ok m)) [
        | true ↦ λ e. (_, read_8 (type_of fields) fields e good)
        | false ↦ λ e. (_, read_9 (type_of fields) fields e good)
      ] refl

  pub appended : (before after : List ℕ) → PutsDown msg_type None fields before after
      → Appends down fields None before after
  appended before after h = appends fields read.0 read.1 before after (rw same at h)

  pub refused : (lack : Lack) (error : TranslateError) → error ≡ error_of_lack lack
      → LacksDown msg_type None fields lack → StayBack down fields None error
  refused lack error is h =
      let Q : TranslateError → Type 0 = λ e. StayBack down fields None e in
      subst Q (sym is) (refuses fields read.0 read.1 lack (rw same at h))

pub ruleset of_put = (is_good, appended, refused)

-- ---- fields that were judged

module _ (fields good : List Field) (stopped : Option SplitFault)
    (are : AreGood (report_table_of (type_of fields)) fields stopped good) where
  pub appends_if : (r : Result (Unit {0}) TranslateError) (before after : List ℕ)
      → OnOk r (Appends down good None before after)
      → OnOk r (Appends down fields stopped before after)
  appends_if r before after h =
      appends_of down fields good stopped are.same are.whole r before after h

  pub refuses_if : (r : Result (Unit {0}) TranslateError) → IfErr r (StayBack down good None)
      → IfErr r (StayBack down fields stopped)
  refuses_if r h = stays_of down fields good stopped are.same are.whole r h

pub ruleset of_good_fields = (of_good, refuses_if, appends_if)
