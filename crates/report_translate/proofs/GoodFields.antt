-- What fields at no fault are, by the table of their type: a report, and whether it goes down.
use Rattle.std.proofs.Common.{◌≡◌, ℕ, List, Option, Some, None, Bool, true, false, not, refl, ◌∙◌}
use Rattle.std.proofs.Common.{codes, sym, ap}
use Rattle.std.specs.Prelude.{IsSome, IfSome, IfErr, OnOk, Result, Ok, Err, is_some, if◌then◌else◌}
use Rattle.std.specs.Borrow.{Bor}
use Rattle.std.specs.Str.{bytes_eq}
use Rattle.field_groups.specs.declared.fault.SplitFault.{SplitFault}
use Rattle.field_groups.specs.Field.{Field}
use Rattle.value_kinds.specs.ValueKind.{code_text, Known}
use Rattle.message_tables.specs.FirstFault.{first_fault, message_in}
use Rattle.message_tables.specs.Tables.{Message, Said, Table, ◌>>=◌, code_of}
use Rattle.first_faults.specs.Faults.{message_by}
use Rattle.first_faults.specs.Gives.{IsCleanIf}
use Rattle.row_values.specs.Kinds.{Kind, Value, judge}
use Rattle.row_values.proofs.ByTable.{says}
use Rattle.first_faults.proofs.Given.{given}
use Rattle.rows_fix50.specs.Header.{completed, completed_by}
use Rattle.reports_fix50.specs.Message.{report_by, report_table, cancel_reject_table}
use Rattle.reports_fix50.specs.Message.{report_table_of}
use Rattle.reports_fix50.specs.Reading.{exec_type_said}
use Rattle.order_meaning.specs.declared.fault.Fault.{Fault}
use Rattle.order_meaning.specs.declared.fault.Fault.TheVariants as faults
use Rattle.report_rules.specs.Down.{IsGoodBy}
use Rattle.report_rules.specs.Judged.{AreGood}
use Rattle.report_rules.specs.Rules.{lacks_type, trans_type}
use Rattle.report_rules.proofs.Judged.{clean_is, fault_by}
use Rattle.report_rules.proofs.LacksDown.{order_goes_down, type_goes_down, type_lacks}
use Rattle.report_rules.proofs.PutDown.{good_eight, nine as is_nine}
use Rattle.translation.specs.Errors.{error_of_fault}
use Rattle.translation.specs.Header.{type_of}
use Rattle.translation.specs.declared.error.TranslateError.{TranslateError}
use Rattle.translation.specs.declared.error.TranslateError.TheVariants as errors
use Rattle.report_translate.specs.Reading.{report_message}
use Rattle.translation.specs.Going.{AreRead}
use Rattle.report_translate.specs.Translation.{down}
use Rattle.report_translate.specs.Writing.{IsCheckedOf, LacksAt, RefusesCheck, lacks_at}
use Rattle.report_translate.proofs.OfType.{eight, nine, no_report}

-- ---- the table of a type

module _ (msg_type : List ℕ) (fields : List Field) where
  abbrev is_8 : Bool
  is_8 = bytes_eq msg_type (codes "8")

  abbrev is_9 : Bool
  is_9 = bytes_eq msg_type (codes "9")

  abbrev table_by : Bool → Bool → Option (Table Kind)
  table_by executes rejects =
      if executes then Some report_table else
      (if rejects then Some cancel_reject_table else None)

  -- the message
  by_table : (table : Table Kind) → first_fault judge table fields ≡ None
      → report_by table fields None ≡ Ok (completed (message_in judge table fields))
  by_table table none = ap completed_by (given table fields None refl none)

  pub read_8 : is_8 ≡ true → IsGoodBy (report_table_of msg_type) fields
      → report_message msg_type fields None
      ≡ Ok (completed (message_in judge report_table fields))
  read_8 test good =
      eight msg_type fields None test ∙ by_table report_table (good_eight msg_type fields good test)

  pub read_9 : is_8 ≡ false → IsGoodBy (report_table_of msg_type) fields
      → report_message msg_type fields None
      ≡ Ok (completed (message_in judge cancel_reject_table fields))
  read_9 test good =
      let of = is_nine msg_type fields good test in
      nine msg_type fields None (ap (λ (t : List ℕ). bytes_eq t (codes "9")) (sym of.is))
      ∙ by_table cancel_reject_table of.none

-- ---- the codes of FIX 4.2

pub type_said : (fields : List Field) → first_fault judge report_table fields ≡ None
    → IsSome (exec_type_said fields)
type_said fields none =
    says report_table fields none 11 150 (Value (Known (codes "03456789ABCDEFGHIJKL"))) refl refl

code_is : (text : Said) (code : ℕ) → IsSome text → IfSome text (λ t. t ≡ code_text code)
    → text ≡ Some (code_text code)
code_is None code there is = absurd cc
code_is (Some text) code there is = ap (λ (t : List ℕ). Some t) is

module _ (fields : List Field) (exec_type : ℕ) (there : IsSome (exec_type_said fields))
    (is : IfSome (exec_type_said fields) (λ text. text ≡ code_text exec_type)) where
  lacks_is : lacks_at fields ≡ not (is_some (trans_type exec_type))
  lacks_is = ap (λ (text : Said). lacks_type (text >>= code_of))
      (code_is (exec_type_said fields) exec_type there is)

  pub has : is_some (trans_type exec_type) ≡ true → lacks_at fields ≡ false
  has codes = lacks_is ∙ ap not codes

  pub has_not : is_some (trans_type exec_type) ≡ false → lacks_at fields ≡ true
  has_not codes = lacks_is ∙ ap not codes

pub ruleset of_codes = (has, has_not)

-- ---- fields as they are judged

pub good_is : (fields : List Field) (stopped : Option SplitFault) (good : Bor (List Field))
    → IsCleanIf (report_table_of (type_of fields)) fields stopped (Ok good)
    → AreGood (report_table_of (type_of fields)) fields stopped good.now
good_is fields stopped good h = clean_is fields stopped (report_table_of (type_of fields)) good h

-- the first fault beside the table of a type is that of the report
module _ (msg_type : List ℕ) (fields : List Field) (stopped : Option SplitFault) where
  report_is : (a b : Bool) → is_8 msg_type fields ≡ a → is_9 msg_type fields ≡ b
      → report_message msg_type fields stopped
      ≡ completed_by (message_by (table_by msg_type fields a b) fields stopped)
  report_is true b a' b' = eight msg_type fields stopped a'
  report_is false true a' b' = nine msg_type fields stopped b'
  report_is false false a' b' = no_report msg_type fields stopped a' b'

  fault_as : (fault : Fault)
      → message_by (report_table_of msg_type) fields stopped ≡ Err fault
      → report_message msg_type fields stopped ≡ Err fault
  fault_as fault is =
      report_is (is_8 msg_type fields) (is_9 msg_type fields) refl refl ∙ ap completed_by is

fault_of : (fields : List Field) (stopped : Option SplitFault) (fault : Fault)
    → report_message (type_of fields) fields stopped ≡ Err fault
    → RefusesCheck fields stopped (error_of_fault fault)
fault_of fields stopped faults.NoMemory h = tt
fault_of fields stopped other h = h

pub fault_is : (fields : List Field) (stopped : Option SplitFault) (fault : Fault)
    → IsCleanIf (report_table_of (type_of fields)) fields stopped (Err fault)
    → RefusesCheck fields stopped (error_of_fault fault)
fault_is fields stopped fault h =
    fault_of fields stopped fault (fault_as (type_of fields) fields stopped fault
    (fault_by fields stopped (report_table_of (type_of fields)) fault h))

pub ruleset judged = (good_is, fault_is)

-- ---- type by type

module _ (fields : List Field) (msg_type : List ℕ) (same : msg_type ≡ type_of fields)
    (good : IsGoodBy (report_table_of (type_of fields)) fields) where
  good_by : IsGoodBy (report_table_of msg_type) fields
  good_by = rw same good

  are_read : (message : Message) → report_message msg_type fields None ≡ Ok message
      → AreRead down fields None message
  are_read message is = record { whole = refl; read = rw same at is }

  module _ (test : is_8 msg_type fields ≡ true) where
    are_8 : AreRead down fields None (completed (message_in judge report_table fields))
    are_8 = are_read (completed (message_in judge report_table fields))
        (read_8 msg_type fields test good_by)

    pub says_type : IsSome (exec_type_said fields)
    says_type = type_said fields (good_eight msg_type fields good_by test)

    pub checked : (r : Result (Unit {0}) TranslateError) → OnOk r (lacks_at fields ≡ false)
        → OnOk r (IsCheckedOf fields None)
    checked (Ok done) h = record {
      message = completed (message_in judge report_table fields);
      read = are_8;
      down = λ id. type_goes_down (Some id) (completed (message_in judge report_table fields))
          refl h;
    }
    checked (Err error) h = tt

    pub refused : (r : Result (Unit {0}) TranslateError) → IfErr r (LacksAt fields)
        → IfErr r (RefusesCheck fields None)
    refused (Ok done) h = tt
    refused (Err (errors.Lacking tag)) h = (
      h.0,
      completed (message_in judge report_table fields),
      are_8,
      type_lacks None (completed (message_in judge report_table fields)) refl h.1,
    )
    refused (Err other) h = absurd h

  pub rejects : is_8 msg_type fields ≡ false → IsCheckedOf fields None
  rejects test = record {
    message = completed (message_in judge cancel_reject_table fields);
    read = are_read (completed (message_in judge cancel_reject_table fields))
        (read_9 msg_type fields test good_by);
    down = λ id. order_goes_down id (completed (message_in judge cancel_reject_table fields)) refl
        refl;
  }

pub ruleset by_type = (says_type, checked, refused, rejects)

-- ---- fields that were judged

pub of_good : (fields good : List Field) (stopped : Option SplitFault)
    → AreGood (report_table_of (type_of fields)) fields stopped good
    → IsGoodBy (report_table_of (type_of good)) good
of_good fields good stopped are = rw are.same are.none

pub checked_if : (fields good : List Field) (stopped : Option SplitFault)
    (r : Result (Unit {0}) TranslateError)
    → AreGood (report_table_of (type_of fields)) fields stopped good
    → OnOk r (IsCheckedOf good None) → OnOk r (IsCheckedOf fields stopped)
checked_if fields good stopped (Ok done) are h = rw are.whole (rw are.same at h)
checked_if fields good stopped (Err error) are h = tt

pub refused_if : (fields good : List Field) (stopped : Option SplitFault)
    (r : Result (Unit {0}) TranslateError)
    → AreGood (report_table_of (type_of fields)) fields stopped good
    → IfErr r (RefusesCheck good None) → IfErr r (RefusesCheck fields stopped)
refused_if fields good stopped (Ok done) are h = tt
refused_if fields good stopped (Err error) are h = rw are.whole (rw are.same at h)

pub ruleset of_judged = (of_good, checked_if, refused_if)
