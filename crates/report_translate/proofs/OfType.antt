-- Reports and refusals, by their types.
use Rattle.std.proofs.Common.{◌≡◌, ℕ, Bool, true, false, List, codes, Option, Some, None, Result}
use Rattle.std.proofs.Common.{Ok, Err, refl, sym, ap, ◌∙◌, arith, if◌then◌else◌}
use Rattle.std.specs.Str.{bytes_eq}
use Rattle.std.proofs.lemmas.Slice.Eq.{bytes_eq-Decides}
use Rattle.field_groups.specs.declared.fault.SplitFault.{SplitFault}
use Rattle.field_groups.specs.Field.{Field}
use Rattle.message_tables.specs.Tables.{Message, Table}
use Rattle.row_values.specs.Kinds.{Kind}
use Rattle.order_meaning.specs.declared.Side.{Side}
use Rattle.order_meaning.specs.declared.Side.TheVariants.{Client, Venue}
use Rattle.order_meaning.specs.declared.fault.Fault.{Fault}
use Rattle.order_meaning.specs.declared.fault.Fault.TheVariants as faults
use Rattle.order_meaning.specs.declared.refusal.Refusal.{Refusal}
use Rattle.first_faults.specs.Faults.{of_split}
use Rattle.first_faults.specs.Gives.{Gives}
use Rattle.refusal_parts.specs.Once.{refusal_by}
use Rattle.reports_fix42.specs.Message.{message42 as any42}
use Rattle.reports_fix42.specs.Message.{session_reject_table as session_reject_table42}
use Rattle.reports_fix42.specs.Message.{business_reject_table as business_reject_table42}
use Rattle.reports_fix50.specs.Message.{report_by, report_table, cancel_reject_table}
use Rattle.reports_fix50.specs.Message.{message50 as any50}
use Rattle.reports_fix50.specs.Message.{session_reject_table as session_reject_table50}
use Rattle.reports_fix50.specs.Message.{business_reject_table as business_reject_table50}
use Rattle.translation.specs.Going.{IsType}
use Rattle.translation.proofs.Writable.{is_byte}
use Rattle.report_translate.specs.Reading.{is_refusal, message_of, report_message, refusal_message}
use Rattle.report_translate.specs.Writing.{IsReadAs}

module _ (msg_type : List ℕ) (fields : List Field) (stopped : Option SplitFault) where
  is_type : (known : List ℕ) → bytes_eq msg_type known ≡ true → msg_type ≡ known
  is_type known test = (bytes_eq-Decides msg_type known).0 test

  pub eight : bytes_eq msg_type (codes "8") ≡ true
      → report_message msg_type fields stopped ≡ report_by report_table fields stopped
  unfolding report_message any50
  eight test = ap (λ (t : List ℕ). report_message t fields stopped) (is_type (codes "8") test)

  pub nine : bytes_eq msg_type (codes "9") ≡ true
      → report_message msg_type fields stopped ≡ report_by cancel_reject_table fields stopped
  unfolding report_message any50
  nine test = ap (λ (t : List ℕ). report_message t fields stopped) (is_type (codes "9") test)

  pub no_report : bytes_eq msg_type (codes "8") ≡ false → bytes_eq msg_type (codes "9") ≡ false
      → report_message msg_type fields stopped ≡ Err faults.NotSupported
  unfolding report_message
  no_report eight nine = rw (eight, nine) refl

  -- and have a type of one byte
  pub type_is : (x : Message) → report_message msg_type fields stopped ≡ Ok x → IsType msg_type
  type_is x is = by (bytes_eq msg_type (codes "8")) (bytes_eq msg_type (codes "9")) refl refl
    where
      by : (a b : Bool) → bytes_eq msg_type (codes "8") ≡ a → bytes_eq msg_type (codes "9") ≡ b
          → IsType msg_type
      by true b a' b' = is_byte msg_type 56 (λ no. absurd (omega (arith, no))) a'
      by false true a' b' = is_byte msg_type 57 (λ no. absurd (omega (arith, no))) b'
      by false false a' b' = let no = no_report a' b' in absurd cc

  -- a refusal of a known type
  refusal_is : (side : Side) (known : List ℕ) → is_refusal known ≡ true
      → bytes_eq msg_type known ≡ true
      → refusal_message side msg_type fields stopped ≡ message_of side known fields stopped
  unfolding refusal_message
  refusal_is side known is test =
      ap (λ (t : List ℕ). refusal_message side t fields stopped) (is_type known test)
      ∙ ap (λ (b : Bool). if b then message_of side known fields stopped
      else Err faults.NotSupported) is

  pub no_refusal : (side : Side) → bytes_eq msg_type (codes "3") ≡ false
      → bytes_eq msg_type (codes "j") ≡ false
      → refusal_message side msg_type fields stopped ≡ Err faults.NotSupported
  unfolding refusal_message
  no_refusal side three j = rw (three, j) refl

  -- the table of a Reject of a side, and that of a Business Message Reject
  abbrev session_table : Side → Table Kind
  session_table Client = session_reject_table42
  session_table Venue = session_reject_table50

  abbrev business_table : Side → Table Kind
  business_table Client = business_reject_table42
  business_table Venue = business_reject_table50

  session_is : (side : Side) → bytes_eq msg_type (codes "3") ≡ true
      → refusal_message side msg_type fields stopped
      ≡ refusal_by (session_table side) fields stopped
  unfolding any42 any50
  session_is Client test = refusal_is Client (codes "3") refl test
  session_is Venue test = refusal_is Venue (codes "3") refl test

  business_is : (side : Side) → bytes_eq msg_type (codes "j") ≡ true
      → refusal_message side msg_type fields stopped
      ≡ refusal_by (business_table side) fields stopped
  unfolding any42 any50
  business_is Client test = refusal_is Client (codes "j") refl test
  business_is Venue test = refusal_is Venue (codes "j") refl test

  -- a refusal that is read is that of a whole body
  ends : (table : Table Kind) (x : Message) → refusal_by table fields stopped ≡ Ok x
      → stopped ≡ None
  ends table x is = by stopped is
    where
      by : (s : Option SplitFault) → refusal_by table fields s ≡ Ok x → s ≡ None
      by None is = refl
      by (Some fault) is =
          let no : refusal_by table fields (Some fault) ≡ Err (of_split fault) = refl in absurd cc

  pub whole_refusal : (side : Side) (x : Message)
      → refusal_message side msg_type fields stopped ≡ Ok x → stopped ≡ None
  whole_refusal side x is =
      by (bytes_eq msg_type (codes "3")) (bytes_eq msg_type (codes "j")) refl refl
    where
      by : (a b : Bool) → bytes_eq msg_type (codes "3") ≡ a → bytes_eq msg_type (codes "j") ≡ b
          → stopped ≡ None
      by true b a' b' = ends (session_table side) x (sym (session_is side a') ∙ is)
      by false true a' b' = ends (business_table side) x (sym (business_is side b') ∙ is)
      by false false a' b' = let no = no_refusal side a' b' in absurd cc

  read_as : (says : Refusal → Message) (r : Result Refusal Fault) (x y : Result Message Fault)
      → Gives says r x → y ≡ x → IsReadAs r y
  read_as says (Ok refusal) x y gives same = (says refusal, same ∙ gives)
  read_as says (Err faults.NoMemory) x y gives same = tt
  read_as says (Err other) x y gives same = same ∙ gives

  pub session : (side : Side) (says : Refusal → Message) (r : Result Refusal Fault)
      → bytes_eq msg_type (codes "3") ≡ true
      → Gives says r (refusal_by (session_table side) fields stopped)
      → IsReadAs r (refusal_message side msg_type fields stopped)
  session side says r test gives = read_as says r _ _ gives (session_is side test)

  pub business : (side : Side) (says : Refusal → Message) (r : Result Refusal Fault)
      → bytes_eq msg_type (codes "j") ≡ true
      → Gives says r (refusal_by (business_table side) fields stopped)
      → IsReadAs r (refusal_message side msg_type fields stopped)
  business side says r test gives = read_as says r _ _ gives (business_is side test)

pub ruleset refusals42 = (session, business, no_refusal)

pub ruleset refusals50 = (session, business, no_refusal)
