-- What is read of the fields of a body is a report that goes down, or a request that goes up.
use Rattle.std.proofs.Common.{◌≡◌, ℕ, List, Option, None, Some, Ok, arith, refl, subst}
use Rattle.field_groups.specs.declared.fault.SplitFault.{SplitFault}
use Rattle.field_groups.specs.Field.{AreFields, Field}
use Rattle.message_tables.specs.Tables.{Message, Table}
use Rattle.row_values.specs.Kinds.{Kind, judge}
use Rattle.order_meaning.specs.Request.{RequestKind, New, Cancel, Replace, Status}
use Rattle.dict_fix44.specs.Message.{message44_by, request_message44, request_table_of}
use Rattle.dict_fix44.specs.Requests.{asked44}
use Rattle.requests_fix44.specs.Content.{table44}
use Rattle.requests_fix44.specs.Said.{says}
use Rattle.requests_fix44.specs.declared.requests.Msg44.{Msg44}
use Rattle.requests_fix44.specs.declared.requests.Msg44.TheVariants as messages
use Rattle.reports_fix50.specs.Message.{cancel_reject_table, report_by, report_table}
use Rattle.sound_laws.specs.Complete.{IsComplete}
use Rattle.sound_laws.proofs.PlainFields.{clear_fields}
use Rattle.report_rules.proofs.ReadDown.{reject_read, report_read}
use Rattle.row_values.specs.Asked.{letter_of}
use Rattle.structs_fix44.specs.Up.{IsSound44}
use Rattle.translate_fix44.proofs.Go.{read_is_complete}

pub report_is : (fields : List Field) (fault : Option SplitFault) (m : Message)
    → AreFields None fields → report_by report_table fields fault ≡ Ok m
    → IsComplete report_table m
report_is fields (Some fault) m are read = absurd cc
report_is fields None m are read =
    (report_read fields (clear_fields judge None fields are) m read).complete

pub reject_is : (fields : List Field) (fault : Option SplitFault) (m : Message)
    → AreFields None fields → report_by cancel_reject_table fields fault ≡ Ok m
    → IsComplete cancel_reject_table m
reject_is fields (Some fault) m are read = absurd cc
reject_is fields None m are read =
    (reject_read fields (clear_fields judge None fields are) m read).complete

-- ---- a request of FIX 4.4

-- the table of a message is that of its letter
same_table : (msg : Msg44) (kind : RequestKind) → (says msg).letter ≡ letter_of kind
    → asked44 kind ≡ table44 msg
same_table (messages.New m) New h = refl
same_table (messages.Cancel m) Cancel h = refl
same_table (messages.Replace m) Replace h = refl
same_table (messages.Status m) Status h = refl
same_table msg kind h = absurd (omega (arith, h))

is_stopped : (t : Option (Table Kind)) (fields : List Field) (fault : SplitFault) (m : Message)
    → message44_by t fields (Some fault) ≡ Ok m → ⊥
is_stopped None fields fault m h = absurd cc
is_stopped (Some t) fields fault m h = absurd cc

pub request_is : (msg : Msg44) (msg_type : List ℕ) (fields : List Field)
    (fault : Option SplitFault) → AreFields None fields
    → request_message44 msg_type fields fault ≡ Ok (says msg) → IsSound44 msg
unfolding request_message44
request_is msg msg_type fields (Some fault) are read =
    absurd (is_stopped (request_table_of msg_type) fields fault (says msg) read)
request_is msg msg_type fields None are read =
    let r = read_is_complete fields (clear_fields judge None fields are) msg_type (says msg) read in
    subst (λ (t : Table Kind). IsComplete t (says msg))
    (same_table msg r.kind r.complete.sound.letter) r.complete
