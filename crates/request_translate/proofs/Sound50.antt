-- What is read of the fields of a request of FIX 5.0 SP2 is a sound message that says the month of
-- its date.
use Rattle.std.proofs.Common.{◌≡◌, ℕ, List, Some, None, Bool, true, false, refl}
use Rattle.std.specs.Prelude.{Ok}
use Rattle.std.specs.List.{AllByRecursion}
use Rattle.field_groups.specs.Field.{Field}
use Rattle.field_groups.specs.Data.{is_data_tag}
use Rattle.message_tables.specs.Tables.{Message}
use Rattle.row_values.specs.Kinds.{judge}
use Rattle.dict_fix50.specs.Message.{message50, message50_by}
use Rattle.sound_laws.specs.Complete.{IsComplete}
use Rattle.order_meaning.specs.Request.{RequestKind, New, Cancel, Replace, Status}
use Rattle.dict_fix50.specs.Requests.{asked50}
use Rattle.request_rules.proofs.ByType.{by_type}
use Rattle.request_translate.specs.Up.{IsRequest50}
use Rattle.sound_laws.proofs.ReadSound.{IsClearField}
use Rattle.sound_laws.proofs.ReadComplete.{IsDated, dated_complete, untyped}

abbrev has_type : RequestKind → Bool
has_type New = true
has_type Replace = true
has_type Cancel = false
has_type Status = false

module _ (fields : List Field) (clear : AllByRecursion (IsClearField judge) fields) where
  -- what is known of the tables, of which those of orders have an OrdType
  dated : (kind : RequestKind) → IsDated fields (asked50 kind) (has_type kind)
  unfolding is_data_tag
  dated New = search (untyped)
  dated Replace = search (untyped)
  dated kind = record {
    fits = refl;
    date = refl;
    types = λ untrue. absurd cc;
    kept = search (untyped);
  }

  complete : (kind : RequestKind) (x : Message)
      → message50_by (Some (asked50 kind)) fields None ≡ Ok x → IsComplete (asked50 kind) x
  complete kind = dated_complete fields (asked50 kind) clear (has_type kind) (dated kind)

  -- WHAT IS READ IS SOUND, AND COMPLETE.
  pub read_is_complete : (msg_type : List ℕ) (x : Message) → message50 msg_type fields None ≡ Ok x
      → IsRequest50 x
  unfolding message50
  read_is_complete msg_type x e =
      by_type (λ t of42 of50. message50_by of50 fields None ≡ Ok x → IsRequest50 x)
      (λ t no. absurd cc)
      (λ kind e. record { kind = kind; complete = complete kind x e }) msg_type e
