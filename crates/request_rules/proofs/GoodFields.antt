-- Fields at no fault beside the table of their type are read as what they say there.
use Rattle.std.proofs.Common.{◌≡◌, ◌∙◌, ℕ, List, Option, Some, None, Err, refl, sym, ap}
use Rattle.field_groups.specs.declared.fault.SplitFault.{SplitFault}
use Rattle.field_groups.specs.Field.{Field}
use Rattle.message_tables.specs.FirstFault.{first_fault}
use Rattle.message_tables.specs.Tables.{Table}
use Rattle.first_faults.specs.Faults.{message_by}
use Rattle.first_faults.proofs.Given.{given}
use Rattle.order_meaning.specs.declared.fault.Fault.{Fault}
use Rattle.order_meaning.specs.declared.fault.Fault.TheVariants.{NotSupported}
use Rattle.row_values.specs.Kinds.{Kind, judge}
use Rattle.dict_fix42.specs.Message.{message42, table_of}
use Rattle.request_rules.specs.declared.reading.Good.{Good}
use Rattle.request_rules.specs.Good.{IsGood, IsRead, said, table}

module _ (msg_type : List ℕ) (fields : List Field) (stopped : Option SplitFault) where
  pub not_supported : None ≡ table_of msg_type
      → message42 msg_type fields stopped ≡ Err NotSupported
  unfolding message42
  not_supported none = ap (λ (t : Option (Table Kind)). message_by t fields stopped) (sym none)

  pub fault_is : (t : Table Kind) → Some t ≡ table_of msg_type → (fault : Fault)
      → message_by (Some t) fields stopped ≡ Err fault
      → message42 msg_type fields stopped ≡ Err fault
  unfolding message42
  fault_is t is fault h = ap (λ (t : Option (Table Kind)). message_by t fields stopped) (sym is) ∙ h

  -- fields at no fault beside a table that is that of their type
  module _ (good : Good) (t : Table Kind) (same : table good ≡ t) (is : Some t ≡ table_of msg_type)
      (clean : (good.fields.now ≡ fields) × (stopped ≡ None)
      × (first_fault judge t fields ≡ None)) where
    pub good_is : IsGood good
    good_is = record {
      typed = (msg_type, sym is ∙ ap (λ (t : Table Kind). Some t) (sym same));
      none = (λ i. first_fault judge (same i) (clean.0 i)) ∙ clean.2;
    }

    pub read_is : IsRead msg_type fields stopped (said good)
    unfolding message42 good_is
    read_is = record {
      whole = clean.1;
      read = (λ i. message_by (good_is.typed.1 i) (sym clean.0 i) None)
          ∙ given (table good) good.fields.now None refl good_is.none;
    }

pub ruleset of_good = (not_supported, fault_is)
