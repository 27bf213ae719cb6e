-- What is heard in a refusal that was read.
use Rattle.std.proofs.Common.{◌≡◌, ℕ, true, List, [], ◌∷◌, Result, refl, sym, ap, ◌∙◌}
use Rattle.std.specs.Prelude.{is_some}
use Rattle.std.specs.Result.{result_ok}
use Rattle.field_groups.specs.Field.{Field}
use Rattle.message_tables.specs.Tables.{Message, ◌>>=◌}
use Rattle.order_meaning.specs.declared.fault.Fault.{Fault}
use Rattle.row_values.specs.Amounts.{number_if}
use Rattle.event_decisions.specs.Body.{fields_of}
use Rattle.message_answers.specs.Message.{is_refusal}
use Rattle.message_answers.proofs.ReadShapes.{TableName, Business42, Business50, Reject42, Reject50}
use Rattle.message_answers.proofs.ReadShapes.{said, said_as, table_of}
use Rattle.book_laws.specs.Heard.{Refusal, id_named_in, number_named_in, sort_of}
use Rattle.book_laws.specs.HeardLaws.{RefusalsAreHeard}
use Rattle.book_laws.proofs.Numbers.{number_said}

-- by a table of a refusal: its sort, and the number in the row of RefSeqNum(45)
record IsHeardAs (name : TableName) (fields : List Field) : Type 0 where
  sort : sort_of ((table_of name).letter ∷ []) true ≡ Refusal
  number : number_named_in ((table_of name).letter ∷ []) fields
      ≡ number_if (said_as name fields).cells 45

heard_as : (name : TableName) (fields : List Field) → is_refusal (said_as name fields) ≡ true
    → IsHeardAs name fields
heard_as Reject42 fields is = record { sort = refl; number = sym (number_said fields 45) }
heard_as Business42 fields is = record { sort = refl; number = sym (number_said fields 45) }
heard_as Reject50 fields is = record { sort = refl; number = sym (number_said fields 45) }
heard_as Business50 fields is = record { sort = refl; number = sym (number_said fields 45) }
heard_as name fields is = absurd cc

pub refusals_heard : RefusalsAreHeard
refusals_heard side number body m reads refuses =
    let s = said side body m reads in
    let h = heard_as s.name (fields_of body)
    (ap (λ (x : Message). is_refusal x) (sym s.is) ∙ refuses) in
    record {
      sort = (λ i. sort_of (s.typed i) (is_some (result_ok (reads i)))) ∙ h.sort;
      number = ap (λ (t : List ℕ). number_named_in t (fields_of body)) s.typed ∙ h.number
          ∙ ap (λ (x : Message). number_if x.cells 45) (sym s.is);
      id = ap (λ (r : Result Message Fault). result_ok r >>= id_named_in) reads;
    }
