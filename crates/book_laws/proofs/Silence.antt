-- Where an answer is nothing: a request is repeated, or a refusal names nothing.
use Rattle.std.proofs.Common.{◌≡◌, ℕ, Bool, true, false, List, Option, Some, None, Ok, Err, sym}
use Rattle.std.proofs.Common.{◌∙◌, inl, inr}
use Rattle.field_groups.specs.declared.fault.SplitFault.{SplitFault}
use Rattle.field_groups.specs.declared.fault.SplitFault.TheVariants.{TooMany}
use Rattle.field_groups.specs.Field.{Field}
use Rattle.message_tables.specs.declared.table_fault.TableFault.{TableFault}
use Rattle.message_tables.specs.declared.table_fault.TableFault.TheVariants.{Outside}
use Rattle.message_tables.specs.Tables.{Message, Table}
use Rattle.message_tables.specs.FirstFault.{first_fault, message_in, unless}
use Rattle.message_tables.specs.FirstFault.{message_of as message_by_table}
use Rattle.order_meaning.specs.declared.Side.{Side}
use Rattle.order_meaning.specs.declared.Side.TheVariants.{Client}
use Rattle.order_meaning.specs.declared.fault.Fault.{Fault}
use Rattle.order_meaning.specs.declared.fault.Fault.TheVariants as faults
use Rattle.pair_entries.specs.declared.entry.Entry.{Entry}
use Rattle.row_values.specs.Kinds.{Kind, judge}
use Rattle.first_faults.specs.Faults.{message_by, of_split, of_table, told}
use Rattle.reject_rules.specs.Refusals.{refusal_of}
use Rattle.event_decisions.specs.Body.{fields_of, reading_of, type_of}
use Rattle.event_decisions.specs.Decide.{Asked}
use Rattle.message_answers.specs.Answer.{Answers, near_words}
use Rattle.message_answers.specs.Known.{known_of, named}
use Rattle.message_answers.specs.Message.{is_refusal, message_of, refusal_in, said_by}
use Rattle.message_answers.proofs.AnswerCases as cases
use Rattle.message_answers.proofs.ReadShapes.{ReadAs, Shape, Unknown, finished_fault, shape}
use Rattle.message_answers.proofs.ReadShapes.{table_of}

-- ---- want of memory is no fault of a message

split_memory : (fault : SplitFault) → of_split fault ≡ faults.NoMemory → ⊥
split_memory TooMany is = absurd (cc is)
split_memory fault is = absurd (cc is)

table_memory : (fault : TableFault) → of_table fault ≡ faults.NoMemory → ⊥
table_memory (Outside tag) is = absurd (cc is)
table_memory fault is = absurd (cc is)

by_memory : (t : Table Kind) (fields : List Field) (split : Option SplitFault)
    → message_by (Some t) fields split ≡ Err faults.NoMemory → ⊥
unfolding message_by_table
by_memory t fields (Some fault) is = split_memory fault (cc is)
by_memory t fields None is = by (first_fault judge t fields) is
  where
    by : (f : Option TableFault)
        → told (unless f (message_in judge t fields)) ≡ Err faults.NoMemory → ⊥
    by None is = absurd (cc is)
    by (Some fault) is = table_memory fault (cc is)

no_memory : (side : Side) (body : List ℕ) → message_of side body ≡ Err faults.NoMemory → ⊥
no_memory side body is = by (shape (type_of body) side)
  where
    by : Shape side (type_of body) (said_by side (type_of body)) → ⊥
    by (Unknown none) = absurd (cc (none (fields_of body) (reading_of body).fault, is))
    by (ReadAs name of typed e) =
        by_memory (table_of name) (fields_of body) (reading_of body).fault (finished_fault name
        (message_by (Some (table_of name)) (fields_of body) (reading_of body).fault)
        faults.NoMemory (sym (e (fields_of body) (reading_of body).fault) ∙ is))

-- ---- nothing is answered

pub data IsSilence (before : List Entry) (asked : Asked) : Type 0 where
  Repeats : (m : Message) → message_of asked.side asked.body ≡ Ok m → is_refusal m ≡ false
      → asked.side ≡ Client → m.resend ≡ true → IsSilence before asked
  NamesNone : (m : Message) → message_of asked.side asked.body ≡ Ok m → is_refusal m ≡ true
      → named (known_of before) asked.side (refusal_in m) ≡ None → IsSilence before asked

-- WHERE NOTHING IS ANSWERED
pub silent : (before : List Entry) (active : Bool) (asked : Asked)
    → Answers before active (Some asked) None → IsSilence before asked
silent before active asked is = by (cases.given (known_of before) active asked None is)
  where
    faulty : (fault : Fault) → cases.IsFault asked fault → None ≡ near_words asked
        (refusal_of asked.side asked.number (type_of asked.body) fault) → IsSilence before asked
    faulty faults.NoMemory (inl reads) is = absurd (no_memory asked.side asked.body reads)
    faulty faults.NoMemory (inr (tag, small, same)) is = absurd (cc same)
    faulty fault of is = absurd (cc is)

    by : cases.IsGiven (known_of before) active asked None → IsSilence before asked
    by (cases.Faulty fault of is) = faulty fault of is
    by (cases.Used is) = absurd (cc is)
    by (cases.Away is) = absurd (cc is)
    by (cases.Repeats m read client again is) = Repeats m read.reads read.is client again
    by (cases.NamesNone m read none is) = NamesNone m read.reads read.is none
    by (cases.Tells m read number letter source is) = absurd (cc is)
    by (cases.Goes m read unused original from written on short is) = absurd (cc is)
