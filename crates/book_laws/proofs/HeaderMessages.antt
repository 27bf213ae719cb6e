-- Each message of a side means what its fields without the header mean.
use Rattle.std.proofs.Common.{◌≡◌, true, false, List, Option, Some, None, Ok, refl, sym, ap, ◌∙◌}
use Rattle.field_groups.specs.declared.fault.SplitFault.{SplitFault}
use Rattle.field_groups.specs.Field.{Field}
use Rattle.message_tables.specs.Tables.{Message}
use Rattle.message_tables.specs.FirstFault.{message_in}
use Rattle.first_faults.specs.Faults.{message_by}
use Rattle.first_faults.proofs.Given.{given}
use Rattle.row_values.specs.Kinds.{judge}
use Rattle.event_decisions.specs.Body.{fields_of, reading_of, type_of}
use Rattle.message_answers.specs.Message.{said_by}
use Rattle.message_answers.proofs.ReadShapes.{TableName, NewOrder42, ReadAs, Shape, Unknown}
use Rattle.message_answers.proofs.ReadShapes.{finished, finished_by, finished_ok, read_as, read_by}
use Rattle.message_answers.proofs.ReadShapes.{shape, table_of}
use Rattle.life_laws.specs.Receiver.{behind_header}
use Rattle.book_laws.specs.Laws.{HeadersSayNothing}
use Rattle.book_laws.proofs.Headers.{is_behind_header, table_behind}

abbrev without : Message → Message
without m = record m { resend = false }

-- each table counts on no field of the header
behind : (name : TableName) → table_behind (table_of name) ≡ true
behind NewOrder42 = refl
behind name = refl

finished_is : (name : TableName) (m : Message)
    → finished_by name (Ok (without m)) ≡ Ok (without (finished name m))
finished_is NewOrder42 m = refl
finished_is name m = refl

read_without : (name : TableName) (fields : List Field) (split : Option SplitFault) (m : Message)
    → read_as name fields split ≡ Ok m → read_as name (behind_header fields) None ≡ Ok (without m)
read_without name fields split m is =
    let p = finished_ok name (message_by (Some (table_of name)) fields split) m is in
    let r = read_by (table_of name) fields split p.0 p.1 in
    let b = is_behind_header (table_of name) (behind name) fields r.none in
    ap (finished_by name) (given (table_of name) (behind_header fields) None refl b.none
    ∙ ap Ok b.said) ∙ finished_is name (message_in judge (table_of name) fields)
    ∙ ap (λ (x : Message). Ok (without (finished name x))) (sym r.is)
    ∙ ap (λ (x : Message). Ok (without x)) (sym p.2)

-- A BODY MEANS WHAT ITS FIELDS WITHOUT THE HEADER MEAN.
pub headers_say_nothing : HeadersSayNothing
headers_say_nothing side body m reads = by (shape (type_of body) side)
  where
    by : Shape side (type_of body) (said_by side (type_of body))
        → said_by side (type_of body) (behind_header (fields_of body)) None ≡ Ok (without m)
    by (Unknown none) = absurd (cc (none (fields_of body) (reading_of body).fault, reads))
    by (ReadAs name of typed e) = e (behind_header (fields_of body)) None
        ∙ read_without name (fields_of body) (reading_of body).fault m
        (sym (e (fields_of body) (reading_of body).fault) ∙ reads)
