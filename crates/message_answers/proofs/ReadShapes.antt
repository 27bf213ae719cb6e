-- By which table a message of a side is read, and what that says of it.
use Rattle.std.proofs.Common.{◌≡◌, ℕ, Bool, true, false, List, [], ◌∷◌, codes, Option, Some, None}
use Rattle.std.proofs.Common.{Result, Ok, Err, refl, sym, ap, subst, ◌∙◌, if◌then◌else◌}
use Rattle.std.specs.List.{AllByRecursion, list_all}
use Rattle.std.specs.Str.{bytes_eq}
use Rattle.std.proofs.lemmas.Slice.Eq.{bytes_eq-Decides}
use Rattle.field_groups.specs.declared.fault.SplitFault.{SplitFault}
use Rattle.field_groups.specs.Data.{is_data_tag}
use Rattle.field_groups.specs.Field.{Field}
use Rattle.message_tables.specs.declared.table_fault.TableFault.{TableFault}
use Rattle.message_tables.specs.Tables.{Message, Table, is_one_of}
use Rattle.message_tables.specs.FirstFault.{first_fault, message_in, message_of, unless}
use Rattle.order_meaning.specs.declared.Side.{Side}
use Rattle.order_meaning.specs.declared.Side.TheVariants.{Client, Venue}
use Rattle.order_meaning.specs.declared.fault.Fault.{Fault}
use Rattle.order_meaning.specs.declared.fault.Fault.TheVariants.{NotSupported}
use Rattle.first_faults.specs.Faults.{message_by, told}
use Rattle.row_values.specs.Kinds.{Kind, judge, resend_of}
use Rattle.rows_fix42.specs.Header.{table as table42}
use Rattle.rows_fix50.specs.Header.{completed_by}
use Rattle.refusal_parts.specs.Once.{once_by}
use Rattle.dict_fix42.specs.Message.{message42 as request42}
use Rattle.dict_fix42.specs.Requests.{new_order, cancel_request, replace_request, status_request}
use Rattle.reports_fix42.specs.Message.{message42 as report42}
use Rattle.reports_fix42.specs.Message as reports42
use Rattle.reports_fix50.specs.Message.{message50}
use Rattle.reports_fix50.specs.Message as reports50
use Rattle.sound_laws.proofs.PlainFields.{clear_fields, has_good_tags}
use Rattle.report_rules.specs.Down.{IsReport50, Rejects50, Reports50}
use Rattle.report_rules.proofs.ReadDown.{reject_read, report_read}
use Rattle.reject_rules.specs.Laws.{HasWords}
use Rattle.event_decisions.specs.Body.{fields_of, reading_of, type_of}
use Rattle.event_decisions.proofs.Bodies.{bodies_are_read}
use Rattle.message_answers.specs.Message.{is_refusal, is_refusal_type, refusal_in, said_by}
use Rattle.message_answers.specs.Message.{message_of as message_of_side}
use Rattle.message_answers.proofs.FaultWords.{fault_words, split_words}
use Rattle.message_answers.proofs.SaidTexts.{AreClear, IsToldWell, id_at, text_at, told_well}

-- ---- the tables

pub data TableName : Type 0 where
  NewOrder42 : TableName
  Cancel42 : TableName
  Replace42 : TableName
  Status42 : TableName
  Report42 : TableName
  CancelReject42 : TableName
  Reject42 : TableName
  Business42 : TableName
  Report50 : TableName
  CancelReject50 : TableName
  Reject50 : TableName
  Business50 : TableName

abbrev pub table_of : TableName → Table Kind
table_of NewOrder42 = table42 68 new_order
table_of Cancel42 = table42 70 cancel_request
table_of Replace42 = table42 71 replace_request
table_of Status42 = table42 72 status_request
table_of Report42 = reports42.execution_report_table
table_of CancelReject42 = reports42.cancel_reject_table
table_of Reject42 = reports42.session_reject_table
table_of Business42 = reports42.business_reject_table
table_of Report50 = reports50.report_table
table_of CancelReject50 = reports50.cancel_reject_table
table_of Reject50 = reports50.session_reject_table
table_of Business50 = reports50.business_reject_table

-- whose messages are read by it
abbrev pub side_of : TableName → Side
side_of Report50 = Venue
side_of CancelReject50 = Venue
side_of Reject50 = Venue
side_of Business50 = Venue
side_of name = Client

-- what is done with a message that was read by it
abbrev pub finished_by : TableName → Result Message Fault → Result Message Fault
finished_by Reject42 r = once_by r
finished_by Business42 r = once_by r
finished_by Report50 r = completed_by r
finished_by CancelReject50 r = completed_by r
finished_by Reject50 r = once_by r
finished_by Business50 r = once_by r
finished_by name r = r

-- and what that makes of it
abbrev pub finished : TableName → Message → Message
finished name m = elim (finished_by name (Ok m)) [ Ok x ↦ x | Err fault ↦ m ]

-- THE MESSAGE that fields are by a table
abbrev pub read_as : TableName → List Field → Option SplitFault → Result Message Fault
read_as name fields split = finished_by name (message_by (Some (table_of name)) fields split)

abbrev pub said_as : TableName → List Field → Message
said_as name fields = finished name (message_in judge (table_of name) fields)

pub finished_ok : (name : TableName) (r : Result Message Fault) (m : Message)
    → finished_by name r ≡ Ok m → (x : Message) × (r ≡ Ok x) × (m ≡ finished name x)
finished_ok Reject42 (Err fault) m is = absurd cc
finished_ok name (Err fault) m is = absurd cc
finished_ok name (Ok x) m is = let same : finished name x ≡ m = cc in (x, refl, sym same)

pub finished_fault : (name : TableName) (r : Result Message Fault) (fault : Fault)
    → finished_by name r ≡ Err fault → r ≡ Err fault
finished_fault Reject42 (Ok x) fault is = absurd cc
finished_fault name (Ok x) fault is = absurd cc
finished_fault Reject42 (Err e) fault is = is
finished_fault name (Err e) fault is = is

-- what holds of each table, and of what is read by it
good_tags : (name : TableName) → list_all has_good_tags (table_of name).items ≡ true
unfolding is_data_tag
good_tags NewOrder42 = refl
good_tags name = refl

types_of : (name : TableName) (fields : List Field)
    → is_one_of (codes "DFGH893j") (said_as name fields).letter ≡ true
types_of NewOrder42 fields = refl
types_of name fields = refl

letter_of : (name : TableName) (fields : List Field)
    → (said_as name fields).letter ≡ (table_of name).letter
letter_of NewOrder42 fields = refl
letter_of name fields = refl

resend_by : (name : TableName) (fields : List Field) → is_refusal (said_as name fields) ≡ false
    → (said_as name fields).resend ≡ resend_of fields
resend_by Reject42 fields none = absurd cc
resend_by Business42 fields none = absurd cc
resend_by Reject50 fields none = absurd cc
resend_by Business50 fields none = absurd cc
resend_by name fields none = refl

well_by : (name : TableName) (fields : List Field) → AreClear fields
    → is_refusal (said_as name fields) ≡ true → IsToldWell (refusal_in (said_as name fields))
unfolding is_data_tag
well_by Reject42 fields clear is =
    told_well (said_as Reject42 fields) tt (text_at fields clear 58 refl)
well_by Business42 fields clear is = told_well (said_as Business42 fields)
    (id_at fields clear 379 refl) (text_at fields clear 58 refl)
well_by Reject50 fields clear is =
    told_well (said_as Reject50 fields) tt (text_at fields clear 58 refl)
well_by Business50 fields clear is = told_well (said_as Business50 fields)
    (id_at fields clear 379 refl) (text_at fields clear 58 refl)
well_by name fields clear is = absurd cc

-- ---- a message that was read by a table

-- it was read at no fault
pub record IsRead (t : Table Kind) (fields : List Field) (split : Option SplitFault) (m : Message)
    : Type 0 where
  pub whole : split ≡ None
  pub none : first_fault judge t fields ≡ None
  pub is : m ≡ message_in judge t fields

pub read_by : (t : Table Kind) (fields : List Field) (split : Option SplitFault) (m : Message)
    → message_by (Some t) fields split ≡ Ok m → IsRead t fields split m
unfolding message_of
read_by t fields (Some fault) m is = absurd cc
read_by t fields None m is = by (first_fault judge t fields) refl is
  where
    by : (f : Option TableFault) → first_fault judge t fields ≡ f
        → told (unless f (message_in judge t fields)) ≡ Ok m → IsRead t fields None m
    by None none is =
        let same : message_in judge t fields ≡ m = cc in
        record { whole = refl; none = none; is = sym same }
    by (Some f) none is = absurd cc

pub is_said : (name : TableName) (fields : List Field) (split : Option SplitFault) (m : Message)
    → read_as name fields split ≡ Ok m → m ≡ said_as name fields
is_said name fields split m is =
    let p = finished_ok name (message_by (Some (table_of name)) fields split) m is in
    p.2 ∙ ap (finished name) (read_by (table_of name) fields split p.0 p.1).is

-- ---- the messages of a type

-- As what the messages of a type are read.
pub data Shape (side : Side) (msg_type : List ℕ)
    (read : List Field → Option SplitFault → Result Message Fault) : Type 0 where
  Unknown : ((fields : List Field) (split : Option SplitFault)
      → read fields split ≡ Err NotSupported) → Shape side msg_type read
  ReadAs : (name : TableName) → side_of name ≡ side → msg_type ≡ (table_of name).letter ∷ []
      → ((fields : List Field) (split : Option SplitFault)
      → read fields split ≡ read_as name fields split) → Shape side msg_type read

module _ (msg_type : List ℕ) where
  -- by the first of some tables whose type it is
  abbrev first_as : List TableName → List Field → Option SplitFault → Result Message Fault
  first_as [] fields split = Err NotSupported
  first_as (name ∷ names) fields split =
      if bytes_eq msg_type ((table_of name).letter ∷ []) then read_as name fields split else
      first_as names fields split

  first_shape : (side : Side) (names : List TableName)
      → AllByRecursion (λ name. side_of name ≡ side) names → Shape side msg_type (first_as names)
  first_shape side [] of = Unknown (λ fields split. refl)
  first_shape side (name ∷ names) of =
      by (bytes_eq msg_type ((table_of name).letter ∷ [])) refl (first_shape side names of.1)
    where
      by : (b : Bool) → bytes_eq msg_type ((table_of name).letter ∷ []) ≡ b
          → Shape side msg_type (first_as names)
          → Shape side msg_type (λ fields split. if b then read_as name fields split else
          first_as names fields split)
      by true is rest = ReadAs name of.0
          ((bytes_eq-Decides msg_type ((table_of name).letter ∷ [])).0 is) (λ fields split. refl)
      by false is rest = rest

  pub of_request : Shape Client msg_type (request42 msg_type)
  unfolding request42
  of_request = subst (Shape Client msg_type)
      (λ i fields split. by (bytes_eq msg_type (codes "D")) (bytes_eq msg_type (codes "F"))
      (bytes_eq msg_type (codes "G")) (bytes_eq msg_type (codes "H")) fields split i)
      (first_shape Client (NewOrder42 ∷ Cancel42 ∷ Replace42 ∷ Status42 ∷ [])
      (refl, (refl, (refl, (refl, tt)))))
    where
      by : (d f g h : Bool) (fields : List Field) (split : Option SplitFault)
          → (if d then read_as NewOrder42 fields split else
          (if f then read_as Cancel42 fields split else
          (if g then read_as Replace42 fields split else
          (if h then read_as Status42 fields split else Err NotSupported))))
          ≡ message_by (if d then Some (table_of NewOrder42) else
          (if f then Some (table_of Cancel42) else (if g then Some (table_of Replace42) else
          (if h then Some (table_of Status42) else None)))) fields split
      by true f g h fields split = refl
      by false true g h fields split = refl
      by false false true h fields split = refl
      by false false false true fields split = refl
      by false false false false fields split = refl

  pub of_client : Shape Client msg_type (report42 msg_type)
  unfolding report42
  of_client = first_shape Client (Report42 ∷ CancelReject42 ∷ Reject42 ∷ Business42 ∷ [])
      (refl, (refl, (refl, (refl, tt))))

  pub of_venue : Shape Venue msg_type (message50 msg_type)
  unfolding message50
  of_venue = first_shape Venue (Report50 ∷ CancelReject50 ∷ Reject50 ∷ Business50 ∷ [])
      (refl, (refl, (refl, (refl, tt))))

  -- THE SHAPE of what a side says
  pub shape : (side : Side) → Shape side msg_type (said_by side msg_type)
  shape Client = by (is_refusal_type msg_type)
    where
      by : (b : Bool) → Shape Client msg_type (λ fields split. if b
          then report42 msg_type fields split else request42 msg_type fields split)
      by true = of_client
      by false = of_request
  shape Venue = of_venue

-- THE TYPE of a message that was read
pub type_by : {side : Side} {msg_type : List ℕ}
    {read : List Field → Option SplitFault → Result Message Fault} → Shape side msg_type read
    → (fields : List Field) (split : Option SplitFault) (m : Message) → read fields split ≡ Ok m
    → msg_type ≡ m.letter ∷ []
type_by (Unknown none) fields split m is = absurd (cc (none fields split, is))
type_by (ReadAs name of typed e) fields split m is =
    typed ∙ ap (λ (l : ℕ). l ∷ []) (sym (ap (λ (x : Message). x.letter)
    (is_said name fields split m (sym (e fields split) ∙ is)) ∙ letter_of name fields))

-- THE NUMBERS OF A FAULT have 32 bits.
pub words_of_fault : (side : Side) (body : List ℕ) (fault : Fault)
    → message_of_side side body ≡ Err fault → HasWords fault
words_of_fault side body fault is = by (shape (type_of body) side)
  where
    by : Shape side (type_of body) (said_by side (type_of body)) → HasWords fault
    by (Unknown none) =
        let same : NotSupported ≡ fault = cc (none (fields_of body) (reading_of body).fault, is) in
        subst (λ (x : Fault). HasWords x) same tt
    by (ReadAs name of typed reads) = fault_words (table_of name) (good_tags name)
        (fields_of body) (reading_of body).fault fault (bodies_are_read body).good
        (split_words body) (finished_fault name
        (message_by (Some (table_of name)) (fields_of body) (reading_of body).fault) fault
        (sym (reads (fields_of body) (reading_of body).fault) ∙ is))

-- ---- a message of a side

module _ (side : Side) (body : List ℕ) (m : Message) where
  -- the table by which it was read, and that it is what the fields say by it
  pub record IsSaid : Type 0 where
    pub name : TableName
    pub of : side_of name ≡ side
    pub typed : type_of body ≡ (table_of name).letter ∷ []
    pub read : read_as name (fields_of body) (reading_of body).fault ≡ Ok m
    pub is : m ≡ said_as name (fields_of body)

  pub said : message_of_side side body ≡ Ok m → IsSaid
  said reads = by (shape (type_of body) side)
    where
      by : Shape side (type_of body) (said_by side (type_of body)) → IsSaid
      by (Unknown none) = absurd (cc (none (fields_of body) (reading_of body).fault, reads))
      by (ReadAs name of typed e) =
          let read : read_as name (fields_of body) (reading_of body).fault ≡ Ok m =
          sym (e (fields_of body) (reading_of body).fault) ∙ reads in
          record {
            name = name;
            of = of;
            typed = typed;
            read = read;
            is = is_said name (fields_of body) (reading_of body).fault m read;
          }

  module _ (reads : message_of_side side body ≡ Ok m) where
    -- ITS TYPE, and its letter
    pub said_type : type_of body ≡ m.letter ∷ []
    said_type = type_by (shape (type_of body) side) (fields_of body) (reading_of body).fault m reads

    pub letter_is : is_one_of (codes "DFGH893j") m.letter ≡ true
    letter_is =
        let s = said reads in
        ap (λ (x : Message). is_one_of (codes "DFGH893j") x.letter) s.is
        ∙ types_of s.name (fields_of body)

    -- A message that is no refusal says whether it repeats another as its fields do.
    pub resend_is : is_refusal m ≡ false → m.resend ≡ resend_of (fields_of body)
    resend_is none =
        let s = said reads in
        ap (λ (x : Message). x.resend) s.is ∙ resend_by s.name (fields_of body)
        (ap (λ (x : Message). is_refusal x) (sym s.is) ∙ none)

    clear : AreClear (fields_of body)
    clear = clear_fields judge None (fields_of body) (bodies_are_read body).good

    -- A REFUSAL says what can be told.
    pub refuses_well : is_refusal m ≡ true → IsToldWell (refusal_in m)
    refuses_well refuses =
        let s = said reads in
        subst (λ (x : Message). IsToldWell (refusal_in x)) (sym s.is)
        (well_by s.name (fields_of body) clear
        (ap (λ (x : Message). is_refusal x) (sym s.is) ∙ refuses))

    -- A REPORT of the venue
    pub venue_report : side ≡ Venue → is_refusal m ≡ false → IsReport50 m
    venue_report venue none =
        let s = said reads in
        let p = finished_ok s.name
        (message_by (Some (table_of s.name)) (fields_of body) (reading_of body).fault) m s.read in
        let r = read_by (table_of s.name) (fields_of body) (reading_of body).fault p.0 p.1 in
        by s.name (s.of ∙ venue) ((λ i. read_as s.name (fields_of body) (sym r.whole i)) ∙ s.read)
        (ap (λ (x : Message). is_refusal x) (sym s.is) ∙ none)
      where
        by : (name : TableName) → side_of name ≡ Venue → read_as name (fields_of body) None ≡ Ok m
            → is_refusal (said_as name (fields_of body)) ≡ false → IsReport50 m
        by Report50 of read none =
            Reports50 (report_read (fields_of body) clear m read).complete
        by CancelReject50 of read none =
            Rejects50 (reject_read (fields_of body) clear m read).complete
        by Reject50 of read none = absurd cc
        by Business50 of read none = absurd cc
        by name of read none = absurd cc
