-- Inside: requests that say at each row what the fields say.
use Rattle.std.specs.Prelude.{List, [], ◌∷◌, codes}
use Rattle.value_kinds.specs.ValueKind.{Id, Text, Codes, Word, Currency}
use Rattle.field_groups.specs.Field.{Field}
use Rattle.message_tables.specs.FirstFault.{message_in}
use Rattle.message_tables.specs.Tables.{Item, Message, Said}
use Rattle.rows_fix42.specs.Header.{table}
use Rattle.dict_fix42.specs.declared.groups.Groups.{Groups}
use Rattle.dict_fix42.specs.declared.requests.New42.{New42}
use Rattle.dict_fix42.specs.declared.requests.Cancel42.{Cancel42}
use Rattle.dict_fix42.specs.declared.requests.Replace42.{Replace42}
use Rattle.dict_fix42.specs.declared.requests.Status42.{Status42}
use Rattle.dict_fix42.specs.Requests.{new_order, cancel_request, replace_request, status_request}
use Rattle.dict_fix42.specs.Said.{new_says, cancel_says, replace_says, status_says}
use Rattle.row_values.specs.Kinds.{Kind, Value, judge, said}
use Rattle.row_values.specs.Groups.{AreAllocs, AreSessions}
use Rattle.row_values.specs.Maturity.{IsMaturity}
use Rattle.row_values.specs.ReadRows.{IsRead}

-- what SecurityType says
abbrev security_type_said : List Field → Said
security_type_said fields =
    said fields 167 (Value (Word (codes "CS" ∷ codes "PS" ∷ codes "FUT" ∷ [])))

pub record AreGroups (fields : List Field) (groups : Groups) : Type 0 where
  pub allocs : AreAllocs fields groups.allocs
  pub sessions : AreSessions fields groups.sessions

-- each row of a message says what the fields say
abbrev IsReadBy : List (Item Kind) → List Field → Message → Type 0
IsReadBy items fields m = IsRead items (message_in judge (table m.letter items) fields) m

pub record IsNew (fields : List Field) (m : New42) : Type 0 where
  pub read : IsReadBy new_order fields (new_says m)
  pub allocs : AreAllocs fields m.allocs
  pub sessions : AreSessions fields m.sessions
  pub maturity : IsMaturity fields m.maturity

pub record IsCancel (fields : List Field) (m : Cancel42) : Type 0 where
  pub read : IsReadBy cancel_request fields (cancel_says m)
  pub maturity : IsMaturity fields m.maturity

pub record IsReplace (fields : List Field) (m : Replace42) : Type 0 where
  pub read : IsReadBy replace_request fields (replace_says m)
  pub allocs : AreAllocs fields m.allocs
  pub sessions : AreSessions fields m.sessions
  pub maturity : IsMaturity fields m.maturity

pub record IsStatus (fields : List Field) (m : Status42) : Type 0 where
  pub read : IsReadBy status_request fields (status_says m)
  pub maturity : IsMaturity fields m.maturity

-- the names in a new order
abbrev pub new_names : List Field → List Said
new_names fields =
    said fields 11 (Value Id) ∷ said fields 109 (Value Id) ∷ said fields 76 (Value Id) ∷
    said fields 439 (Value Id) ∷ said fields 1 (Value Id) ∷ []

-- the names in a replace request
abbrev pub replace_names : List Field → List Said
replace_names fields =
    said fields 11 (Value Id) ∷ said fields 41 (Value Id) ∷ said fields 37 (Value Id) ∷
    said fields 109 (Value Id) ∷ said fields 76 (Value Id) ∷ said fields 439 (Value Id) ∷
    said fields 1 (Value Id) ∷ []

-- the texts of a new order or a replace request beside its names
abbrev pub order_texts : List Field → List Said
order_texts fields =
    said fields 18 (Value (Codes (codes "123456G"))) ∷ said fields 100 (Value Id) ∷
    said fields 55 (Value Id) ∷ said fields 65 (Value Id) ∷ said fields 48 (Value Id) ∷
    security_type_said fields ∷ said fields 207 (Value Id) ∷ said fields 15 (Value Currency) ∷
    said fields 58 (Value Text) ∷ []

-- the names in a cancel request
abbrev pub cancel_names : List Field → List Said
cancel_names fields =
    said fields 11 (Value Id) ∷ said fields 41 (Value Id) ∷ said fields 37 (Value Id) ∷
    said fields 109 (Value Id) ∷ said fields 76 (Value Id) ∷ said fields 1 (Value Id) ∷ []

-- the texts of a cancel request beside its names
abbrev pub cancel_texts : List Field → List Said
cancel_texts fields =
    said fields 55 (Value Id) ∷ said fields 65 (Value Id) ∷ said fields 48 (Value Id) ∷
    security_type_said fields ∷ said fields 207 (Value Id) ∷ said fields 58 (Value Text) ∷ []

-- the texts of a status request
abbrev pub status_texts : List Field → List Said
status_texts fields =
    said fields 11 (Value Id) ∷ said fields 37 (Value Id) ∷ said fields 109 (Value Id) ∷
    said fields 76 (Value Id) ∷ said fields 1 (Value Id) ∷ said fields 55 (Value Id) ∷
    said fields 65 (Value Id) ∷ said fields 48 (Value Id) ∷ security_type_said fields ∷
    said fields 207 (Value Id) ∷ []
