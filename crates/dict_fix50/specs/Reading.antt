-- Inside: requests that say at each row what the fields say.
use Rattle.std.specs.Prelude.{ℕ, List, [], ◌∷◌, codes}
use Rattle.value_kinds.specs.ValueKind.{Id, Text, Word, Currency, Codes}
use Rattle.field_groups.specs.Field.{Field}
use Rattle.message_tables.specs.FirstFault.{message_in}
use Rattle.message_tables.specs.Tables.{Item, Message, Said}
use Rattle.rows_fix50.specs.Header.{completed, table}
use Rattle.dict_fix50.specs.declared.groups.Groups.{Groups}
use Rattle.dict_fix50.specs.declared.requests.New.{New}
use Rattle.dict_fix50.specs.declared.requests.Cancel50.{Cancel50}
use Rattle.dict_fix50.specs.declared.requests.Replace.{Replace}
use Rattle.dict_fix50.specs.declared.requests.Status50.{Status50}
use Rattle.dict_fix50.specs.Requests.{new_order, cancel_request, replace_request, status_request}
use Rattle.dict_fix50.specs.Said.{new_says, cancel_says, replace_says, status_says}
use Rattle.row_values.specs.Kinds.{Kind, Value, judge, said}
use Rattle.row_values.specs.Groups.{AreParties, AreAllocs, AreSessions}
use Rattle.row_values.specs.ReadRows.{IsRead}

-- what SecurityType says
abbrev security_type_said : List Field → Said
security_type_said fields =
    said fields 167 (Value (Word (codes "CS" ∷ codes "PS" ∷ codes "FUT" ∷ [])))

pub record AreGroups (fields : List Field) (groups : Groups) : Type 0 where
  pub parties : AreParties fields groups.parties
  pub allocs : AreAllocs fields groups.allocs
  pub sessions : AreSessions fields groups.sessions

-- each row of a message says what the fields say
abbrev IsReadBy : List (Item Kind) → List Field → Message → Type 0
IsReadBy items fields m =
    IsRead items (completed (message_in judge (table m.letter items) fields)) m

pub record IsNew (fields : List Field) (m : New ℕ) : Type 0 where
  pub read : IsReadBy new_order fields (new_says m)
  pub parties : AreParties fields m.parties
  pub allocs : AreAllocs fields m.allocs
  pub sessions : AreSessions fields m.sessions

pub record IsCancel (fields : List Field) (m : Cancel50) : Type 0 where
  pub read : IsReadBy cancel_request fields (cancel_says m)
  pub parties : AreParties fields m.parties

pub record IsReplace (fields : List Field) (m : Replace ℕ) : Type 0 where
  pub read : IsReadBy replace_request fields (replace_says m)
  pub parties : AreParties fields m.parties
  pub allocs : AreAllocs fields m.allocs
  pub sessions : AreSessions fields m.sessions

pub record IsStatus (fields : List Field) (m : Status50) : Type 0 where
  pub read : IsReadBy status_request fields (status_says m)
  pub parties : AreParties fields m.parties

-- the texts of a new order
abbrev pub new_texts : List Field → List Said
new_texts fields =
    said fields 11 (Value Id) ∷ said fields 1 (Value Id) ∷
    said fields 18 (Value (Codes (codes "123456G"))) ∷ said fields 100 (Value Id) ∷
    said fields 55 (Value Id) ∷ said fields 65 (Value Id) ∷ said fields 48 (Value Id) ∷
    security_type_said fields ∷ said fields 207 (Value Id) ∷ said fields 15 (Value Currency) ∷
    said fields 58 (Value Text) ∷ []

-- the texts of a cancel request
abbrev pub cancel_texts : List Field → List Said
cancel_texts fields =
    said fields 11 (Value Id) ∷ said fields 41 (Value Id) ∷ said fields 37 (Value Id) ∷
    said fields 1 (Value Id) ∷ said fields 55 (Value Id) ∷ said fields 65 (Value Id) ∷
    said fields 48 (Value Id) ∷ security_type_said fields ∷ said fields 207 (Value Id) ∷
    said fields 58 (Value Text) ∷ []

-- the ids that a replace request has beside the texts of a new order
abbrev pub replace_ids : List Field → List Said
replace_ids fields = said fields 41 (Value Id) ∷ said fields 37 (Value Id) ∷ []

-- the texts of a status request
abbrev pub status_texts : List Field → List Said
status_texts fields =
    said fields 11 (Value Id) ∷ said fields 37 (Value Id) ∷ said fields 1 (Value Id) ∷
    said fields 55 (Value Id) ∷ said fields 65 (Value Id) ∷ said fields 48 (Value Id) ∷
    security_type_said fields ∷ said fields 207 (Value Id) ∷ []
