-- Inside: requests that say at each row what the fields say.
use Rattle.std.specs.Prelude.{ℕ, List, Option}
use Rattle.field_groups.specs.Field.{Field}
use Rattle.message_tables.specs.FirstFault.{message_in}
use Rattle.message_tables.specs.Tables.{Item, Message, Said}
use Rattle.rows_fix42.specs.Header.{table}
use Rattle.rows_fix50.specs.Header.{completed}
use Rattle.dict_fix50.specs.declared.requests.New.{New}
use Rattle.dict_fix50.specs.declared.requests.Cancel50.{Cancel50}
use Rattle.dict_fix50.specs.declared.requests.Replace.{Replace}
use Rattle.dict_fix50.specs.declared.requests.Status50.{Status50}
use Rattle.dict_fix44.specs.Requests.{new_order, cancel_request, replace_request, status_request}
use Rattle.dict_fix50.specs.Said.{cancel_says, status_says}
use Rattle.requests_fix44.specs.Said.{new_says, replace_says}
use Rattle.row_values.specs.Kinds.{Kind, Value, judge, said}
use Rattle.row_values.specs.Groups.{AreParties, AreAllocs, AreSessions}
use Rattle.row_values.specs.ReadRows.{IsRead}

-- each row of a message says what the fields say
abbrev IsReadBy : List (Item Kind) → List Field → Message → Type 0
IsReadBy items fields m =
    IsRead items (completed (message_in judge (table m.letter items) fields)) m

pub record IsNew (fields : List Field) (m : New (Option ℕ)) : Type 0 where
  pub read : IsReadBy new_order fields (new_says m)
  pub parties : AreParties fields m.parties
  pub allocs : AreAllocs fields m.allocs
  pub sessions : AreSessions fields m.sessions

pub record IsCancel (fields : List Field) (m : Cancel50) : Type 0 where
  pub read : IsReadBy cancel_request fields (cancel_says m)
  pub parties : AreParties fields m.parties

pub record IsReplace (fields : List Field) (m : Replace (Option ℕ)) : Type 0 where
  pub read : IsReadBy replace_request fields (replace_says m)
  pub parties : AreParties fields m.parties
  pub allocs : AreAllocs fields m.allocs
  pub sessions : AreSessions fields m.sessions

pub record IsStatus (fields : List Field) (m : Status50) : Type 0 where
  pub read : IsReadBy status_request fields (status_says m)
  pub parties : AreParties fields m.parties
