-- What is read of fields at no fault is their message, row by row.
use Rattle.std.proofs.Common.{◌≡◌, List, [], ◌∷◌, None, refl}
use Rattle.field_groups.specs.Field.{Field}
use Rattle.message_tables.specs.Tables.{Table}
use Rattle.message_tables.specs.FirstFault.{first_fault, message_in}
use Rattle.row_values.specs.Kinds.{Kind, judge}
use Rattle.row_values.proofs.Days.{dated}
use Rattle.row_values.proofs.ByTable.{says_allocs, says_sessions}
use Rattle.row_values.proofs.ReadRows.{read_message}
use Rattle.dict_fix42.specs.declared.requests.New42.{New42}
use Rattle.dict_fix42.specs.declared.requests.Cancel42.{Cancel42}
use Rattle.dict_fix42.specs.declared.requests.Replace42.{Replace42}
use Rattle.dict_fix42.specs.declared.requests.Status42.{Status42}
use Rattle.dict_fix42.specs.Requests.{new_order, cancel_request, replace_request, status_request}
use Rattle.rows_fix42.specs.Header.{table}
use Rattle.dict_fix42.specs.Said.{new_says, cancel_says, replace_says, status_says}
use Rattle.dict_fix42.specs.Reading.{IsNew, IsCancel, IsReplace, IsStatus}

abbrev pub new_table : Table Kind
new_table = table 68 new_order

abbrev pub cancel_table : Table Kind
cancel_table = table 70 cancel_request

abbrev pub replace_table : Table Kind
replace_table = table 71 replace_request

abbrev pub status_table : Table Kind
status_table = table 72 status_request

module _ (fields : List Field) where
  -- WHAT IS READ IS THE MESSAGE of the fields: one lemma for each type.
  pub new_means : first_fault judge new_table fields ≡ None → (m : New42) → IsNew fields m
      → new_says m ≡ message_in judge new_table fields
  new_means h m w =
      let said = message_in judge new_table fields in
      read_message new_table fields h (λ place said. said) (λ place said there. there)
      said.groups (new_says m) said refl refl refl (search) w.read
      (w.maturity.day (dated new_table fields h 19 refl refl), tt)
      (λ i. (78, says_allocs new_table fields h 5 refl refl m.allocs w.allocs i)
      ∷ (386, says_sessions new_table fields h 13 refl refl m.sessions w.sessions i) ∷ [])

  pub cancel_means : first_fault judge cancel_table fields ≡ None
      → (m : Cancel42) → IsCancel fields m → cancel_says m ≡ message_in judge cancel_table fields
  cancel_means h m w =
      let said = message_in judge cancel_table fields in
      read_message cancel_table fields h (λ place said. said) (λ place said there. there)
      [] (cancel_says m) said refl refl refl (search) w.read
      (w.maturity.day (dated cancel_table fields h 11 refl refl), tt) refl

  pub replace_means : first_fault judge replace_table fields ≡ None
      → (m : Replace42) → IsReplace fields m
      → replace_says m ≡ message_in judge replace_table fields
  replace_means h m w =
      let said = message_in judge replace_table fields in
      read_message replace_table fields h (λ place said. said) (λ place said there. there)
      said.groups (replace_says m) said refl refl refl (search) w.read
      (w.maturity.day (dated replace_table fields h 21 refl refl), tt)
      (λ i. (78, says_allocs replace_table fields h 7 refl refl m.allocs w.allocs i)
      ∷ (386, says_sessions replace_table fields h 15 refl refl m.sessions w.sessions i) ∷ [])

  pub status_means : first_fault judge status_table fields ≡ None
      → (m : Status42) → IsStatus fields m → status_says m ≡ message_in judge status_table fields
  status_means h m w =
      let said = message_in judge status_table fields in
      read_message status_table fields h (λ place said. said) (λ place said there. there)
      [] (status_says m) said refl refl refl (search) w.read
      (w.maturity.day (dated status_table fields h 10 refl refl), tt) refl
