-- What is read of fields at no fault is their message, row by row.
use Rattle.std.proofs.Common.{◌≡◌, ℕ, Option, List, [], ◌∷◌, Bool, true, false, Some, None, refl}
use Rattle.std.proofs.Common.{lit<}
use Rattle.std.specs.Prelude.{IsSome, if◌then◌else◌}
use Rattle.field_groups.specs.Field.{Field}
use Rattle.message_tables.specs.Tables.{Place, Said, Table, Tag, first_of, is_place}
use Rattle.message_tables.specs.Tables.{said_at}
use Rattle.message_tables.specs.FirstFault.{first_fault, message_in}
use Rattle.row_values.specs.Kinds.{Kind, judge}
use Rattle.row_values.proofs.ByTable.{says_parties, says_allocs, says_sessions}
use Rattle.row_values.proofs.ReadRows.{read_message}
use Rattle.rows_fix42.specs.Header.{table}
use Rattle.rows_fix50.specs.Header.{completed, month_by}
use Rattle.rows_fix50.proofs.Roles.{of_role}
use Rattle.dict_fix50.specs.declared.requests.New.{New}
use Rattle.dict_fix50.specs.declared.requests.Cancel50.{Cancel50}
use Rattle.dict_fix50.specs.declared.requests.Replace.{Replace}
use Rattle.dict_fix50.specs.declared.requests.Status50.{Status50}
use Rattle.dict_fix44.specs.Requests.{new_order, cancel_request, replace_request, status_request}
use Rattle.dict_fix50.specs.Said.{cancel_says, status_says}
use Rattle.requests_fix44.specs.Said.{new_says, replace_says}
use Rattle.requests_fix44.specs.Reading.{IsNew, IsCancel, IsReplace, IsStatus}

abbrev pub new_table : Table Kind
new_table = table 68 new_order

abbrev pub cancel_table : Table Kind
cancel_table = table 70 cancel_request

abbrev pub replace_table : Table Kind
replace_table = table 71 replace_request

abbrev pub status_table : Table Kind
status_table = table 72 status_request

-- the month that a date tells, and what else is said
abbrev change : Said → Place → Said → Said
change date place said = if is_place place (Tag 200) then month_by date said else said

keeps : (date : Said) (place : Place) (said : Said)
    → IsSome said → IsSome (change date place said)
keeps date place said there = by date (is_place place (Tag 200))
  where
    by : (date : Said) (is : Bool) → IsSome (if is then month_by date said else said)
    by date false = there
    by None true = there
    by (Some date) true = refl

module _ (fields : List Field) where
  abbrev date_in : Table Kind → Said
  date_in t = said_at (message_in judge t fields).cells (Tag 541)

  -- WHAT IS READ IS THE MESSAGE of the fields: one lemma for each type.
  pub new_means : first_fault judge new_table fields ≡ None → (m : New (Option ℕ)) → IsNew fields m
      → new_says m ≡ completed (message_in judge new_table fields)
  unfolding first_of
  new_means h m w =
      let said = completed (message_in judge new_table fields) in
      let lines = says_parties new_table fields h 1 refl refl refl m.parties w.parties in
      let party = of_role fields m.parties w.parties lines in
      read_message new_table fields h
      (change (date_in new_table)) (keeps (date_in new_table)) said.groups
      (new_says m) said refl refl refl (search) w.read
      (party 3 (lit< tt), (party 1 (lit< tt), (party 4 (lit< tt), tt)))
      (λ i. (453, lines i)
      ∷ (78, says_allocs new_table fields h 6 refl refl m.allocs w.allocs i)
      ∷ (386, says_sessions new_table fields h 14 refl refl m.sessions w.sessions i) ∷ [])

  pub cancel_means : first_fault judge cancel_table fields ≡ None
      → (m : Cancel50) → IsCancel fields m
      → cancel_says m ≡ completed (message_in judge cancel_table fields)
  unfolding first_of
  cancel_means h m w =
      let said = completed (message_in judge cancel_table fields) in
      let lines = says_parties cancel_table fields h 3 refl refl refl m.parties w.parties in
      let party = of_role fields m.parties w.parties lines in
      read_message cancel_table fields h
      (change (date_in cancel_table)) (keeps (date_in cancel_table)) said.groups
      (cancel_says m) said refl refl refl (search) w.read
      (party 3 (lit< tt), (party 1 (lit< tt), tt))
      (λ i. (453, lines i) ∷ [])

  pub replace_means : first_fault judge replace_table fields ≡ None
      → (m : Replace (Option ℕ)) → IsReplace fields m
      → replace_says m ≡ completed (message_in judge replace_table fields)
  unfolding first_of
  replace_means h m w =
      let said = completed (message_in judge replace_table fields) in
      let lines = says_parties replace_table fields h 3 refl refl refl m.parties w.parties in
      let party = of_role fields m.parties w.parties lines in
      read_message replace_table fields h
      (change (date_in replace_table)) (keeps (date_in replace_table)) said.groups
      (replace_says m) said refl refl refl (search) w.read
      (party 3 (lit< tt), (party 1 (lit< tt), (party 4 (lit< tt), tt)))
      (λ i. (453, lines i)
      ∷ (78, says_allocs replace_table fields h 8 refl refl m.allocs w.allocs i)
      ∷ (386, says_sessions replace_table fields h 16 refl refl m.sessions w.sessions i) ∷ [])

  pub status_means : first_fault judge status_table fields ≡ None
      → (m : Status50) → IsStatus fields m
      → status_says m ≡ completed (message_in judge status_table fields)
  unfolding first_of
  status_means h m w =
      let said = completed (message_in judge status_table fields) in
      let lines = says_parties status_table fields h 2 refl refl refl m.parties w.parties in
      let party = of_role fields m.parties w.parties lines in
      read_message status_table fields h
      (change (date_in status_table)) (keeps (date_in status_table)) said.groups
      (status_says m) said refl refl refl (search) w.read
      (party 3 (lit< tt), (party 1 (lit< tt), tt))
      (λ i. (453, lines i) ∷ [])
