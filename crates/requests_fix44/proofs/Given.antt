-- The groups of requests at no fault have at most 32 lines.
use Rattle.std.proofs.Common.{◌≡◌, ◌≤◌, List, length, None, refl}
use Rattle.field_groups.specs.Field.{Field}
use Rattle.message_tables.specs.Tables.{tags_in, lines_in}
use Rattle.message_tables.specs.FirstFault.{first_fault}
use Rattle.message_tables.proofs.Few.{few}
use Rattle.row_values.specs.Kinds.{judge}
use Rattle.row_values.specs.Groups.{parties, allocs, sessions}
use Rattle.row_values.proofs.SaidRows.{plain_parties, plain_allocs, plain_sessions}
use Rattle.requests_fix44.proofs.Means.{new_table, cancel_table, replace_table, status_table}

pub new_parties : (fields : List Field) → first_fault judge new_table fields ≡ None
    → length (lines_in (tags_in parties) fields) ≤ 32
new_parties fields h = few judge new_table fields 0 (tags_in parties) plain_parties refl h

pub new_allocs : (fields : List Field) → first_fault judge new_table fields ≡ None
    → length (lines_in (tags_in allocs) fields) ≤ 32
new_allocs fields h = few judge new_table fields 1 (tags_in allocs) plain_allocs refl h

pub new_sessions : (fields : List Field) → first_fault judge new_table fields ≡ None
    → length (lines_in (tags_in sessions) fields) ≤ 32
new_sessions fields h = few judge new_table fields 2 (tags_in sessions) plain_sessions refl h

pub replace_parties : (fields : List Field) → first_fault judge replace_table fields ≡ None
    → length (lines_in (tags_in parties) fields) ≤ 32
replace_parties fields h = few judge replace_table fields 0 (tags_in parties) plain_parties refl h

pub replace_allocs : (fields : List Field) → first_fault judge replace_table fields ≡ None
    → length (lines_in (tags_in allocs) fields) ≤ 32
replace_allocs fields h = few judge replace_table fields 1 (tags_in allocs) plain_allocs refl h

pub replace_sessions : (fields : List Field) → first_fault judge replace_table fields ≡ None
    → length (lines_in (tags_in sessions) fields) ≤ 32
replace_sessions fields h =
    few judge replace_table fields 2 (tags_in sessions) plain_sessions refl h

pub cancel_parties : (fields : List Field) → first_fault judge cancel_table fields ≡ None
    → length (lines_in (tags_in parties) fields) ≤ 32
cancel_parties fields h = few judge cancel_table fields 0 (tags_in parties) plain_parties refl h

pub status_parties : (fields : List Field) → first_fault judge status_table fields ≡ None
    → length (lines_in (tags_in parties) fields) ≤ 32
status_parties fields h = few judge status_table fields 0 (tags_in parties) plain_parties refl h
