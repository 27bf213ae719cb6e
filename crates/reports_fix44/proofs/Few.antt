-- The groups of execution reports at no fault have at most 32 lines.
use Rattle.std.proofs.Common.{◌≡◌, ◌≤◌, List, length, None, refl}
use Rattle.field_groups.specs.Field.{Field}
use Rattle.message_tables.specs.Tables.{tags_in, lines_in}
use Rattle.message_tables.specs.FirstFault.{first_fault}
use Rattle.message_tables.proofs.Few.{few}
use Rattle.row_values.specs.Kinds.{judge}
use Rattle.row_values.specs.Contras.{contras}
use Rattle.row_values.specs.Groups.{parties}
use Rattle.row_values.proofs.ContraRows.{plain_contras}
use Rattle.row_values.proofs.SaidRows.{plain_parties}
use Rattle.reports_fix44.specs.Message.{report_table}

pub few_parties : (fields : List Field) → first_fault judge report_table fields ≡ None
    → length (lines_in (tags_in parties) fields) ≤ 32
few_parties fields h = few judge report_table fields 0 (tags_in parties) plain_parties refl h

pub few_contras : (fields : List Field) → first_fault judge report_table fields ≡ None
    → length (lines_in (tags_in contras) fields) ≤ 32
few_contras fields h = few judge report_table fields 1 (tags_in contras) plain_contras refl h
