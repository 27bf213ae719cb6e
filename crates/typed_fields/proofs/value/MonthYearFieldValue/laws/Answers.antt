use Rattle.typed_fields.specs.MonthYear.{read_month_year, month_year_text}
use Rattle.typed_fields.proofs.NumberLaws.{month_year_reads_back, month_year_is_plain}
use Rattle.typed_fields.proofs.LawLemmas.{stable}
use Rattle.typed_fields.proofs.value.MonthYearFieldValue.laws.Goals as goal

pub returns : goal.returns
returns c = record {
  reads_back = month_year_reads_back;
  is_plain = month_year_is_plain;
  is_stable = stable read_month_year month_year_text month_year_is_plain;
}
