use Rattle.typed_fields.specs.Day.{read_day, day_text}
use Rattle.typed_fields.proofs.DayLaws.{day_reads_back, day_is_plain}
use Rattle.typed_fields.proofs.LawLemmas.{stable}
use Rattle.typed_fields.proofs.value.DayFieldValue.laws.Goals as goal

pub returns : goal.returns
returns c = record {
  reads_back = day_reads_back;
  is_plain = day_is_plain;
  is_stable = stable read_day day_text day_is_plain;
}
