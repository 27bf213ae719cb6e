use Rattle.typed_fields.specs.Number.{read_number, number_text, IsNumber}
use Rattle.typed_fields.proofs.NumberLaws.{number_reads_back, number_is_plain, number_in_bound}
use Rattle.typed_fields.proofs.LawLemmas.{stable_in_bound}
use Rattle.typed_fields.proofs.value.NumberFieldValue.laws.Goals as goal

pub returns : goal.returns
returns c = record {
  reads_back = number_reads_back;
  is_plain = number_is_plain;
  is_stable = stable_in_bound read_number IsNumber number_text number_reads_back number_in_bound;
}
