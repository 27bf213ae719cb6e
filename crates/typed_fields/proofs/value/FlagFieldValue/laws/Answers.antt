use Rattle.typed_fields.specs.Flag.{read_flag, flag_text}
use Rattle.typed_fields.proofs.NumberLaws.{flag_reads_back, flag_is_plain}
use Rattle.typed_fields.proofs.LawLemmas.{stable}
use Rattle.typed_fields.proofs.value.FlagFieldValue.laws.Goals as goal

pub returns : goal.returns
returns c = record {
  reads_back = λ f h. flag_reads_back f;
  is_plain = flag_is_plain;
  is_stable = stable read_flag flag_text flag_is_plain;
}
