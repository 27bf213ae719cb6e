use Rattle.typed_fields.specs.Stamp.{read_stamp, stamp_text}
use Rattle.typed_fields.proofs.StampLaws.{stamp_reads_back, stamp_is_plain}
use Rattle.typed_fields.proofs.LawLemmas.{stable}
use Rattle.typed_fields.proofs.value.StampFieldValue.laws.Goals as goal

pub returns : goal.returns
returns c = record {
  reads_back = stamp_reads_back;
  is_plain = stamp_is_plain;
  is_stable = stable read_stamp stamp_text stamp_is_plain;
}
