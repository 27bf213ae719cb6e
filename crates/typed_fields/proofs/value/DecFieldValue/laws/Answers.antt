use Rattle.typed_fields.proofs.DecLaws.{dec_reads_back, dec_is_plain, dec_is_stable}
use Rattle.typed_fields.proofs.value.DecFieldValue.laws.Goals as goal

pub returns : goal.returns
returns c =
    record { reads_back = dec_reads_back; is_plain = dec_is_plain; is_stable = dec_is_stable }
