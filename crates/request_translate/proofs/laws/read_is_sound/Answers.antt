use Rattle.row_values.specs.Kinds.{judge}
use Rattle.sound_laws.proofs.PlainFields.{clear_fields}
use Rattle.request_rules.proofs.Sound42.{read_is_sound}
use Rattle.request_translate.proofs.Sound50.{read_is_complete}
use Rattle.std.proofs.Common.{None}
use Rattle.request_translate.proofs.laws.read_is_sound.Goals as goal

pub returns : goal.returns
returns c = record {
  fix42 = λ msg_type fields m are read.
      read_is_sound fields (clear_fields judge None fields are) msg_type m read;
  fix50 = λ msg_type fields m are read.
      read_is_complete fields (clear_fields judge None fields are) msg_type m read;
}
