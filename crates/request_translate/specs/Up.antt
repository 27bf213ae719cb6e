-- Own: a sound request of each version, one whose content says the same when it is read again.
use Rattle.message_tables.specs.Tables.{Message}
use Rattle.order_meaning.specs.Request.{RequestKind}
use Rattle.row_values.specs.Kinds.{judge}
use Rattle.dict_fix42.specs.Content.{table42}
use Rattle.dict_fix42.specs.Said.{says as says42}
use Rattle.dict_fix42.specs.declared.requests.Msg42.{Msg42}
use Rattle.dict_fix50.specs.Content.{table50}
use Rattle.dict_fix50.specs.Requests.{asked50}
use Rattle.dict_fix50.specs.Said.{says as says50}
use Rattle.dict_fix50.specs.declared.requests.Msg50.{Msg50}
use Rattle.sound_laws.specs.Sound.{IsSound}
use Rattle.sound_laws.specs.Complete.{IsComplete}

abbrev pub IsSound42 : Msg42 → Type 0
IsSound42 m = IsSound judge (table42 m) (says42 m)

abbrev pub IsSound50 : Msg50 → Type 0
IsSound50 m = IsComplete (table50 m) (says50 m)

-- a sound request of FIX 5.0 SP2
pub record IsRequest50 (m : Message) : Type 0 where
  pub kind : RequestKind
  pub complete : IsComplete (asked50 kind) m
