-- Inside: what was found of the values of fields so far.
use Rattle.std.specs.Prelude.{◌≡◌, List}
use Rattle.message_tables.specs.declared.stages.Found.{Found}
use Rattle.message_tables.specs.Tables.{first_of}
use Rattle.message_tables.specs.FirstFault.{Marked, wrong_version, wrong, beyond}

pub record IsFound (marks : List Marked) (found : Found) : Type 0 where
  pub version : found.version ≡ first_of wrong_version marks
  pub wrong : found.wrong ≡ first_of wrong marks
  pub outside : found.outside ≡ first_of beyond marks
