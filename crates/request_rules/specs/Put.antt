-- Own: what is written of a request, and why nothing is.
use Rattle.std.specs.Prelude.{◌≡◌, ◌++◌, ℕ, List, None, Some}
use Rattle.field_groups.specs.Field.{body_of}
use Rattle.message_tables.specs.Tables.{Message}
use Rattle.order_meaning.specs.declared.fault.Lack.{Lack}
use Rattle.order_meaning.specs.declared.fault.Lack.TheVariants as lacks
use Rattle.request_rules.specs.Lack.{lack42}
use Rattle.request_rules.specs.Rules.{up_content}

-- its content, where it lacks nothing
pub record IsPut (m : Message) (before after : List ℕ) : Type 0 where
  pub said : lack42 m ≡ None
  pub bytes : after ≡ before ++ body_of (up_content m)

-- or why it is not; want of memory is free
abbrev pub Lacks : Message → Lack → Type 0
Lacks m lacks.NoMemory = Unit {0}
Lacks m (lacks.Tag tag) = lack42 m ≡ Some tag
