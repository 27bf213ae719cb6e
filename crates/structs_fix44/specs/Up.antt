-- Own: what goes between FIX 4.4 and FIX 5.0 SP2 as structs, and why nothing does.
use Rattle.std.specs.Prelude.{◌≡◌, ℕ, List, None, Result, Err}
use Rattle.field_groups.specs.Field.{body_of}
use Rattle.message_tables.specs.Tables.{Message}
use Rattle.order_meaning.specs.declared.fault.Lack.{Lack}
use Rattle.order_meaning.specs.declared.fault.Lack.TheVariants as lacks
use Rattle.requests_fix44.specs.Content.{table44}
use Rattle.requests_fix44.specs.Said.{says}
use Rattle.requests_fix44.specs.declared.requests.Msg44.{Msg44}
use Rattle.sound_laws.specs.Complete.{IsComplete}
use Rattle.translate_fix44.specs.Rules.{up_content, up_lack}

-- a sound request of FIX 4.4, one whose content says the same when it is read again
abbrev pub IsSound44 : Msg44 → Type 0
IsSound44 msg = IsComplete (table44 msg) (says msg)

-- why nothing comes of a message: exactly its lack; want of memory is free
abbrev pub IsLackOf : Result Message ℕ → Lack → Type 0
IsLackOf goes lacks.NoMemory = Unit {0}
IsLackOf goes (lacks.Tag tag) = goes ≡ Err tag

-- the content of what goes up of a request, where it lacks nothing
pub record IsUp (m : Message) (content : List ℕ) : Type 0 where
  pub said : up_lack m ≡ None
  pub bytes : content ≡ body_of (up_content m)
