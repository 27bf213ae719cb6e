-- Own: a report that goes down as a struct: what goes by the rules, and what is put back.
use Rattle.std.specs.Prelude.{◌≡◌, ℕ, List, None, Ok}
use Rattle.field_groups.specs.Field.{Field, body_of}
use Rattle.field_groups.specs.Fields.{SplitsInto}
use Rattle.message_tables.specs.Tables.{Message, Said}
use Rattle.party_translate.specs.Parties.{parties_of, three_of}
use Rattle.reports_fix50.specs.declared.reports.Report50.{Report50}
use Rattle.translation.specs.Bodies.{Direction}
use Rattle.translation.specs.Header.{type_of}
use Rattle.translate_fix44.specs.Rules.{down_content, down_message}

-- a body that is fields which are split again, and read as a message in a direction
pub record Says (d : Direction) (body : List ℕ) (m : Message) : Type 0 where
  pub fields : List Field
  pub bytes : body ≡ body_of fields
  pub again : SplitsInto (body_of fields) fields None
  pub reads : d.source (type_of fields) fields None ≡ Ok m

-- the content of what goes down of a report, where this id of its order is known
pub record IsDown (known : Said) (m : Message) (content : List ℕ) : Type 0 where
  pub w : Message
  pub goes : down_message known m ≡ Ok w
  pub bytes : content ≡ body_of (down_content known m)

-- a report of FIX 4.4 with what its content does not have
abbrev pub with_parties : Report50 → Report50 → Report50
with_parties m r = record r { resend = m.resend; parties = parties_of (three_of m.parties) }
