-- Own: the one content in which a request is written in FIX 5.0 SP2.
use Rattle.std.specs.Prelude.{◌≡◌, ℕ, List}
use Rattle.field_groups.specs.Field.{Field}
use Rattle.message_tables.specs.Tables.{Role, Item, Message, said_at, lines_of}
use Rattle.message_tables.specs.Content.{content}
use Rattle.order_meaning.specs.Request.{RequestKind}
use Rattle.row_values.specs.Asked.{letter_of}
use Rattle.row_values.specs.Kinds.{Kind, judge}
use Rattle.rows_fix50.specs.Header.{table}
use Rattle.dict_fix50.specs.Requests.{asked50, items50}
use Rattle.sound_laws.specs.Sound.{IsSound}
use Rattle.sound_laws.specs.Complete.{HasMonthOfDate}
use Rattle.request_rules.specs.Rules.{party_lines}

-- A CANONICAL request: it is sound, its month is that of its date where it has one, and its parties
-- are those of the roles 3, 1 and 4, once each and in this order.
pub record IsCanonical (letter : ℕ) (items : List (Item Kind)) (m : Message) : Type 0 where
  pub sound : IsSound judge (table letter items) m
  pub month : HasMonthOfDate m
  pub parties : lines_of 453 m.groups
      ≡ party_lines (said_at m.cells (Role 3)) (said_at m.cells (Role 1)) (said_at m.cells (Role 4))

-- a canonical request of one of the four types, and its content
pub record IsRequest (m : Message) (fields : List Field) : Type 0 where
  pub kind : RequestKind
  pub canonical : IsCanonical (letter_of kind) (items50 kind) m
  pub is : fields ≡ content (asked50 kind) m
