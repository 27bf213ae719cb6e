-- Own: the content in which a message goes on: the one of the other version that means the same.
use Rattle.std.specs.Prelude.{◌≡◌, ℕ, List, Option, Ok}
use Rattle.std.specs.Option.{option_map}
use Rattle.field_groups.specs.Field.{Field}
use Rattle.message_tables.specs.Tables.{Message}
use Rattle.order_meaning.specs.declared.Side.{Side}
use Rattle.order_meaning.specs.declared.Side.TheVariants.{Client, Venue}
use Rattle.order_meaning.specs.Report.{filled}
use Rattle.dict_fix42.specs.Sense.{request42}
use Rattle.dict_fix50.specs.Sense.{request50}
use Rattle.request_rules.specs.Canonical.{IsRequest}
use Rattle.request_rules.specs.Rules.{up_content, up_message}
use Rattle.reports_fix42.specs.Sense.{report42}
use Rattle.reports_fix50.specs.Sense.{report50}
use Rattle.report_rules.specs.Rules.{written}
use Rattle.report_rules.specs.Rules.{down_message}

-- THE CONTENT OF A REQUEST in FIX 5.0 SP2: what the rules write of it. It is that of a canonical
-- request, which means the same.
pub record GoesUp (m : Message) (written : List Field) : Type 0 where
  pub by_rules : written ≡ up_content m
  pub canonical : IsRequest (up_message m) written
  pub means : request50 (up_message m) ≡ request42 m

-- THE CONTENT OF A REPORT in FIX 4.2: that of the message that the rules make of it, which means the
-- same; a cancel reject that does not name its order names the id that is known of it
pub record GoesDown (original : Option (List ℕ)) (m : Message) (text : List Field) : Type 0 where
  pub client : Message
  pub down : down_message original m ≡ Ok client
  pub content : text ≡ written client
  pub means : report42 client ≡ option_map (filled original) (report50 m)

-- the content in which a message of a side goes on to the other side
abbrev pub GoesOn : Side → Option (List ℕ) → Message → List Field → Type 0
GoesOn Client original m written = GoesUp m written
GoesOn Venue original m written = GoesDown original m written
