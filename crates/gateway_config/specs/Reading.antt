-- Own: what a configuration is, and which of its keys is wrong first; docs/DECISIONS.md,
-- "Configuration".
use Rattle.std.specs.Prelude.{◌≡◌, ℕ, pos, Bool, true, false, ◌&&◌, not, nat_le, is_none}
use Rattle.std.specs.Prelude.{List, [], ◌∷◌, length, codes, Option, Some, None, Result, Ok, Err}
use Rattle.std.specs.Prelude.{if◌then◌else◌, option_and_then}
use Rattle.std.specs.List.{list_all, list_any}
use Rattle.std.specs.Str.{bytes_eq, IsUtf8}
use Rattle.toml.specs.Data.{Data, string, integer, table, Members, no_members, member, get}
use Rattle.toml.specs.Parse.{parse_document}
use Rattle.order_meaning.specs.declared.names.TheConstants.{MAX_NAME}
use Rattle.gateway_config.specs.declared.config.Config.{Config}
use Rattle.gateway_config.specs.declared.config.ConfigFault.{ConfigFault}
use Rattle.gateway_config.specs.declared.config.ConfigFault.TheVariants.{Key, NoMemory}
use Rattle.gateway_config.specs.declared.config.ConfigKey.{ConfigKey}
use Rattle.gateway_config.specs.declared.config.ConfigKey.TheVariants as key
use Rattle.gateway_config.specs.declared.reading.TheConstants.{DEFAULT_HEART, DEFAULT_WINDOW}
use Rattle.gateway_config.specs.declared.reading.TheConstants.{MAX_HEART, MAX_WINDOW}
use Rattle.gateway_config.specs.declared.reading.TheConstants.{MAX_RESET}

-- ---- what stands at a key of a table of the document

abbrev pub value_of : (table_name name : List ℕ) → Data → Option Data
value_of table_name name document = option_and_then (get name) (get table_name document)

-- a CompID: a text of 1 to 35 printable bytes, none of them a space
abbrev pub is_printable : ℕ → Bool
is_printable byte = nat_le 33 byte && nat_le byte 126

abbrev pub is_name : List ℕ → Bool
is_name text =
    nat_le 1 (length text) && (nat_le (length text) MAX_NAME && list_all is_printable text)

abbrev pub name_in : Option Data → Option (List ℕ)
name_in (Some (string text)) = if is_name text then Some text else None
name_in other = None

-- a whole number of seconds up to a bound; one that is not said is the default
abbrev pub seconds_in : (default most : ℕ) → Option Data → Option ℕ
seconds_in default most None = Some default
seconds_in default most (Some (integer (pos seconds))) =
    if nat_le seconds most then Some seconds else None
seconds_in default most (Some other) = None

-- a minute of the day, where one is said
abbrev pub minute_in : Option Data → Option (Option ℕ)
minute_in None = Some None
minute_in (Some (integer (pos minute))) =
    if nat_le minute MAX_RESET then Some (Some minute) else None
minute_in (Some other) = None

-- ---- the configuration

abbrev pub client_our : Data → Option (List ℕ)
client_our document = name_in (value_of (codes "client") (codes "our") document)

abbrev pub client_peer : Data → Option (List ℕ)
client_peer document = name_in (value_of (codes "client") (codes "peer") document)

abbrev pub venue_our : Data → Option (List ℕ)
venue_our document = name_in (value_of (codes "venue") (codes "our") document)

abbrev pub venue_peer : Data → Option (List ℕ)
venue_peer document = name_in (value_of (codes "venue") (codes "peer") document)

abbrev pub heart : Data → Option ℕ
heart document =
    seconds_in DEFAULT_HEART MAX_HEART (value_of (codes "venue") (codes "heart") document)

abbrev pub window : Data → Option ℕ
window document =
    seconds_in DEFAULT_WINDOW MAX_WINDOW (value_of (codes "gate") (codes "window") document)

abbrev pub reset : Data → Option (Option ℕ)
reset document = minute_in (value_of (codes "gate") (codes "reset") document)

-- ---- what else stands there

abbrev pub keys_of : Members → List (List ℕ)
keys_of no_members = []
keys_of (member name value members) = name ∷ keys_of members

-- each key is one of these
abbrev pub has_only : List (List ℕ) → Members → Bool
has_only known members = list_all (λ name. list_any (bytes_eq name) known) (keys_of members)

abbrev pub is_table_of : List (List ℕ) → Option Data → Bool
is_table_of known None = true
is_table_of known (Some (table members)) = has_only known members
is_table_of known (Some other) = false

-- no other table and no other key stands there
abbrev pub is_known : Data → Bool
is_known document =
    is_table_of (codes "client" ∷ codes "venue" ∷ codes "gate" ∷ []) (Some document)
    && (is_table_of (codes "our" ∷ codes "peer" ∷ []) (get (codes "client") document)
    && (is_table_of (codes "our" ∷ codes "peer" ∷ codes "heart" ∷ [])
    (get (codes "venue") document)
    && is_table_of (codes "window" ∷ codes "reset" ∷ []) (get (codes "gate") document)))

-- THE CONFIGURATION that a document says
pub record Says (document : Data) (config : Config) : Type 0 where
  pub client_our : client_our document ≡ Some config.names.client_our
  pub client_peer : client_peer document ≡ Some config.names.client_peer
  pub venue_our : venue_our document ≡ Some config.names.venue_our
  pub venue_peer : venue_peer document ≡ Some config.names.venue_peer
  pub heart : heart document ≡ Some config.heart
  pub window : window document ≡ Some config.window
  pub reset : reset document ≡ Some config.reset
  pub known : is_known document ≡ true

-- ---- the first key that is wrong

-- a key is missing or not as it should be
abbrev pub is_wrong : Data → ConfigKey → Bool
is_wrong document key.NotToml = false
is_wrong document key.ClientOur = is_none (client_our document)
is_wrong document key.ClientPeer = is_none (client_peer document)
is_wrong document key.VenueOur = is_none (venue_our document)
is_wrong document key.VenuePeer = is_none (venue_peer document)
is_wrong document key.VenueHeart = is_none (heart document)
is_wrong document key.Window = is_none (window document)
is_wrong document key.Reset = is_none (reset document)
is_wrong document key.Unknown = not (is_known document)

-- the keys in the order in which they are judged
abbrev pub in_order : List ConfigKey
in_order = key.ClientOur ∷ key.ClientPeer ∷ key.VenueOur ∷ key.VenuePeer
    ∷ key.VenueHeart ∷ key.Window ∷ key.Reset ∷ key.Unknown ∷ []

abbrev pub first_wrong : Data → List ConfigKey → Option ConfigKey
first_wrong document [] = None
first_wrong document (key ∷ keys) =
    if is_wrong document key then Some key else first_wrong document keys

-- what a document says, or its first wrong key
abbrev pub IsRead : Data → Result Config ConfigKey → Type 0
IsRead document (Ok config) = Says document config
IsRead document (Err key) = first_wrong document in_order ≡ Some key

-- a text of UTF-8 that is this TOML document
abbrev pub IsDocument : List ℕ → Members → Type 0
IsDocument text members = IsUtf8 text × (parse_document text ≡ Some members)

-- a text that is no TOML document
abbrev pub IsNoDocument : List ℕ → Type 0
IsNoDocument text = IsUtf8 text → parse_document text ≡ None

-- WHAT A TEXT IS READ AS, or its first key that is missing or wrong; want of memory is free
abbrev pub Reads : List ℕ → Result Config ConfigFault → Type 0
Reads text (Ok config) =
    (members : Members) × IsDocument text members × IsRead (table members) (Ok config)
Reads text (Err (Key key.NotToml)) = IsNoDocument text
Reads text (Err (Key key)) =
    (members : Members) × IsDocument text members × IsRead (table members) (Err key)
Reads text (Err NoMemory) = Unit {0}
