-- Names, and the keys of a table.
use Rattle.std.proofs.Common.{◌≡◌, ◌≢◌, ◌∙◌, sym, ℕ, Bool, true, false, ◌&&◌, List, [], ◌∷◌, map}
use Rattle.std.proofs.Common.{refl, ap, String, string_bytes, Ok, Err}
use Rattle.std.specs.List.{list_all, list_any}
use Rattle.std.specs.Str.{bytes_eq}
use Rattle.std.specs.BTreeMap.{BTreeMap, keys}
use Rattle.std.specs.declared.alloc.Global.{Global}
use Rattle.toml.specs.declared.value.Value.{Value}
use Rattle.toml.specs.View.{members_view, table_view}
use Rattle.toml.specs.Data.{Members, table}
use Rattle.gateway_config.specs.declared.config.Config.{Config}
use Rattle.gateway_config.specs.declared.config.ConfigFault.TheVariants.{Key}
use Rattle.gateway_config.specs.declared.config.ConfigKey.{ConfigKey}
use Rattle.gateway_config.specs.declared.config.ConfigKey.TheVariants as key
use Rattle.gateway_config.specs.Reading.{has_only, IsDocument, IsRead, Reads}

-- a key is one of these
abbrev pub is_among : List (List ℕ) → String Global → Bool
is_among known key = list_any (bytes_eq (string_bytes key)) known

-- the keys that are left, behind one that is known, or one that is not
pub left : (known : List (List ℕ)) (key : String Global) (before after : List (String Global))
    → before ≡ key ∷ after → is_among known key ≡ true
    → list_all (is_among known) after ≡ list_all (is_among known) before
left known key before after is good =
    sym (ap (list_all (is_among known)) is
    ∙ ap (λ (b : Bool). b && list_all (is_among known) after) good)

pub unknown : (known : List (List ℕ)) (key : String Global) (before after : List (String Global))
    → before ≡ key ∷ after → is_among known key ≡ false
    → list_all (is_among known) before ≡ false
unknown known key before after is bad =
    ap (list_all (is_among known)) is
    ∙ ap (λ (b : Bool). b && list_all (is_among known) after) bad

only : (known : List (List ℕ)) (entries : List (String Global × Value))
    → list_all (is_among known) (map (λ entry. entry.0) entries)
    ≡ has_only known (members_view entries)
only known [] = refl
only known (entry ∷ entries) =
    ap (λ (rest : Bool). list_any (bytes_eq (string_bytes entry.0)) known && rest)
    (only known entries)

pub only_keys : (known : List (List ℕ)) (t : BTreeMap (String Global) Value)
    → list_all (is_among known) (keys t) ≡ has_only known (table_view t)
only_keys known t = only known t.entries

pub reads_config : (text : List ℕ) (rows : Members) (config : Config)
    → IsDocument text rows → IsRead (table rows) (Ok config) → Reads text (Ok config)
reads_config text rows config document read = (rows, document, read)

-- a key of a document is wrong
pub reads_key : (text : List ℕ) (rows : Members) (k : ConfigKey)
    → IsDocument text rows → IsRead (table rows) (Err k) → k ≢ key.NotToml
    → Reads text (Err (Key k))
reads_key text rows key.NotToml document read other = absurd (other refl)
reads_key text rows key.ClientOur document read other = (rows, document, read)
reads_key text rows key.ClientPeer document read other = (rows, document, read)
reads_key text rows key.VenueOur document read other = (rows, document, read)
reads_key text rows key.VenuePeer document read other = (rows, document, read)
reads_key text rows key.VenueHeart document read other = (rows, document, read)
reads_key text rows key.Window document read other = (rows, document, read)
reads_key text rows key.Reset document read other = (rows, document, read)
reads_key text rows key.Unknown document read other = (rows, document, read)
