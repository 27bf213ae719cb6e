-- The names of a configuration that was read can be shown in a header.
use Rattle.std.proofs.Common.{◌≡◌, ℕ, Bool, true, false, List, [], ◌∷◌, length, refl, subst}
use Rattle.std.proofs.Common.{Some, None, arith, codes}
use Rattle.std.specs.Prelude.{Option, ◌&&◌, nat_le, if◌then◌else◌}
use Rattle.std.specs.List.{list_all, list_any}
use Rattle.std.proofs.lemmas.Bool.{or_from}
use Rattle.std.proofs.lemmas.Bool.Decides.{nat_tests}
use Rattle.toml.specs.Data.{Data, string, table}
use Rattle.field_groups.specs.Field.{is_soh}
use Rattle.order_meaning.specs.declared.names.TheConstants.{MAX_NAME}
use Rattle.session_frames.specs.Laws.{IsShown}
use Rattle.gateway_config.specs.Reading.{name_in, is_name, is_printable, value_of}
use Rattle.gateway_life.specs.Laws.{ReadNamesAreShown}

both : (a b : Bool) → (a && b) ≡ true → (a ≡ true) × (b ≡ true)
both true true e = (refl, refl)
both true false e = absurd (cc e)
both false b e = absurd (cc e)

byte_plain : (byte : ℕ) → is_printable byte ≡ true → is_soh byte ≡ false
byte_plain byte e =
    let p = both (nat_le 33 byte) (nat_le byte 126) e in
    let low = p.0 in grind (arith, nat_tests)

text_plain : (text : List ℕ) → list_all is_printable text ≡ true → list_any is_soh text ≡ false
text_plain [] e = refl
text_plain (byte ∷ text) e =
    let p = both (is_printable byte) (list_all is_printable text) e in
    or_from (is_soh byte) (list_any is_soh text) (byte_plain byte p.0) (text_plain text p.1)

name_shown : (text : List ℕ) → is_name text ≡ true → IsShown text
name_shown text e =
    let p = both (nat_le 1 (length text))
    (nat_le (length text) MAX_NAME && list_all is_printable text) e in
    let q = both (nat_le (length text) MAX_NAME) (list_all is_printable text) p.1 in
    record {
      short = let most = q.0 in grind (arith, nat_tests);
      plain = text_plain text q.1;
    }

said_shown : (value : Option Data) (name : List ℕ) → name_in value ≡ Some name → IsShown name
said_shown (Some (string text)) name is = by (is_name text) refl is
  where
    by : (b : Bool) → is_name text ≡ b → (if b then Some text else None) ≡ Some name → IsShown name
    by true e is = let same : text ≡ name = cc is in subst IsShown same (name_shown text e)
    by false e is = absurd (cc is)
said_shown value name is = absurd (cc is)

pub names_shown : ReadNamesAreShown
names_shown text config reads =
    let at : (table_name name : List ℕ) → Option Data =
    λ table_name name. value_of table_name name (table reads.0) in
    let says = reads.2 in
    record {
      client_our = said_shown (at (codes "client") (codes "our")) config.names.client_our
          says.client_our;
      client_peer = said_shown (at (codes "client") (codes "peer")) config.names.client_peer
          says.client_peer;
      venue_our = said_shown (at (codes "venue") (codes "our")) config.names.venue_our
          says.venue_our;
      venue_peer = said_shown (at (codes "venue") (codes "peer")) config.names.venue_peer
          says.venue_peer;
    }
