-- Both ways are fair: what is written means the same, changes each book alike, and is split and
-- read again behind its header.
use Rattle.std.proofs.Common.{◌≡◌, ◌∙◌, ℕ, List, [], ◌∷◌, true, None, refl, sym, ap, subst, ◌++◌}
use Rattle.std.proofs.Common.{Option, Ok}
use Rattle.field_groups.specs.Field.{Field, AreFields}
use Rattle.message_tables.specs.FirstFault.{message_of}
use Rattle.message_tables.specs.Tables.{Message, Item, Table}
use Rattle.order_meaning.specs.Request.{RequestKind, New}
use Rattle.row_values.specs.Kinds.{judge, Kind}
use Rattle.first_faults.specs.Faults.{told}
use Rattle.rows_fix42.specs.Header.{table as table44}
use Rattle.rows_fix50.specs.Header.{completed_by}
use Rattle.dict_fix50.specs.Message.{message50}
use Rattle.dict_fix44.specs.Message.{report_message44}
use Rattle.dict_fix44.specs.Reports as reports44
use Rattle.dict_fix44.specs.Requests.{asked44, items44}
use Rattle.reports_fix50.specs.Message.{cancel_reject_table, report_table}
use Rattle.reports_fix50.specs.Sense.{report50}
use Rattle.sound_laws.proofs.PlainFields.{clear_fields, AreFew}
use Rattle.sound_laws.proofs.TableFits.{table_fits}
use Rattle.sound_laws.proofs.ReadComplete.{read_of}
use Rattle.sound_laws.proofs.Completed.{completed_again}
use Rattle.sound_laws.proofs.Lookups.{places_apart}
use Rattle.sound_laws.proofs.TableFits as fits
use Rattle.rule_rows.specs.ByRules.{by_rules, lack_by}
use Rattle.row_values.specs.Asked.{letter_of}
use Rattle.dict_fix50.specs.Requests.{asked50, items50}
use Rattle.report_rules.proofs.SenseDown.{not_lacking}
use Rattle.translation.specs.Header.{type_of, with_content, carried, head_down}
use Rattle.translation.specs.Going.{IsFair, IsType, Keeps}
use Rattle.translation.proofs.BehindHeader.{front, items_behind, whole}
use Rattle.translation.proofs.CarriedHeader.{head_is_own, head_value, HasHeader}
use Rattle.translation.proofs.CarriedDown.{head_clear, type_down}
use Rattle.translation.proofs.SplitAgain.{clear_again}
use Rattle.request_translate.proofs.AgainFields.{split_again}
use Rattle.request_translate.proofs.SenseAgain.{has_header, read_by}
use Rattle.request_translate.proofs.Writable.{is_type}
use Rattle.report_translate.specs.Reading.{report_message}
use Rattle.report_translate.proofs.DownAgain.{Eight, IsEither, IsOf, Nine, clear, down_type, either}
use Rattle.report_translate.proofs.DownAgain.{reject_header, report_header, unfilled, behind_head}
use Rattle.report_translate.proofs.OfType.{type_is}
use Rattle.translate_fix44.specs.Rules.{kinds, up_content, up_lack, up_rules, down_content}
use Rattle.translate_fix44.specs.Rules.{down_message, rules_for}
use Rattle.translate_fix44.specs.Translation.{up, down, direction}
use Rattle.translate_fix44.specs.declared.translate.Way.{Way}
use Rattle.translate_fix44.specs.declared.translate.Way.TheVariants.{Down, Up}
use Rattle.translate_fix44.proofs.Go.{read_go_up, IsDown, books_alike, reject_goes_down}
use Rattle.translate_fix44.proofs.Go.{report_goes_down, is_asked}

-- ---- up: what is written of a request

reads : (kind : RequestKind) (fields : List Field) → message50 (letter_of kind ∷ []) fields None
    ≡ completed_by (told (message_of judge (asked50 kind) fields))
unfolding message50
reads New fields = refl
reads kind fields = refl

tests : (values : ℕ → Option (List ℕ)) (w : Message) (kind : RequestKind)
    → (items_behind (asked50 kind) values w ≡ true)
    × (table_fits (asked50 kind) (front (asked50 kind) values w) ≡ true)
tests values w New = (refl, refl)
tests values w kind = (refl, refl)

-- A REQUEST GOES UP FAIRLY.
pub up_fair : IsFair up
up_fair fields are m w read goes =
    let stands = read_go_up (type_of fields) fields m w are read goes in
    let a = is_asked (type_of fields) fields m read in
    let r = read_of (asked44 a.kind) fields m a.read in
    let type = subst (λ (t : List ℕ). IsType t) (sym a.type) (is_type a.kind) in
    let made = (not_lacking (up_lack m) (by_rules kinds up_rules m) w goes).1 in
    let same = ap (by_rules kinds up_rules) r.1 ∙ made in
    let own = stands.request in
    let letter = ap (λ (x : Message). x.letter) same ∙ own.canonical.sound.letter in
    let head = head_is_own (asked44 a.kind) fields r.0 (clear_fields judge None fields are)
    (type_of fields) type (has_header (letter_of a.kind) (items44 a.kind)) in
    let test = tests (head_value (type_of fields) fields) w own.kind in
    record {
      kept = record {
        means = stands.means;
        read = ap (λ (t : List ℕ). message50 t (with_content fields (up_content m)) None)
            (a.type ∙ ap (λ (n : ℕ). n ∷ []) letter)
            ∙ reads own.kind (with_content fields (up_content m))
            ∙ ap (λ (fs : List Field). completed_by (told (message_of judge (asked50 own.kind)
            (with_content fields fs)))) own.is
            ∙ read_by (type_of fields) fields w head (letter_of own.kind) (items50 own.kind)
            test.0 test.1 own.canonical (sym (ap (λ (x : Message). x.resend) same));
      };
      again = split_again fields (up_content m) w are type stands.request;
      typed = type;
    }

-- ---- down

module _ (fields : List Field) (are : AreFields None fields) (m w : Message)
    (read : report_message (type_of fields) fields None ≡ Ok m)
    (goes : down_message None m ≡ Ok w) where
  abbrev Values : ℕ → Option (List ℕ)
  Values = head_value (type_of fields) (head_down fields)

  -- what is written by a table of FIX 4.4
  keeps : (table50 : Table Kind) (letter : ℕ) (items : List (Item Kind))
      → IsOf fields (letter ∷ []) table50 m → HasHeader table50
      → IsDown (table44 letter items) None m w
      → items_behind (table44 letter items) Values w ≡ true
      → table_fits (table44 letter items) (front (table44 letter items) Values w) ≡ true
      → Keeps down fields m w
  keeps table50 letter items of header d behind fit =
      let t = table44 letter items in
      let typed = type_is (type_of fields) fields None m read in
      let head : List Field = (35, type_of fields) ∷ carried (head_down fields) in
      let places = fits.places_are_apart t (whole t Values w) (front t Values w) fit in
      let made = (not_lacking (lack_by kinds (rules_for None m) m)
      (by_rules kinds (rules_for None m) m) w goes).1 in
      record {
        kept = record {
          means = d.means ∙ unfilled (report50 m);
          books = books_alike t None m w d;
          read = ap (λ (y : List ℕ). report_message44 y
              ((35, y) ∷ carried (head_down fields) ++ down_content None m) None)
              (type_down fields typed)
              ∙ ap (λ (y : List ℕ). report_message44 y (head ++ down_content None m) None)
              of.type_is
              ∙ d.reads (head ++ down_content None m)
              ∙ ap (λ (fs : List Field). completed_by (told (message_of judge t (head ++ fs))))
              d.gone.is
              ∙ ap completed_by (behind_head fields are m read table50 (letter ∷ []) letter items w
              of header (sym (ap (λ (x : Message). x.resend) made)) d.gone.complete.sound behind
              fit)
              ∙ ap (λ (x : Message). Ok x) (completed_again w d.gone.complete.month
              (ap places_apart d.gone.complete.sound.places ∙ places) w.resend);
        };
        again = clear_again (head_down fields) (down_content None m)
            (head_clear fields (clear fields are m read)) (down_type fields are m read)
            (subst (λ (fs : List Field). AreFew fs) (sym d.gone.is) d.few);
        typed = down_type fields are m read;
      }

  by_either : IsEither fields m → Keeps down fields m w
  by_either (Eight of) =
      keeps report_table 56 reports44.execution_report of (report_header fields are m read)
      (report_goes_down None m w of.read.complete goes) refl refl
  by_either (Nine of) =
      keeps cancel_reject_table 57 reports44.cancel_reject of (reject_header fields are m read)
      (reject_goes_down None tt m w of.read.complete goes) refl refl

-- A REPORT GOES DOWN FAIRLY.
pub down_fair : IsFair down
down_fair fields are m w read goes = by_either fields are m w read goes (either fields are m read)

-- ---- both

pub fair : (way : Way) → IsFair (direction way)
fair Up = up_fair
fair Down = down_fair
