-- What goes up of a request stands for it: the four tables.
use Rattle.std.proofs.Common.{◌≡◌, ℕ, List, [], ◌∷◌, length, true, false, Some, None, refl, sym, ap}
use Rattle.std.proofs.Common.{subst, ◌∙◌, codes}
use Rattle.std.specs.Prelude.{IfSome, ◌==◌}
use Rattle.std.specs.List.{flat_map}
use Rattle.std.specs.Str.Parse.{digits_value}
use Rattle.field_groups.specs.Field.{Field}
use Rattle.value_kinds.specs.ValueKind.{Code, MonthYear, number_of_two}
use Rattle.message_tables.specs.Tables.{Item, Message, Said, Spells, Table, Role, ◌>>=◌, code_of}
use Rattle.message_tables.specs.Tables.{is_one_of}
use Rattle.message_tables.specs.FirstFault.{message_of}
use Rattle.message_tables.specs.Content.{content}
use Rattle.first_faults.specs.Faults.{told}
use Rattle.order_meaning.specs.Request.{Request, RequestKind, New}
use Rattle.row_values.specs.Asked.{letter_of, of_letter}
use Rattle.row_values.specs.Kinds.{Kind, Value, DayOf, judge}
use Rattle.rows_fix42.specs.Header.{table as table42}
use Rattle.rows_fix50.specs.Header.{completed_by, month_by, table as table50}
use Rattle.dict_fix42.specs.Requests.{asked42, items42}
use Rattle.dict_fix42.specs.Sense as sense42
use Rattle.dict_fix42.specs.Sense.{request42}
use Rattle.dict_fix50.specs.Message.{message50}
use Rattle.sound_laws.specs.Sound.{IsSound}
use Rattle.sound_laws.proofs.ContentAgain.{IsGone}
use Rattle.sound_laws.proofs.PlainFields.{clear_fields}
use Rattle.sound_laws.proofs.Stages.{item_tags}
use Rattle.sound_laws.proofs.TableFits.{table_fits}
use Rattle.rule_rows.proofs.Looked.{has_lines_of, says}
use Rattle.rule_rows.proofs.Sound.{gone}
use Rattle.request_rules.specs.Canonical.{IsCanonical, IsRequest}
use Rattle.request_rules.specs.Lack.{lack42, lack_of}
use Rattle.request_rules.specs.Rules.{at, date_up, kinds, party_lines, up_content, up_lack}
use Rattle.request_rules.specs.Rules.{up_message, up_rules}
use Rattle.request_rules.specs.Up.{GoUp, IsOrdinary, ReadGoUp, StandsFor}
use Rattle.request_rules.proofs.DatesUp.{month_length, month_first, day_value}
use Rattle.request_rules.proofs.KindsUp.{are_kinds, own}
use Rattle.request_rules.proofs.LacksUp.{lack_is}
use Rattle.request_rules.proofs.SenseUp.{keeps_sense}
use Rattle.request_rules.proofs.SoundUp.{GoesUp, g, items_up, sound_up, month42}
use Rattle.request_rules.proofs.SoundUp.{day42, time42}
use Rattle.request_rules.proofs.Sound42.{read_is_sound}
use Rattle.sound_laws.proofs.RowsSaid.{is_code_of}
use Rattle.request_rules.proofs.TermsUp.{is_other}

-- ---- what the tables of FIX 4.2 ask for

months : (fields : List Field) (month : Said)
    → IfSome month (λ text. judge fields (Value MonthYear) text ≡ Spells text)
    → IfSome month (λ text. length text ≡ 6)
months fields None h = tt
months fields (Some text) h = month_length fields text h

days : (fields : List Field) (day : Said)
    → IfSome day (λ text. judge fields (DayOf 200) text ≡ Spells text)
    → IfSome day (λ text. digits_value 10 text ≡ number_of_two text)
days fields None h = tt
days fields (Some text) h = day_value fields text h

times : (fields : List Field) (time : Said)
    → IfSome time (λ text. judge fields (Value (Code (codes "0123456"))) text ≡ Spells text)
    → IfSome (time >>= code_of) (λ code. (code == 55) ≡ false)
times fields None h = tt
times fields (Some text) h =
    let t = is_code_of fields (codes "0123456") text h in
    let P : List ℕ → Type 0 = λ x. IfSome (code_of x) (λ code. (code == 55) ≡ false) in
    subst P (sym t.is) (is_other fields t.code t.listed)

month_of_date : (month day : Said) → IfSome month (λ text. length text ≡ 6)
    → month ≡ month_by (date_up month day) month
month_of_date None day six = refl
month_of_date (Some month) None six = refl
month_of_date (Some month) (Some day) six =
    ap (λ (t : List ℕ). Some t) (sym (month_first month day six))

-- the tables of the four requests go up
table_goes : (kind : RequestKind) → GoesUp (items42 kind)
table_goes New = search
table_goes kind = search

-- ---- a message of a table that goes up

module _ (kind : RequestKind)
    (is : (f : RequestKind → Request) → of_letter (letter_of kind) f ≡ Some (f kind))
    (fit : table_fits (table50 (letter_of kind) (items_up (items42 kind))) [] ≡ true)
    (bare : is_one_of (flat_map item_tags (items_up (items42 kind))) 97 ≡ false)
    (m : Message) (sound : IsSound judge (asked42 kind) m)
    (lack : lack42 m ≡ None) where
  abbrev letter : ℕ
  letter = letter_of kind

  abbrev items : List (Item Kind)
  items = items42 kind

  abbrev goes : GoesUp items
  goes = table_goes kind

  abbrev fields42 : List Field
  fields42 = content (table42 letter items) m

  ordinary : IsOrdinary m
  ordinary = record {
    month = months fields42 (at m 200) (month42 letter items goes m sound).spelled;
    day = days fields42 (at m 205) (day42 letter items goes m sound).spelled;
    time = times fields42 (at m 59) (time42 letter items goes m sound).spelled;
  }

  no_lack : up_lack m ≡ None
  no_lack =
      let request : request42 m ≡ Some (sense42.request_of kind m) =
      ap (λ (n : ℕ). of_letter n (λ k. sense42.request_of k m)) sound.letter
      ∙ is (λ k. sense42.request_of k m) in
      sym (lack_is kind m) ∙ (sym (ap (λ r. r >>= lack_of) request) ∙ lack)

  abbrev t : Table Kind
  t = table50 letter (items_up items)

  gone_up : IsGone t (up_message m) (up_content m)
  gone_up = gone (g letter items goes m sound) fit bare (sound_up letter items goes m sound no_lack)
      (date_up (at m 200) (at m 205)) (at m 200) refl refl
      (month_of_date (at m 200) (at m 205) ordinary.month)

  as_canonical : IsCanonical letter (items_up items) (up_message m)
  as_canonical = record {
    sound = gone_up.complete.sound;
    month = gone_up.complete.month;
    parties = has_lines_of kinds are_kinds up_rules own m 453
        ∙ sym (λ i. party_lines (says kinds are_kinds up_rules own m (Role 3) i)
        (says kinds are_kinds up_rules own m (Role 1) i)
        (says kinds are_kinds up_rules own m (Role 4) i));
  }

  stands : (IsCanonical letter (items_up items) (up_message m)
      → up_content m ≡ content t (up_message m) → IsRequest (up_message m) (up_content m))
      → message50 (letter ∷ []) (up_content m) None
      ≡ completed_by (told (message_of judge t (up_content m))) → StandsFor m
  stands make reads = record {
    request = make as_canonical gone_up.is;
    means = keeps_sense m ordinary lack;
    again = ap (λ (n : ℕ). message50 (n ∷ []) (up_content m) None) sound.letter ∙ reads
        ∙ gone_up.again;
  }

stands_by : (m : Message) (kind : RequestKind) → IsSound judge (asked42 kind) m → lack42 m ≡ None
    → StandsFor m
unfolding message50
stands_by m New s lack = stands New (λ f. refl) refl refl m s lack
    (λ c is. record { kind = New; canonical = c; is = is }) refl
stands_by m kind s lack = stands kind (λ f. refl) refl refl m s lack
    (λ c is. record { kind = kind; canonical = c; is = is }) refl

-- WHAT GOES UP STANDS FOR A MESSAGE.
pub go_up : GoUp
go_up m request = stands_by m request.kind request.sound

pub read_go_up : ReadGoUp
read_go_up msg_type fields m are read =
    go_up m (read_is_sound fields (clear_fields judge None fields are) msg_type m read)
