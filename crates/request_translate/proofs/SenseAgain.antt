-- What is written of a request is read again as that request, behind its header.
use Rattle.std.proofs.Common.{◌≡◌, ℕ, List, ◌∷◌, ◌++◌, Option, Some, None, true, false, Ok, Result}
use Rattle.std.proofs.Common.{refl, sym, ap, subst, ◌∙◌}
use Rattle.std.specs.Prelude.{unwrap_or}
use Rattle.std.specs.Option.{option_map}
use Rattle.std.specs.Result.{result_ok}
use Rattle.std.specs.List.{AllByRecursion}
use Rattle.request_rules.proofs.ByType.{by_type}
use Rattle.field_groups.specs.Field.{Field}
use Rattle.message_tables.specs.Tables.{Item, Table, Message, Said, ◌>>=◌, flag_of, value_at}
use Rattle.message_tables.specs.FirstFault.{first_fault, message_in, message_of}
use Rattle.message_tables.specs.Content.{content}
use Rattle.order_meaning.specs.Request.{Request, RequestKind, New}
use Rattle.order_meaning.specs.declared.fault.Fault.{Fault}
use Rattle.rows_fix42.specs.Header as header42
use Rattle.dict_fix42.specs.Message as read42
use Rattle.dict_fix42.specs.Requests.{asked42, items42}
use Rattle.dict_fix42.specs.Sense.{sense42, request42}
use Rattle.row_values.specs.Asked.{letter_of}
use Rattle.row_values.specs.Kinds.{Kind, judge}
use Rattle.first_faults.specs.Faults as row_faults
use Rattle.dict_fix50.specs.Message as read50
use Rattle.dict_fix50.specs.Requests.{asked50, items50}
use Rattle.rows_fix50.specs.Header.{table, completed_by}
use Rattle.dict_fix50.specs.Sense.{sense50, request50}
use Rattle.sound_laws.proofs.Completed.{completed_again}
use Rattle.sound_laws.proofs.Lookups.{places_apart}
use Rattle.sound_laws.proofs.PlainRows.{of_message}
use Rattle.sound_laws.proofs.ReadSound.{IsClearField}
use Rattle.sound_laws.proofs.RowsSaid.{optional_said}
use Rattle.sound_laws.proofs.TableFits as fits
use Rattle.sound_laws.proofs.TableFits.{table_fits}
use Rattle.translation.specs.Header.{carried}
use Rattle.translation.proofs.BehindHeader.{IsHead, front, items_behind, read_behind, whole}
use Rattle.translation.proofs.CarriedHeader.{IsOwnHead, HasHeader, head_is_own, head_value}
use Rattle.translation.proofs.CarriedHeader.{own_said}
use Rattle.translation.specs.Going.{IsType}
use Rattle.request_rules.specs.Canonical.{IsCanonical}
use Rattle.request_translate.specs.Translation.{IsRequest}
use Rattle.request_translate.proofs.AgainFields.{asks}
use Rattle.request_translate.proofs.Sayable.{told50}

abbrev up_fields_of : List ℕ → List Field → List Field → List Field
up_fields_of msg_type fields written = ((35, msg_type) ∷ carried fields) ++ written

-- ---- a canonical request behind the header that is carried

module _ (msg_type : List ℕ) (fields : List Field) (r : Message) where
  abbrev values : ℕ → Said
  values = head_value msg_type fields

  -- the test of a table, and what it is read by
  abbrev IsBehind : ℕ → List (Item Kind) → Type 0
  IsBehind letter items = items_behind (table letter items) values r ≡ true

  abbrev Fits : ℕ → List (Item Kind) → Type 0
  Fits letter items =
      table_fits (table letter items) (front (table letter items) values r) ≡ true

  header_said : IsOwnHead msg_type fields → (letter : ℕ) (items : List (Item Kind))
      → IsHead (table letter items) values r
  header_said own letter items = search (own_said, optional_said) parts 20

  pub read_by : IsOwnHead msg_type fields → (letter : ℕ) (items : List (Item Kind))
      → IsBehind letter items → Fits letter items → IsCanonical letter items r
      → r.resend ≡ unwrap_or (option_map flag_of (value_at 97 fields)) false
      → told50 (message_of judge (table letter items)
      (up_fields_of msg_type fields (content (table letter items) r))) ≡ Ok r
  read_by own letter items behind fit c resend =
      let t = table letter items in
      let places =
      fits.places_are_apart t (whole t values r) (front t values r) fit in
      ap completed_by (read_behind t values r behind (header_said own letter items) fit c.sound
      refl (sym resend))
      ∙ ap (λ (x : Message). Ok x) (completed_again r c.month
      (ap places_apart c.sound.places ∙ places) r.resend)

-- ---- what the fields of FIX 4.2 say of the header

pub has_header : (letter : ℕ) (items : List (Item Kind)) → HasHeader (header42.table letter items)
has_header letter items = search

-- a message of FIX 4.2 that was read
record Read42 (table : Table Kind) (fields : List Field) (x : Message) : Type 0 where
  good : first_fault judge table fields ≡ None
  is : message_in judge table fields ≡ x

read_of : (table : Table Kind) (fields : List Field) (x : Message)
    → row_faults.told (message_of judge table fields) ≡ Ok x → Read42 table fields x
read_of table fields = of_message table fields (Read42 table fields)
    (λ none. record { good = none; is = refl })

-- ---- the sense

module _ (msg_type : List ℕ) (fields : List Field) (x r : Message) (is_type : IsType msg_type)
    (clear : AllByRecursion (IsClearField judge) fields) (means : request50 r ≡ request42 x)
    (resend : r.resend ≡ x.resend) where
  -- what was asked for is what is asked for
  one_kind : (kind : RequestKind)
      → IsBehind msg_type fields r (letter_of kind) (items50 kind)
      → Fits msg_type fields r (letter_of kind) (items50 kind)
      → ((y : Message) → y.letter ≡ letter_of kind
      → option_map (λ (q : Request). q.kind) (request42 y) ≡ Some kind)
      → row_faults.message_by (Some (asked42 kind)) fields None ≡ Ok x
      → (written : List Field) → IsRequest r written →
      result_ok (read50.message50_by (Some (asked50 kind))
      (up_fields_of msg_type fields written) None) >>= request50 ≡ request42 x
  one_kind kind behind fit asked e written request =
      let read = read_of (asked42 kind) fields x e in
      let theirs = asked x (ap (λ (y : Message). y.letter) (sym read.is)) in
      let kinds_are : Some request.kind ≡ Some kind =
      sym (asks r request.kind request.canonical.sound.letter)
      ∙ ap (option_map (λ (q : Request). q.kind)) means ∙ theirs in
      let same : request.kind ≡ kind = cc in
      let Q : RequestKind → Type 0 = λ k. IsCanonical (letter_of k) (items50 k) r in
      let canonical : IsCanonical (letter_of kind) (items50 kind) r =
      subst Q same request.canonical in
      let is = request.is ∙ ap (λ (k : RequestKind). content (asked50 k) r) same in
      let flag : x.resend ≡ unwrap_or (option_map flag_of (value_at 97 fields)) false =
      ap (λ (y : Message). y.resend) (sym read.is) in
      let head = head_is_own (asked42 kind) fields read.good clear msg_type is_type
      (has_header (letter_of kind) (items42 kind)) in
      let P : List Field → Type 0 = λ fs. result_ok (told50
      (message_of judge (asked50 kind) (up_fields_of msg_type fields fs)))
      >>= request50 ≡ request42 x in
      subst P (sym is) (ap (λ (y : Result Message Fault). result_ok y >>= request50)
      (read_by msg_type fields r head (letter_of kind) (items50 kind) behind fit canonical
      (resend ∙ flag)) ∙ means)

  -- A REQUEST IS READ AGAIN with the sense that it had.
  each : (written : List Field) → IsRequest r written → (kind : RequestKind)
      → row_faults.message_by (Some (asked42 kind)) fields None ≡ Ok x →
      result_ok (read50.message50_by (Some (asked50 kind))
      (up_fields_of msg_type fields written) None) >>= request50 ≡ request42 x
  each written request New e = one_kind New refl refl (λ y is. rw is refl) e written request
  each written request kind e = one_kind kind refl refl (λ y is. rw is refl) e written request

  -- WHAT IS WRITTEN HAS THE SENSE OF WHAT WAS READ.
  pub same_sense : (written : List Field)
      → IsRequest r written → read42.message42 msg_type fields None ≡ Ok x →
      sense50 msg_type ((35, msg_type) ∷ carried fields ++ written) ≡ sense42 msg_type fields
  unfolding sense50 sense42 read50.message50 read42.message42
  same_sense written request e =
      let P : List ℕ → Option (Table Kind) → Option (Table Kind) → Type 0 = λ t of42 of50.
      row_faults.message_by of42 fields None ≡ Ok x
      → result_ok (read50.message50_by of50 (up_fields_of msg_type fields written) None)
      >>= request50 ≡ request42 x in
      by_type P (λ t no. absurd cc) (each written request) msg_type e
      ∙ sym (ap (λ (y : Result Message Fault). result_ok y >>= request42) e)
