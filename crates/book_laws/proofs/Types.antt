-- The type of a message that a side is given is that of its table.
use Rattle.std.proofs.Common.{◌≡◌, ℕ, Bool, true, false, List, [], ◌∷◌, codes, Some, None, Ok, refl}
use Rattle.std.proofs.Common.{sym, ap, ◌∙◌, if◌then◌else◌}
use Rattle.std.specs.Str.{bytes_eq}
use Rattle.std.proofs.lemmas.Slice.Eq.{bytes_eq-Decides}
use Rattle.field_groups.specs.Field.{Field}
use Rattle.message_tables.specs.Tables.{Message, Table}
use Rattle.order_meaning.specs.declared.Side.{Side}
use Rattle.order_meaning.specs.declared.Side.TheVariants.{Client, Venue}
use Rattle.first_faults.specs.Faults.{message_by}
use Rattle.row_values.specs.Kinds.{Kind}
use Rattle.rows_fix50.specs.Header.{completed_by, table as table50}
use Rattle.dict_fix42.specs.Message.{message42 as request42}
use Rattle.dict_fix50.specs.Message.{message50 as request50}
use Rattle.dict_fix50.specs.Requests as rows50
use Rattle.reports_fix42.specs.Message.{message42 as report42}
use Rattle.reports_fix50.specs.Message.{message50 as report50}
use Rattle.message_answers.proofs.ReadShapes.{Report50, finished_ok, of_client, of_request}
use Rattle.message_answers.proofs.ReadShapes.{of_venue, read_by, type_by}
use Rattle.book_laws.specs.Heard.{is_among, message_to, request_types}

module _ (msg_type : List ℕ) (fields : List Field) (m : Message) where
  by_table : (t : Table Kind) → completed_by (message_by (Some t) fields None) ≡ Ok m
      → bytes_eq msg_type (t.letter ∷ []) ≡ true → msg_type ≡ m.letter ∷ []
  by_table t is test =
      let p = finished_ok Report50 (message_by (Some t) fields None) m is in
      (bytes_eq-Decides msg_type (t.letter ∷ [])).0 test
      ∙ ap (λ (x : Message). x.letter ∷ []) (sym (read_by t fields None p.0 p.1).is)
      ∙ ap (λ (x : Message). x.letter ∷ []) (sym p.2)

  of_request50 : request50 msg_type fields None ≡ Ok m → msg_type ≡ m.letter ∷ []
  unfolding request50
  of_request50 is = by (bytes_eq msg_type (codes "D")) (bytes_eq msg_type (codes "F"))
      (bytes_eq msg_type (codes "G")) (bytes_eq msg_type (codes "H")) refl refl refl refl is
    where
      by : (d f g h : Bool) → bytes_eq msg_type (codes "D") ≡ d → bytes_eq msg_type (codes "F") ≡ f
          → bytes_eq msg_type (codes "G") ≡ g → bytes_eq msg_type (codes "H") ≡ h
          → completed_by (message_by (if d then Some (table50 68 rows50.new_order) else
          (if f then Some (table50 70 rows50.cancel_request) else
          (if g then Some (table50 71 rows50.replace_request) else
          (if h then Some (table50 72 rows50.status_request) else None)))) fields None) ≡ Ok m
          → msg_type ≡ m.letter ∷ []
      by true f g h a b c e is = by_table (table50 68 rows50.new_order) is a
      by false true g h a b c e is = by_table (table50 70 rows50.cancel_request) is b
      by false false true h a b c e is = by_table (table50 71 rows50.replace_request) is c
      by false false false true a b c e is = by_table (table50 72 rows50.status_request) is e
      by false false false false a b c e is = absurd (cc is)

  -- THE TYPE of what a side is given
  pub given_type : (side : Side) → message_to side msg_type fields ≡ Ok m → msg_type ≡ m.letter ∷ []
  given_type Client = by (is_among request_types msg_type)
    where
      by : (b : Bool) → (if b then request42 msg_type fields None
          else report42 msg_type fields None) ≡ Ok m → msg_type ≡ m.letter ∷ []
      by true = type_by (of_request msg_type) fields None m
      by false = type_by (of_client msg_type) fields None m
  given_type Venue = by (is_among request_types msg_type)
    where
      by : (b : Bool) → (if b then request50 msg_type fields None
          else report50 msg_type fields None) ≡ Ok m → msg_type ≡ m.letter ∷ []
      by true = of_request50
      by false = type_by (of_venue msg_type) fields None m
