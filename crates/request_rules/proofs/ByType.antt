-- What holds of the tables of each of the four types of requests, and of no table, holds of those
-- of any type.
use Rattle.std.proofs.Common.{◌≡◌, ℕ, List, [], ◌∷◌, codes, Option, Some, None, Bool, true, false}
use Rattle.std.proofs.Common.{refl, sym, subst}
use Rattle.std.specs.Str.{bytes_eq}
use Rattle.std.proofs.lemmas.Slice.Eq.{bytes_eq-Decides}
use Rattle.message_tables.specs.Tables.{Table}
use Rattle.order_meaning.specs.Request.{RequestKind, New, Cancel, Replace, Status}
use Rattle.row_values.specs.Asked.{letter_of, of_first, of_type}
use Rattle.row_values.specs.Kinds.{Kind}
use Rattle.dict_fix42.specs.Message as message42
use Rattle.dict_fix42.specs.Requests.{asked42}
use Rattle.dict_fix50.specs.Message as message50
use Rattle.dict_fix50.specs.Requests.{asked50}

module _ (one other : RequestKind → Table Kind)
    (P : List ℕ → Option (Table Kind) → Option (Table Kind) → Type 0)
    (none : (msg_type : List ℕ) → P msg_type None None)
    (each : (kind : RequestKind) → P (letter_of kind ∷ []) (Some (one kind)) (Some (other kind)))
    (msg_type : List ℕ) where
  of_kind : (kind : RequestKind) → bytes_eq msg_type (letter_of kind ∷ []) ≡ true
      → P msg_type (Some (one kind)) (Some (other kind))
  of_kind kind e =
      let Q : List ℕ → Type 0 = λ t. P t (Some (one kind)) (Some (other kind)) in
      subst Q (sym ((bytes_eq-Decides msg_type (letter_of kind ∷ [])).0 e)) (each kind)

  pub by_tables : P msg_type (of_type msg_type one) (of_type msg_type other)
  by_tables = by (bytes_eq msg_type (codes "D")) (bytes_eq msg_type (codes "F"))
      (bytes_eq msg_type (codes "G")) (bytes_eq msg_type (codes "H")) refl refl refl refl
    where
      by : (d f g h : Bool) → bytes_eq msg_type (codes "D") ≡ d → bytes_eq msg_type (codes "F") ≡ f
          → bytes_eq msg_type (codes "G") ≡ g → bytes_eq msg_type (codes "H") ≡ h
          → P msg_type (of_first d f g h one) (of_first d f g h other)
      by true f g h d' f' g' h' = of_kind New d'
      by false true g h d' f' g' h' = of_kind Cancel f'
      by false false true h d' f' g' h' = of_kind Replace g'
      by false false false true d' f' g' h' = of_kind Status h'
      by false false false false d' f' g' h' = none msg_type

-- of the tables of FIX 4.2 and FIX 5.0 SP2
pub by_type : (P : List ℕ → Option (Table Kind) → Option (Table Kind) → Type 0)
    → ((msg_type : List ℕ) → P msg_type None None)
    → ((kind : RequestKind)
    → P (letter_of kind ∷ []) (Some (asked42 kind)) (Some (asked50 kind)))
    → (msg_type : List ℕ) → P msg_type (message42.table_of msg_type) (message50.table_of msg_type)
by_type = by_tables asked42 asked50
