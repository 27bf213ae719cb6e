-- The body of a translation can be written as a frame.
use Rattle.std.proofs.Common.{◌≡◌, get_or, suc, ◌-◌, append-nil, ℕ, ◌≤◌, List, [], ◌∷◌, ◌++◌}
use Rattle.std.proofs.Common.{length, true, refl, ap, ◌∙◌, arith}
use Rattle.std.specs.Fmt.{digits, decimal}
use Rattle.std.specs.Str.{bytes_eq}
use Rattle.std.proofs.lemmas.List.{length-append}
use Rattle.std.proofs.lemmas.Slice.Eq.{bytes_eq-Decides}
use Rattle.frame_grammar.specs.Frame.{IsWritable}
use Rattle.field_groups.specs.Field.{Field, body_of, field_bytes}
use Rattle.translation.specs.Going.{IsType, One}

last_append : (xs ys : List ℕ)
    → 1 ≤ length ys → get_or (xs ++ ys) (length (xs ++ ys) - 1) 0 ≡ get_or ys (length ys - 1) 0
last_append [] ys some = refl
last_append (x ∷ xs) ys some =
    let e : length (x ∷ (xs ++ ys)) - 1 ≡ suc (length (xs ++ ys) - 1) =
    omega (arith, length-append xs ys) in
    rw e (last_append xs ys some)

-- each list of fields ends with SOH
last_byte : (field : Field) (fields : List Field)
    → get_or (body_of (field ∷ fields)) (length (body_of (field ∷ fields)) - 1) 0 ≡ 1
unfolding field_bytes
last_byte field [] =
    ap (λ (bytes : List ℕ). get_or bytes (length bytes - 1) 0) (append-nil (field_bytes field))
    ∙ last_append (decimal field.0 ++ 61 ∷ field.1) (1 ∷ []) (omega arith)
last_byte field (next ∷ fields) =
    let some : 1 ≤ length (body_of (next ∷ fields)) =
    omega (
      arith,
      length-append (field_bytes next) (body_of fields),
      length-append (decimal next.0 ++ 61 ∷ next.1) (1 ∷ []),
    ) in
    last_append (field_bytes field) (body_of (next ∷ fields)) some ∙ last_byte next fields

-- a type of one byte
one_byte : (byte : ℕ) (fields : List Field)
    → (byte ≡ 1 → ⊥) → IsWritable (body_of ((35, byte ∷ []) ∷ fields))
unfolding field_bytes digits
one_byte byte fields other = record {
  begins = refl;
  has_type = other;
  ends = last_byte (35, byte ∷ []) fields;
  least = omega arith;
}

pub is_byte : (msg_type : List ℕ) (byte : ℕ)
    → (byte ≡ 1 → ⊥) → bytes_eq msg_type (byte ∷ []) ≡ true → IsType msg_type
is_byte msg_type byte other e = One byte other ((bytes_eq-Decides msg_type (byte ∷ [])).0 e)

pub writable : (msg_type : List ℕ) (fields : List Field)
    → IsType msg_type → IsWritable (body_of ((35, msg_type) ∷ fields))
writable msg_type fields (One byte other is) = rw is (one_byte byte fields other)
