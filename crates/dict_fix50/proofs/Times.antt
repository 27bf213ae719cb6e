-- A code that counts where it is listed.
use Rattle.std.specs.Prelude.{◌≡◌, ℕ, Bool, true, false, List, [], ◌∷◌, refl, Ok}
use Rattle.std.specs.Prelude.{Option, Some, None, ◌==◌}
use Rattle.std.specs.List.{list_any}
use Rattle.field_groups.specs.Field.{Field}
use Rattle.message_tables.specs.Tables.{Verdict, Spells, Outside, Wrong, ◌>>=◌, text_of}
use Rattle.message_tables.specs.Tables.{value_at}
use Rattle.value_kinds.specs.ValueKind.{Code, OneByte, listed_word, spelling}
use Rattle.row_values.specs.Kinds.{Value, Byte, counted, judge}
use Rattle.row_values.specs.Kinds.{verdict_of, said}

no_count : (v : Verdict) → text_of (counted false v) ≡ None
no_count (Spells text) = refl
no_count Outside = refl
no_count (Wrong reason) = refl

-- a byte that counts where it is listed is a listed code
pub byte_said : (fields : List Field) (tag : ℕ) (listed : List ℕ)
    → said fields tag (Value (Code listed)) ≡ said fields tag (Byte listed)
unfolding judge spelling
byte_said fields tag listed = here (value_at tag fields)
  where
    by_list : (good : Bool) (byte : ℕ) → text_of (verdict_of (Ok (listed_word good (byte ∷ []))))
        ≡ text_of (counted good (Spells (byte ∷ [])))
    by_list true byte = refl
    by_list false byte = refl

    here : (o : Option (List ℕ)) → (o >>= (λ v. text_of (judge fields (Value (Code listed)) v)))
        ≡ (o >>= (λ v. text_of (judge fields (Byte listed) v)))
    here None = refl
    here (Some []) = refl
    here (Some (b ∷ [])) = by_list (list_any (λ code. code == b) listed) b
    here (Some (b ∷ c ∷ bs)) = rw (no_count (verdict_of (spelling OneByte (b ∷ c ∷ bs)))) refl
