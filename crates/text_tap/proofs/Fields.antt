-- The fields of bytes, one after another.
use Rattle.std.proofs.Common.{◌≡◌, ◌<◌, ◌+◌, ◌-◌, ◌∷◌, [], ℕ, Bool, true, false, List, length}
use Rattle.std.proofs.Common.{refl, ap, sym, ◌∙◌, cond, not, ◌==◌, arith, take, drop, length-drop}
use Rattle.std.specs.List.{slice_split, onto_first, position_or_len}
use Rattle.std.proofs.lemmas.List.{take_all}
use Rattle.std.proofs.lemmas.List.Splits.{slice_split_first}
use Rattle.text_tap.specs.OrderLines.{fields_of}

abbrev pub is_soh : ℕ → Bool
is_soh byte = byte == 1

-- what `&xs[k..]` is
rest_of : (xs : List ℕ) (k : ℕ) → take (length xs - k) (drop k xs) ≡ drop k xs
rest_of xs k = take_all _ _ (omega (arith, length-drop k xs))

-- the first field, where an SOH ends it
pub parts_are : (bytes : List ℕ) (end : ℕ) → end ≡ position_or_len is_soh bytes
    → end < length bytes → fields_of bytes
    ≡ take end bytes ∷ fields_of (take (length bytes - (end + 1)) (drop (end + 1) bytes))
parts_are bytes end is before =
    slice_split_first is_soh bytes 0 (omega (arith, is, before))
    ∙ ap (λ (n : ℕ). take n bytes ∷ slice_split is_soh (drop (n + 1) bytes)) (sym is)
    ∙ ap (λ (l : List ℕ). take end bytes ∷ slice_split is_soh l) (sym (rest_of bytes (end + 1)))

-- bytes without an SOH are one field
pub one : (bytes : List ℕ) → position_or_len is_soh bytes ≡ length bytes
    → fields_of bytes ≡ bytes ∷ []
one [] all = refl
one (byte ∷ bytes) all =
    by (is_soh byte) (one bytes) all
  where
    by : (test : Bool)
        → (position_or_len is_soh bytes ≡ length bytes → slice_split is_soh bytes ≡ bytes ∷ [])
        → cond (not test) (1 + position_or_len is_soh bytes) 0 ≡ length (byte ∷ bytes)
        → cond test ([] ∷ slice_split is_soh bytes) (onto_first byte (slice_split is_soh bytes))
        ≡ (byte ∷ bytes) ∷ []
    by true rest all = absurd (omega (arith, all))
    by false rest all = ap (onto_first byte) (rest (omega (arith, all)))
