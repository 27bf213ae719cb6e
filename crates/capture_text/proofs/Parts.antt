-- How a text is cut.
use Rattle.std.proofs.Common.{◌≡◌, ℕ, ◌+◌, ◌-◌, not, ◌≤◌, Bool, true, false, List, []}
use Rattle.std.proofs.Common.{◌∷◌, length, take, drop, refl, ap, subst, Some, None}
use Rattle.std.proofs.Common.{cond, ◌==◌, All, nat_lt, arith}
use Rattle.std.specs.List.{position, position_or_len, count_by}
use Rattle.std.proofs.lemmas.Bool.{ltb-true, ltb-false}
use Rattle.std.proofs.lemmas.List.{take_rest}
use Rattle.std.proofs.lemmas.List.Elements.{All-cons, All-nil}
use Rattle.std.proofs.lemmas.List.Splits.{slice_split_first, length-slice_split}
use Rattle.std.proofs.lemmas.List.Splits.{slice_split_none}
use Rattle.capture_text.specs.Reading.{parts}
use Rattle.capture_text.specs.Header.{cuts}

abbrev other : ℕ → ℕ → Type 0
other byte b = (b == byte) ≡ false

-- what stands behind a place, as the code has it
abbrev pub behind_of : ℕ → List ℕ → List ℕ
behind_of i text = take (length text - (i + 1)) (drop (i + 1) text)

-- the first part ends at the first such byte
pub cut_at : (byte i : ℕ) (text : List ℕ) → position (λ b. b == byte) text ≡ Some i
    → cuts byte text ≡ take i text ∷ cuts byte (behind_of i text)
cut_at byte i text is = rw (take_rest text (i + 1))
    (by_test (nat_lt (position_or_len (λ b. b == byte) text) (length text)) refl is)
  where
    same : (x y : ℕ) → Some x ≡ Some y → x ≡ y
    same x y is = cc is

    by_test : (less : Bool)
        → nat_lt (position_or_len (λ b. b == byte) text) (length text) ≡ less
        → cond less (Some (position_or_len (λ b. b == byte) text)) None ≡ Some i
        → cuts byte text ≡ take i text ∷ cuts byte (drop (i + 1) text)
    by_test true less is =
        subst (λ (k : ℕ). cuts byte text ≡ take k text ∷ cuts byte (drop (k + 1) text))
        (same (position_or_len (λ b. b == byte) text) i is)
        (slice_split_first (λ b. b == byte) text 0 (ltb-true _ _ less))
    by_test false less is = absurd (cc is)

-- a text has a part
pub some_part : (text : List ℕ)
    → (part : List ℕ) × (after : List (List ℕ)) × (parts text ≡ part ∷ after)
some_part text = by_parts (parts text) (length-slice_split (λ b. b == 10) text) refl
  where
    by_parts : (these : List (List ℕ)) → length (parts text) ≡ count_by (λ b. b == 10) text + 1
        → parts text ≡ these
        → (part : List ℕ) × (after : List (List ℕ)) × (parts text ≡ part ∷ after)
    by_parts [] counted is =
        absurd (omega (arith, counted, ap (λ (l : List (List ℕ)). length l) is))
    by_parts (part ∷ after) counted is = (part, after, is)

all_others : (byte : ℕ) (text : List ℕ) → length text ≤ position_or_len (λ b. b == byte) text
    → All (other byte) text
all_others byte [] none = All-nil (other byte)
all_others byte (b ∷ text) none = by_test (b == byte) refl none (all_others byte text)
  where
    by_test : (test : Bool) → (b == byte) ≡ test
        → length (b ∷ text) ≤ cond (not test) (1 + position_or_len (λ x. x == byte) text) 0
        → (length text ≤ position_or_len (λ x. x == byte) text → All (other byte) text)
        → All (other byte) (b ∷ text)
    by_test true is none rest = absurd (omega (arith, none))
    by_test false is none rest = All-cons (other byte) b text is (rest (omega (arith, none)))

-- without such a byte there is one part
pub no_cut : (byte : ℕ) (text : List ℕ) → position (λ b. b == byte) text ≡ None
    → cuts byte text ≡ text ∷ []
no_cut byte text is =
    by_test (nat_lt (position_or_len (λ b. b == byte) text) (length text)) refl is
  where
    by_test : (less : Bool)
        → nat_lt (position_or_len (λ b. b == byte) text) (length text) ≡ less
        → cond less (Some (position_or_len (λ b. b == byte) text)) None ≡ None
        → cuts byte text ≡ text ∷ []
    by_test true less is = absurd (cc is)
    by_test false less is = slice_split_none (λ b. b == byte) text
        (all_others byte text
        (ltb-false (position_or_len (λ b. b == byte) text) (length text) less))
