-- What is found of the Logon's field, in whatever parts the bytes come.
use Rattle.std.proofs.Common.{◌≡◌, ◌⊎◌, ◌↔◌, ℕ, zero, suc, ◌≤◌, List, [], ◌∷◌, ◌++◌, take}
use Rattle.std.proofs.Common.{Bool, true, false, cond, eqb, refl, sym, ap, inl, inr, ◌∙◌}
use Rattle.std.proofs.Common.{append_assoc, append-nil, arith}
use Rattle.std.specs.Prelude.{fold}
use Rattle.std.proofs.lemmas.Bool.{eqb-true}
use Rattle.std.proofs.lemmas.List.Sums.{fold-append}
use Rattle.std.proofs.lemmas.List.Folds.{fold_stays}
use Rattle.edge_logic.specs.LogonMark.{logon_field, StandsIn, found_next, found_in}

bool_cases : (b : Bool) → (b ≡ true) ⊎ (b ≡ false)
bool_cases true = inl refl
bool_cases false = inr refl

pub found_behind : (found : ℕ) (before bytes : List ℕ) → found ≡ found_in before
    → fold found_next found bytes ≡ found_in (before ++ bytes)
found_behind found before bytes e =
    ap (λ n. fold found_next n bytes) e ∙ sym (fold-append found_next 0 before bytes)

picked : (here first : Bool) (n : ℕ) → n ≤ 6 → cond here n (cond first 1 0) ≤ 6
picked true first n small = small
picked false true n small = omega arith
picked false false n small = omega arith

next_small : (found byte : ℕ) → found ≤ 6 → found_next found byte ≤ 6
next_small zero byte small = picked _ _ 1 (omega arith)
next_small (suc zero) byte small = picked _ _ 2 (omega arith)
next_small (suc (suc zero)) byte small = picked _ _ 3 (omega arith)
next_small (suc (suc (suc zero))) byte small = picked _ _ 4 (omega arith)
next_small (suc (suc (suc (suc zero)))) byte small = picked _ _ 5 (omega arith)
next_small (suc (suc (suc (suc (suc zero))))) byte small = picked _ _ 6 (omega arith)
next_small (suc (suc (suc (suc (suc (suc zero)))))) byte small = omega arith
next_small (suc (suc (suc (suc (suc (suc (suc n))))))) byte small = absurd (omega (arith, small))

all_small : (found : ℕ) (bytes : List ℕ) → found ≤ 6 → fold found_next found bytes ≤ 6
all_small found [] small = small
all_small found (byte ∷ bytes) small =
    all_small (found_next found byte) bytes (next_small found byte small)

-- wherever the search stands, the field brings it to its end
from_any : (found : ℕ) → found ≤ 6 → fold found_next found logon_field ≡ 6
from_any zero small = refl
from_any (suc zero) small = refl
from_any (suc (suc zero)) small = refl
from_any (suc (suc (suc zero))) small = refl
from_any (suc (suc (suc (suc zero)))) small = refl
from_any (suc (suc (suc (suc (suc zero))))) small = refl
from_any (suc (suc (suc (suc (suc (suc zero)))))) small = refl
from_any (suc (suc (suc (suc (suc (suc (suc n))))))) small = absurd (omega (arith, small))

stays : (bytes : List ℕ) → fold found_next 6 bytes ≡ 6
stays bytes = fold_stays found_next 6 (λ byte. refl) bytes

complete : (before behind : List ℕ) → found_in (before ++ logon_field ++ behind) ≡ 6
complete before behind =
    let here = fold-append found_next 0 before logon_field
    ∙ from_any (found_in before) (all_small 0 before (omega arith)) in
    fold-append found_next 0 (before ++ logon_field) behind
    ∙ ap (λ n. fold found_next n behind) here ∙ stays behind

-- what the bytes end with, one byte later, is a part of the field again
ends : (front : List ℕ) (wanted byte n : ℕ) → front ++ wanted ∷ [] ≡ take n logon_field
    → (rest : List ℕ) × (front ++ byte ∷ []
    ≡ rest ++ take (cond (eqb byte wanted) n (cond (eqb byte 1) 1 0)) logon_field)
ends front wanted byte n part = elim (bool_cases (eqb byte wanted)) [
  | inl here ↦ rw here ([], ap (λ b. front ++ b ∷ []) (eqb-true byte wanted here) ∙ part)
  | inr away ↦ elim (bool_cases (eqb byte 1)) [
    | inl first ↦ rw (away, first) (front, ap (λ b. front ++ b ∷ []) (eqb-true byte 1 first))
    | inr none ↦ rw (away, none) (front ++ byte ∷ [], sym (append-nil (front ++ byte ∷ [])))
  ]
]

step : (front : List ℕ) (wanted byte n : ℕ) (bytes : List ℕ)
    → front ++ wanted ∷ [] ≡ take n logon_field
    → StandsIn logon_field
    (take (cond (eqb byte wanted) n (cond (eqb byte 1) 1 0)) logon_field ++ bytes)
    → StandsIn logon_field (front ++ byte ∷ bytes)
step front wanted byte n bytes part stands =
    let more = ends front wanted byte n part in (
      more.0 ++ stands.0,
      stands.1,
      sym (append_assoc front (byte ∷ []) bytes) ∙ ap (λ l. l ++ bytes) more.1
          ∙ append_assoc more.0 _ bytes ∙ ap (λ l. more.0 ++ l) stands.2
          ∙ sym (append_assoc more.0 (stands.0 ++ logon_field) stands.1)
          ∙ ap (λ l. l ++ stands.1) (sym (append_assoc more.0 stands.0 logon_field)),
    )

sound : (bytes : List ℕ) (found : ℕ) → found ≤ 6 → fold found_next found bytes ≡ 6
    → StandsIn logon_field (take found logon_field ++ bytes)
sound [] found small whole = ([], [], ap (λ n. take n logon_field ++ []) whole)
sound (byte ∷ bytes) zero small whole =
    step [] 1 byte 1 bytes refl
    (sound bytes (found_next 0 byte) (next_small 0 byte small) whole)
sound (byte ∷ bytes) (suc zero) small whole =
    step (take 1 logon_field) 51 byte 2 bytes refl
    (sound bytes (found_next 1 byte) (next_small 1 byte small) whole)
sound (byte ∷ bytes) (suc (suc zero)) small whole =
    step (take 2 logon_field) 53 byte 3 bytes refl
    (sound bytes (found_next 2 byte) (next_small 2 byte small) whole)
sound (byte ∷ bytes) (suc (suc (suc zero))) small whole =
    step (take 3 logon_field) 61 byte 4 bytes refl
    (sound bytes (found_next 3 byte) (next_small 3 byte small) whole)
sound (byte ∷ bytes) (suc (suc (suc (suc zero)))) small whole =
    step (take 4 logon_field) 65 byte 5 bytes refl
    (sound bytes (found_next 4 byte) (next_small 4 byte small) whole)
sound (byte ∷ bytes) (suc (suc (suc (suc (suc zero))))) small whole =
    step (take 5 logon_field) 1 byte 6 bytes refl
    (sound bytes (found_next 5 byte) (next_small 5 byte small) whole)
sound (byte ∷ bytes) (suc (suc (suc (suc (suc (suc zero)))))) small whole =
    ([], byte ∷ bytes, refl)
sound (byte ∷ bytes) (suc (suc (suc (suc (suc (suc (suc n))))))) small whole =
    absurd (omega (arith, small))

pub found_whole : (all : List ℕ) (found : ℕ) → found ≡ found_in all
    → (eqb found 6 ≡ true) ↔ StandsIn logon_field all
found_whole all found e = (
  λ whole. sound all 0 (omega arith) (sym e ∙ eqb-true found 6 whole),
  λ stands. ap (λ n. eqb n 6) (e ∙ ap found_in stands.2 ∙ complete stands.0 stands.1),
)
