-- The mask of the places at which SOH stands among sixteen bytes.
use Rattle.std.proofs.Common.{◌≡◌, ℕ, ◌<◌, ◌%◌, ◌^◌, Bool, true, false, List, length, get_or, map}
use Rattle.std.proofs.Common.{cond, eqb, replicate, take, refl, sym, ap, ◌∙◌, ⊎_elim, w8, w64}
use Rattle.std.proofs.Common.{subst, arith}
use Rattle.std.specs.Prelude.{Some, None}
use Rattle.std.specs.Int.{bit_at, trailing_zeros}
use Rattle.std.specs.Simd.Lanes.{zip2, mask_l, top}
use Rattle.std.proofs.lemmas.Bool.{cases_lt}
use Rattle.std.proofs.Math.ListN.{get_or-map}
use Rattle.std.proofs.lemmas.List.{get_or_past, length-map, take_all}
use Rattle.std.proofs.lemmas.Nat.Bits.{bit_at-trailing_zeros}
use Rattle.std.proofs.lemmas.Simd.{bitmask_splat, bit_mask_l, length-chunk, mask_l-lt}
use Rattle.std.proofs.lemmas.Simd.{none_from_empty_mask}
use Rattle.memchr.specs.Find.{IsFirstByte}
use Rattle.field_groups.specs.Field.{is_soh}

abbrev pub marks : List ℕ → ℕ
marks bytes = mask_l (map is_soh bytes)

-- what comparing them answers
pub compared : (bytes : List ℕ) → length bytes ≡ 16
    → mask_l (map (top 7) (zip2 (λ a b. cond (eqb a b) 255 0) (take 16 bytes) (replicate 16 1)))
    % 2 ^ 64 ≡ marks (take 16 bytes)
compared bytes long =
    bitmask_splat w8 eqb (take 16 bytes) 16 1 (length-chunk 0 16 bytes (omega (arith, long)))
    (omega arith)

bit_is : (bytes : List ℕ) (k : ℕ) → bit_at (marks bytes) k ≡ cond (is_soh (get_or bytes k 0)) 1 0
bit_is bytes k =
    bit_mask_l (map is_soh bytes) k
    ∙ ap (λ (b : Bool). cond {A = ℕ} b 1 0) (get_or-map is_soh bytes k 0)

is_one : (b : Bool) → cond {A = ℕ} b 1 0 ≡ 1 → b ≡ true
is_one true e = refl
is_one false e = absurd (omega (arith, e))

is_zero : (b : Bool) → cond {A = ℕ} b 1 0 ≡ 0 → b ≡ false
is_zero true e = absurd (omega (arith, e))
is_zero false e = refl

-- no SOH stands where no bit is set
pub none_marked : (bytes : List ℕ) → length bytes ≡ 16 → marks (take 16 bytes) ≡ 0
    → IsFirstByte is_soh bytes None
none_marked bytes long none = λ k from to passes.
    let fails : is_soh (get_or bytes k 0) ≡ false =
    none_from_empty_mask is_soh bytes 0 16 0 (omega (arith, long)) none k (omega arith)
    (omega (arith, to, long)) in
    absurd (cc (fails, passes))

-- and the first stands at the lowest bit that is set
pub first_marked : (bytes : List ℕ) → length bytes ≡ 16 → (marks (take 16 bytes) ≡ 0 → ⊥)
    → IsFirstByte is_soh bytes (Some (trailing_zeros w64 (marks (take 16 bytes))))
first_marked bytes long some =
    let lanes = take 16 bytes in
    let m = marks lanes in
    let place = trailing_zeros w64 m in
    let all : lanes ≡ bytes = take_all 16 bytes (omega (arith, long)) in
    let few : length (map is_soh lanes) ≡ 16 =
    length-map lanes is_soh ∙ length-chunk 0 16 bytes (omega (arith, long)) in
    let small : m < 2 ^ 16 =
    subst (λ (n : ℕ). m < 2 ^ n) few (mask_l-lt (map is_soh lanes)) in
    let lowest = bit_at-trailing_zeros w64 m (omega (arith, some)) (omega (arith, small)) in
    let at : (k : ℕ) → bit_at m k ≡ cond (is_soh (get_or bytes k 0)) 1 0 =
    λ k. bit_is lanes k
    ∙ ap (λ (l : List ℕ). cond {A = ℕ} (is_soh (get_or l k 0)) 1 0) all in
    let stands : is_soh (get_or bytes place 0) ≡ true = is_one _ (sym (at place) ∙ lowest.1) in
    let within : place < length bytes =
    ⊎_elim (λ early. early)
    (λ past. let none : is_soh (get_or bytes place 0) ≡ false =
    ap is_soh (get_or_past bytes place 0 past) in absurd (cc (none, stands)))
    (cases_lt place (length bytes)) in (
      record {
        low = omega arith;
        high = within;
        before = λ k from to passes.
            let fails : is_soh (get_or bytes k 0) ≡ false =
            is_zero _ (sym (at k) ∙ lowest.2 k to) in
            absurd (cc (fails, passes));
      },
      stands,
    )
