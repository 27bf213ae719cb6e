-- Eight bytes that are compared as one number.
use Rattle.std.proofs.Common.{◌≡◌, ℕ, zero, suc, ◌≤◌, true, List, [], ◌∷◌, length}
use Rattle.std.proofs.Common.{take, drop, refl, sym, ap, ◌∙◌, arith, length-take}
use Rattle.std.specs.Prelude.{◌==◌}
use Rattle.std.specs.Int.{w64, to_le_bytes}
use Rattle.std.specs.Str.{bytes_eq}
use Rattle.frame_grammar.specs.Scan.{IsWord}
use Rattle.std.proofs.lemmas.Bool.Decides.{nat_tests}
use Rattle.std.proofs.lemmas.Nat.{le_bytes_8}

eight : (bytes : List ℕ) → 8 ≤ length bytes → length (take 8 bytes) ≡ 8
eight bytes within = omega (arith, length-take 8 bytes, within)

back : (bytes : List ℕ) (word : ℕ) → IsWord bytes word → to_le_bytes w64 word ≡ take 8 bytes
back bytes word is = le_bytes_8 (take 8 bytes) word (eight bytes is.within) is.small is.value

same_word : (text bytes : List ℕ) (want word : ℕ) → IsWord text want → IsWord bytes word
    → want ≡ word → take 8 text ≡ take 8 bytes
same_word text bytes want word wants is same =
    sym (back text want wants) ∙ ap (to_le_bytes w64) same ∙ back bytes word is

-- where the first bytes are the same, those behind them tell
behind : (k : ℕ) (text bytes : List ℕ) → k ≤ length text → take k text ≡ take k bytes
    → bytes_eq text (take (length text) bytes)
    ≡ bytes_eq (drop k text) (take (length (drop k text)) (drop k bytes))
behind zero text bytes within same = refl
behind (suc k) [] bytes within same = absurd (omega (arith, within))
behind (suc k) (t ∷ text) [] within same = absurd (cc same)
behind (suc k) (t ∷ text) (b ∷ bytes) within same =
    let head : t ≡ b = cc same in
    let tail : take k text ≡ take k bytes = cc same in
    let is : (t == b) ≡ true = grind (arith, nat_tests) in
    rw is (behind k text bytes (omega (arith, within)) tail)

pub same_behind : (text bytes : List ℕ) (want word : ℕ) → IsWord text want → IsWord bytes word
    → want ≡ word → bytes_eq text (take (length text) bytes)
    ≡ bytes_eq (drop 8 text) (take (length (drop 8 text)) (drop 8 bytes))
same_behind text bytes want word wants is same =
    behind 8 text bytes wants.within (same_word text bytes want word wants is same)
