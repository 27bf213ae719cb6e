-- Inside: the sums that a buffer keeps; no clause of run rests on it.
use Rattle.std.specs.Prelude.{◌≡◌, ℕ, ◌*◌, ◌%◌, ◌≤◌, List, length, take, sum, slice_index}
use Rattle.frame_grammar.specs.declared.buffer.TheConstants.{BLOCK}

-- the k-th is the sum of the first k blocks of bytes, modulo 256, as far as they go
abbrev pub AreSums : List ℕ → List ℕ → Type 0
AreSums bytes sums = (k : ℕ) → BLOCK * k ≤ length bytes
    → slice_index sums k ≡ sum (take (BLOCK * k) bytes) % 256
