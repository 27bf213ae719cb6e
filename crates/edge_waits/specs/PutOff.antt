-- Own: how long a side with numbers of another day is put off; docs/DECISIONS.md, "The edge".
use Rattle.std.specs.Prelude.{ℕ, zero, suc, ◌*◌, ◌^◌, min}

-- the pause by how often in a row a number was too low, in milliseconds: 30 s, 60 s and so on, up
-- to 10 minutes
abbrev pub pause_of : ℕ → ℕ
pause_of zero = 0
pause_of (suc times) = min (30_000 * 2 ^ times) 600_000

-- how often in a row it was, up to 6, and until when the side is put off
pub record Delay : Type 0 where
  pub times : ℕ
  pub until : ℕ
