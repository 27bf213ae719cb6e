-- Own: when the venue is tried again; docs/DECISIONS.md, "The edge".
use Rattle.std.specs.Prelude.{ℕ, zero, suc, ◌+◌, ◌-◌, ◌*◌, ◌^◌, max, min}
use Rattle.edge_logic.specs.declared.back_off.LinkEnd.{LinkEnd}
use Rattle.edge_logic.specs.declared.back_off.LinkEnd.TheVariants.{InOrder, Active, Refused}
use Rattle.edge_logic.specs.declared.back_off.LinkEnd.TheVariants.{Unheard}

-- the pause before a try, in milliseconds, by how many failed in a row before it: none at first,
-- then 1 s, 2 s, 4 s and so on, up to 30 s
abbrev pub pause_after : ℕ → ℕ
pause_after zero = 0
pause_after (suc failed) = min (1000 * 2 ^ failed) 30_000

-- how many tries count as failed behind a connection that ended so, where so many did before it
abbrev pub failed_behind : LinkEnd → ℕ → ℕ
failed_behind InOrder failed = 0
failed_behind Active failed = 0
failed_behind Refused failed = 6
failed_behind Unheard failed = min (failed + 1) 6

-- the pause behind it: 1 s behind an orderly Logout, else by how many count as failed
abbrev pub pause_behind : LinkEnd → ℕ → ℕ
pause_behind InOrder failed = 1_000
pause_behind Active failed = 0
pause_behind Refused failed = 30_000
pause_behind Unheard failed = pause_after (min (failed + 1) 6)

-- a moment so much later, up to the last value of 64 bits
abbrev pub later : ℕ → ℕ → ℕ
later moment pause = min (moment + pause) (2 ^ 64 - 1)

-- no try before this moment, nor before that pause has passed
abbrev pub not_before : ℕ → ℕ → ℕ → ℕ
not_before next moment pause = max next (later moment pause)

-- how many tries failed in a row, up to 6, and the moment before which no try begins
pub record Tries : Type 0 where
  pub failed : ℕ
  pub next : ℕ
